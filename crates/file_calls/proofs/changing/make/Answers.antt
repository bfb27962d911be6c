use Rattle.std.proofs.Common.{◌≡◌, ℕ, List, Some, sym, ◌∙◌, ap}
use Rattle.std.specs.Prelude.{slice_set}
use Rattle.std.specs.FinMap as map
use Rattle.plain_files.specs.OpenFiles.{OpenFiles, free_jfn, open_at, taken_file}
use Rattle.plain_files.specs.NamedFiles.{name_of}
use Rattle.file_tables.specs.Tables.{jfns_at}
use Rattle.file_tables.specs.Keys.{key_of}
use Rattle.file_calls.proofs.Changed.{made_name, made_there, makes}
use Rattle.file_calls.proofs.changing.make.Goals as goal

pub take-requires-clause-there : goal.take-requires-clause-there
take-requires-clause-there c = made_there c.args.tables.now.dir c.create-file.new.self.dir c.create-file.result.0 c.args.name.now c.create-file.ensures.number

pub returns-clause-told : goal.returns-clause-told
returns-clause-told c n free jobs p held =
    let old = c.args.tables.now in
    let mid = c.create-file.new.self in
    let t = c.args.t in
    let f = c.create-file.result.0 in
    let r = c.take.result in
    let same = c.create-file.ensures.jfns.named in
    let first : free_jfn (jfns_at old t.0) ≡ Some r = sym (ap (λ (o : List OpenFiles). free_jfn (open_at o t.0)) same) ∙ c.take.ensures.least in
    let least : r ≡ n = (let both : Some r ≡ Some n = sym first ∙ free in cc both) in
    let jfns = map.insert (jfns_at mid t.0) r (taken_file (name_of mid.dir f)) in
    makes old c.take.new.self t c.requires.terminal jfns (c.take.ensures.taken ∙ ap (λ (o : List OpenFiles). slice_set o t.0 jfns) same) jobs (key_of old) p n c.args.name.now
    (c.take.ensures.files.files ∙ c.create-file.ensures.files)
    (ap (λ (o : List OpenFiles). map.insert (open_at o t.0) r (taken_file (name_of mid.dir f))) same
    ∙ ap (λ (k : ℕ). map.insert (jfns_at old t.0) k (taken_file (name_of mid.dir f))) least
    ∙ ap (λ (name : List ℕ). map.insert (jfns_at old t.0) n (taken_file name)) (made_name old.dir mid.dir f c.args.name.now c.create-file.ensures.number))
