use Rattle.std.proofs.Common.{◌≡◌, ℕ, List, Some, sym, ◌∙◌, ap}
use Rattle.std.specs.FinMap as map
use Rattle.plain_files.specs.OpenFiles.{taken_file}
use Rattle.plain_files.specs.NamedFiles.{name_of}
use Rattle.file_tables.specs.Tables.{jfns_at}
use Rattle.file_tables.specs.Keys.{key_of}
use Rattle.file_calls.proofs.Changed.{takes}
use Rattle.file_calls.proofs.changing.take.Goals as goal

pub returns-in-Some-clause-told : goal.returns-in-Some-clause-told
returns-in-Some-clause-told c n free jobs p held =
    let old = c.args.tables.now in
    let least : c.take.result ≡ n = (let same : Some c.take.result ≡ Some n = sym c.take.ensures.least ∙ free in cc same) in
    let jfns = jfns_at old c.args.t.0 in
    takes old c.take.new.self c.args.t c.requires.terminal _ c.take.ensures.taken jobs (key_of old) p n c.args.name.now c.take.ensures.files.files
    (ap (λ (k : ℕ). map.insert jfns k (taken_file (name_of old.dir c.in-Some.file.0))) least
    ∙ ap (λ (name : List ℕ). map.insert jfns n (taken_file name)) c.in-Some.ensures.found.1)
