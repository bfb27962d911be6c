use Rattle.std.proofs.Common.{refl, sym, ◌∙◌}
use Rattle.std.specs.FinMap as map
use Rattle.plain_files.specs.OpenFiles.{opened_file}
use Rattle.plain_files.specs.NamedFiles.{open_file}
use Rattle.file_tables.specs.Tables.{Changes, files_of, jfns_at}
use Rattle.file_tables.specs.Keys.{key_of}
use Rattle.file_calls.proofs.Changed.{files_stay, opens, shortened_is, some_is}
use Rattle.file_calls.proofs.changing.open.Goals as goal

pub returns-then-is_written_alone-clause-told : goal.returns-then-is_written_alone-clause-told
returns-then-is_written_alone-clause-told c jobs p held =
    let old = c.args.tables.now in
    let mid = c.open.new.self in
    let new = c.set_length.new.self in
    let t = c.args.t in
    let j = open_file old.dir c.in-Some.jfn in
    let there = sym c.in-Some.ensures.held in
    let jfns = map.insert (jfns_at old t.0) c.args.n (opened_file c.args.mode c.args.size j) in
    let changes : Changes old mid t.0 jfns = some_is (map.get (jfns_at old t.0) c.args.n) (λ k. Changes old mid t.0 (map.insert (jfns_at old t.0) c.args.n (opened_file c.args.mode c.args.size k))) j there c.open.ensures.opened in
    let files = shortened_is old mid new c.open.ensures.files c.in-Some.jfn.file.0 c.args.mode c.size-bytes.result c.size-bytes.ensures c.set_length.ensures.files (sym c.is_written_alone.ensures ∙ c.if-is_written_alone.true) in
    opens old new t c.requires.held.0 jfns (c.set_length.ensures.jfns.named ∙ changes) jobs (key_of old) held c.args.n j there p c.args.mode c.args.size files refl

pub returns-else-is_written_alone-clause-told : goal.returns-else-is_written_alone-clause-told
returns-else-is_written_alone-clause-told c jobs p held =
    let old = c.args.tables.now in
    let mid = c.open.new.self in
    let t = c.args.t in
    let j = open_file old.dir c.in-Some.jfn in
    let there = sym c.in-Some.ensures.held in
    let jfns = map.insert (jfns_at old t.0) c.args.n (opened_file c.args.mode c.args.size j) in
    let changes : Changes old mid t.0 jfns = some_is (map.get (jfns_at old t.0) c.args.n) (λ k. Changes old mid t.0 (map.insert (jfns_at old t.0) c.args.n (opened_file c.args.mode c.args.size k))) j there c.open.ensures.opened in
    opens old mid t c.requires.held.0 jfns changes jobs (key_of old) held c.args.n j there p c.args.mode c.args.size
    (c.open.ensures.files.files ∙ files_stay (files_of old) c.args.mode j.file (sym c.is_written_alone.ensures ∙ c.if-is_written_alone.false)) refl
