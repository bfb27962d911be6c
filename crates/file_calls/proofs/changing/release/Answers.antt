use Rattle.std.proofs.Common.{refl}
use Rattle.file_tables.specs.Keys.{key_of}
use Rattle.file_calls.proofs.Changed.{releases}
use Rattle.file_calls.proofs.changing.release.Goals as goal

pub returns-clause-told : goal.returns-clause-told
returns-clause-told c jobs p held =
    let old = c.args.tables.now in
    releases old c.release.new.self c.args.t c.requires.held.0 _ c.release.ensures.released jobs (key_of old) p c.args.n c.release.ensures.files.files refl
