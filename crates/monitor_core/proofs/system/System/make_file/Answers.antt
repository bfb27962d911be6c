use Rattle.std.proofs.Common.{refl, sym, ◌∙◌}
use Rattle.std.specs.FinMap as map
use Rattle.script_texts.specs.declared.event.Event.TheVariants.{File}
use Rattle.script_texts.specs.declared.event.Item.TheVariants.{Refusal}
use Rattle.script_texts.specs.declared.event.Refusal.TheVariants.{Exists, FilesFull}
use Rattle.file_tables.specs.Tables.{files_of}
use Rattle.step_shown.specs.declared.reply.Reply.TheVariants.{One}
use Rattle.monitor_core.proofs.FileDid.{did_file, file_exists, file_found, file_missing, files_are_full, is_room, no_room}
use Rattle.monitor_core.proofs.JobDid.{did_still}
use Rattle.monitor_core.proofs.system.System.make_file.Goals as goal

pub returns-then-is_some-clause-did : goal.returns-then-is_some-clause-did
returns-then-is_some-clause-did g c =
    let m = c.args.self.now in
    let name = c.args.name.now in
    let file = file_found m.files name c.find.result c.find.ensures.found (sym c.is_some.ensures ∙ c.if-is_some.true) in
    did_still m m refl refl refl refl refl refl (File name) (One (Refusal (Exists name))) c.requires.name (λ d f. file_exists m name file.0 d file.1)

pub returns-then-not-has_room-clause-did : goal.returns-then-not-has_room-clause-did
returns-then-not-has_room-clause-did g c =
    let m = c.args.self.now in
    let name = c.args.name.now in
    let none = file_missing m.files name c.find.result c.find.ensures.found (sym c.is_some.ensures ∙ c.if-is_some.false) in
    did_still m m refl refl refl refl refl refl (File name) (One (Refusal (FilesFull name))) c.requires.name (λ d f. files_are_full m name d none (no_room c.has_room.result (map.len (files_of m.files)) c.has_room.ensures c.if-not-has_room.true))

pub returns-clause-did : goal.returns-clause-did
returns-clause-did g c =
    let m = c.args.self.now in
    let name = c.args.name.now in
    let none = file_missing m.files name c.find.result c.find.ensures.found (sym c.is_some.ensures ∙ c.if-is_some.false) in
    did_file m name _ c.create.result.0 none (is_room c.has_room.result (map.len (files_of m.files)) c.has_room.ensures c.if-not-has_room.false) c.create.ensures.files c.create.ensures.number c.create.ensures.jfns refl refl refl refl refl
