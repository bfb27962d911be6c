use Rattle.std.proofs.Common.{refl, subst, arith}
use Rattle.page_contracts.proofs.Losing.{needed_more}
use Rattle.console_access.specs.Writing.{IsRowWritten}
use Rattle.monitor_core.specs.Systems.{event_frames}
use Rattle.script_texts.specs.declared.event.Event.TheVariants.{Words}
use Rattle.script_texts.specs.declared.event.Item.TheVariants.{Refusal}
use Rattle.script_texts.specs.declared.event.Refusal.TheVariants.{NoFile}
use Rattle.step_shown.specs.declared.reply.Reply.TheVariants.{One}
use Rattle.monitor_core.proofs.FileDid.{did_not_write, did_write, file_there, is_missing, reaches, words_end, words_of_none}
use Rattle.monitor_core.proofs.JobDid.{did_still}
use Rattle.monitor_core.proofs.NeedsFirst.{event_waits}
use Rattle.monitor_core.proofs.system.System.write_words.Goals as goal

pub returns-in_default-clause-did : goal.returns-in_default-clause-did
returns-in_default-clause-did g c =
    let m = c.args.self.now in
    let name = c.args.name.now in
    did_still m m refl refl refl refl refl refl (Words name c.args.page c.args.offset c.args.row.now) (One (Refusal (NoFile name))) c.requires.name
    (λ d f. words_of_none m name c.args.page c.args.offset c.args.row.now d (is_missing m.files name c.find.result c.find.ensures.found c.in_default.not-Some))

pub returns-in-Ok-Ok-clause-did : goal.returns-in-Ok-Ok-clause-did
returns-in-Ok-Ok-clause-did g c =
    let m = c.args.self.now in
    let f = c.in-Some.file.0 in
    let found = c.in-Some.ensures.found in
    let there = file_there m.files f found.0 in
    did_write m f c.args.page found.0 _ there c.args.offset c.args.row.now _ refl refl refl refl c.in-Ok-Ok.ensures.made c.in-Ok-Ok.ensures.loses
    c.from-in-Ok-Ok-3.result (omega (arith, c.from.ensures, c.from-in-Ok-Ok.ensures, c.from-in-Ok-Ok-2.ensures, c.from-in-Ok-Ok-3.ensures, words_end c.args.row.now c.args.page c.args.offset c.requires.row))
    (reaches m.files c.reach.new.files f _ _ there c.reach.ensures.files) c.reach.ensures.numbers c.reach.ensures.jfns
    (λ d fits. let told = c.in-Ok-Ok.ensures.told d fits in (told.0, subst (IsRowWritten _ _ _ _ _ _) c.in-Ok-Ok.field-0-is told.1)) c.args.name.now found.1

pub returns-in-Ok-Err-clause-did : goal.returns-in-Ok-Err-clause-did
returns-in-Ok-Err-clause-did g c =
    let m = c.args.self.now in
    let f = c.in-Some.file.0 in
    let found = c.in-Some.ensures.found in
    let there = file_there m.files f found.0 in
    did_not_write m f c.args.page found.0 _ there c.args.offset c.args.row.now _ refl refl refl refl c.in-Ok-Err.ensures.made c.in-Ok-Err.ensures.loses
    c.in-Ok-Err.field-0-0 refl (λ d fits. let told = c.in-Ok-Err.ensures.told d fits in (told.0, subst (IsRowWritten _ _ _ _ _ _) c.in-Ok-Err.field-0-is told.1)) c.args.name.now found.1 c.requires.name

pub returns-in-Err-clause-waits : goal.returns-in-Err-clause-waits
returns-in-Err-clause-waits g c =
    let lacks = c.in-Err.ensures.waits in
    event_waits c.args.self.now _ refl lacks.stays refl refl refl refl c.in-Err.need (needed_more g.P.Pages.means.store 2 event_frames c.write_row.new.pages c.in-Err.need (omega arith) lacks.needed)

pub returns-in-Err-clause-reason : goal.returns-in-Err-clause-reason
returns-in-Err-clause-reason g c = record { file = c.in-Some.file; there = c.in-Some.ensures.found.0; named = c.in-Some.ensures.found.1; away = c.in-Err.ensures.waits.away }
