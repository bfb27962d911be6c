use Rattle.std.proofs.Common.{[], ◌∷◌, ◌++◌, sym, subst}
use Rattle.std.specs.List.{flat_map}
use Rattle.std.specs.FinMap as map
use Rattle.file_tables.specs.declared.tables.FileTables.{FileTables}
use Rattle.file_tables.specs.Tables.{files_of}
use Rattle.machine_names.specs.declared.character.TheConstants.{PROMPT}
use Rattle.plain_model.specs.Commands.{file_line}
use Rattle.plain_model.specs.Unit.{printed}
use Rattle.step_shown.specs.Echoes.{told_items}
use Rattle.event_items.specs.Giving.{TookItems}
use Rattle.monitor_core.specs.Systems.{state_of}
use Rattle.event_items.proofs.Given.{printed_append}
use Rattle.event_items.proofs.GivenParts.{part_failed, part_then, took_same}
use Rattle.event_items.proofs.giving.echo.give_told.Goals as goal

pub returns-in-Prompt : goal.returns-in-Prompt
returns-in-Prompt g c =
    subst (λ told. TookItems g.T.Taker.fault_count g.T.Taker.onward g.T.Taker.stands g.T.Taker.cut c.args.out.now c.give_text.new.out c.give_text.result (λ d. told_items c.args.t told (state_of c.args.system.now d))) (sym c.in-Prompt.is) c.give_text.ensures

pub returns-in-Refused : goal.returns-in-Refused
returns-in-Refused g c =
    subst (λ told. TookItems g.T.Taker.fault_count g.T.Taker.onward g.T.Taker.stands g.T.Taker.cut c.args.out.now c.give_complaint.new.out c.give_complaint.result (λ d. told_items c.args.t told (state_of c.args.system.now d))) (sym c.in-Refused.is) c.give_complaint.ensures

pub returns-in_err-give_files-in-Files : goal.returns-in_err-give_files-in-Files
returns-in_err-give_files-in-Files g c =
    let t = c.args.t in
    let r = c.from_residual.result in
    let lines = flat_map (file_line c.in-Files.user) (map.keys (files_of c.files.result.now)) in
    subst (λ told. TookItems g.T.Taker.fault_count g.T.Taker.onward g.T.Taker.stands g.T.Taker.cut c.args.out.now c.give_files.new.out r (λ d. told_items t told (state_of c.args.system.now d))) (sym c.in-Files.is)
    (subst (λ (x : FileTables). TookItems g.T.Taker.fault_count g.T.Taker.onward g.T.Taker.stands g.T.Taker.cut c.args.out.now c.give_files.new.out r (λ d. printed t (flat_map (file_line c.in-Files.user) (map.keys (files_of x)) ++ PROMPT ∷ []))) c.files.ensures
    (took_same g.T.Taker.fault_count g.T.Taker.onward g.T.Taker.stands g.T.Taker.cut _ _ r (λ d. printed t lines ++ printed t (PROMPT ∷ [])) (λ d. printed t (lines ++ PROMPT ∷ [])) (λ d. sym (printed_append t lines (PROMPT ∷ [])))
    (part_failed g.T.Taker.fault_count g.T.Taker.onward g.T.Taker.stands g.T.Taker.cut _ _ _ r (λ d. printed t lines) (λ d. printed t (PROMPT ∷ [])) c.from_residual.ensures.0 c.in_err-give_files-in-Files.ensures)))

pub returns-in_ok-give_files-in-Files : goal.returns-in_ok-give_files-in-Files
returns-in_ok-give_files-in-Files g c =
    let t = c.args.t in
    let r = c.give_text-in-Files.result in
    let lines = flat_map (file_line c.in-Files.user) (map.keys (files_of c.files.result.now)) in
    subst (λ told. TookItems g.T.Taker.fault_count g.T.Taker.onward g.T.Taker.stands g.T.Taker.cut c.args.out.now c.give_text-in-Files.new.out r (λ d. told_items t told (state_of c.args.system.now d))) (sym c.in-Files.is)
    (subst (λ (x : FileTables). TookItems g.T.Taker.fault_count g.T.Taker.onward g.T.Taker.stands g.T.Taker.cut c.args.out.now c.give_text-in-Files.new.out r (λ d. printed t (flat_map (file_line c.in-Files.user) (map.keys (files_of x)) ++ PROMPT ∷ []))) c.files.ensures
    (took_same g.T.Taker.fault_count g.T.Taker.onward g.T.Taker.stands g.T.Taker.cut _ _ r (λ d. printed t lines ++ printed t (PROMPT ∷ [])) (λ d. printed t (lines ++ PROMPT ∷ [])) (λ d. sym (printed_append t lines (PROMPT ∷ [])))
    (part_then g.T.Taker.fault_count g.T.Taker.onward g.T.Taker.stands g.T.Taker.cut _ _ _ _ r (λ d. printed t lines) (λ d. printed t (PROMPT ∷ [])) c.in_ok-give_files-in-Files.ensures c.give_text-in-Files.ensures)))
