use Rattle.std.proofs.Common.{◌∙◌, sym, ap, drop}
use Rattle.script_lang.specs.Stages.{rest_of}
use Rattle.script_lang.proofs.big.Big.next.Goals as goal

pub returns-in_err-event-clause-rest : goal.returns-in_err-event-clause-rest
returns-in_err-event-clause-rest c =
    let over = c.in_err-event.ensures in
    ap (rest_of c.self.inside.stage) over.1 ∙ (over.0 ∙ sym (ap (drop 1) (sym c.self.view_is ∙ over.0)))
