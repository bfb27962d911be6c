use Rattle.file_calls.specs.Asking.{asked_of}
use Rattle.file_calls.proofs.Turns.{ends_over}
use Rattle.file_calls.proofs.jfn_turn.jfn_call.Goals as goal

pub returns-clause-told : goal.returns-clause-told
returns-clause-told g c =
    let means = g.P.Pages.means in
    let tables = c.args.tables.now in
    ends_over means c.args.pages.now c.args.pages.now c.end.new.pages tables c.end.new.tables (asked_of c.args.who c.args.regs.now c.args.user.now tables) c.end.result c.ending-ending.result c.end.ensures.answer c.end.ensures.told
    _ (c.ending-ending.ensures.turn c.args.user.now (λ is. c.if-number-eq-GTJFN.false is))
