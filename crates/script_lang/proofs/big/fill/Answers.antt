use Rattle.script_lang.proofs.Moves.{fill_last, fill_next}
use Rattle.script_lang.proofs.big.fill.Goals as goal

pub returns-then-page-eq-LAST_PAGE : goal.returns-then-page-eq-LAST_PAGE
returns-then-page-eq-LAST_PAGE c = rw c.filling-event.ensures (λ x. fill_last c.args.page x c.if-page-eq-LAST_PAGE.true)

pub returns-else-page-eq-LAST_PAGE : goal.returns-else-page-eq-LAST_PAGE
returns-else-page-eq-LAST_PAGE c = rw c.filling-event.ensures (λ x. fill_next c.args.page x c.requires c.if-page-eq-LAST_PAGE.false)
