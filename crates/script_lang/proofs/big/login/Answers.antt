use Rattle.script_lang.proofs.Moves.{login_last, login_next}
use Rattle.script_lang.proofs.big.login.Goals as goal

pub returns-then-t-eq-LAST_TERMINAL : goal.returns-then-t-eq-LAST_TERMINAL
returns-then-t-eq-LAST_TERMINAL c = rw c.new.ensures (λ x. login_last c.args.t x c.if-t-eq-LAST_TERMINAL.true)

pub returns-else-t-eq-LAST_TERMINAL : goal.returns-else-t-eq-LAST_TERMINAL
returns-else-t-eq-LAST_TERMINAL c = rw c.new.ensures (λ x. login_next c.args.t x c.requires c.if-t-eq-LAST_TERMINAL.false)
