use Rattle.script_lang.proofs.Moves.{start_last, start_next}
use Rattle.script_lang.proofs.big.start.Goals as goal

pub returns-then-t-eq-LAST_TERMINAL : goal.returns-then-t-eq-LAST_TERMINAL
returns-then-t-eq-LAST_TERMINAL c = λ x. start_last c.args.t x c.if-t-eq-LAST_TERMINAL.true

pub returns-else-t-eq-LAST_TERMINAL : goal.returns-else-t-eq-LAST_TERMINAL
returns-else-t-eq-LAST_TERMINAL c = λ x. start_next c.args.t x c.requires c.if-t-eq-LAST_TERMINAL.false
