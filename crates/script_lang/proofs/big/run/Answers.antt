use Rattle.script_lang.proofs.Moves.{run_last, run_next}
use Rattle.script_lang.proofs.big.run.Goals as goal

pub returns-then-n-eq-LAST_EVICTION : goal.returns-then-n-eq-LAST_EVICTION
returns-then-n-eq-LAST_EVICTION c = λ x. run_last c.args.n x c.if-n-eq-LAST_EVICTION.true

pub returns-else-n-eq-LAST_EVICTION : goal.returns-else-n-eq-LAST_EVICTION
returns-else-n-eq-LAST_EVICTION c = λ x. run_next c.args.n x c.requires c.if-n-eq-LAST_EVICTION.false
