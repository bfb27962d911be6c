use Rattle.std.proofs.Common.{arith, true}
use Rattle.fork_tree.proofs.Upward.{ancestor_lives, nobody_above}
use Rattle.fork_tree.proofs.laws.ancestors_are_older.Goals as goal

pub returns-clause-older : goal.returns-clause-older
returns-clause-older c = λ tree f g is lives over. ancestor_lives tree is (λ k. true) over.0 f g lives over.1

pub returns-clause-apart : goal.returns-clause-apart
returns-clause-apart c = λ tree f is lives over. absurd (omega (arith, (ancestor_lives tree is (λ k. true) over.0 f f lives over.1).2))

pub returns-clause-few : goal.returns-clause-few
returns-clause-few c = λ tree f is lives. nobody_above tree is f lives
