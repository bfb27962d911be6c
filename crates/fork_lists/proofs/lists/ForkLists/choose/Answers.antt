use Rattle.fork_lists.proofs.Chosen.{chosen_runs}
use Rattle.fork_lists.proofs.lists.ForkLists.choose.Goals as goal

pub returns-clause-chosen : goal.returns-clause-chosen
returns-clause-chosen c = λ forks tied. chosen_runs forks c.args.self.now tied c.sound.ensures c.choose.result c.choose.ensures.head
