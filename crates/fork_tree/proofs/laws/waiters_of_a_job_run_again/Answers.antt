use Rattle.fork_tree.proofs.Waking.{all_woken, others_stay}
use Rattle.fork_tree.proofs.laws.waiters_of_a_job_run_again.Goals as goal

pub returns-clause-job : goal.returns-clause-job
returns-clause-job c = λ tree t f is lives job. all_woken tree is t f lives job

pub returns-clause-others : goal.returns-clause-others
returns-clause-others c = λ tree t f is lives other. others_stay tree is t f lives other
