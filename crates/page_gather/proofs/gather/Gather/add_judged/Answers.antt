use Rattle.std.proofs.Common.{arith}
use Rattle.std.proofs.lemmas.Grind.{common_steps}
use Rattle.page_gather.proofs.gather.Gather.add_judged.Goals as goal

pub returns-in-Went-clause-told : goal.returns-in-Went-clause-told
returns-in-Went-clause-told g c = grind (arith, common_steps)
