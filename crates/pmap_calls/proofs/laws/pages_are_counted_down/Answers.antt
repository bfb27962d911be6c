use Rattle.pmap_calls.proofs.MapLaws.{one_page_less, done_behind_last}
use Rattle.pmap_calls.proofs.laws.pages_are_counted_down.Goals as goal

pub returns-clause-left : goal.returns-clause-left
returns-clause-left c = λ regs fits counted some. one_page_less regs fits counted some

pub returns-clause-done : goal.returns-clause-done
returns-clause-done c = λ regs fits counted some. done_behind_last regs fits counted some
