use Rattle.std.specs.Cmp.{nat_cmp_total}
use Rattle.std.specs.Cmp.Lexicographic.{nat_list_cmp_total}
use Rattle.std.specs.FinMap as map
use Rattle.machine_names.proofs.OrderLemmas.{name_cmp_apart}
use Rattle.step_wants.proofs.SameNames.{unit_same}
use Rattle.step_wants.proofs.laws.names_are_the_same.Goals as goal

pub returns : goal.returns
returns c key_of v filed f kept held = unit_same nat_cmp_total map.nat_cmp-IsAntisymmetric nat_list_cmp_total name_cmp_apart key_of (λ name. name) filed v kept held f
