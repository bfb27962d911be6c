use Rattle.std.proofs.Common.{subst, sym, rules}
use Rattle.outside.specs.Drums.{AreDrumPages}
use Rattle.outside.proofs.Pages.{zero_pages}
use Rattle.outside.proofs.memory_drum.HeldPages.new.Goals as goal

pub invariant_of-result : goal.invariant_of-result
invariant_of-result c = record { sound = subst (AreDrumPages c.args.number) (sym (search rules)) (zero_pages c.args.number) }
