use Rattle.job_forks.proofs.Maps.{AreMapsHereBelow}
use Rattle.job_forks.proofs.killing.ask_maps.Given as goal

abbrev pub invariant-loop-slot : goal.invariant-loop-slot
invariant-loop-slot g l = record { so_far : AreMapsHereBelow (g.P.Pages.means.scene l.pages) l.tree.forks l.name l.slot }
