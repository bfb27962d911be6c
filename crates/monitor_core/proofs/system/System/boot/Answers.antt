use Rattle.monitor_core.proofs.BootDid.{sound_boot, typing_room_boot, unheld_boot}
use Rattle.monitor_core.proofs.system.System.boot.Goals as goal

pub invariant_of-result : goal.invariant_of-result
invariant_of-result g c = record { sound = sound_boot c.in_ok-jobs.jobs.items c.in_ok-jobs.ensures g.P.Pages.means c.args.pages c.in_ok-tree.tree c.in_ok-tree.ensures c.requires.roomy c.requires.none (λ f. g.met.P.Pages.none_lives c.args.pages f (c.requires.none f.tty)); unheld = unheld_boot c.in_ok-files.files c.in_ok-files.ensures.jfns _; typing_room = typing_room_boot c.in_ok-typed.typed.items c.in_ok-typed.ensures }
