use Rattle.std.proofs.Common.{refl, sym, subst}
use Rattle.monitor_calls.specs.Jobs.{AreUnheld}
use Rattle.monitor_calls.proofs.Sounds.{same_tops, sound_same}
use Rattle.monitor_typing.proofs.DeleteDid.{has_deleted, has_not_deleted}
use Rattle.std.proofs.Common.{rules}
use Rattle.ka10_spots.proofs.Stored.{lost_none}
use Rattle.monitor_typing.proofs.commands.delete_file.Goals as goal

pub invariant_of-system : goal.invariant_of-system
invariant_of-system g c =
    let m = c.args.system.now in
    let grown = c.delete.ensures.grows c.args.t in
    record {
      sound = sound_same g.P.Pages.means m.pages c.delete.new.pages m.tree m.jobs.items m.jobs.items m.sound grown.lives grown.forks (same_tops m.jobs.items m.jobs.items refl);
      unheld = subst (λ held. AreUnheld held m.jobs.items) (sym c.delete.ensures.jfns.named) m.unheld;
      typing_room = m.typing_room;
    }

pub returns-in-Ok-clause-has : goal.returns-in-Ok-clause-has
returns-in-Ok-clause-has g c =
    let e = c.in-Ok.ensures in
    has_deleted c.args.system.now _ c.args.t c.args.name.now c.in-Some.file.0 c.in-Some.ensures.found.0 c.in-Some.ensures.found.1 refl refl refl refl e.grows e.jfns e.told e.files.0 e.files.1 e.files.2

pub returns-in-Err-clause-has : goal.returns-in-Err-clause-has
returns-in-Err-clause-has g c =
    let e = c.in-Err.ensures in
    has_not_deleted c.args.system.now _ c.args.t c.args.name.now c.in-Some.file.0 c.in-Some.ensures.found.0 c.in-Some.ensures.found.1 refl refl refl refl e.grows e.jfns e.told e.files.0 e.files.1

pub returns-in_default-clause-has : goal.returns-in_default-clause-has
returns-in_default-clause-has g c = record { each = search rules; within = search rules; most = search rules; loses = lost_none g.P.Pages.means c.args.system.now.pages }
