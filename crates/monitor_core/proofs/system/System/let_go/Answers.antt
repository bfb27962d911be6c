use Rattle.std.proofs.Common.{refl}
use Rattle.monitor_core.proofs.Transfers.{put_mapped, sound_mapped}
use Rattle.monitor_core.proofs.system.System.let_go.Goals as goal

pub invariant_of-self : goal.invariant_of-self
invariant_of-self g c = let m = c.args.self.now in
    record { sound = sound_mapped g.P.Pages.means m.pages _ (put_mapped g.P.Pages.means m.pages _ c.let_go.ensures.same.put) m.tree m.jobs.items m.sound; unheld = m.unheld; typing_room = m.typing_room }

pub returns-clause-plain : goal.returns-clause-plain
returns-clause-plain g c = c.let_go.ensures.same.plain

pub returns-clause-placed : goal.returns-clause-placed
returns-clause-placed g c = record { beside = record { tree = refl; files = refl; jobs = refl; typed = refl; panel = refl }; mapped = put_mapped g.P.Pages.means c.args.self.now.pages _ c.let_go.ensures.same.put }
