use Rattle.std.proofs.Common.{refl, arith}
use Rattle.page_contracts.specs.declared.answers.Need.TheVariants.{Frame}
use Rattle.page_contracts.proofs.Losing.{needed_more}
use Rattle.job_forks.proofs.Branch.{homed_still}
use Rattle.page_contracts.proofs.Planning.{planned_still}
use Rattle.script_texts.specs.declared.event.Event.TheVariants.{Login}
use Rattle.script_texts.specs.declared.event.Item.TheVariants.{Refusal}
use Rattle.script_texts.specs.declared.event.Refusal.TheVariants.{Full}
use Rattle.step_shown.specs.declared.reply.Reply.TheVariants.{One}
use Rattle.monitor_core.proofs.EventDid.{is_full}
use Rattle.monitor_core.proofs.JobDid.{did_still}
use Rattle.monitor_core.specs.Systems.{event_frames}
use Rattle.monitor_core.proofs.Logins.{filled, none_first, none_held, unused}
use Rattle.monitor_core.proofs.system.System.add_where_room.Goals as goal

pub returns-in-Full-clause-did : goal.returns-in-Full-clause-did
returns-in-Full-clause-did g c =
    let m = c.args.self.now in
    let none = none_first g.P.Pages.means m.pages m.tree m.jobs.items m.sound c.args.t c.requires.free c.requires.terminal c.are_trees.ensures in
    did_still m m refl refl refl refl refl refl (Login c.args.t c.args.user) (One (Refusal (Full c.args.t))) c.requires.terminal
    (λ d f. is_full m c.args.t c.args.user c.requires.free d f (g.met.P.Pages.agrees m.pages d f.pages) (none_held g.P.Pages.means m.pages m.tree m.jobs.items m.sound c.args.t c.requires.free c.requires.terminal c.are_trees.ensures)
    (unused m.tree c.args.t none c.requires.unused) (filled _ _ _ c.in-Full.ensures.answer))

pub returns-in-NeedFrame-clause-waits : goal.returns-in-NeedFrame-clause-waits
returns-in-NeedFrame-clause-waits g c = record {
  each = λ d f. (f, refl);
  within = λ entries w. w;
  most = refl;
  planned = planned_still g.P.Pages.means.store c.args.self.now.pages;
  beside = record { tree = refl; files = refl; jobs = refl; typed = refl; panel = refl };
  pages = λ d fits. (fits, refl);
  homed = homed_still g.P.Pages.means c.args.self.now.pages;
  needed = needed_more g.P.Pages.means.store 1 event_frames c.args.self.now.pages Frame (omega arith) (c.in-NeedFrame.ensures.frames refl);
}

pub returns-in-NeedFrame-clause-core : goal.returns-in-NeedFrame-clause-core
returns-in-NeedFrame-clause-core g c flat = absurd (c.in-NeedFrame.ensures.core flat refl)
