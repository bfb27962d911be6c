use Rattle.std.proofs.Common.{◌≡◌, length, refl, sym, subst}
use Rattle.std.proofs.Props.{props}
use Rattle.machine_names.specs.declared.names.TheConstants.{TERMINALS}
use Rattle.file_tables.specs.Tables.{open_of}
use Rattle.monitor_calls.specs.Jobs.{AreUnheld}
use Rattle.monitor_calls.specs.Sound.{AreSound}
use Rattle.monitor_core.proofs.Transfers.{sound_mapped}
use Rattle.monitor_core.proofs.system.System.complete.Goals as goal

pub invariant_of-self : goal.invariant_of-self
invariant_of-self g c = let m = c.args.self.now in
    record { sound = sound_mapped g.P.Pages.means m.pages _ c.complete.ensures.mapped m.tree m.jobs.items m.sound; unheld = m.unheld; typing_room = m.typing_room }

pub returns-clause-placed : goal.returns-clause-placed
returns-clause-placed g c = record { beside = record { tree = refl; files = refl; jobs = refl; typed = refl; panel = refl }; mapped = c.complete.ensures.mapped }

pub returns-clause-whole : goal.returns-clause-whole
returns-clause-whole g c same =
    let m = c.args.self.now in
    let means = g.P.Pages.means in
    let one_sound : IsProp (AreSound means m.pages m.tree m.jobs.items) = hlevel props in
    let one_unheld : IsProp (AreUnheld (open_of m.files) m.jobs.items) = hlevel props in
    let one_room : IsProp (length m.typed.items ≡ TERMINALS) = hlevel props in
    subst
    (λ q. (s : AreSound means q m.tree m.jobs.items) (u : AreUnheld (open_of m.files) m.jobs.items) (r : length m.typed.items ≡ TERMINALS) → ◌≡◌ {A = _} (record {
      pages = q;
      tree = m.tree;
      files = m.files;
      jobs = m.jobs;
      typed = m.typed;
      scratch = m.scratch;
      panel = m.panel;
      sound = s;
      unheld = u;
      typing_room = r;
    }) m)
    (sym same) (λ s u r. λ i. record {
      pages = m.pages;
      tree = m.tree;
      files = m.files;
      jobs = m.jobs;
      typed = m.typed;
      scratch = m.scratch;
      panel = m.panel;
      sound = one_sound s m.sound i;
      unheld = one_unheld u m.unheld i;
      typing_room = one_room r m.typing_room i;
    }) _ _ _
