use Rattle.std.proofs.Common.{◌≡◌, ◌≢◌, ◌||◌, ◌<◌, ◌+◌, set, arith, false, None, Some, refl, sym, ◌∙◌, ap, subst, length-set}
use Rattle.plain_pages.specs.declared.map.NewMap.TheVariants.{Empty}
use Rattle.machine_names.specs.declared.names.ForkName.{ForkName}
use Rattle.machine_names.specs.declared.names.Tty.{Tty}
use Rattle.plain_pages.specs.NewMaps.{with_map}
use Rattle.page_contracts.specs.DrumWords.{DrumWords}
use Rattle.machine_names.specs.Orders.{same_fork}
use Rattle.plain_model.specs.Trees.{PlainTree}
use Rattle.fork_tree.specs.Trees.{IsTree}
use Rattle.monitor_calls.specs.Sound.{AreSound}
use Rattle.monitor_core.proofs.EventDid.{did_login}
use Rattle.file_tables.specs.Tables.{open_of}
use Rattle.monitor_core.proofs.Logins.{unheld_begun, new_tree, none_first, none_held, room_held, sound_begun, unused}
use Rattle.monitor_core.proofs.JobOthers.{made_begins}
use Rattle.monitor_core.proofs.system.System.add_job.Goals as goal

pub make-requires-clause-superior : goal.make-requires-clause-superior
make-requires-clause-superior g c = none_first g.P.Pages.means c.args.self.now.pages c.args.self.now.tree c.args.self.now.jobs.items c.args.self.now.sound c.args.t c.requires.free c.requires.terminal c.are_trees.ensures

pub add_fork-requires-clause-absent : goal.add_fork-requires-clause-absent
add_fork-requires-clause-absent g c =
    let means = g.P.Pages.means in
    let m = c.args.self.now in
    subst (λ (n : ForkName). means.lives m.pages n ≡ false) (sym c.in-Ok.ensures.1) (none_held means m.pages m.tree m.jobs.items m.sound c.args.t c.requires.free c.requires.terminal c.are_trees.ensures)

pub add_fork-requires-clause-few : goal.add_fork-requires-clause-few
add_fork-requires-clause-few g c =
    let means = g.P.Pages.means in
    let m = c.args.self.now in
    subst (λ (n : ForkName). means.forks_of m.pages n.tty < means.most_forks) (sym c.in-Ok.ensures.1) (room_held means m.pages m.tree m.jobs.items m.sound c.args.t c.requires.free c.requires.terminal c.are_trees.ensures)

pub invariant_of-self : goal.invariant_of-self
invariant_of-self g c =
    let means = g.P.Pages.means in
    let m = c.args.self.now in
    let made = c.in-Ok.ensures in
    let none = none_first means m.pages m.tree m.jobs.items m.sound c.args.t c.requires.free c.requires.terminal c.are_trees.ensures in
    let tree_is = made.2 ∙ new_tree m.tree c.args.t none in
    let p = m.pages in
    let q = c.add_fork.new.self in
    record {
      sound = subst (λ (x : PlainTree). AreSound means q x (set m.jobs.items c.args.t.0 (Some c.new.result))) (sym tree_is)
          (sound_begun means p m.tree m.jobs.items m.sound c.args.t c.requires.free c.requires.terminal q c.new.result (c.new.ensures.top ∙ made.1)
          (subst (λ (n : ForkName). (k : ForkName) → means.lives q k ≡ (same_fork k n || means.lives p k)) made.1 c.add_fork.ensures.lives)
          (subst (λ (n : ForkName). means.forks_of q n.tty ≡ means.forks_of p n.tty + 1) made.1 c.add_fork.ensures.forks)
          (subst (λ (n : ForkName). (u : Tty) → u ≢ n.tty → means.forks_of q u ≡ means.forks_of p u) made.1 c.add_fork.ensures.others)
          c.are_trees.ensures (subst IsTree tree_is c.are_trees-in-Ok.ensures));
      typing_room = length-set m.typed.items c.args.t.0 c.clear.new.self ∙ m.typing_room;
      unheld = unheld_begun (open_of m.files) m.jobs.items c.args.t.0 c.new.result m.unheld (omega (arith, m.sound.job_room, c.requires.terminal));
    }

pub returns-clause-did : goal.returns-clause-did
returns-clause-did g c =
    let means = g.P.Pages.means in
    let m = c.args.self.now in
    let made = c.in-Ok.ensures in
    let none = none_first means m.pages m.tree m.jobs.items m.sound c.args.t c.requires.free c.requires.terminal c.are_trees.ensures in
    did_login m c.args.t c.args.user c.requires.free _ c.new.result c.requires.terminal (unused m.tree c.args.t none c.requires.unused) (λ d fits. g.met.P.Pages.agrees m.pages d fits)
    (none_held means m.pages m.tree m.jobs.items m.sound c.args.t c.requires.free c.requires.terminal c.are_trees.ensures) c.requires.room (made.2 ∙ new_tree m.tree c.args.t none) refl refl (ap (set m.typed.items c.args.t.0) c.clear.ensures) c.new.ensures.user c.new.ensures.mode (c.new.ensures.top ∙ made.1) c.new.ensures.start refl
    (subst (λ (n : ForkName). (d : DrumWords) → means.fits m.pages d → means.fits c.add_fork.new.self d × (means.plain c.add_fork.new.self d ≡ with_map (means.plain m.pages d) n Empty)) made.1 c.add_fork.ensures.told)
    c.add_fork.ensures.serials c.add_fork.ensures.most c.add_fork.ensures.loses

pub returns-clause-others : goal.returns-clause-others
returns-clause-others g c = made_begins c.args.self.now.tree c.make.new.self c.are_trees.ensures c.args.t None c.in-Ok.ensures.2
