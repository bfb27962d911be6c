use Rattle.std.proofs.Common.{◌≡◌, ◌≢◌, ◌⊎◌, Some, List, true, refl, sym, ◌∙◌, ap, subst}
use Rattle.std.specs.FinMap as map
use Rattle.machine_names.specs.declared.names.ForkName.{ForkName}
use Rattle.plain_model.specs.declared.fork.Fork.{Fork}
use Rattle.plain_model.specs.Forks.{fork_in}
use Rattle.fork_tree.specs.Making.{last_name}
use Rattle.fork_tree.proofs.Slots.{held_lives, in_found}
use Rattle.fork_lists.specs.declared.lists.ForkLists.{ForkLists}
use Rattle.fork_lists.specs.declared.seen.Seen.{Seen}
use Rattle.fork_lists.specs.Seeing.{seen_in, seen_of}
use Rattle.fork_lists.proofs.Folds.{does_run, starts_none, starts_there}
use Rattle.fork_lists.proofs.Noted.{noted_here, noted_other}
use Rattle.fork_lists.proofs.Tied.{has_room, some_is}
use Rattle.fork_lists.proofs.lists.ForkLists.follow_newest.Goals as goal
use Rattle.fork_lists.proofs.lists.ForkLists.follow_newest.Goals.{then-runnable, else-runnable}

pub start-requires-clause-room : goal.start-requires-clause-room
start-requires-clause-room c = λ none.
    let forks = c.args.tree.now.forks in
    let slotted = c.are_trees.ensures.slotted in
    let f = c.in-Some.fork.now in
    has_room forks slotted c.args.self.now.sched f.name c.sound.ensures.apart c.requires.living
    (some_is (map.get forks f.name) f (held_lives forks slotted (last_name c.args.tree.now c.args.t) f (sym c.in-Some.ensures))) none

pub returns-clause-schedule : goal.returns-clause-schedule
returns-clause-schedule c =
    let forks = c.args.tree.now.forks in
    let f = c.in-Some.fork.now in
    let found = map.get forks (last_name c.args.tree.now c.args.t) in
    let runs = sym (does_run forks f.name c.runnable.result c.runnable.ensures) in
    c.note.ensures.schedule ∙ elim c.if-runnable.branch [
      | then-runnable w ↦
          ap (λ (l : ForkLists). l.sched) w.self-is ∙ w.start.ensures.started
          ∙ starts_there forks (λ x. true) found f c.args.self.now.sched (sym c.in-Some.ensures) (runs ∙ w.if-runnable.true)
      | else-runnable w ↦ ap (λ (l : ForkLists). l.sched) w.self-is ∙ starts_none forks (λ x. true) found f c.args.self.now.sched (sym c.in-Some.ensures) (runs ∙ w.if-runnable.false)
    ]

pub returns-clause-mine : goal.returns-clause-mine
returns-clause-mine c = λ f is.
    let forks = c.args.tree.now.forks in
    let slotted = c.are_trees.ensures.slotted in
    let g = c.in-Some.fork.now in
    let name = last_name c.args.tree.now c.args.t in
    let there : map.get forks name ≡ Some g = sym c.in-Some.ensures in
    let lives = held_lives forks slotted name g there in
    let one : g ≡ f = (let both : Some g ≡ Some f = sym there ∙ is in cc both) in
    let found = in_found forks slotted c.args.t g.slot g (lives, ap (λ (x : ForkName). x.tty.0) (slotted.own name g there), refl) in
    subst (λ (x : Fork). seen_in c.note.new.self.seen.items c.args.t x.slot ≡ seen_of (Some x)) one
    (ap (λ (xs : List Seen). seen_in xs c.args.t g.slot) c.note.ensures.seen
    ∙ noted_here c.if-runnable.self.seen.items c.if-runnable.self.room c.args.t g.slot c.requires.terminal (slotted.first g lives) (slotted.last g lives) (seen_of (fork_in forks c.args.t g.slot)) ∙ ap seen_of found)

pub returns-clause-others : goal.returns-clause-others
returns-clause-others c = λ f is u k apart low high.
    let forks = c.args.tree.now.forks in
    let slotted = c.are_trees.ensures.slotted in
    let g = c.in-Some.fork.now in
    let name = last_name c.args.tree.now c.args.t in
    let there : map.get forks name ≡ Some g = sym c.in-Some.ensures in
    let lives = held_lives forks slotted name g there in
    let one : f ≡ g = (let both : Some f ≡ Some g = sym is ∙ there in cc both) in
    ap (λ (xs : List Seen). seen_in xs u k) c.note.ensures.seen
    ∙ noted_other c.if-runnable.self.seen.items c.if-runnable.self.room c.args.t g.slot c.requires.terminal (slotted.first g lives) (slotted.last g lives) (seen_of (fork_in forks c.args.t g.slot)) u k
    (subst (λ (x : Fork). (u.0 ≢ c.args.t.0) ⊎ (k ≢ x.slot)) one apart) low high
    ∙ elim c.if-runnable.branch [
      | then-runnable w ↦ ap (λ (l : ForkLists). seen_in l.seen.items u k) w.self-is
      | else-runnable w ↦ ap (λ (l : ForkLists). seen_in l.seen.items u k) w.self-is
    ]
