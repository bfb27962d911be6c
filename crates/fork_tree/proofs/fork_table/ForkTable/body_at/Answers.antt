use Rattle.std.proofs.Common.{◌∙◌, sym, ap, subst, arith, refl, None}
use Rattle.std.specs.Prelude.{IsSome}
use Rattle.std.proofs.lemmas.List.{get_or_read}
use Rattle.plain_model.specs.Forks.{fork_in}
use Rattle.plain_model.specs.Trees.{changed, with_body}
use Rattle.fork_tree.specs.Changes.{body_in}
use Rattle.fork_tree.specs.Places.{forks_of}
use Rattle.fork_tree.proofs.Slots.{some_of}
use Rattle.fork_tree.proofs.Tables.{in_at, in_place}
use Rattle.fork_tree.proofs.TableChanges.{forks_changed}
use Rattle.fork_tree.proofs.Taken.{whole_changed}
use Rattle.fork_tree.proofs.fork_table.ForkTable.body_at.Goals as goal

pub index_mut-requires : goal.index_mut-requires
index_mut-requires c =
    let t = c.self.inside in
    let f = some_of (fork_in c.args.self.now c.args.tty c.args.slot) c.requires in
    let at = in_at t.places.items t.slots.items t.lasts.items c.self.invariant.table c.args.tty c.args.slot f.0 (ap (λ m. fork_in m c.args.tty c.args.slot) c.self.view_is ∙ f.1) in
    omega (arith, at.0, at.1, c.place_in-place.ensures, c.self.invariant.table.all_places)

pub body_in-requires : goal.body_in-requires
body_in-requires c =
    let t = c.self.inside in
    let f = some_of (fork_in c.args.self.now c.args.tty c.args.slot) c.requires in
    let at = in_at t.places.items t.slots.items t.lasts.items c.self.invariant.table c.args.tty c.args.slot f.0 (ap (λ m. fork_in m c.args.tty c.args.slot) c.self.view_is ∙ f.1) in
    let read = get_or_read t.places.items c.place_in-place.result c.index_mut.result.now (omega (arith, at.0, at.1, c.place_in-place.ensures, c.self.invariant.table.all_places)) c.index_mut.ensures.value None
    ∙ (in_place t.places.items t.slots.items t.lasts.items c.self.invariant.table c.args.tty c.args.slot c.place_in-place.result at.1 c.place_in-place.ensures
    ∙ ap (λ m. fork_in m c.args.tty c.args.slot) c.self.view_is) in
    subst IsSome (sym read) c.requires

pub invariant_of-self-lent : goal.invariant_of-self-lent
invariant_of-self-lent c =
    let t = c.self.inside in
    let f = some_of (fork_in c.args.self.now c.args.tty c.args.slot) c.requires in
    let at = in_at t.places.items t.slots.items t.lasts.items c.self.invariant.table c.args.tty c.args.slot f.0 (ap (λ m. fork_in m c.args.tty c.args.slot) c.self.view_is ∙ f.1) in
    let read = get_or_read t.places.items c.place_in-place.result c.index_mut.result.now (omega (arith, at.0, at.1, c.place_in-place.ensures, c.self.invariant.table.all_places)) c.index_mut.ensures.value None in
    λ w. whole_changed t.places.items t.slots.items t.lasts.items t.taken.items c.place_in-place.result (with_body w) (λ k. refl) (λ k. refl) c.self.invariant c.index_mut.result.now read

pub returns : goal.returns
returns c =
    let t = c.self.inside in
    let f = some_of (fork_in c.args.self.now c.args.tty c.args.slot) c.requires in
    let at = in_at t.places.items t.slots.items t.lasts.items c.self.invariant.table c.args.tty c.args.slot f.0 (ap (λ m. fork_in m c.args.tty c.args.slot) c.self.view_is ∙ f.1) in
    let read = get_or_read t.places.items c.place_in-place.result c.index_mut.result.now (omega (arith, at.0, at.1, c.place_in-place.ensures, c.self.invariant.table.all_places)) c.index_mut.ensures.value None in
    let found = read
    ∙ (in_place t.places.items t.slots.items t.lasts.items c.self.invariant.table c.args.tty c.args.slot c.place_in-place.result at.1 c.place_in-place.ensures
    ∙ ap (λ m. fork_in m c.args.tty c.args.slot) c.self.view_is) in (
      (
        refl,
        λ w.
            forks_changed t.places.items t.slots.items t.lasts.items c.place_in-place.result (with_body w) (λ k. refl) (λ k. refl) c.self.invariant.table c.index_mut.result.now read
            ∙ (ap (λ o. changed (forks_of t.places.items) (with_body w) o) found ∙ ap (λ m. changed m (with_body w) (fork_in c.args.self.now c.args.tty c.args.slot)) c.self.view_is),
      ),
      record { writes_back = tt; body = c.body_in.ensures.body ∙ ap body_in found },
    )
