use Rattle.std.proofs.Common.{◌∙◌, sym, ap, arith, refl, None}
use Rattle.std.proofs.lemmas.List.{get_or_read}
use Rattle.std.specs.FinMap as map
use Rattle.plain_model.specs.Trees.{changed, with_mark}
use Rattle.fork_tree.specs.Places.{forks_of}
use Rattle.fork_tree.proofs.Slots.{some_of}
use Rattle.fork_tree.proofs.Tables.{named_at}
use Rattle.fork_tree.proofs.TableChanges.{forks_changed}
use Rattle.fork_tree.proofs.Taken.{whole_changed}
use Rattle.fork_tree.proofs.fork_table.ForkTable.set_mark.Goals as goal

pub index_mut-requires : goal.index_mut-requires
index_mut-requires c =
    let t = c.self.inside in
    let f = some_of (map.get c.args.self.now c.args.name) c.requires in
    let at = named_at t.places.items t.slots.items t.lasts.items c.self.invariant.table c.args.name f.0 c.slot_of-slot.result c.place_in.result
    (ap (λ m. map.get m c.args.name) c.self.view_is ∙ f.1) (c.slot_of-slot.ensures.slot f.0 f.1) c.place_in.ensures in
    omega (arith, at.2, at.3, c.place_in.ensures, c.self.invariant.table.all_places)

pub invariant_of-self : goal.invariant_of-self
invariant_of-self c =
    let t = c.self.inside in
    let f = some_of (map.get c.args.self.now c.args.name) c.requires in
    let at = named_at t.places.items t.slots.items t.lasts.items c.self.invariant.table c.args.name f.0 c.slot_of-slot.result c.place_in.result
    (ap (λ m. map.get m c.args.name) c.self.view_is ∙ f.1) (c.slot_of-slot.ensures.slot f.0 f.1) c.place_in.ensures in
    let read = get_or_read t.places.items c.place_in.result c.index_mut.result.now (omega (arith, at.2, at.3, c.place_in.ensures, c.self.invariant.table.all_places)) c.index_mut.ensures.value None in
    rw c.mark.ensures (whole_changed t.places.items t.slots.items t.lasts.items t.taken.items c.place_in.result (with_mark c.args.on) (λ k. refl) (λ k. refl) c.self.invariant c.index_mut.result.now read)

pub returns : goal.returns
returns c =
    let t = c.self.inside in
    let f = some_of (map.get c.args.self.now c.args.name) c.requires in
    let at = named_at t.places.items t.slots.items t.lasts.items c.self.invariant.table c.args.name f.0 c.slot_of-slot.result c.place_in.result
    (ap (λ m. map.get m c.args.name) c.self.view_is ∙ f.1) (c.slot_of-slot.ensures.slot f.0 f.1) c.place_in.ensures in
    let read = get_or_read t.places.items c.place_in.result c.index_mut.result.now (omega (arith, at.2, at.3, c.place_in.ensures, c.self.invariant.table.all_places)) c.index_mut.ensures.value None in
    rw c.mark.ensures (forks_changed t.places.items t.slots.items t.lasts.items c.place_in.result (with_mark c.args.on) (λ k. refl) (λ k. refl) c.self.invariant.table c.index_mut.result.now read
    ∙ (ap (λ o. changed (forks_of t.places.items) (with_mark c.args.on) o) (read ∙ (at.0 ∙ sym f.1)) ∙ ap (λ m. changed m (with_mark c.args.on) (map.get c.args.self.now c.args.name)) c.self.view_is))
