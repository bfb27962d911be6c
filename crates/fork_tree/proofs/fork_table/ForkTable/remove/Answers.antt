use Rattle.std.proofs.Common.{◌≡◌, ◌<◌, ◌∙◌, sym, ap, arith, None, get_or, length, length-set}
use Rattle.std.proofs.lemmas.List.{get_or_read}
use Rattle.std.specs.FinMap as map
use Rattle.machine_names.specs.declared.names.ForkName.{ForkName}
use Rattle.fork_tree.specs.Places.{forks_of, place_in}
use Rattle.fork_tree.proofs.Slots.{some_of}
use Rattle.fork_tree.proofs.Taken.{taken_gone}
use Rattle.fork_tree.proofs.Tables.{named_at}
use Rattle.fork_tree.proofs.TableChanges.{forks_gone, table_gone}
use Rattle.fork_tree.proofs.fork_table.ForkTable.remove.Goals as goal

pub index_mut-requires : goal.index_mut-requires
index_mut-requires c =
    let t = c.self.inside in
    let f = some_of (map.get c.args.self.now c.args.name) c.requires in
    let at = named_at t.places.items t.slots.items t.lasts.items c.self.invariant.table c.args.name f.0 c.slot_of-slot.result c.place_in.result
    (ap (λ m. map.get m c.args.name) c.self.view_is ∙ f.1) (c.slot_of-slot.ensures.slot f.0 f.1) c.place_in.ensures in
    omega (arith, at.2, at.3, c.place_in.ensures, c.self.invariant.table.all_places)

pub index-requires : goal.index-requires
index-requires c =
    let t = c.self.inside in
    let f = some_of (map.get c.args.self.now c.args.name) c.requires in
    let at = named_at t.places.items t.slots.items t.lasts.items c.self.invariant.table c.args.name f.0 c.slot_of-slot.result c.place_in.result
    (ap (λ m. map.get m c.args.name) c.self.view_is ∙ f.1) (c.slot_of-slot.ensures.slot f.0 f.1) c.place_in.ensures in
    omega (arith, at.2, c.from-job.ensures, c.self.invariant.table.all_jobs)

pub last_used-requires : goal.last_used-requires
last_used-requires c =
    let t = c.self.inside in
    let f = some_of (map.get c.args.self.now c.args.name) c.requires in
    let at = named_at t.places.items t.slots.items t.lasts.items c.self.invariant.table c.args.name f.0 c.slot_of-slot.result c.place_in.result
    (ap (λ m. map.get m c.args.name) c.self.view_is ∙ f.1) (c.slot_of-slot.ensures.slot f.0 f.1) c.place_in.ensures in
    let job : c.from-job.result ≡ f.0.name.tty.0 = c.from-job.ensures ∙ ap (λ (n : ForkName). n.tty.0) (sym at.1) in
    let last : c.index.result.now ≡ get_or t.lasts.items f.0.name.tty.0 0 =
    get_or_read t.lasts.items c.from-job.result c.index.result.now (omega (arith, c.from-job.ensures, c.self.invariant.table.all_jobs, at.2)) c.index.ensures 0 ∙ ap (λ k. get_or t.lasts.items k 0) job in
    omega (arith, last, c.self.invariant.table.few c.args.name.tty.0 at.2, ap (λ (n : ForkName). get_or t.lasts.items n.tty.0 0) at.1, ap length c.deref.ensures.value, length-set t.places.items c.place_in.result None, c.self.invariant.table.all_places, at.2)

pub index_mut-requires-2 : goal.index_mut-requires-2
index_mut-requires-2 c =
    let t = c.self.inside in
    let f = some_of (map.get c.args.self.now c.args.name) c.requires in
    let at = named_at t.places.items t.slots.items t.lasts.items c.self.invariant.table c.args.name f.0 c.slot_of-slot.result c.place_in.result
    (ap (λ m. map.get m c.args.name) c.self.view_is ∙ f.1) (c.slot_of-slot.ensures.slot f.0 f.1) c.place_in.ensures in
    omega (arith, at.2, c.from-job.ensures, c.self.invariant.table.all_jobs)

pub invariant_of-self : goal.invariant_of-self
invariant_of-self c =
    let t = c.self.inside in
    let f = some_of (map.get c.args.self.now c.args.name) c.requires in
    let at = named_at t.places.items t.slots.items t.lasts.items c.self.invariant.table c.args.name f.0 c.slot_of-slot.result c.place_in.result
    (ap (λ m. map.get m c.args.name) c.self.view_is ∙ f.1) (c.slot_of-slot.ensures.slot f.0 f.1) c.place_in.ensures in
    let job : c.from-job.result ≡ f.0.name.tty.0 = c.from-job.ensures ∙ ap (λ (n : ForkName). n.tty.0) (sym at.1) in
    let last : c.index.result.now ≡ get_or t.lasts.items f.0.name.tty.0 0 =
    get_or_read t.lasts.items c.from-job.result c.index.result.now (omega (arith, c.from-job.ensures, c.self.invariant.table.all_jobs, at.2)) c.index.ensures 0 ∙ ap (λ k. get_or t.lasts.items k 0) job in
    let slot = c.slot_of-slot.ensures.slot f.0 f.1 in
    let known = (c.self.invariant.table.named c.place_in.result f.0 at.0).0 in
    let word : c.index_mut-3.result.now ≡ get_or t.taken.items f.0.name.tty.0 0 =
    get_or_read t.taken.items c.from-job.result c.index_mut-3.result.now (omega (arith, c.from-job.ensures, c.self.invariant.bits.all_jobs, at.2)) c.index_mut-3.ensures.value 0 ∙ ap (λ k. get_or t.taken.items k 0) job in
    let within : c.place_in.result < length t.places.items = omega (arith, at.2, at.3, c.place_in.ensures, c.self.invariant.table.all_places) in
    rw job (record {
      table = table_gone t.places.items t.slots.items t.lasts.items c.place_in.result c.last_used.result f.0 c.self.invariant.table at.0
          (omega (arith, c.last_used.ensures.upto, last))
          (λ slot above upto.
          ap (λ p. get_or p (place_in f.0.name.tty slot) None) (sym c.deref.ensures.value)
          ∙ (ap (λ (n : ForkName). get_or c.deref.result.now (place_in n.tty slot) None) at.1 ∙ c.last_used.ensures.none slot above (omega (arith, last, upto))));
      bits = taken_gone t.places.items t.taken.items c.place_in.result c.slot_of-slot.result c.index_mut-3.result.now f.0.name.tty c.self.invariant.bits known
          (omega (arith, slot, c.self.invariant.table.first c.place_in.result f.0 at.0)) at.3 (omega (arith, slot, c.self.invariant.table.place c.place_in.result f.0 at.0)) within word;
    })

pub returns : goal.returns
returns c =
    let t = c.self.inside in
    let f = some_of (map.get c.args.self.now c.args.name) c.requires in
    let at = named_at t.places.items t.slots.items t.lasts.items c.self.invariant.table c.args.name f.0 c.slot_of-slot.result c.place_in.result
    (ap (λ m. map.get m c.args.name) c.self.view_is ∙ f.1) (c.slot_of-slot.ensures.slot f.0 f.1) c.place_in.ensures in
    let job : c.from-job.result ≡ f.0.name.tty.0 = c.from-job.ensures ∙ ap (λ (n : ForkName). n.tty.0) (sym at.1) in
    let last : c.index.result.now ≡ get_or t.lasts.items f.0.name.tty.0 0 =
    get_or_read t.lasts.items c.from-job.result c.index.result.now (omega (arith, c.from-job.ensures, c.self.invariant.table.all_jobs, at.2)) c.index.ensures 0 ∙ ap (λ k. get_or t.lasts.items k 0) job in
    forks_gone t.places.items t.slots.items t.lasts.items c.place_in.result c.last_used.result f.0 c.self.invariant.table at.0
    (omega (arith, c.last_used.ensures.upto, last))
    (λ slot above upto.
    ap (λ p. get_or p (place_in f.0.name.tty slot) None) (sym c.deref.ensures.value)
    ∙ (ap (λ (n : ForkName). get_or c.deref.result.now (place_in n.tty slot) None) at.1 ∙ c.last_used.ensures.none slot above (omega (arith, last, upto))))
    ∙ (ap (λ n. map.remove (forks_of t.places.items) n) at.1 ∙ ap (λ m. map.remove m c.args.name) c.self.view_is)
