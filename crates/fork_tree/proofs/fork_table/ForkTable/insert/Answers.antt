use Rattle.std.proofs.Common.{◌<◌, sym, ◌∙◌, ap, arith, get_or, length}
use Rattle.std.proofs.lemmas.List.{get_or_read}
use Rattle.std.specs.FinMap as map
use Rattle.plain_model.specs.Forks.{fork_in}
use Rattle.fork_tree.proofs.Taken.{taken_put}
use Rattle.fork_tree.proofs.Tables.{in_place}
use Rattle.fork_tree.proofs.TableChanges.{forks_put, table_put}
use Rattle.fork_tree.proofs.fork_table.ForkTable.insert.Goals as goal

pub invariant_of-self : goal.invariant_of-self
invariant_of-self c =
    let t = c.self.inside in
    let f = c.args.fork in
    let last = get_or_read t.lasts.items c.from-job.result c.index.result.now (omega (arith, c.from-job.ensures, c.self.invariant.table.all_jobs, c.requires.named.0)) c.index.ensures 0
    ∙ ap (λ i. get_or t.lasts.items i 0) c.from-job.ensures in
    let word = get_or_read t.taken.items c.from-job.result c.index_mut-4.result.now (omega (arith, c.from-job.ensures, c.self.invariant.bits.all_jobs, c.requires.named.0)) c.index_mut-4.ensures.value 0
    ∙ ap (λ i. get_or t.taken.items i 0) c.from-job.ensures in
    let within : c.place_in.result < length t.places.items = omega (arith, c.place_in.ensures, c.self.invariant.table.all_places, c.requires.named.0, c.requires.last) in
    rw (c.name_index.ensures, c.from-job.ensures) (record {
      table = table_put t.places.items t.slots.items t.lasts.items c.place_in.result c.max.result f c.self.invariant.table c.requires.named c.requires.first c.requires.last
          (sym c.place_in.ensures)
          (in_place t.places.items t.slots.items t.lasts.items c.self.invariant.table f.name.tty f.slot c.place_in.result c.requires.last c.place_in.ensures
          ∙ (ap (λ m. fork_in m f.name.tty f.slot) c.self.view_is ∙ c.requires.free))
          (ap (λ m. map.get m f.name) c.self.view_is ∙ c.requires.absent)
          (omega (arith, c.max.ensures, last)) (omega (arith, c.max.ensures, last)) (omega (arith, c.max.ensures, last, c.requires.last, c.self.invariant.table.few f.name.tty.0 c.requires.named.0));
      bits = taken_put t.places.items t.taken.items c.place_in.result f.slot c.index_mut-4.result.now f.name.tty c.self.invariant.bits c.requires.named.0 c.requires.first c.requires.last c.place_in.ensures within word f;
    })

pub returns : goal.returns
returns c =
    let t = c.self.inside in
    let f = c.args.fork in
    let last = get_or_read t.lasts.items c.from-job.result c.index.result.now (omega (arith, c.from-job.ensures, c.self.invariant.table.all_jobs, c.requires.named.0)) c.index.ensures 0
    ∙ ap (λ i. get_or t.lasts.items i 0) c.from-job.ensures in
    forks_put t.places.items t.slots.items t.lasts.items c.place_in.result c.max.result f c.self.invariant.table c.requires.named c.requires.first c.requires.last
    (sym c.place_in.ensures)
    (in_place t.places.items t.slots.items t.lasts.items c.self.invariant.table f.name.tty f.slot c.place_in.result c.requires.last c.place_in.ensures
    ∙ (ap (λ m. fork_in m f.name.tty f.slot) c.self.view_is ∙ c.requires.free))
    (ap (λ m. map.get m f.name) c.self.view_is ∙ c.requires.absent)
    (omega (arith, c.max.ensures, last)) (omega (arith, c.max.ensures, last)) (omega (arith, c.max.ensures, last, c.requires.last, c.self.invariant.table.few f.name.tty.0 c.requires.named.0))
    ∙ ap (λ m. map.insert m f.name f) c.self.view_is
