use Rattle.std.proofs.Common.{◌≡◌, ◌<◌, length, subst, arith}
use Rattle.file_dir.specs.Order.{file_at}
use Rattle.file_dir.proofs.Places.{files_gone, order_gone}
use Rattle.file_dir.proofs.dir.Dir.delete.Goals as goal

pub invariant_of-self : goal.invariant_of-self
invariant_of-self c =
    let m = c.self.inside.names in
    let order = c.self.inside.order.items in
    let place = c.place_of-place.result in
    let within : place < length order = subst (λ xs. place < length xs) c.deref.ensures.value c.place_of-place.ensures.within in
    let here : file_at order place ≡ c.args.f.0 = subst (λ xs. file_at xs place ≡ c.args.f.0) c.deref.ensures.value c.place_of-place.ensures.place in
    rw (c.remove-2.ensures.gone, c.remove.ensures.items) (
      files_gone m c.self.invariant.0 c.args.f.0,
      order_gone m order c.self.invariant.1 c.args.f.0 place within here,
      omega (arith, c.self.invariant.2, c.remove.ensures.capacity),
    )
