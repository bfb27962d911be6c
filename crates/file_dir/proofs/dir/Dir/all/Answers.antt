use Rattle.std.proofs.Common.{◌≡◌, ◌<◌, ◌≤◌, ℕ, get_or, length, sym, ◌∙◌, ap, subst}
use Rattle.std.proofs.lemmas.List.{get_or_default}
use Rattle.machine_names.specs.declared.names.FileNo.{FileNo}
use Rattle.file_dir.specs.Listing.{ComesLater, IsFollowing}
use Rattle.file_dir.specs.Order.{IsBehind, file_at}
use Rattle.file_dir.proofs.Places.{no_file}
use Rattle.file_dir.proofs.Following.{following, none_later}
use Rattle.file_dir.proofs.dir.Dir.all.Goals as goal

pub returns-in_err-f : goal.returns-in_err-f
returns-in_err-f c =
    let m = c.self.inside.names in
    let order = c.self.inside.order.items in
    let place = c.place_behind-place.result in
    let past : IsBehind order c.args.after place = subst (λ xs. IsBehind xs c.args.after place) c.deref.ensures.value c.place_behind-place.ensures in
    let far : length order ≤ place = subst (λ xs. length xs ≤ place) c.deref-2.ensures.value c.in_err-f.ensures.lookup.3 in
    rw c.from_residual.ensures (subst (λ files. (f : ℕ) → ComesLater files c.args.after f → ⊥) c.self.view_is
    (none_later m order c.self.invariant.1 c.args.after place past far))

pub returns : goal.returns
returns c =
    let m = c.self.inside.names in
    let order = c.self.inside.order.items in
    let place = c.place_behind-place.result in
    let f = c.in_ok-f.field-0.now in
    let past : IsBehind order c.args.after place = subst (λ xs. IsBehind xs c.args.after place) c.deref.ensures.value c.place_behind-place.ensures in
    let at : f ≡ get_or order place f = subst (λ xs. f ≡ get_or xs place f) c.deref-2.ensures.value c.in_ok-f.ensures.lookup.1 in
    let within : place < length order = subst (λ xs. place < length xs) c.deref-2.ensures.value c.in_ok-f.ensures.lookup.3.0 in
    let here : file_at order place ≡ f.0 = ap (λ (g : FileNo). g.0) (get_or_default order place no_file f within ∙ sym at) in
    subst (λ files. IsFollowing files c.args.after f.0) c.self.view_is (following m order c.self.invariant.1 c.args.after place past within f.0 here)
