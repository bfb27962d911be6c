use Rattle.std.proofs.Common.{◌≡◌, ◌<◌, ◌≤◌, ℕ, ◌++◌, drop, get_or, length, MatchOption, Some, sym, ◌∙◌, ap, subst, arith}
use Rattle.std.proofs.lemmas.Bool.Decides.{Decides-eqb}
use Rattle.std.proofs.lemmas.List.{get_or_default}
use Rattle.std.proofs.lemmas.Slice.Eq.{starts_is}
use Rattle.std.specs.Bool.{then_some}
use Rattle.std.specs.FinMap as map
use Rattle.machine_names.specs.declared.names.FileNo.{FileNo}
use Rattle.plain_files.specs.Directory.{ComesAfter, IsNext}
use Rattle.file_dir.specs.Order.{IsBehind, file_at}
use Rattle.file_dir.proofs.Places.{no_file, split_on}
use Rattle.file_dir.proofs.Listing.{front_of, listed, none_after, none_so_long}
use Rattle.file_dir.proofs.dir.Dir.list.Goals as goal

pub returns-in_err-front : goal.returns-in_err-front
returns-in_err-front c =
    let m = c.self.inside.names in
    let dir = c.args.dir.now in
    let long : 39 < length (front_of dir) = subst (λ d. 39 < length (front_of d)) c.as_slice.ensures c.in_err-front.ensures in
    rw c.from_residual.ensures (subst (λ files. (f : ℕ) → ComesAfter files dir c.args.after f → ⊥) c.self.view_is
    (none_so_long m c.self.inside.order.items c.self.invariant.1 dir c.args.after c.self.invariant.0 long))

pub returns-in_err-f : goal.returns-in_err-f
returns-in_err-f c =
    let m = c.self.inside.names in
    let order = c.self.inside.order.items in
    let dir = c.args.dir.now in
    let o = c.self.invariant.1 in
    let first = c.count_before-first.result in
    let behind = c.place_behind-behind.result in
    let place = c.max-place.result in
    let front : c.as_slice-2.result.now ≡ front_of dir = c.as_slice-2.ensures.value ∙ (c.in_ok-front.ensures ∙ ap front_of c.as_slice.ensures) in
    let split = split_on m order o c.deref-2.result.now c.as_slice-2.result.now (front_of dir) first c.deref-2.ensures.value front c.count_before-first.ensures.place
    c.count_before-first.ensures.within in
    let past : IsBehind order c.args.after behind = subst (λ xs. IsBehind xs c.args.after behind) c.deref.ensures.value c.place_behind-behind.ensures in
    let far : length order ≤ place = subst (λ xs. length xs ≤ place) c.deref-3.ensures.value c.in_err-f.ensures.lookup.3 in
    rw c.from_residual-in_err-f.ensures (subst (λ files. (f : ℕ) → ComesAfter files dir c.args.after f → ⊥) c.self.view_is
    (none_after m order o dir c.args.after first behind place split past (omega (arith, c.max-place.ensures)) (omega (arith, c.max-place.ensures))
    (omega (arith, c.max-place.ensures)) far))

pub returns : goal.returns
returns c =
    let m = c.self.inside.names in
    let order = c.self.inside.order.items in
    let dir = c.args.dir.now in
    let o = c.self.invariant.1 in
    let first = c.count_before-first.result in
    let behind = c.place_behind-behind.result in
    let place = c.max-place.result in
    let f = c.in_ok-f.field-0.now in
    let name = c.name_of.result in
    let front : c.as_slice-2.result.now ≡ front_of dir = c.as_slice-2.ensures.value ∙ (c.in_ok-front.ensures ∙ ap front_of c.as_slice.ensures) in
    let front_again : c.as_slice-4.result.now ≡ front_of dir = c.as_slice-4.ensures.value ∙ (c.in_ok-front.ensures ∙ ap front_of c.as_slice.ensures) in
    let split = split_on m order o c.deref-2.result.now c.as_slice-2.result.now (front_of dir) first c.deref-2.ensures.value front c.count_before-first.ensures.place
    c.count_before-first.ensures.within in
    let past : IsBehind order c.args.after behind = subst (λ xs. IsBehind xs c.args.after behind) c.deref.ensures.value c.place_behind-behind.ensures in
    let at : f ≡ get_or order place f = subst (λ xs. f ≡ get_or xs place f) c.deref-3.ensures.value c.in_ok-f.ensures.lookup.1 in
    let within : place < length order = subst (λ xs. place < length xs) c.deref-3.ensures.value c.in_ok-f.ensures.lookup.3.0 in
    let here : file_at order place ≡ f.0 = ap (λ (g : FileNo). g.0) (get_or_default order place no_file f within ∙ sym at) in
    let named : map.get m f.0 ≡ Some name = ap (λ files. map.get files f.0) c.self.view_is ∙ c.name_of.ensures.name in
    let rest = drop (length c.as_slice-4.result.now) c.as_slice-3.result.now in
    let starts = starts_is Decides-eqb c.as_slice-3.result.now c.as_slice-4.result.now c.starts_with-belongs.result c.starts_with-belongs.ensures.value in
    rw c.then_some.ensures (subst (λ files. MatchOption (then_some c.starts_with-belongs.result f) ((g : ℕ) → ComesAfter files dir c.args.after g → ⊥)
    (λ y. IsNext files dir c.args.after y.0)) c.self.view_is
    (listed m order o dir c.args.after first behind place split past (omega (arith, c.max-place.ensures)) (omega (arith, c.max-place.ensures))
    (omega (arith, c.max-place.ensures))
    within f.0 here name named c.starts_with-belongs.result f (λ i. f.0)
    (λ holds. (rest, sym c.as_slice-3.ensures ∙ (starts.0 holds ∙ ap (λ t. t ++ rest) front_again)))
    (λ file is. starts.1 file (c.as_slice-3.ensures ∙ (is ∙ ap (λ t. t ++ file) (sym front_again))))))
