use Rattle.std.proofs.Common.{◌≡◌, ◌<◌, ◌≤◌, get_or, length, MatchOption, Some, sym, ◌∙◌, ap, subst}
use Rattle.std.proofs.lemmas.List.{get_or_default}
use Rattle.std.specs.Prelude.{nat_eq}
use Rattle.std.specs.Bool.{then_some}
use Rattle.std.specs.Cmp.Lexicographic.{pointwise}
use Rattle.std.specs.FinMap as map
use Rattle.machine_names.specs.declared.names.FileNo.{FileNo}
use Rattle.plain_files.specs.Directory.{IsAbsent}
use Rattle.file_dir.specs.Order.{file_at}
use Rattle.file_dir.proofs.Places.{absent_end, found_or_absent, no_file, split_on}
use Rattle.file_dir.proofs.dir.Dir.find.Goals as goal

pub returns-in_err-f-clause-found : goal.returns-in_err-f-clause-found
returns-in_err-f-clause-found c =
    let m = c.self.inside.names in
    let order = c.self.inside.order.items in
    let name = c.args.name.now in
    let place = c.count_before-place.result in
    let o = c.self.invariant.1 in
    let split = split_on m order o c.deref.result.now c.as_slice.result.now name place c.deref.ensures.value c.as_slice.ensures c.count_before-place.ensures.place
    c.count_before-place.ensures.within in
    let far : length order ≤ place = subst (λ xs. length xs ≤ place) c.deref-2.ensures.value c.in_err-f.ensures.lookup.3 in
    rw c.from_residual.ensures (subst (λ files. IsAbsent files name) c.self.view_is (absent_end m order o name place split far))

pub returns-clause-found : goal.returns-clause-found
returns-clause-found c =
    let m = c.self.inside.names in
    let order = c.self.inside.order.items in
    let name = c.args.name.now in
    let place = c.count_before-place.result in
    let o = c.self.invariant.1 in
    let f = c.in_ok-f.field-0.now in
    let split = split_on m order o c.deref.result.now c.as_slice.result.now name place c.deref.ensures.value c.as_slice.ensures c.count_before-place.ensures.place
    c.count_before-place.ensures.within in
    let inside = c.in_ok-f.ensures.lookup.3.0 in
    let at : f ≡ get_or order place f = subst (λ xs. f ≡ get_or xs place f) c.deref-2.ensures.value c.in_ok-f.ensures.lookup.1 in
    let within : place < length order = subst (λ xs. place < length xs) c.deref-2.ensures.value inside in
    let here : file_at order place ≡ f.0 = ap (λ (g : FileNo). g.0) (get_or_default order place no_file f within ∙ sym at) in
    let named : map.get m f.0 ≡ Some c.name_of.result = ap (λ files. map.get files f.0) c.self.view_is ∙ c.name_of.ensures.name in
    let equal : c.eq.result ≡ pointwise nat_eq c.name_of.result name = c.eq.ensures ∙ (λ i. pointwise nat_eq (c.as_slice-2.ensures i) (c.as_slice-3.ensures i)) in
    rw c.then_some.ensures (subst (λ files. MatchOption (then_some c.eq.result f) (IsAbsent files name) (λ g. map.get files g.0 ≡ Some name)) c.self.view_is
    (found_or_absent m order o name place split f c.name_of.result c.eq.result here named equal))
