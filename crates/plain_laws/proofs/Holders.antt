-- Who names a page that is there: an entry of a map, or a page of a file.
use Rattle.std.proofs.Common.{◌≡◌, ◌⊎◌, ℕ, zero, suc, ◌+◌, ◌<◌, true, cond, List, [], ◌∷◌, All, Option, Some, Ordering, inl, inr, refl, sym, ◌∙◌, ap, arith}
use Rattle.std.specs.Prelude.{nat_lt, slice_get}
use Rattle.std.specs.List.{sum_by}
use Rattle.std.specs.Option.{option_and_then}
use Rattle.std.specs.Cmp.{IsTotalOrder}
use Rattle.std.specs.FinMap as map
use Rattle.std.proofs.lemmas.Bool.Decides.{nat_tests}
use Rattle.std.proofs.lemmas.List.Elements.{All-head, All-tail}
use Rattle.std.proofs.lemmas.List.Sums.{sum_by-cons}
use Rattle.machine_names.proofs.OrderLemmas.{file_page_total, fork_cmp_total}
use Rattle.machine_names.specs.Orders.{FilePage, file_page_cmp, fork_cmp}
use Rattle.machine_names.specs.declared.names.Access.{Access}
use Rattle.machine_names.specs.declared.names.PageName.{PageName}
use Rattle.machine_names.specs.declared.names.Slot.{Slot}
use Rattle.plain_pages.specs.declared.map.MapEntry.{MapEntry}
use Rattle.plain_pages.specs.declared.map.MapEntry.TheVariants.{Empty, Names, Follows}
use Rattle.plain_pages.specs.Maps.{entry_at}
use Rattle.plain_pages.specs.PlainPages.{PlainPages, Map}
use Rattle.plain_pages.specs.Room.{page_in, same_page, uses}
use Rattle.plain_pages.specs.WholePages.{AreWhole}
use Rattle.plain_pages.proofs.Counts.{page_tells, weight}
use Rattle.plain_pages.proofs.Whole.{map_uses, tally, uses_are}
use Rattle.plain_model.proofs.Values.{values_all}

more_than_none : (a b : ℕ) → 0 < a + b → (0 < a) ⊎ (0 < b)
more_than_none zero b h = inr (omega (arith, h))
more_than_none (suc a) b h = inl (omega arith)

module _ {X : Type 0} (w : X → ℕ) where
  -- an element that counts, where a sum is not 0
  heavy : (P : X → Type 0) (xs : List X) → All P xs → 0 < sum_by w xs → (x : X) × P x × (0 < w x)
  heavy P [] all h = absurd (omega (arith, h))
  heavy P (x ∷ xs) all h = elim (more_than_none (w x) (sum_by w xs) (omega (arith, h, sum_by-cons w x xs))) [
    | inl here ↦ (x, All-head P x xs all, here)
    | inr later ↦ heavy P xs (All-tail P x xs all) later
  ]

  heavy_at : (xs : List X) → 0 < sum_by w xs → (i : ℕ) × (x : X) × (slice_get xs i ≡ Some x) × (0 < w x)
  heavy_at [] h = absurd (omega (arith, h))
  heavy_at (x ∷ xs) h = elim (more_than_none (w x) (sum_by w xs) (omega (arith, h, sum_by-cons w x xs))) [
    | inl here ↦ (0, x, refl, here)
    | inr later ↦ (let rest = heavy_at xs later in (suc rest.0, rest.1, rest.2, rest.3))
  ]

  heavy_value : {K : Type 0} (R : K → K → Ordering) → IsTotalOrder R → (m : map.FinMap R X) → 0 < sum_by w (map.values m) → (k : K) × (x : X) × (map.get m k ≡ Some x) × (0 < w x)
  heavy_value {K} R o m h =
      let found = heavy (λ x. (k : K) × (map.get m k ≡ Some x)) (map.values m) (values_all R o (λ x. (k : K) × (map.get m k ≡ Some x)) m (λ k x is. (k, is))) h in
      (found.1.0, found.0, found.1.1, found.2)

-- a page that counts is the one that is counted
counts_it : (n m : PageName) → 0 < tally n m → n ≡ m
counts_it n m h = elim (page_tells n m) [
  | inl e ↦ e.1
  | inr e ↦ absurd (let none : tally n m ≡ 0 = ap (λ b. cond b 1 0) e.0 in omega (arith, h, none))
]

names_it : (n : PageName) (e : MapEntry) → 0 < weight (same_page n) page_in e → (a : Access) × (e ≡ Names n a)
names_it n Empty h = absurd (omega (arith, h))
names_it n (Follows serial page a) h = absurd (omega (arith, h))
names_it n (Names m a) h = (a, ap (λ x. Names x a) (sym (counts_it n m h)))

module _ {K : Type 0} {file_cmp : K → K → Ordering} (o : IsTotalOrder file_cmp) (p : PlainPages file_cmp) (w : AreWhole p) (n : PageName) where
  pub named_by : map.contains_key p.objects n ≡ true → ((s : Slot) × (a : Access) × (entry_at p.maps s ≡ Some (Names n a))) ⊎ ((f : FilePage K) × (map.get p.files f ≡ Some n))
  named_by there = elim (more_than_none (sum_by (map_uses n) (map.values p.maps)) (sum_by (tally n) (map.values p.files)) (omega (arith, some (uses p n) (sym (w.named n) ∙ there), uses_are p n))) [
    | inl in_maps ↦
        let m = heavy_value (map_uses n) fork_cmp fork_cmp_total p.maps in_maps in
        let e = heavy_at (weight (same_page n) page_in) m.1 m.3 in
        let is = names_it n e.1 e.3 in
        inl (record { fork = m.0; page = e.0 }, is.0, ap (λ (x : Option Map). option_and_then (λ (y : Map). slice_get y e.0) x) m.2 ∙ e.2 ∙ ap Some is.1)
    | inr in_files ↦
        let f = heavy_value (tally n) (file_page_cmp file_cmp) (file_page_total o) p.files in_files in
        inr (f.0, f.2 ∙ ap Some (sym (counts_it n f.1 f.3)))
  ]
    where
      some : (k : ℕ) → nat_lt 0 k ≡ true → 0 < k
      some k h = grind (arith, nat_tests)
