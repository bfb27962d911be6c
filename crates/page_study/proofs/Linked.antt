-- The seats of a bucket, linked in order.
use Rattle.std.proofs.Common.{◌≡◌, ◌≢◌, ℕ, suc, ◌+◌, ◌<◌, ◌≤◌, false, List, length, set, sym, ◌∙◌, ap, subst, arith, inl, inr, get_or-set_same, get_or-set_other}
use Rattle.std.specs.Prelude.{slice_index}
use Rattle.std.proofs.lemmas.Bool.{cases_eq}
use Rattle.std.proofs.lemmas.List.{length-set}
use Rattle.machine_names.specs.declared.names.PageName.{PageName}
use Rattle.page_study.specs.Memories.{is_page}
use Rattle.page_study.specs.declared.seats.Seat.{Seat}
use Rattle.page_study.specs.declared.latest_pages.LatestPages.{LatestPages}
use Rattle.page_study.specs.Seats.{IsLinked, IsNextIn, bucket, no_use, page_of, seat_at}
use Rattle.page_study.proofs.Latest.{page_tells}

-- pages of different buckets are different
pub other_bucket : (count : ℕ) (n m : PageName) → bucket count m ≢ bucket count n → is_page n m ≡ false
other_bucket count n m ne = elim (page_tells n m) [ inl t ↦ absurd (ne (ap (bucket count) (sym t.1))) | inr t ↦ t.0 ]

abbrev pub nobody : Seat
nobody = record { last = no_use; behind = 0 }

pub other_seat : (ss : List Seat) (q p : ℕ) (x : Seat) → p ≢ q → seat_at (set ss q x) p ≡ seat_at ss p
other_seat ss q p x ne = get_or-set_other ss q p x nobody ne

pub same_seat : (ss : List Seat) (q : ℕ) (x : Seat) → q < length ss → seat_at (set ss q x) q ≡ x
same_seat ss q x h = get_or-set_same ss q x nobody h

-- another seat changes before those that are looked at
carried : (ss : List Seat) (count h from at q : ℕ) (x : Seat) → IsNextIn ss count h from at → q < from → IsNextIn (set ss q x) count h from at
carried ss count h from at q x r less = record {
  after = r.after;
  passed = λ p a b inside.
      subst (λ (s : Seat). bucket count s.last.page ≢ h) (sym (other_seat ss q p x (omega arith))) (r.passed p a b (omega (arith, inside, length-set ss q x)));
  here = λ inside.
      subst (λ (s : Seat). bucket count s.last.page ≡ h) (sym (other_seat ss q at x (omega (arith, r.after)))) (r.here (omega (arith, inside, length-set ss q x)));
}

-- a seat of another bucket stands before
widened : (ss : List Seat) (count h q at : ℕ) → IsNextIn ss count h (suc q) at → bucket count (page_of ss q) ≢ h → IsNextIn ss count h q at
widened ss count h q at r other = record {
  after = omega (arith, r.after);
  passed = λ p a b inside. elim (cases_eq p q) [
    | inl e ↦ subst (λ i. bucket count (page_of ss i) ≢ h) (sym e) other
    | inr ne ↦ r.passed p (omega arith) b inside
  ];
  here = r.here;
}

module _ (s t : LatestPages) (x : Seat) (b : ℕ) (k : IsLinked s) (next : t.next + 1 ≡ s.next) (seats : t.seats.items ≡ set s.seats.items t.next x)
    (heads : t.heads.items ≡ set s.heads.items b t.next) (marks : length t.taken ≡ length s.taken) (room : t.room ≡ s.room)
    (of : bucket (length s.heads.items) x.last.page ≡ b) (is_bucket : b < length s.heads.items) (behind : x.behind ≡ slice_index s.heads.items b) where
  abbrev count : ℕ
  count = length s.heads.items

  abbrev after : List Seat
  after = set s.seats.items t.next x

  inside : t.next < length s.seats.items
  inside = omega (arith, k.within, next)

  from_here : (h at : ℕ) → IsNextIn s.seats.items count h s.next at → IsNextIn after count h (suc t.next) at
  from_here h at r =
      let e : s.next ≡ suc t.next = omega (arith, next) in
      carried s.seats.items count h (suc t.next) at t.next x (subst (λ i. IsNextIn s.seats.items count h i at) e r) (omega arith)

  head_is : (h : ℕ) → h < count → IsNextIn after count h t.next (slice_index (set s.heads.items b t.next) h)
  head_is h less = elim (cases_eq h b) [
    | inl e ↦
        let here : slice_index (set s.heads.items b t.next) h ≡ t.next = ap (slice_index (set s.heads.items b t.next)) e ∙ get_or-set_same s.heads.items b t.next 0 is_bucket in
        subst (λ at. IsNextIn after count h t.next at) (sym here) (record {
          after = omega arith;
          passed = λ p a c i. absurd (omega arith);
          here = λ i. ap (λ (u : Seat). bucket count u.last.page) (same_seat s.seats.items t.next x inside) ∙ of ∙ sym e;
        })
    | inr ne ↦
        let other : slice_index (set s.heads.items b t.next) h ≡ slice_index s.heads.items h = get_or-set_other s.heads.items b h t.next 0 ne in
        let apart : bucket count (page_of after t.next) ≢ h =
        λ is. ne (sym is ∙ ap (λ (u : Seat). bucket count u.last.page) (same_seat s.seats.items t.next x inside) ∙ of) in
        subst (λ at. IsNextIn after count h t.next at) (sym other) (widened after count h t.next (slice_index s.heads.items h) (from_here h (slice_index s.heads.items h) (k.heads h less)) apart)
  ]

  link_is : (q : ℕ) → t.next ≤ q → q < length s.seats.items → IsNextIn after count (bucket count (page_of after q)) (suc q) (seat_at after q).behind
  link_is q least less = elim (cases_eq q t.next) [
    | inl e ↦
        let is : seat_at after q ≡ x = ap (seat_at after) e ∙ same_seat s.seats.items t.next x inside in
        let at : IsNextIn after count b (suc q) (slice_index s.heads.items b) =
        subst (λ i. IsNextIn after count b (suc i) (slice_index s.heads.items b)) (sym e) (from_here b (slice_index s.heads.items b) (k.heads b is_bucket)) in
        subst (λ (u : Seat). IsNextIn after count (bucket count u.last.page) (suc q) u.behind) (sym is)
        (subst (λ h. IsNextIn after count h (suc q) x.behind) (sym of) (subst (λ i. IsNextIn after count b (suc q) i) (sym behind) at))
    | inr ne ↦
        subst (λ (u : Seat). IsNextIn after count (bucket count u.last.page) (suc q) u.behind) (sym (other_seat s.seats.items t.next q x ne))
        (carried s.seats.items count _ (suc q) _ t.next x (k.links q (omega (arith, next)) less) (omega arith))
  ]

  -- THE SEATS STAY LINKED WHERE ONE MORE IS TAKEN
  pub stays_linked : IsLinked t
  stays_linked =
      let long : length t.seats.items ≡ length s.seats.items = ap length seats ∙ length-set s.seats.items t.next x in
      let many : length t.heads.items ≡ count = ap length heads ∙ length-set s.heads.items b t.next in
      record {
        some = omega (arith, k.some, room);
        places = omega (arith, k.places, room, long);
        marks = marks ∙ k.marks ∙ sym long;
        buckets = omega (arith, k.buckets, many);
        few = omega (arith, k.few, many);
        within = omega (arith, k.within, next, long);
        heads = λ h less.
            subst (λ (l : List ℕ). IsNextIn t.seats.items (length t.heads.items) h t.next (slice_index l h)) (sym heads)
            (subst (λ c. IsNextIn t.seats.items c h t.next (slice_index (set s.heads.items b t.next) h)) (sym many)
            (subst (λ (l : List Seat). IsNextIn l count h t.next (slice_index (set s.heads.items b t.next) h)) (sym seats) (head_is h (omega (arith, less, many)))));
        links = λ q least less.
            subst (λ c. IsNextIn t.seats.items c (bucket c (page_of t.seats.items q)) (suc q) (seat_at t.seats.items q).behind) (sym many)
            (subst (λ (l : List Seat). IsNextIn l count (bucket count (page_of l q)) (suc q) (seat_at l q).behind) (sym seats) (link_is q least (omega (arith, less, long))));
      }
