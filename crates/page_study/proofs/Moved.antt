-- The pages are seated anew, one after another, and one is taken out.
use Rattle.std.proofs.Common.{◌≡◌, ◌≢◌, ℕ, min, zero, suc, ◌+◌, ◌-◌, ◌<◌, ◌≤◌, Bool, true, false, List, [], ◌∷◌, length, replicate, take, set, refl, sym, ◌∙◌, ap, subst, arith, ◌⊎◌, inl, inr, length-take, get_or-set_same, get_or-set_other}
use Rattle.std.specs.Prelude.{slice_index}
use Rattle.std.specs.List.{insert, remove}
use Rattle.std.proofs.lemmas.Bool.{cases_eq, cases_lt}
use Rattle.std.proofs.lemmas.List.{get_or-replicate, get_or_past, length-replicate, length-set}
use Rattle.machine_names.specs.declared.names.PageName.{PageName}
use Rattle.sum_tree.specs.Marks.{marks_below, one_if}
use Rattle.page_study.specs.Memories.{is_page}
use Rattle.page_study.specs.declared.seats.LastUse.{LastUse}
use Rattle.page_study.specs.declared.latest_pages.LatestPages.{LatestPages}
use Rattle.page_study.specs.Seats.{AreMoving, IsCut, IsLinked, IsTidy, is_taken, no_use, seat_at, uses, uses_of}
use Rattle.page_study.proofs.Latest.{page_tells}
use Rattle.page_study.proofs.Seated.{all_counted, all_taken, below_kept, last_removed, next_counted, none_first, none_up_to, put_back, seat_left, seated_at, seated_within}

-- ---- fronts

pub whole : (room : ℕ) (us : List LastUse) → IsCut room us us
whole room us = record { kept = room + length us; most = omega arith; is = sym (all_taken us (room + length us) (omega arith)) }

pub take_again : {X : Type 0} (xs : List X) (r c d : ℕ) → d ≡ min c r → take r (take c xs) ≡ take d xs
take_again xs zero c d h = let e : d ≡ 0 = omega arith in rw e refl
take_again xs (suc r) zero d h = let e : d ≡ 0 = omega arith in rw e refl
take_again [] (suc r) (suc c) zero h = refl
take_again [] (suc r) (suc c) (suc d) h = refl
take_again (x ∷ xs) (suc r) (suc c) zero h = absurd (omega arith)
take_again (x ∷ xs) (suc r) (suc c) (suc d) h = ap (λ l. x ∷ l) (take_again xs r c d (omega arith))

pub cut_again : (room : ℕ) (us vs ws : List LastUse) → IsCut room us vs → IsCut room vs ws → IsCut room us ws
cut_again room us vs ws a b = record {
  kept = min a.kept b.kept;
  most = omega (arith, a.most, b.most);
  is = b.is ∙ ap (take b.kept) a.is ∙ take_again us b.kept a.kept (min a.kept b.kept) refl;
}

-- ---- a mark is taken away

module _ (s t : LatestPages) (at : ℕ) (k : IsLinked s) (marked : is_taken s.taken at ≡ true)
    (seats : t.seats ≡ s.seats) (heads : t.heads ≡ s.heads) (next : t.next ≡ s.next) (room : t.room ≡ s.room) (taken : t.taken ≡ set s.taken at false) where
  inside : at < length s.taken
  inside = by (cases_lt at (length s.taken))
    where
      by : (at < length s.taken) ⊎ (length s.taken ≤ at) → at < length s.taken
      by (inl h) = h
      by (inr h) = absurd (cc (sym (get_or_past s.taken at false h) ∙ marked))

  pub left_linked : IsLinked t
  left_linked =
      subst IsLinked (same_parts (record s { taken = t.taken }) t (sym seats) refl (sym heads) (sym next) (sym room)) (record {
        some = k.some;
        places = k.places;
        marks = ap length taken ∙ length-set s.taken at false ∙ k.marks;
        buckets = k.buckets;
        few = k.few;
        within = k.within;
        heads = k.heads;
        links = k.links;
      })
    where
      same_parts : (a b : LatestPages) → a.seats ≡ b.seats → a.taken ≡ b.taken → a.heads ≡ b.heads → a.next ≡ b.next → a.room ≡ b.room → a ≡ b
      same_parts a b p q r u v = λ i. record { seats = p i; taken = q i; heads = r i; next = u i; room = v i }

  pub left_uses : uses_of t ≡ remove (uses_of s) (marks_below s.taken at)
  left_uses = ap (λ (ts : List Bool). uses ts t.seats.items) taken ∙ ap (λ (v : _). uses (set s.taken at false) v.items) seats ∙ seat_left s.taken s.seats.items at k.marks marked

  pub free_there : is_taken t.taken at ≡ false
  free_there = ap (λ (ts : List Bool). is_taken ts at) taken ∙ get_or-set_same s.taken at false false inside

  pub others_stay : (p : ℕ) → p ≢ at → is_taken t.taken p ≡ is_taken s.taken p
  others_stay p ne = ap (λ (ts : List Bool). is_taken ts p) taken ∙ get_or-set_other s.taken at p false false ne

  pub fewer_stay : (p : ℕ) → is_taken s.taken p ≡ false → is_taken t.taken p ≡ false
  fewer_stay p free = elim (cases_eq p at) [
    | inl e ↦ ap (is_taken t.taken) e ∙ free_there
    | inr ne ↦ others_stay p ne ∙ free
  ]

  pub count_stays : marks_below t.taken at ≡ marks_below s.taken at
  count_stays = ap (λ (ts : List Bool). marks_below ts at) taken ∙ below_kept s.taken at at false (omega arith)

-- ---- from seat to seat

-- no page is seated anew yet
pub anew_begun : (s t : LatestPages) → IsTidy s → t.seats ≡ s.seats → t.taken ≡ s.taken → t.room ≡ s.room → t.next ≡ length s.seats.items
    → t.heads.items ≡ replicate (length s.heads.items) (length s.seats.items) → AreMoving t (length s.seats.items)
anew_begun s t tidy seats taken room next heads =
    let k = tidy.linked in
    let long : length t.seats.items ≡ length s.seats.items = ap (λ v. length v.items) seats in
    let many : length t.heads.items ≡ length s.heads.items = ap length heads ∙ length-replicate {A = ℕ} (length s.heads.items) (length s.seats.items) in
    record {
      linked = record {
        some = omega (arith, k.some, room);
        places = omega (arith, k.places, room, long);
        marks = ap length taken ∙ k.marks ∙ sym long;
        buckets = omega (arith, k.buckets, many);
        few = omega (arith, k.few, many);
        within = omega (arith, next, long);
        heads = λ h less.
            let end : slice_index t.heads.items h ≡ length s.seats.items = ap (λ (l : List ℕ). slice_index l h) heads ∙ get_or-replicate (length s.heads.items) h (length s.seats.items) 0 (omega (arith, less, many)) in
            record {
              after = omega (arith, end, next);
              passed = λ p a b c. absurd (omega (arith, a, next, long, c));
              here = λ c. absurd (omega (arith, c, end, long));
            };
        links = λ q a b. absurd (omega (arith, a, b, next, long));
      };
      below = omega (arith, next);
      gap = λ p a b. absurd (omega (arith, a, b, next));
      count =
          let all : length (uses_of t) ≡ marks_below s.taken (length s.taken) = ap (λ (ts : List Bool). length (uses ts t.seats.items)) taken ∙ ap (λ v. length (uses s.taken v.items)) seats ∙ all_counted s.taken s.seats.items k.marks in
          let same : marks_below t.taken (length s.seats.items) ≡ marks_below s.taken (length s.taken) = ap (λ (ts : List Bool). marks_below ts (length s.seats.items)) taken ∙ ap (marks_below s.taken) (sym k.marks) in
          omega (arith, all, same, next, long);
      full = inl (next ∙ sym long);
    }

-- a free seat is passed
pub passed_free : (s : LatestPages) (at : ℕ) → AreMoving s (at + 1) → is_taken s.taken at ≡ false → AreMoving s at
passed_free s at m free =
    let e : at + 1 ≡ suc at = omega arith in
    let none : one_if (is_taken s.taken at) ≡ 0 = ap one_if free in
    record {
      linked = m.linked;
      below = omega (arith, m.below);
      gap = λ p a b. elim (cases_eq p at) [
        | inl same ↦ ap (is_taken s.taken) same ∙ free
        | inr ne ↦ m.gap p (omega arith) b
      ];
      count = omega (arith, m.count, ap (marks_below s.taken) e, next_counted s.taken at, none);
      full = m.full;
    }

module _ (s t : LatestPages) (at : ℕ) (m : AreMoving s (at + 1)) (marked : is_taken s.taken at ≡ true)
    (seats : t.seats ≡ s.seats) (heads : t.heads ≡ s.heads) (next : t.next ≡ s.next) (room : t.room ≡ s.room) (taken : t.taken ≡ set s.taken at false) where
  abbrev d : ℕ
  d = marks_below s.taken at

  long : length t.seats.items ≡ length s.seats.items
  long = ap (λ v. length v.items) seats

  -- the pages up to this seat
  counted : s.next + length (uses_of s) ≡ length s.seats.items + d + 1
  counted =
      let e : at + 1 ≡ suc at = omega arith in
      let one : one_if (is_taken s.taken at) ≡ 1 = ap one_if marked in
      omega (arith, m.count, ap (marks_below s.taken) e, next_counted s.taken at, one)

  gap_left : (p : ℕ) → at ≤ p → p < t.next → is_taken t.taken p ≡ false
  gap_left p a b = elim (cases_eq p at) [
    | inl e ↦ ap (is_taken t.taken) e ∙ free_there s t at m.linked marked seats heads next room taken
    | inr ne ↦ fewer_stay s t at m.linked marked seats heads next room taken p (m.gap p (omega arith) (omega (arith, b, next)))
  ]

  pub last_free : is_taken t.taken (t.next - 1) ≡ false
  last_free = gap_left (t.next - 1) (omega (arith, m.below, next)) (omega (arith, m.below, next))

  pub some_free : 1 ≤ t.next
  some_free = omega (arith, m.below, next)

  -- a page with enough others before it is taken away
  module _ (enough : s.room ≤ d) where
    at_end : s.next ≡ length s.seats.items
    at_end = by m.full
      where
        by : (s.next ≡ length s.seats.items) ⊎ (length (uses_of s) ≤ s.room) → s.next ≡ length s.seats.items
        by (inl h) = h
        by (inr h) = absurd (omega (arith, h, counted, m.linked.within, enough))

    cut_off : uses_of t ≡ take d (uses_of s)
    cut_off = left_uses s t at m.linked marked seats heads next room taken ∙ last_removed (uses_of s) d (omega (arith, counted, at_end))

    pub taken_away : AreMoving t at
    taken_away = record {
      linked = left_linked s t at m.linked marked seats heads next room taken;
      below = omega (arith, m.below, next);
      gap = gap_left;
      count = omega (arith, counted, next, long, ap length cut_off, length-take d (uses_of s), count_stays s t at m.linked marked seats heads next room taken, at_end);
      full = inl (next ∙ at_end ∙ sym long);
    }

    pub cut_there : IsCut s.room (uses_of s) (uses_of t)
    cut_there = record { kept = d; most = enough; is = cut_off }

  -- and any other is moved up
  module _ (u : LatestPages) (last : LastUse) (few : d < s.room) (linked : IsLinked u) (room_is : u.room ≡ t.room) (seats_are : length u.seats.items ≡ length t.seats.items)
      (next_is : u.next + 1 ≡ t.next) (taken_is : u.taken ≡ set t.taken u.next true) (uses_are : uses_of u ≡ insert (uses_of t) (marks_below t.taken u.next) last)
      (last_is : last ≡ (seat_at s.seats.items at).last) where
    same_count : marks_below t.taken u.next ≡ d
    same_count =
        none_up_to t.taken at u.next (omega (arith, m.below, next, next_is)) (λ p a b. gap_left p a (omega (arith, b, next_is))) ∙ count_stays s t at m.linked marked seats heads next room taken

    pub all_stay : uses_of u ≡ uses_of s
    all_stay =
        uses_are ∙ ap (λ k. insert (uses_of t) k last) same_count
        ∙ ap (λ (l : List LastUse). insert l d last) (left_uses s t at m.linked marked seats heads next room taken)
        ∙ ap (insert (remove (uses_of s) d) d) (last_is ∙ sym (seated_at s.taken s.seats.items at m.linked.marks marked))
        ∙ put_back (uses_of s) d no_use (seated_within s.taken s.seats.items at m.linked.marks marked)

    pub moved_up : AreMoving u at
    moved_up = record {
      linked = linked;
      below = omega (arith, m.below, next, next_is);
      gap = λ p a b.
          ap (λ (ts : List Bool). is_taken ts p) taken_is ∙ get_or-set_other t.taken u.next p true false (omega (arith, b)) ∙ gap_left p a (omega (arith, b, next_is));
      count =
          let kept : marks_below u.taken at ≡ marks_below t.taken at = ap (λ (ts : List Bool). marks_below ts at) taken_is ∙ below_kept t.taken u.next at true (omega (arith, m.below, next, next_is)) in
          omega (arith, counted, next, next_is, seats_are, long, ap length all_stay, kept, count_stays s t at m.linked marked seats heads next room taken);
      full = by m.full;
    }
      where
        by : (s.next ≡ length s.seats.items) ⊎ (length (uses_of s) ≤ s.room) → (u.next ≡ length u.seats.items) ⊎ (length (uses_of u) ≤ u.room)
        by (inl h) = inr (omega (arith, h, counted, ap length all_stay, few, room_is, room))
        by (inr h) = inr (omega (arith, h, ap length all_stay, room_is, room))

    pub cut_nowhere : IsCut s.room (uses_of s) (uses_of u)
    cut_nowhere = subst (λ (l : List LastUse). IsCut s.room (uses_of s) l) (sym all_stay) (whole s.room (uses_of s))

-- all are seated anew
pub anew_tidy : (s : LatestPages) → AreMoving s 0 → IsTidy s
anew_tidy s m = record { linked = m.linked; free = λ p less. m.gap p (omega arith) less }

pub anew_some : (s : LatestPages) → AreMoving s 0 → 1 ≤ s.next
anew_some s m = by m.full
  where
    by : (s.next ≡ length s.seats.items) ⊎ (length (uses_of s) ≤ s.room) → 1 ≤ s.next
    by (inl h) = omega (arith, h, m.linked.places)
    by (inr h) = omega (arith, h, m.count, none_first s.taken, m.linked.places)

-- ---- a page is taken out

pub same_page : (n m : PageName) → is_page n m ≡ true → n ≡ m
same_page n m h = elim (page_tells n m) [ inl t ↦ t.1 | inr t ↦ absurd (cc (sym t.0 ∙ h)) ]

pub use_is : (u : LastUse) (n : PageName) → u.page ≡ n → u ≡ record { page = n; number = u.number }
use_is u n e = λ i. record { page = e i; number = u.number }
