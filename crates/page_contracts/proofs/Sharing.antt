-- How frames are shared out: among pages, and among those for whom pages are held.
use Rattle.std.proofs.Common.{◌≡◌, ◌≢◌, ◌⊎◌, inl, inr, ℕ, zero, suc, ◌+◌, List, [], ◌∷◌, Bool, true, false, cond, not, ◌==◌, refl, sym, ◌∙◌, ap, subst, arith, ◌≤◌, Contains}
use Rattle.std.specs.Prelude.{◌&&◌, ◌<◌, ◌-◌, ◌*◌, ◌/◌, Option, None, Some, IsSome, MatchOption, count_by, length, nat_lt}
use Rattle.std.specs.List.{list_any}
use Rattle.std.specs.Option.{option_map_or}
use Rattle.std.proofs.lemmas.Bool.Decides.{eqb_tells, leb_tells}
use Rattle.std.proofs.lemmas.Bool.{cases_lt}
use Rattle.std.proofs.lemmas.List.{get_or_past}
use Rattle.std.proofs.Math.Nat.{mul-div-le}
use Rattle.page_contracts.specs.declared.store.TheConstants.{CONSOLE_HOLDER, MOST_HOLDERS}
use Rattle.page_contracts.specs.Stores.{StoreMeaning, AllStay, CanLeave, HomePlace, IsNext, IsSound, Transfer, away, departs, free, held_frames, holders_of, is_arrival, is_here, moves, place}
use Rattle.page_contracts.proofs.Sums.{sum_to, one_if, number_sum, sum_le, sum_add, sum_none, sum_swap, sum_once, sum_has, sum_between, count_cons, sum_counts, count_places, any_count, none_count, count_both, found_in, in_found, count_moves, arrive_or_leave, moved_so, leaves_so}

-- a page that is somewhere has a home below their number
place_below : (places : List HomePlace) (home : ℕ) → (place places home ≡ free → ⊥) → home < length places
place_below places home taken = elim (cases_lt home (length places)) [ inl below ↦ below | inr past ↦ absurd (taken (get_or_past places home free past)) ]

module _ {S : Type 0} (means : StoreMeaning S) (s : S) (sound : IsSound means s) where
  moved_below : (home : ℕ) → list_any (moves home) (means.queue s) ≡ true → home < length (means.homes s)
  moved_below home some = place_below (means.homes s) home (elim (moved_so home (means.queue s) some) [
    | inl a ↦ (λ is. (let z : away ≡ free = sym (sound.comes home a) ∙ is in cc z))
    | inr d ↦ (λ is. (let z : true ≡ false = sym (sound.goes home d) ∙ ap is_here is in cc z))
  ])

  -- no more transfers are queued than there are homes
  pub queue_homes : length (means.queue s) ≤ length (means.homes s)
  queue_homes =
      let each = count_moves (length (means.homes s)) (λ t. true) (means.queue s) moved_below in
      let few = sum_le (length (means.homes s)) (λ home. count_by (λ t. true && moves home t) (means.queue s)) (λ home. 1) (λ home below. sound.once home) in
      omega (arith, each, few, ones (length (means.homes s)), all (means.queue s))
    where
      ones : (n : ℕ) → sum_to n (λ k. 1) ≡ n
      ones zero = refl
      ones (suc n) = (let rest = ones n in omega (arith, rest))

      all : (ts : List Transfer) → count_by (λ t. true) ts ≡ length ts
      all [] = refl
      all (t ∷ ts) = (let rest = all ts in omega (arith, rest, count_cons (λ (u : Transfer). true) t ts))

  -- nor than there are frames
  pub queue_frames : length (means.queue s) ≤ means.frames s
  queue_frames =
      let each = count_moves (length (means.homes s)) (λ t. not (is_arrival t)) (means.queue s) moved_below in
      let few = sum_le (length (means.homes s)) (λ home. count_by (λ t. not (is_arrival t) && moves home t) (means.queue s)) (λ home. one_if (is_here (place (means.homes s) home))) (λ home below. leaves home (is_here (place (means.homes s) home)) refl) in
      omega (arith, each, few, count_places is_here free (means.homes s), arrive_or_leave (means.queue s), sound.shared)
    where
      leaves : (home : ℕ) (b : Bool) → is_here (place (means.homes s) home) ≡ b → count_by (λ t. not (is_arrival t) && moves home t) (means.queue s) ≤ one_if (is_here (place (means.homes s) home))
      leaves home true is = (let own = ap one_if is in let e : one_if true ≡ 1 = refl in omega (arith, own, e, sound.once home, count_both (λ t. not (is_arrival t)) (moves home) (means.queue s)))
      leaves home false is =
          let none : list_any (departs home) (means.queue s) ≡ false = at (list_any (departs home) (means.queue s)) refl in
          let same : count_by (λ t. not (is_arrival t) && moves home t) (means.queue s) ≡ count_by (departs home) (means.queue s) = ap (λ p. count_by p (means.queue s)) (λ i t. leaves_so home t i) in
          omega (arith, same, none_count (departs home) (means.queue s) none)
        where
          at : (b : Bool) → list_any (departs home) (means.queue s) ≡ b → b ≡ false
          at true some = absurd (let z : true ≡ false = sym (sound.goes home some) ∙ is in cc z)
          at false some = refl

  -- those of members, 128 for each, and those of the console
  pub holds_few : 32 ≤ means.frames s → means.flat ≡ false → sum_to MOST_HOLDERS (λ k. length (means.holds s k)) + 32 ≤ means.frames s + length (means.holds s CONSOLE_HOLDER)
  holds_few many flat =
      let each = sum_le MOST_HOLDERS (λ k. length (means.holds s k)) (λ k. cond (nat_lt (0 + k) (means.members s)) 128 0 + cond (k == CONSOLE_HOLDER) (length (means.holds s CONSOLE_HOLDER)) 0) (λ k below. one k (k == CONSOLE_HOLDER) refl (nat_lt (0 + k) (means.members s)) refl) in
      let split = sum_add MOST_HOLDERS (λ k. cond (nat_lt (0 + k) (means.members s)) 128 0) (λ k. cond (k == CONSOLE_HOLDER) (length (means.holds s CONSOLE_HOLDER)) 0) in
      let members = sum_between MOST_HOLDERS 0 (means.members s) in
      let console = sum_once MOST_HOLDERS (length (means.holds s CONSOLE_HOLDER)) (λ k. k == CONSOLE_HOLDER) only in
      let parts : 128 * ((means.frames s - 32) / 128) ≤ means.frames s - 32 = mul-div-le (means.frames s - 32) 128 in
      let shares : means.members s ≡ (means.frames s - 32) / 128 = sound.members flat in
      omega (arith, many, each, split, members, console, parts, shares)
    where
      only : (i j : ℕ) → (i == CONSOLE_HOLDER) ≡ true → (j == CONSOLE_HOLDER) ≡ true → i ≡ j
      only i j p q = elim (eqb_tells i CONSOLE_HOLDER) [
        | inl a ↦ elim (eqb_tells j CONSOLE_HOLDER) [ inl b ↦ a.1 ∙ sym b.1 | inr b ↦ absurd (let z : true ≡ false = sym q ∙ b.0 in cc z) ]
        | inr a ↦ absurd (let z : true ≡ false = sym p ∙ a.0 in cc z)
      ]

      one : (k : ℕ) (c : Bool) → (k == CONSOLE_HOLDER) ≡ c → (m : Bool) → nat_lt (0 + k) (means.members s) ≡ m
          → length (means.holds s k) ≤ cond (nat_lt (0 + k) (means.members s)) 128 0 + cond (k == CONSOLE_HOLDER) (length (means.holds s CONSOLE_HOLDER)) 0
      one k true is m small =
          let same : k ≡ CONSOLE_HOLDER = elim (eqb_tells k CONSOLE_HOLDER) [ inl t ↦ t.1 | inr t ↦ absurd (let z : true ≡ false = sym is ∙ t.0 in cc z) ] in
          let own : cond (k == CONSOLE_HOLDER) (length (means.holds s CONSOLE_HOLDER)) 0 ≡ length (means.holds s CONSOLE_HOLDER) = ap (λ b. cond b (length (means.holds s CONSOLE_HOLDER)) 0) is in
          let length_same : length (means.holds s k) ≡ length (means.holds s CONSOLE_HOLDER) = ap (λ n. length (means.holds s n)) same in
          omega (arith, own, length_same)
      one k false is true small =
          let own : ◌≡◌ {A = ℕ} (cond (nat_lt (0 + k) (means.members s)) 128 0) 128 = ap (λ b. cond b 128 0) small in
          let few : length (means.holds s k) ≤ 128 = subst (λ (n : ℕ). length (means.holds s k) ≤ n) (ap (λ b. cond b 16 128) is) (sound.few_held k) in
          omega (arith, own, few)
      one k false is false small =
          let large : means.members s ≤ k = elim (leb_tells (suc (0 + k)) (means.members s)) [ inl t ↦ absurd (let z : true ≡ false = sym t.0 ∙ small in cc z) | inr t ↦ (let n = t.1 in omega (arith, n)) ] in
          let apart : k ≢ CONSOLE_HOLDER = λ same. elim (eqb_tells k CONSOLE_HOLDER) [ inl t ↦ (let z : true ≡ false = sym t.0 ∙ is in cc z) | inr t ↦ t.1 same ] in
          let none : length (means.holds s k) ≡ 0 = ap (λ (hs : List ℕ). length hs) (sound.none_held k (inl large) apart) in
          omega (arith, none)

  -- a home is held for as many holders as have it
  holders_counted : (home : ℕ) → nat_lt 0 (holders_of means s home) ≡ true → 1 ≤ sum_to MOST_HOLDERS (λ k. count_by (λ h. h == home) (means.holds s k))
  holders_counted home some =
      let less : 0 < holders_of means s home = elim (leb_tells (suc 0) (holders_of means s home)) [ inl t ↦ t.1 | inr t ↦ absurd (let z : true ≡ false = sym some ∙ t.0 in cc z) ] in
      let sum = number_sum MOST_HOLDERS (λ k. list_any (λ h. h == home) (means.holds s k)) in
      let each = sum_le MOST_HOLDERS (λ k. one_if (list_any (λ h. h == home) (means.holds s k))) (λ k. count_by (λ h. h == home) (means.holds s k)) (λ k below. any_count (λ h. h == home) (means.holds s k)) in
      omega (arith, less, sum, each)

  same_home : (x i j : ℕ) → (x == i) ≡ true → (x == j) ≡ true → i ≡ j
  same_home x i j p q = elim (eqb_tells x i) [
    | inl a ↦ elim (eqb_tells x j) [ inl b ↦ sym a.1 ∙ b.1 | inr b ↦ absurd (let z : true ≡ false = sym q ∙ b.0 in cc z) ]
    | inr a ↦ absurd (let z : true ≡ false = sym p ∙ a.0 in cc z)
  ]

  -- where each page that is in a frame is held, there are no more than holds
  pages_held : ((home : ℕ) → is_here (place (means.homes s) home) ≡ true → nat_lt 0 (holders_of means s home) ≡ true) → count_by is_here (means.homes s) ≤ sum_to MOST_HOLDERS (λ k. length (means.holds s k))
  pages_held held =
      let n = length (means.homes s) in
      let each = sum_le n (λ home. one_if (is_here (place (means.homes s) home))) (λ home. sum_to MOST_HOLDERS (λ k. count_by (λ h. h == home) (means.holds s k))) (λ home below. one home (is_here (place (means.homes s) home)) refl) in
      let turned = sum_swap n MOST_HOLDERS (λ home k. count_by (λ h. h == home) (means.holds s k)) in
      let few = sum_le MOST_HOLDERS (λ k. sum_to n (λ home. count_by (λ h. h == home) (means.holds s k))) (λ k. length (means.holds s k)) (λ k below. sum_counts n (λ home h. h == home) same_home (means.holds s k)) in
      omega (arith, each, turned, few, count_places is_here free (means.homes s))
    where
      one : (home : ℕ) (b : Bool) → is_here (place (means.homes s) home) ≡ b → one_if (is_here (place (means.homes s) home)) ≤ sum_to MOST_HOLDERS (λ k. count_by (λ h. h == home) (means.holds s k))
      one home true is = (let own = ap one_if is in let e : one_if true ≡ 1 = refl in omega (arith, own, e, holders_counted home (held home is)))
      one home false is = (let own = ap one_if is in let e : one_if false ≡ 0 = refl in omega (arith, own, e))

  -- what is held for nobody is in no holder's list
  unheld : (home : ℕ) → nat_lt 0 (holders_of means s home) ≡ false → (holder : ℕ) → Contains (means.holds s holder) home → ⊥
  unheld home none holder there = elim (cases_lt holder MOST_HOLDERS) [
    | inl below ↦
        let least : holders_of means s home ≤ 0 = elim (leb_tells (suc 0) (holders_of means s home)) [ inl t ↦ absurd (let z : true ≡ false = sym t.0 ∙ none in cc z) | inr t ↦ (let n = t.1 in omega (arith, n)) ] in
        let sum = number_sum MOST_HOLDERS (λ k. list_any (λ h. h == home) (means.holds s k)) in
        let has = sum_has MOST_HOLDERS (λ k. one_if (list_any (λ h. h == home) (means.holds s k))) holder below in
        let own : one_if (list_any (λ h. h == home) (means.holds s holder)) ≡ 1 = ap one_if (found_in (means.holds s holder) home there) in
        omega (arith, least, sum, has, own)
    | inr past ↦
        let empty = sound.none_held holder (inr past) (λ same. (let z : MOST_HOLDERS ≤ CONSOLE_HOLDER = subst (λ (n : ℕ). MOST_HOLDERS ≤ n) same past in omega (arith, z))) in
        let z : true ≡ false = sym (found_in (means.holds s holder) home there) ∙ ap (list_any (λ h. h == home)) empty in
        cc z
  ]

  -- whether a frame's page may leave it
  pub may_leave : (frame : ℕ) → ((home : ℕ) × CanLeave means s frame home) ⊎ ((home : ℕ) → CanLeave means s frame home → ⊥)
  may_leave frame = by (means.tenant s frame) refl
    where
      unmoved : (home : ℕ) (b c : Bool) → means.tenant s frame ≡ Some home → list_any (moves home) (means.queue s) ≡ b → nat_lt 0 (holders_of means s home) ≡ c → ((h : ℕ) × CanLeave means s frame h) ⊎ ((h : ℕ) → CanLeave means s frame h → ⊥)
      unmoved home true c is moving held = inr (λ h can. (let same : Some h ≡ Some home = sym can.there ∙ is in let e : h ≡ home = cc same in let z : true ≡ false = sym moving ∙ ap (λ k. list_any (moves k) (means.queue s)) (sym e) ∙ can.still in cc z))
      unmoved home false false is moving held = inl (home, record { there = is; still = moving; unheld = unheld home held })
      unmoved home false true is moving held = inr (λ h can. (let same : Some h ≡ Some home = sym can.there ∙ is in let e : h ≡ home = cc same in let z : true ≡ false = sym held ∙ ap (λ k. nat_lt 0 (holders_of means s k)) (sym e) ∙ nobody h can.unheld in cc z))
        where
          nobody : (h : ℕ) → ((holder : ℕ) → Contains (means.holds s holder) h → ⊥) → nat_lt 0 (holders_of means s h) ≡ false
          nobody h none =
              let sum = number_sum MOST_HOLDERS (λ k. list_any (λ x. x == h) (means.holds s k)) in
              let zero_sum = sum_none MOST_HOLDERS (λ k. one_if (list_any (λ x. x == h) (means.holds s k))) (λ k below. at k (list_any (λ x. x == h) (means.holds s k)) refl) in
              ap (nat_lt 0) (sum ∙ zero_sum)
            where
              at : (k : ℕ) (b : Bool) → list_any (λ x. x == h) (means.holds s k) ≡ b → one_if b ≡ 0
              at k true some = absurd (none k (in_found (means.holds s k) h some))
              at k false some = refl

      by : (o : Option ℕ) → means.tenant s frame ≡ o → ((home : ℕ) × CanLeave means s frame home) ⊎ ((home : ℕ) → CanLeave means s frame home → ⊥)
      by None is = inr (λ h can. (let z : None ≡ Some h = sym is ∙ can.there in cc z))
      by (Some home) is = unmoved home (list_any (moves home) (means.queue s)) (nat_lt 0 (holders_of means s home)) is refl refl

  -- WHO WAITS FOR A FRAME HAS A VICTIM. Where no transfer is queued, and fewer than 32 frames are free or held for the console, a page is next to leave its frame.
  pub victim_there : means.flat ≡ false → 32 ≤ means.frames s → means.queue s ≡ [] → means.spare s + length (means.holds s CONSOLE_HOLDER) < 32 → IsSome (means.victim s)
  victim_there flat many still few = by (means.victim s) refl
    where
      all_held : AllStay means s → (home : ℕ) → is_here (place (means.homes s) home) ≡ true → nat_lt 0 (holders_of means s home) ≡ true
      all_held stay home is = at (nat_lt 0 (holders_of means s home)) refl
        where
          at : (b : Bool) → nat_lt 0 (holders_of means s home) ≡ b → b ≡ true
          at true held = refl
          at false held =
              let f = sound.seated flat home is in
              absurd (stay f.frame home (record { there = f.is; still = ap (list_any (moves home)) still; unheld = unheld home held }))

      by : (o : Option ℕ) → means.victim s ≡ o → IsSome (means.victim s)
      by (Some frame) is = subst IsSome (sym is) refl
      by None is =
          let stay = subst (λ (o : Option ℕ). MatchOption o (AllStay means s) (IsNext means s)) is sound.next in
          let none : count_by is_arrival (means.queue s) ≡ 0 = ap (count_by is_arrival) still in
          absurd (omega (arith, pages_held (all_held stay), holds_few many flat, sound.shared, none, few))

  abbrev pub is_kept : Option ℕ → Bool
  is_kept o = option_map_or (λ home. nat_lt 0 (holders_of means s home)) o false

  abbrev pub has : ℕ → ℕ → Bool
  has frame h = option_map_or (λ home. h == home) (means.tenant s frame) false

  -- AT LEAST 32 FRAMES ARE HELD FOR NOBODY, or free, but for those of the console
  pub frames_left : means.flat ≡ false → 32 ≤ means.frames s → held_frames means s + 32 ≤ means.frames s + length (means.holds s CONSOLE_HOLDER)
  frames_left flat many =
      let n = means.frames s in
      let sum = number_sum n (λ frame. is_kept (means.tenant s frame)) in
      let each = sum_le n (λ frame. one_if (is_kept (means.tenant s frame))) (λ frame. sum_to MOST_HOLDERS (λ k. count_by (has frame) (means.holds s k))) (λ frame below. one frame (means.tenant s frame) refl) in
      let turned = sum_swap n MOST_HOLDERS (λ frame k. count_by (has frame) (means.holds s k)) in
      let few = sum_le MOST_HOLDERS (λ k. sum_to n (λ frame. count_by (has frame) (means.holds s k))) (λ k. length (means.holds s k)) (λ k below. sum_counts n has once (means.holds s k)) in
      omega (arith, sum, each, turned, few, holds_few many flat)
    where
      has_it : (frame h : ℕ) (o : Option ℕ) → means.tenant s frame ≡ o → option_map_or (λ home. h == home) o false ≡ true → means.tenant s frame ≡ Some h
      has_it frame h None is e = absurd (cc e)
      has_it frame h (Some home) is e = elim (eqb_tells h home) [ inl t ↦ is ∙ ap Some (sym t.1) | inr t ↦ absurd (let z : true ≡ false = sym e ∙ t.0 in cc z) ]

      once : (h i j : ℕ) → has i h ≡ true → has j h ≡ true → i ≡ j
      once h i j p q = sound.single i j h (has_it i h (means.tenant s i) refl p) (has_it j h (means.tenant s j) refl q)

      one : (frame : ℕ) (o : Option ℕ) → means.tenant s frame ≡ o → one_if (is_kept (means.tenant s frame)) ≤ sum_to MOST_HOLDERS (λ k. count_by (has frame) (means.holds s k))
      one frame None is = (let own : one_if (is_kept (means.tenant s frame)) ≡ 0 = ap (λ o. one_if (is_kept o)) is in omega (arith, own))
      one frame (Some home) is = at (nat_lt 0 (holders_of means s home)) refl
        where
          at : (b : Bool) → nat_lt 0 (holders_of means s home) ≡ b → one_if (is_kept (means.tenant s frame)) ≤ sum_to MOST_HOLDERS (λ k. count_by (has frame) (means.holds s k))
          at true held =
              let own : one_if (is_kept (means.tenant s frame)) ≡ 1 = ap (λ o. one_if (is_kept o)) is ∙ ap one_if held in
              let same : sum_to MOST_HOLDERS (λ k. count_by (has frame) (means.holds s k)) ≡ sum_to MOST_HOLDERS (λ k. count_by (λ h. h == home) (means.holds s k)) = ap (λ (o : Option ℕ). sum_to MOST_HOLDERS (λ k. count_by (λ h. option_map_or (λ x. h == x) o false) (means.holds s k))) is in
              omega (arith, own, same, holders_counted home held)
          at false held = (let own : one_if (is_kept (means.tenant s frame)) ≡ 0 = ap (λ o. one_if (is_kept o)) is ∙ ap one_if held in omega (arith, own))
