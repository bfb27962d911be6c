-- What is held once a page has come.
use Rattle.std.proofs.Common.{◌≡◌, ◌≢◌, ℕ, ◌+◌, ◌<◌, List, Bool, true, false, ◌&&◌, cond, nat_lt, Option, None, Some, refl, sym, ◌∙◌, ap, arith}
use Rattle.std.specs.Prelude.{◌==◌}
use Rattle.std.proofs.lemmas.Bool.Decides.{nat_tests}
use Rattle.page_contracts.specs.declared.answers.Need.{Need}
use Rattle.page_contracts.specs.declared.store.TheConstants.{CONSOLE_HOLDER}
use Rattle.page_contracts.specs.Stores.{most_held}
use Rattle.page_waits.specs.Holding.{held_more}
use Rattle.page_waits.specs.Waits.{ListsMeaning, AreLists, awaits, waits_with}

module _ {L : Type 0} (lists : ListsMeaning L) (l : L) (sound : AreLists lists l) (home : ℕ) (w : Option Need) (old mid new : ℕ → List ℕ)
    (seats : (k : ℕ) → mid k ≡ cond (nat_lt k (lists.set l) && awaits home (lists.waiting l k)) (held_more (most_held k) home (old k)) (old k))
    (own : (k : ℕ) → new k ≡ cond ((k == CONSOLE_HOLDER) && awaits home w) (held_more (most_held k) home (mid k)) (mid k)) where
  pub held_for : (k : ℕ) → new k ≡ cond (awaits home (waits_with w (lists.waiting l) k)) (held_more (most_held k) home (old k)) (old k)
  held_for k = by (k == CONSOLE_HOLDER) refl
    where
      waits_not : (o : Option Need) → lists.waiting l k ≡ o → (nat_lt k (lists.set l) ≡ false) → awaits home o ≡ false
      waits_not None is out = refl
      waits_not (Some n) is out =
          let below : k < lists.set l = sound.seats k (λ none. cc (sym is ∙ none)) in
          let inside : nat_lt k (lists.set l) ≡ true = grind (arith, nat_tests, below) in
          absurd (cc (sym out ∙ inside))

      seat_only : (b : Bool) → nat_lt k (lists.set l) ≡ b → (b && awaits home (lists.waiting l k)) ≡ awaits home (lists.waiting l k)
      seat_only true e = refl
      seat_only false e = sym (waits_not (lists.waiting l k) refl e)

      by : (b : Bool) → (k == CONSOLE_HOLDER) ≡ b → new k ≡ cond (awaits home (cond b w (lists.waiting l k))) (held_more (most_held k) home (old k)) (old k)
      by true e =
          let is : k ≡ 63 = grind (arith, nat_tests, e) in
          let few = sound.few in
          let out : nat_lt k (lists.set l) ≡ false = grind (arith, nat_tests, is, few) in
          let same : mid k ≡ old k = seats k ∙ ap (λ b. cond (b && awaits home (lists.waiting l k)) (held_more (most_held k) home (old k)) (old k)) out in
          own k ∙ ap (λ b. cond (b && awaits home w) (held_more (most_held k) home (mid k)) (mid k)) e ∙ ap (λ hs. cond (awaits home w) (held_more (most_held k) home hs) hs) same
      by false e =
          own k ∙ ap (λ b. cond (b && awaits home w) (held_more (most_held k) home (mid k)) (mid k)) e ∙ seats k
          ∙ ap (λ b. cond b (held_more (most_held k) home (old k)) (old k)) (seat_only (nat_lt k (lists.set l)) refl)

-- of the seats below one, those that wait for the page of a home hold it
abbrev pub AreHeldBelow : ℕ → ℕ → (ℕ → Option Need) → (ℕ → List ℕ) → (ℕ → List ℕ) → Type 0
AreHeldBelow seat home waiting old new = (k : ℕ) → new k ≡ cond (nat_lt k seat && awaits home (waiting k)) (held_more (most_held k) home (old k)) (old k)

-- so one seat more
module _ (seat home : ℕ) (waiting : ℕ → Option Need) (old mid : ℕ → List ℕ)
    (before : AreHeldBelow seat home waiting old mid) where
  -- the seats below this one and below the next
  above : (k : ℕ) → k ≢ seat → nat_lt k (seat + 1) ≡ nat_lt k seat
  above k other = by (nat_lt k seat) refl
    where
      by : (b : Bool) → nat_lt k seat ≡ b → nat_lt k (seat + 1) ≡ b
      by true e =
          let low : k < seat = grind (arith, nat_tests, e) in
          grind (arith, nat_tests, low)
      by false e =
          let high : seat < k = grind (arith, nat_tests, e, other) in
          grind (arith, nat_tests, high)

  -- another seat is as it was
  others : (k : ℕ) → k ≢ seat → mid k ≡ cond (nat_lt k (seat + 1) && awaits home (waiting k)) (held_more (most_held k) home (old k)) (old k)
  others k other = before k ∙ ap (λ b. cond (b && awaits home (waiting k)) (held_more (most_held k) home (old k)) (old k)) (sym (above k other))

  -- nothing is held for this one yet
  not_yet : (k : ℕ) → k ≡ seat → mid k ≡ old k
  not_yet k same =
      let low : nat_lt k seat ≡ false = grind (arith, nat_tests, same) in
      before k ∙ ap (λ b. cond (b && awaits home (waiting k)) (held_more (most_held k) home (old k)) (old k)) low

  own : (k : ℕ) (b : Bool) → k ≡ seat → awaits home (waiting seat) ≡ b → cond (nat_lt k (seat + 1) && awaits home (waiting k)) (held_more (most_held k) home (old k)) (old k) ≡ cond b (held_more (most_held k) home (old k)) (old k)
  own k b same is =
      let up : nat_lt k (seat + 1) ≡ true = grind (arith, nat_tests, same) in
      ap (λ c. cond (c && awaits home (waiting k)) (held_more (most_held k) home (old k)) (old k)) up ∙ ap (λ c. cond c (held_more (most_held k) home (old k)) (old k)) (ap (λ n. awaits home (waiting n)) same ∙ is)

  pub held_next : (new : ℕ → List ℕ) → awaits home (waiting seat) ≡ true → ((k : ℕ) → new k ≡ cond (k == seat) (held_more (most_held seat) home (mid k)) (mid k))
      → AreHeldBelow (seat + 1) home waiting old new
  held_next new is after k = by (k == seat) refl
    where
      by : (b : Bool) → (k == seat) ≡ b → new k ≡ cond (nat_lt k (seat + 1) && awaits home (waiting k)) (held_more (most_held k) home (old k)) (old k)
      by true e =
          let same : k ≡ seat = grind (arith, nat_tests, e) in
          after k ∙ ap (λ b. cond b (held_more (most_held seat) home (mid k)) (mid k)) e ∙ ap (λ n. held_more (most_held n) home (mid k)) (sym same) ∙ ap (held_more (most_held k) home) (not_yet k same) ∙ sym (own k true same is)
      by false e =
          let other : k ≢ seat = grind (arith, nat_tests, e) in
          after k ∙ ap (λ b. cond b (held_more (most_held seat) home (mid k)) (mid k)) e ∙ others k other

  pub held_not : awaits home (waiting seat) ≡ false → AreHeldBelow (seat + 1) home waiting old mid
  held_not is k = by (k == seat) refl
    where
      by : (b : Bool) → (k == seat) ≡ b → mid k ≡ cond (nat_lt k (seat + 1) && awaits home (waiting k)) (held_more (most_held k) home (old k)) (old k)
      by true e =
          let same : k ≡ seat = grind (arith, nat_tests, e) in
          not_yet k same ∙ sym (own k false same is)
      by false e =
          let other : k ≢ seat = grind (arith, nat_tests, e) in
          others k other
