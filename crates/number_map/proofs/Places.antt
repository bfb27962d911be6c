-- A row of places is looked up, and changed at one place.
use Rattle.std.proofs.Common.{◌≡◌, ◌≢◌, ℕ, zero, suc, ◌+◌, ◌<◌, ◌≤◌, List, [], ◌∷◌, length, get_or, set, Option, Some, None, sym, ◌∙◌, ap, arith, ◌⊎◌, inl, inr, get_or-set_same, get_or-set_other}
use Rattle.std.specs.Prelude.{replicate}
use Rattle.std.specs.Ordering.{nat_cmp}
use Rattle.std.specs.FinMap as map
use Rattle.std.proofs.lemmas.Bool.{cases_eq, cases_lt}
use Rattle.std.proofs.lemmas.List.{get_or-replicate, get_or_past, length-replicate}
use Rattle.number_map.specs.Numbers.{held}
use Rattle.number_map.proofs.Keys.{get_put, get_put_other, get_gone, get_gone_other, same}

module _ {V : Type 0} where
  -- no number below that of the first place has a value
  pub held_below : (n : ℕ) (places : List (Option V)) (q : ℕ) → q < n → map.get (held n places) q ≡ None
  unfolding held
  held_below n [] q h = map.get-empty nat_cmp q
  held_below n (None ∷ places) q h = held_below (n + 1) places q (omega arith)
  held_below n (Some v ∷ places) q h = get_put_other (held (n + 1) places) n q v (omega arith) ∙ held_below (n + 1) places q (omega arith)

  pub held_at : (n : ℕ) (places : List (Option V)) (k q : ℕ) → q ≡ n + k → map.get (held n places) q ≡ get_or places k None
  unfolding held
  held_at n [] k q e = map.get-empty nat_cmp q
  held_at n (None ∷ places) zero q e = held_below (n + 1) places q (omega arith)
  held_at n (None ∷ places) (suc k) q e = held_at (n + 1) places k q (omega arith)
  held_at n (Some v ∷ places) zero q e = get_put (held (n + 1) places) n q v (omega arith)
  held_at n (Some v ∷ places) (suc k) q e = get_put_other (held (n + 1) places) n q v (omega arith) ∙ held_at (n + 1) places k q (omega arith)

  pub get_held : (places : List (Option V)) (q : ℕ) → map.get (held 0 places) q ≡ get_or places q None
  get_held places q = held_at 0 places q q (omega arith)

  pub held_beyond : (places : List (Option V)) (q : ℕ) → length places ≤ q → map.get (held 0 places) q ≡ None
  held_beyond places q far = get_held places q ∙ get_or_past places q None far

  pub held_put : (places : List (Option V)) (i : ℕ) (v : V) → i < length places → held 0 (set places i (Some v)) ≡ map.insert (held 0 places) i v
  held_put places i v within = same (held 0 (set places i (Some v))) (map.insert (held 0 places) i v) (λ q. get_held (set places i (Some v)) q ∙ there q (cases_eq q i))
    where
      there : (q : ℕ) → (q ≡ i) ⊎ (q ≢ i) → get_or (set places i (Some v)) q None ≡ map.get (map.insert (held 0 places) i v) q
      there q (inl e) = ap (λ k. get_or (set places i (Some v)) k None) e ∙ get_or-set_same places i (Some v) None within ∙ sym (get_put (held 0 places) i q v e)
      there q (inr ne) = get_or-set_other places i q (Some v) None ne ∙ sym (get_put_other (held 0 places) i q v ne ∙ get_held places q)

  pub held_gone : (places : List (Option V)) (i : ℕ) → i < length places → held 0 (set places i None) ≡ map.remove (held 0 places) i
  held_gone places i within = same (held 0 (set places i None)) (map.remove (held 0 places) i) (λ q. get_held (set places i None) q ∙ there q (cases_eq q i))
    where
      there : (q : ℕ) → (q ≡ i) ⊎ (q ≢ i) → get_or (set places i None) q None ≡ map.get (map.remove (held 0 places) i) q
      there q (inl e) = ap (λ k. get_or (set places i None) k None) e ∙ get_or-set_same places i None None within ∙ sym (get_gone (held 0 places) i q e)
      there q (inr ne) = get_or-set_other places i q None None ne ∙ sym (get_gone_other (held 0 places) i q ne ∙ get_held places q)

  -- to take away what isn't there changes nothing
  pub gone_already : (m : map.FinMap nat_cmp V) (i : ℕ) → map.get m i ≡ None → m ≡ map.remove m i
  gone_already m i none = same m (map.remove m i) (λ q. there q (cases_eq q i))
    where
      there : (q : ℕ) → (q ≡ i) ⊎ (q ≢ i) → map.get m q ≡ map.get (map.remove m i) q
      there q (inl e) = ap (λ k. map.get m k) e ∙ none ∙ sym (get_gone m i q e)
      there q (inr ne) = sym (get_gone_other m i q ne)

  -- what is taken away and put back
  pub put_back : (m : map.FinMap nat_cmp V) (k : ℕ) (v : V) → map.get m k ≡ Some v → m ≡ map.insert (map.remove m k) k v
  put_back m k v there = same m (map.insert (map.remove m k) k v) (λ q. back q (cases_eq q k))
    where
      back : (q : ℕ) → (q ≡ k) ⊎ (q ≢ k) → map.get m q ≡ map.get (map.insert (map.remove m k) k v) q
      back q (inl e) = ap (λ n. map.get m n) e ∙ there ∙ sym (get_put (map.remove m k) k q v e)
      back q (inr ne) = sym (get_put_other (map.remove m k) k q v ne ∙ get_gone_other m k q ne)

  -- what is put where nothing was, and taken away
  pub taken_back : (m : map.FinMap nat_cmp V) (k : ℕ) (v : V) → map.get m k ≡ None → map.remove (map.insert m k v) k ≡ m
  taken_back m k v none = same (map.remove (map.insert m k v) k) m (λ q. back q (cases_eq q k))
    where
      back : (q : ℕ) → (q ≡ k) ⊎ (q ≢ k) → map.get (map.remove (map.insert m k v) k) q ≡ map.get m q
      back q (inl e) = get_gone (map.insert m k v) k q e ∙ sym (ap (λ n. map.get m n) e ∙ none)
      back q (inr ne) = get_gone_other (map.insert m k v) k q ne ∙ get_put_other m k q v ne

  -- a row of empty places holds nothing
  abbrev nothing_there : Option V
  nothing_there = None

  none_there : (n q : ℕ) → (q < n) ⊎ (n ≤ q) → get_or (replicate n nothing_there) q None ≡ None
  none_there n q (inl h) = get_or-replicate n q None None h
  none_there n q (inr h) = get_or_past (replicate n None) q None (omega (arith, length-replicate {A = Option V} n None, h))

  pub held_none : (n : ℕ) → held 0 (replicate n nothing_there) ≡ map.empty {X = V} {R = nat_cmp}
  held_none n = same (held 0 (replicate n None)) map.empty (λ q. get_held (replicate n None) q ∙ (none_there n q (cases_lt q n) ∙ sym (map.get-empty nat_cmp q)))
