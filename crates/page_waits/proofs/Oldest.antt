-- The oldest transfer has ended.
use Rattle.std.proofs.Common.{◌≡◌, ◌⊎◌, ⊎_elim, inl, inr, ℕ, ◌<◌, ◌≤◌, List, [], ◌∷◌, Bool, true, false, not, ◌||◌, cond, refl, sym, ◌∙◌, ap, subst, arith}
use Rattle.std.specs.Prelude.{◌==◌, count_by}
use Rattle.std.specs.List.{list_any}
use Rattle.std.proofs.lemmas.Bool.Decides.{nat_tests}
use Rattle.std.proofs.lemmas.List.Sums.{sum_by-cons}
use Rattle.page_homes.specs.declared.homes.Home.{Home}
use Rattle.page_contracts.specs.declared.answers.Need.{Need}
use Rattle.page_contracts.specs.declared.answers.Need.TheVariants.{Page, Frame}
use Rattle.page_contracts.specs.Stores.{StoreMeaning, CanKeep, place, is_here, Transfer, arrival, departure, home_of, is_arrival, arrives, departs, moves, need_of, Ends}
use Rattle.page_contracts.specs.declared.store.TheConstants.{CONSOLE_HOLDER}
use Rattle.page_waits.specs.Systems.{IsHoused}
use Rattle.page_waits.proofs.Sums.{one_if}

module _ {S : Type 0} (means : StoreMeaning S) (s s1 : S) (need : Need) (ends : Ends means need s s1) (housed : IsHoused means s) where
  abbrev t : Transfer
  t = ends.transfer

  abbrev q : List Transfer
  q = means.queue s1

  first_one : (p : Transfer → Bool) → p t ≡ true → list_any p (means.queue s) ≡ true
  first_one p is = ap (list_any p) ends.oldest ∙ ap (λ b. b || list_any p q) is

  itself : (h : ℕ) → (h == h) ≡ true
  itself h = grind (arith, nat_tests)

  pub was : is_here (place (means.homes s) (home_of t)) ≡ not (is_arrival t)
  was = by t refl
    where
      by : (u : Transfer) → t ≡ u → is_here (place (means.homes s) (home_of u)) ≡ not (is_arrival u)
      by (arrival h) e = ap is_here (housed.sound.comes h (first_one (arrives h) (ap (arrives h) e ∙ itself h)))
      by (departure h) e = housed.sound.goes h (first_one (departs h) (ap (departs h) e ∙ itself h))

  pub alone : list_any (moves (home_of t)) q ≡ false
  alone = by (list_any (moves (home_of t)) q) refl
    where
      some : (p : Transfer → Bool) (us : List Transfer) → list_any p us ≡ true → 1 ≤ count_by p us
      some p [] e = absurd (cc e)
      some p (u ∷ us) e = split (p u) refl e (some p us)
        where
          split : (b : Bool) → p u ≡ b → (b || list_any p us) ≡ true → (list_any p us ≡ true → 1 ≤ count_by p us) → 1 ≤ count_by p (u ∷ us)
          split true f g rec = omega (arith, sum_by-cons (λ v. cond (p v) 1 0) u us, ap one_if f)
          split false f g rec = omega (arith, sum_by-cons (λ v. cond (p v) 1 0) u us, rec g)

      by : (b : Bool) → list_any (moves (home_of t)) q ≡ b → b ≡ false
      by false e = refl
      by true e =
          let once : count_by (moves (home_of t)) (t ∷ q) ≤ 1 = subst (λ us. count_by (moves (home_of t)) us ≤ 1) ends.oldest (housed.sound.once (home_of t)) in
          absurd (omega (arith, once, sum_by-cons (λ v. cond (moves (home_of t) v) 1 0) t q, ap one_if (itself (home_of t)), some (moves (home_of t)) q e))

  -- a page that has come can be held
  pub can_hold : (home : Home) (k : ℕ) → need ≡ Page home → (k < means.members s) ⊎ (k ≡ CONSOLE_HOLDER) → CanKeep means s1 k home.0
  can_hold home k is below = by t refl (sym ends.told ∙ is)
    where
      number : Need → ℕ
      number (Page h) = h.0
      number Frame = 0

      by : (u : Transfer) → t ≡ u → need_of u ≡ Page home → CanKeep means s1 k home.0
      by (departure h) e f = absurd (cc f)
      by (arrival h) e f =
          let same : home_of t ≡ home.0 = ap home_of e ∙ ap number f in
          record {
            here = subst (λ n. is_here (place (means.homes s1) n) ≡ true) same (ends.moved ∙ ap is_arrival e);
            still = subst (λ n. list_any (moves n) q ≡ false) same alone;
            member = ⊎_elim (λ b. inl (subst (λ n. k < n) (sym ends.members) b)) (λ e. inr e) below;
          }
