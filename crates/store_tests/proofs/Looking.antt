-- What a look at a page says of it, and a use of its transfers.
use Rattle.std.proofs.Common.{◌≡◌, ℕ, ◌==◌, List, [], ◌∷◌, Bool, true, false, not, cond, ◌||◌, refl, sym, ◌∙◌, ap}
use Rattle.std.specs.List.{list_any}
use Rattle.std.proofs.lemmas.Bool.{true≢false, false≢true, false_from_ne_true}
use Rattle.page_contracts.specs.Stores.{HomePlace, free, away, here, place, is_here, is_taken, IsUsed, Transfer, arrival, departure, arrives, departs, moves, without}
use Rattle.paged_store.specs.declared.store.PagedStore.{PagedStore}
use Rattle.paged_store.specs.StoreMeaning.{paged_meaning}
use Rattle.paged_store.specs.StoreSound.{paged_sound}

-- a page that is taken and not in a frame
pub away_from : (p : HomePlace) → is_taken p ≡ true → is_here p ≡ false → p ≡ away
away_from free taken gone = absurd (false≢true taken)
away_from away taken gone = refl
away_from (here words) taken gone = absurd (true≢false gone)

-- without arrivals what is left of a home's transfers once its departures are gone is nothing
left_still : (h : ℕ) (q : List Transfer) → list_any (arrives h) q ≡ false → list_any (moves h) (without (departs h) q) ≡ false
left_still h [] none = refl
left_still h (arrival k ∷ ts) none = at (h == k) none (left_still h ts)
  where
    at : (b : Bool) → (b || list_any (arrives h) ts) ≡ false → (list_any (arrives h) ts ≡ false → list_any (moves h) (without (departs h) ts) ≡ false) → (b || list_any (moves h) (without (departs h) ts)) ≡ false
    at true is rest = absurd (true≢false is)
    at false is rest = rest is
left_still h (departure k ∷ ts) none = at (h == k) refl (left_still h ts none)
  where
    at : (b : Bool) → (h == k) ≡ b → list_any (moves h) (without (departs h) ts) ≡ false → list_any (moves h) (cond (not b) (departure k ∷ without (departs h) ts) (without (departs h) ts)) ≡ false
    at true is rest = rest
    at false is rest = ap (λ (b : Bool). b || list_any (moves h) (without (departs h) ts)) is ∙ rest

-- a page that was used has no transfer
pub still_once_used : (s n : PagedStore) (h : ℕ) → is_here (place (paged_meaning.homes s) h) ≡ true → IsUsed paged_meaning h s n → list_any (moves h) (paged_meaning.queue n) ≡ false
still_once_used s n h there used =
    ap (list_any (moves h)) used.rescued.queue
    ∙ left_still h (paged_meaning.queue s) (false_from_ne_true (list_any (arrives h) (paged_meaning.queue s)) (λ some. false≢true (sym (ap is_here ((paged_sound s).comes h some)) ∙ there)))
