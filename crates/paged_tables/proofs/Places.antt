-- Where pages are, without those of maps.
use Rattle.std.proofs.Common.{◌≡◌, ◌≢◌, inl, inr, ℕ, zero, suc, List, [], ◌∷◌, Option, None, Some, length, refl, sym, ◌∙◌, ap, arith}
use Rattle.std.specs.Prelude.{slice_set}
use Rattle.std.specs.Option.{option_map_or}
use Rattle.std.proofs.lemmas.Bool.{cases_eq, cases_lt}
use Rattle.std.proofs.lemmas.List.{get_or-set_same, get_or-set_other, get_or_past, length-set, set-set}
use Rattle.outside.specs.Drums.{page_at as drum_page}
use Rattle.machine_names.specs.declared.names.ForkName.{ForkName}
use Rattle.page_contracts.specs.DrumWords.{DrumWords}
use Rattle.page_contracts.specs.Stores.{HomePlace, free, here, over_drum, content, place, FitsHomes}
use Rattle.pager_walk.specs.declared.map_pages.MapPage.{MapPage}
use Rattle.pager_walk.specs.MapPages.{fork_at, root_at}
use Rattle.paged_tables.specs.PagedPlaces.{page_places}

-- no map stands at a home
abbrev pub IsNoRoot : List MapPage → ℕ → Type 0
IsNoRoot maps h = (k : ℕ) (f : ForkName) → fork_at maps k ≡ Some f → (root_at maps k).0 ≢ h

freed : (places : List HomePlace) (h : ℕ) → place (slice_set places h free) h ≡ free
freed places h = elim (cases_lt h (length places)) [
  | inl l ↦ get_or-set_same places h free free l
  | inr past ↦ get_or_past (slice_set places h free) h free (omega (arith, past, length-set places h free))
]

still_free : (places : List HomePlace) (h j : ℕ) → place places j ≡ free → place (slice_set places h free) j ≡ free
still_free places h j e = elim (cases_eq j h) [
  | inl same ↦ ap (place (slice_set places h free)) same ∙ freed places h
  | inr other ↦ get_or-set_other places h j free free other ∙ e
]

pub places_length : (maps : List MapPage) (places : List HomePlace) → length (page_places maps places) ≡ length places
unfolding page_places
places_length [] places = refl
places_length (m ∷ maps) places = by m.fork (places_length maps places)
  where
    by : (o : Option ForkName) → length (page_places maps places) ≡ length places → length (option_map_or (λ f. slice_set (page_places maps places) m.home.0 free) o (page_places maps places)) ≡ length places
    by None rest = rest
    by (Some f) rest = length-set (page_places maps places) m.home.0 free ∙ rest

-- a map's home is as if it were free
pub root_free : (maps : List MapPage) (places : List HomePlace) (k : ℕ) (f : ForkName) → fork_at maps k ≡ Some f → place (page_places maps places) (root_at maps k).0 ≡ free
unfolding page_places
root_free [] places k f e = absurd (cc e)
root_free (m ∷ maps) places zero f e = by m.fork e
  where
    by : (o : Option ForkName) → o ≡ Some f → place (option_map_or (λ g. slice_set (page_places maps places) m.home.0 free) o (page_places maps places)) m.home.0 ≡ free
    by None e = absurd (cc e)
    by (Some g) e = freed (page_places maps places) m.home.0
root_free (m ∷ maps) places (suc k) f e = by m.fork (root_free maps places k f e)
  where
    by : (o : Option ForkName) → place (page_places maps places) (root_at maps k).0 ≡ free → place (option_map_or (λ g. slice_set (page_places maps places) m.home.0 free) o (page_places maps places)) (root_at maps k).0 ≡ free
    by None rest = rest
    by (Some g) rest = still_free (page_places maps places) m.home.0 (root_at maps k).0 rest

-- any other home is as it is
pub place_same : (maps : List MapPage) (places : List HomePlace) (h : ℕ) → IsNoRoot maps h → place (page_places maps places) h ≡ place places h
unfolding page_places
place_same [] places h none = refl
place_same (m ∷ maps) places h none = by m.fork refl (place_same maps places h (λ k f e. none (suc k) f e))
  where
    by : (o : Option ForkName) → m.fork ≡ o → place (page_places maps places) h ≡ place places h → place (option_map_or (λ g. slice_set (page_places maps places) m.home.0 free) o (page_places maps places)) h ≡ place places h
    by None e rest = rest
    by (Some g) e rest = get_or-set_other (page_places maps places) m.home.0 h free free (λ same. none 0 g e (sym same)) ∙ rest

pub content_same : (maps : List MapPage) (places : List HomePlace) (d : DrumWords) (h : ℕ) → IsNoRoot maps h → content (page_places maps places) d h ≡ content places d h
unfolding content
content_same maps places d h none = ap (λ p. over_drum p (drum_page d h)) (place_same maps places h none)

-- what a home has that is taken, and no map's
pub place_here : (maps : List MapPage) (places : List HomePlace) (h : ℕ) (words : List ℕ) → place (page_places maps places) h ≡ here words → IsNoRoot maps h
place_here maps places h words is k f e same = let z : free ≡ here words = sym (root_free maps places k f e) ∙ ap (place (page_places maps places)) same ∙ is in cc z

pub fits_places : (maps : List MapPage) (places : List HomePlace) (d : DrumWords) → FitsHomes places d → FitsHomes (page_places maps places) d
fits_places maps places d fits = record { enough = omega (arith, fits.enough, places_length maps places); pages = fits.pages }

set_apart : {A : Type 0} (xs : List A) (i j : ℕ) (x y : A) → i ≢ j → slice_set (slice_set xs i x) j y ≡ slice_set (slice_set xs j y) i x
set_apart [] i j x y ne = refl
set_apart (z ∷ xs) zero zero x y ne = absurd (ne refl)
set_apart (z ∷ xs) zero (suc j) x y ne = refl
set_apart (z ∷ xs) (suc i) zero x y ne = refl
set_apart (z ∷ xs) (suc i) (suc j) x y ne = ap (λ zs. z ∷ zs) (set_apart xs i j x y (λ e. ne (ap suc e)))

-- a home that is no map's gets another page
pub places_set : (maps : List MapPage) (places : List HomePlace) (h : ℕ) (p : HomePlace) → IsNoRoot maps h → page_places maps (slice_set places h p) ≡ slice_set (page_places maps places) h p
unfolding page_places
places_set [] places h p none = refl
places_set (m ∷ maps) places h p none = by m.fork refl (places_set maps places h p (λ k f e. none (suc k) f e))
  where
    by : (o : Option ForkName) → m.fork ≡ o → page_places maps (slice_set places h p) ≡ slice_set (page_places maps places) h p
        → option_map_or (λ g. slice_set (page_places maps (slice_set places h p)) m.home.0 free) o (page_places maps (slice_set places h p))
        ≡ slice_set (option_map_or (λ g. slice_set (page_places maps places) m.home.0 free) o (page_places maps places)) h p
    by None e rest = rest
    by (Some g) e rest = ap (λ ps. slice_set ps m.home.0 free) rest ∙ set_apart (page_places maps places) h m.home.0 p free (λ same. none 0 g e (sym same))

-- what stands at a home doesn't matter that is as if it were free
over_root : (maps : List MapPage) (places : List HomePlace) (h : ℕ) (p : HomePlace) → slice_set (page_places maps (slice_set places h p)) h free ≡ slice_set (page_places maps places) h free
unfolding page_places
over_root [] places h p = set-set places h p free
over_root (m ∷ maps) places h p = by m.fork (over_root maps places h p)
  where
    by : (o : Option ForkName) → slice_set (page_places maps (slice_set places h p)) h free ≡ slice_set (page_places maps places) h free
        → slice_set (option_map_or (λ g. slice_set (page_places maps (slice_set places h p)) m.home.0 free) o (page_places maps (slice_set places h p))) h free
        ≡ slice_set (option_map_or (λ g. slice_set (page_places maps places) m.home.0 free) o (page_places maps places)) h free
    by None rest = rest
    by (Some g) rest = elim (cases_eq m.home.0 h) [
      | inl same ↦ ap (λ j. slice_set (slice_set (page_places maps (slice_set places h p)) j free) h free) same ∙ set-set (page_places maps (slice_set places h p)) h free free ∙ rest
          ∙ sym (ap (λ j. slice_set (slice_set (page_places maps places) j free) h free) same ∙ set-set (page_places maps places) h free free)
      | inr other ↦ set_apart (page_places maps (slice_set places h p)) m.home.0 h free free other ∙ ap (λ ps. slice_set ps m.home.0 free) rest ∙ sym (set_apart (page_places maps places) m.home.0 h free free other)
    ]

-- a map's home gets another page
pub root_set : (maps : List MapPage) (places : List HomePlace) (k : ℕ) (f : ForkName) (p : HomePlace) → fork_at maps k ≡ Some f → page_places maps (slice_set places (root_at maps k).0 p) ≡ page_places maps places
unfolding page_places
root_set [] places k f p e = absurd (cc e)
root_set (m ∷ maps) places zero f p e = by m.fork e (over_root maps places m.home.0 p)
  where
    by : (o : Option ForkName) → o ≡ Some f → slice_set (page_places maps (slice_set places m.home.0 p)) m.home.0 free ≡ slice_set (page_places maps places) m.home.0 free
        → option_map_or (λ g. slice_set (page_places maps (slice_set places m.home.0 p)) m.home.0 free) o (page_places maps (slice_set places m.home.0 p))
        ≡ option_map_or (λ g. slice_set (page_places maps places) m.home.0 free) o (page_places maps places)
    by None e rest = absurd (cc e)
    by (Some g) e rest = rest
root_set (m ∷ maps) places (suc k) f p e = ap (λ ps. option_map_or (λ g. slice_set ps m.home.0 free) m.fork ps) (root_set maps places k f p e)
