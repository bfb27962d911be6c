-- Tables in which no fork has a map.
use Rattle.std.proofs.Common.{◌≡◌, ℕ, zero, suc, List, [], ◌∷◌, Bool, true, false, Option, None, Some, is_some, length, replicate, refl, sym, ◌∙◌, ap, ◌≤◌, arith}
use Rattle.std.proofs.lemmas.List.{length-replicate}
use Rattle.std.specs.Option.{option_map_or}
use Rattle.std.specs.FinMap as fin
use Rattle.machine_names.specs.declared.names.ForkName.{ForkName}
use Rattle.machine_names.specs.declared.names.PageName.{PageName}
use Rattle.page_contracts.specs.DrumWords.{DrumWords}
use Rattle.page_contracts.specs.Stores.{HomePlace, content, FitsHomes}
use Rattle.pager_walk.specs.declared.map_pages.MapPage.{MapPage}
use Rattle.fork_maps.specs.declared.map_numbers.TheConstants.{MOST_MAPS}
use Rattle.pager_walk.specs.MapPages.{no_map, fork_at, AreNumbered}
use Rattle.pager_walk.specs.PagedMaps.{Tables, name_at, row_of, rows_from, maps_over, AreRooted, FitsMaps}

pub no_forks : (n k : ℕ) → fork_at (replicate n no_map) k ≡ None
no_forks zero k = refl
no_forks (suc n) zero = refl
no_forks (suc n) (suc k) = no_forks n k

none_is : {A : Type 0} (o : Option ForkName) (f : ForkName) → o ≡ None → o ≡ Some f → A
none_is o f none some = let z : ◌≡◌ {A = Option ForkName} None (Some f) = sym none ∙ some in absurd (cc z)

pub numbered_none : (maps : List MapPage) → length maps ≡ MOST_MAPS → ((k : ℕ) → fork_at maps k ≡ None) → AreNumbered maps
numbered_none maps count none = record {
  count = count;
  once = λ j k f a b. none_is (fork_at maps j) f (none j) a;
  from = λ k f e. none_is (fork_at maps k) f (none k) e;
  below = λ k f e. none_is (fork_at maps k) f (none k) e;
}

no_name : (n h : ℕ) → name_at (replicate n None) h ≡ None
no_name zero h = refl
no_name (suc n) zero = refl
no_name (suc n) (suc h) = no_name n h

rows_none : (t : Tables) (words : ℕ → Option (List ℕ)) (maps : List MapPage) → ((k : ℕ) → fork_at maps k ≡ None) → rows_from t words maps ≡ fin.empty
rows_none t words [] none = refl
rows_none t words (m ∷ maps) none = ap (λ (o : Option ForkName). option_map_or (λ f. fin.insert (rows_from t words maps) f (row_of t (words m.home.0))) o (rows_from t words maps)) (none 0) ∙ rows_none t words maps (λ k. none (suc k))

module _ (t : Tables) (none : (k : ℕ) → fork_at t.maps k ≡ None) where
  pub rooted_none : AreNumbered t.maps → (homes : ℕ) → t.names ≡ replicate homes None → (taken : List Bool) → length taken ≤ homes → AreRooted t taken
  rooted_none numbered homes names taken few = record {
    numbered = numbered;
    there = λ k f e. none_is (fork_at t.maps k) f (none k) e;
    apart = λ j k f g a b same. none_is (fork_at t.maps j) f (none j) a;
    unnamed = λ k f e. none_is (fork_at t.maps k) f (none k) e;
    named = λ h e. let z : false ≡ true = sym (ap (λ (ns : List (Option PageName)). is_some (name_at ns h)) names ∙ ap is_some (no_name homes h)) ∙ e in absurd (cc z);
    few = omega (arith, few, ap (λ (ns : List (Option PageName)). length ns) names, length-replicate {A = Option PageName} homes None);
  }

  pub fits_none : (places : List HomePlace) (d : DrumWords) → FitsHomes places d → FitsMaps t places d
  fits_none places d fits = record { drum = fits; entries = λ k page f e l. none_is (fork_at t.maps k) f (none k) e }

  pub maps_none : (places : List HomePlace) (d : DrumWords) → maps_over t places d ≡ fin.empty
  unfolding maps_over
  maps_none places d = rows_none t (content places d) t.maps none
