-- Where one map is set, each other fork has its map as before.
use Rattle.std.proofs.Common.{◌≡◌, ◌≢◌, inl, inr, ℕ, ◌<◌, List, Option, None, Some, length, refl, sym, ◌∙◌, ap}
use Rattle.std.specs.Prelude.{slice_set}
use Rattle.std.specs.Option.{option_and_then, option_map}
use Rattle.std.proofs.lemmas.Bool.{cases_eq}
use Rattle.std.proofs.lemmas.List.{get_or-set_same, get_or-set_other}
use Rattle.machine_names.specs.declared.names.ForkName.{ForkName}
use Rattle.page_contracts.specs.Stores.{HomePlace, away_at}
use Rattle.pager_walk.specs.declared.map_pages.MapPage.{MapPage}
use Rattle.pager_walk.specs.MapPages.{fork_at, index_of, map_at, no_map, root_at}
use Rattle.pager_walk.proofs.NumberedMaps.{Once, Searched, index_fork, index_is, index_none, searched}

module _ (maps : List MapPage) (k : ℕ) (m : MapPage) (below : k < length maps) (once : Once (slice_set maps k m)) (g : ForkName) (was : fork_at maps k ≢ Some g) (now : m.fork ≢ Some g) where
  abbrev set : List MapPage
  set = slice_set maps k m

  map_there : (j : ℕ) → j ≢ k → map_at set j ≡ map_at maps j
  map_there j ne = get_or-set_other maps k j m no_map ne

  apart : (j : ℕ) → fork_at maps j ≡ Some g → j ≢ k
  apart j has same = was (ap (fork_at maps) (sym same) ∙ has)

  pub other_index : index_of set g ≡ index_of maps g
  other_index = by (searched maps g)
    where
      none_there : ((j : ℕ) → fork_at maps j ≢ Some g) → (j : ℕ) → fork_at set j ≢ Some g
      none_there none j has = elim (cases_eq j k) [
        | inl same ↦ now (ap (λ (x : MapPage). x.fork) (sym (ap (map_at set) same ∙ get_or-set_same maps k m no_map below)) ∙ has)
        | inr other ↦ none j (ap (λ (x : MapPage). x.fork) (sym (map_there j other)) ∙ has)
      ]

      by : Searched maps g → index_of set g ≡ index_of maps g
      by (inl r) = index_is set once g r.0 (ap (λ (x : MapPage). x.fork) (map_there r.0 (apart r.0 r.2)) ∙ r.2) ∙ sym r.1
      by (inr r) = index_none set g (none_there r.1) ∙ sym r.0

  -- its home too
  pub other_root : (j : ℕ) → index_of maps g ≡ Some j → root_at set j ≡ root_at maps j
  other_root j is = ap (λ (x : MapPage). x.home) (map_there j (apart j (index_fork maps g j is)))

  pub other_home : option_map (λ j. (root_at set j).0) (index_of set g) ≡ option_map (λ j. (root_at maps j).0) (index_of maps g)
  other_home = ap (option_map (λ j. (root_at set j).0)) other_index ∙ by (index_of maps g) refl
    where
      by : (o : Option ℕ) → index_of maps g ≡ o → option_map (λ j. (root_at set j).0) o ≡ option_map (λ j. (root_at maps j).0) o
      by None is = refl
      by (Some j) is = λ i. Some (other_root j is i).0

  -- and it is in a frame as before
  pub other_away : (places places' : List HomePlace) → ((j : ℕ) → index_of maps g ≡ Some j → away_at places' (root_at maps j).0 ≡ away_at places (root_at maps j).0)
      → option_and_then (λ j. away_at places' (root_at set j).0) (index_of set g) ≡ option_and_then (λ j. away_at places (root_at maps j).0) (index_of maps g)
  other_away places places' same = ap (option_and_then (λ j. away_at places' (root_at set j).0)) other_index ∙ by (index_of maps g) refl
    where
      by : (o : Option ℕ) → index_of maps g ≡ o → option_and_then (λ j. away_at places' (root_at set j).0) o ≡ option_and_then (λ j. away_at places (root_at maps j).0) o
      by None is = refl
      by (Some j) is = ap (λ h. away_at places' h.0) (other_root j is) ∙ same j is
