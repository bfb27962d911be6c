-- The plain maps that maps in pages are, fork by fork.
use Rattle.std.proofs.Common.{◌≡◌, ℕ, List, [], ◌∷◌, true, false, Bool, cond, Option, None, Some, refl, ◌∙◌, ap}
use Rattle.std.specs.Prelude.{slice_get}
use Rattle.std.specs.Option.{option_map, option_map_or, option_and_then}
use Rattle.std.specs.FinMap as fin
use Rattle.machine_names.specs.declared.names.ForkName.{ForkName}
use Rattle.machine_names.specs.declared.names.Slot.{Slot}
use Rattle.machine_names.specs.Orders.{fork_cmp, same_fork}
use Rattle.machine_names.proofs.OrderLemmas.{fork_cmp_total, fork_tied}
use Rattle.plain_pages.specs.PlainPages.{Map, Maps}
use Rattle.plain_pages.specs.Maps.{entry_at}
use Rattle.page_contracts.specs.DrumWords.{DrumWords}
use Rattle.page_contracts.specs.Stores.{HomePlace, content}
use Rattle.pager_walk.specs.declared.map_pages.MapPage.{MapPage}
use Rattle.pager_walk.specs.MapPages.{root_at, one_later, index_of}
use Rattle.pager_walk.specs.PagedMaps.{Tables, row_of, rows_from, maps_over}

pub inserted : (maps : Maps) (k q : ForkName) (m : Map) → fin.get (fin.insert maps k m) q ≡ cond (same_fork q k) (Some m) (fin.get maps q)
inserted maps k q m = fin.get-insert fork_cmp_total maps k m q ∙ ap (λ b. cond b (Some m) (fin.get maps q)) (fork_tied q k)

module _ (t : Tables) (words : ℕ → Option (List ℕ)) where
  -- the map of a fork, by its number
  abbrev row_at : List MapPage → ℕ → Map
  row_at maps k = row_of t (words (root_at maps k).0)

  abbrev numbered : List MapPage → Option ℕ → Option Map
  numbered maps o = option_map (row_at maps) o

  later : (m : MapPage) (maps : List MapPage) (o : Option ℕ) → numbered maps o ≡ numbered (m ∷ maps) (one_later o)
  later m maps None = refl
  later m maps (Some k) = refl

  pub get_from : (maps : List MapPage) (f : ForkName) → fin.get (rows_from t words maps) f ≡ numbered maps (index_of maps f)
  get_from [] f = fin.get-empty fork_cmp f
  get_from (m ∷ maps) f = by m.fork (get_from maps f)
    where
      chosen : (b : Bool) → cond b (Some (row_of t (words m.home.0))) (numbered maps (index_of maps f)) ≡ numbered (m ∷ maps) (cond b (Some 0) (one_later (index_of maps f)))
      chosen true = refl
      chosen false = later m maps (index_of maps f)

      by : (o : Option ForkName) → fin.get (rows_from t words maps) f ≡ numbered maps (index_of maps f)
          → fin.get (option_map_or (λ g. fin.insert (rows_from t words maps) g (row_of t (words m.home.0))) o (rows_from t words maps)) f ≡ numbered (m ∷ maps) (cond (option_map_or (same_fork f) o false) (Some 0) (one_later (index_of maps f)))
      by None r = r ∙ later m maps (index_of maps f)
      by (Some g) r = inserted (rows_from t words maps) g f (row_of t (words m.home.0)) ∙ ap (λ x. cond (same_fork f g) (Some (row_of t (words m.home.0))) x) r ∙ chosen (same_fork f g)

module _ (t : Tables) (places : List HomePlace) (d : DrumWords) where
  -- the map of a fork over the words of a drum, by its number
  pub get_over : (f : ForkName) → fin.get (maps_over t places d) f ≡ option_map (λ k. row_of t (content places d (root_at t.maps k).0)) (index_of t.maps f)
  unfolding maps_over
  get_over f = get_from t (content places d) t.maps f

  -- the entry of a slot, by the number of its map
  pub entry_over : (s : Slot) (k : ℕ) → index_of t.maps s.fork ≡ Some k → entry_at (maps_over t places d) s ≡ slice_get (row_of t (content places d (root_at t.maps k).0)) s.page
  entry_over s k is = ap (option_and_then (λ (m : Map). slice_get m s.page)) (get_over s.fork ∙ ap (option_map (λ j. row_of t (content places d (root_at t.maps j).0))) is)

  pub entry_none : (s : Slot) → index_of t.maps s.fork ≡ None → entry_at (maps_over t places d) s ≡ None
  entry_none s is = ap (option_and_then (λ (m : Map). slice_get m s.page)) (get_over s.fork ∙ ap (option_map (λ j. row_of t (content places d (root_at t.maps j).0))) is)
