-- The maps of the living forks, as those in memory change.
use Rattle.std.proofs.Common.{◌≡◌, ◌≢◌, ◌⊎◌, inl, inr, ℕ, List, [], ◌∷◌, Bool, true, false, cond, Option, None, Some, refl, sym, ◌∙◌, ap, is_some}
use Rattle.std.specs.Prelude.{slice_get}
use Rattle.std.specs.Option.{option_map, option_map_or, option_and_then}
use Rattle.std.specs.FinMap as fin
use Rattle.std.proofs.lemmas.Option.{slice_get-map}
use Rattle.machine_names.specs.declared.names.ForkName.{ForkName}
use Rattle.machine_names.specs.declared.names.PageName.{PageName}
use Rattle.machine_names.specs.declared.names.Slot.{Slot}
use Rattle.plain_pages.specs.PlainPages.{Map, Maps}
use Rattle.machine_names.specs.Orders.{fork_cmp, same_fork}
use Rattle.plain_pages.specs.Maps.{entry_at}
use Rattle.machine_names.proofs.OrderLemmas.{fork_cmp_total, fork_cmp_apart, fork_tied}
use Rattle.flat_tables.specs.declared.held_entry.EntryAt.{EntryAt}
use Rattle.flat_tables.specs.declared.held_map.HeldMap.{HeldMap}
use Rattle.flat_tables.specs.HeldMaps.{map_at, fork_at, held_entry, one_later, index_of, entry_of, entries_of, maps_from, maps_held}
use Rattle.flat_tables.specs.Walks.{slot_of}
use Rattle.flat_tables.proofs.ForkMaps.{SameFork, fork_tells, Once, index_none, index_is, searched}

Names : Type 0
Names = List (Option PageName)

pub inserted : (maps : Maps) (k q : ForkName) (m : Map) → fin.get (fin.insert maps k m) q ≡ cond (same_fork q k) (Some m) (fin.get maps q)
inserted maps k q m = fin.get-insert fork_cmp_total maps k m q ∙ ap (λ b. cond b (Some m) (fin.get maps q)) (fork_tied q k)

module _ (names : List (Option PageName)) where
  -- the map of a fork, by its number
  abbrev numbered : List HeldMap → Option ℕ → Option Map
  numbered maps o = option_map (λ k. entries_of names (map_at maps k)) o

  later : (m : HeldMap) (maps : List HeldMap) (o : Option ℕ) → numbered maps o ≡ numbered (m ∷ maps) (one_later o)
  later m maps None = refl
  later m maps (Some k) = refl

  pub get_from : (maps : List HeldMap) (f : ForkName) → fin.get (maps_from names maps) f ≡ numbered maps (index_of maps f)
  get_from [] f = fin.get-empty fork_cmp f
  get_from (m ∷ maps) f = by m.fork (get_from maps f)
    where
      chosen : (b : Bool) → cond b (Some (entries_of names m)) (numbered maps (index_of maps f)) ≡ numbered (m ∷ maps) (cond b (Some 0) (one_later (index_of maps f)))
      chosen true = refl
      chosen false = later m maps (index_of maps f)

      by : (o : Option ForkName) → fin.get (maps_from names maps) f ≡ numbered maps (index_of maps f)
          → fin.get (option_map_or (λ g. fin.insert (maps_from names maps) g (entries_of names m)) o (maps_from names maps)) f ≡ numbered (m ∷ maps) (cond (option_map_or (same_fork f) o false) (Some 0) (one_later (index_of maps f)))
      by None r = r ∙ later m maps (index_of maps f)
      by (Some g) r = inserted (maps_from names maps) g f (entries_of names m) ∙ ap (λ x. cond (same_fork f g) (Some (entries_of names m)) x) r ∙ chosen (same_fork f g)

  -- the map of a fork is that with its number
  pub get_held : (maps : List HeldMap) (f : ForkName) → fin.get (maps_held names maps) f ≡ option_map (λ k. entries_of names (map_at maps k)) (index_of maps f)
  unfolding maps_held
  get_held maps f = get_from maps f

  pub get_living : (maps : List HeldMap) → Once maps → (f : ForkName) (k : ℕ) → fork_at maps k ≡ Some f → fin.get (maps_held names maps) f ≡ Some (entries_of names (map_at maps k))
  get_living maps once f k e = get_held maps f ∙ ap (option_map (λ j. entries_of names (map_at maps j))) (index_is maps once f k e)

  pub get_gone : (maps : List HeldMap) (f : ForkName) → ((k : ℕ) → fork_at maps k ≢ Some f) → fin.get (maps_held names maps) f ≡ None
  get_gone maps f none = get_held maps f ∙ ap (option_map (λ j. entries_of names (map_at maps j))) (index_none maps f none)

  pub lives_held : (maps : List HeldMap) (f : ForkName) → fin.contains_key (maps_held names maps) f ≡ is_some (index_of maps f)
  lives_held maps f = ap is_some (get_held maps f) ∙ by (index_of maps f)
    where
      by : (o : Option ℕ) → is_some (numbered maps o) ≡ is_some o
      by None = refl
      by (Some k) = refl

  -- the entry of a slot is that in memory
  pub entry_held : (maps : List HeldMap) → Once maps → (at : EntryAt) (s : Slot) → slot_of maps at ≡ Some s → entry_at (maps_held names maps) s ≡ option_map (entry_of names) (held_entry maps at)
  entry_held maps once at s is = by (fork_at maps at.map) refl is
    where
      by : (o : Option ForkName) → fork_at maps at.map ≡ o → option_map (λ f. record { fork = f; page = at.page }) o ≡ Some s → entry_at (maps_held names maps) s ≡ option_map (entry_of names) (held_entry maps at)
      by None is k = absurd (cc k)
      by (Some f) is k =
          let same : ◌≡◌ {A = Slot} (record { fork = f; page = at.page }) s = cc k in
          ap (entry_at (maps_held names maps)) (sym same)
          ∙ ap (option_and_then (λ (m : Map). slice_get m at.page)) (get_living maps once f at.map is)
          ∙ slice_get-map (entry_of names) (map_at maps at.map).entries at.page

  pub entry_gone : (maps : List HeldMap) (s : Slot) → index_of maps s.fork ≡ None → entry_at (maps_held names maps) s ≡ None
  entry_gone maps s none = ap (option_and_then (λ (m : Map). slice_get m s.page)) (get_held maps s.fork ∙ ap (option_map (λ j. entries_of names (map_at maps j))) none)

-- what becomes of all maps where the forks keep their numbers and one map is another
module _ (names names' : List (Option PageName)) (maps maps' : List HeldMap) (once : Once maps) (forks : (k : ℕ) → fork_at maps' k ≡ fork_at maps k) (at : ℕ) (m : Map)
    (here : entries_of names' (map_at maps' at) ≡ m) (others : (k : ℕ) → k ≢ at → entries_of names' (map_at maps' k) ≡ entries_of names (map_at maps k)) where
  once' : Once maps'
  once' j k f a b = once j k f (sym (forks j) ∙ a) (sym (forks k) ∙ b)

  pub maps_changed : (f : ForkName) → fork_at maps at ≡ Some f → maps_held names' maps' ≡ fin.insert (maps_held names maps) f m
  maps_changed f is = fin.same_map fork_cmp_total fork_cmp_apart _ _ (λ q.
      look q (searched_in q) ∙ sym (inserted (maps_held names maps) f q m))
    where
      searched_in : (q : ForkName) → ((k : ℕ) × (fork_at maps k ≡ Some q)) ⊎ ((k : ℕ) → fork_at maps k ≢ Some q)
      searched_in q = elim (searched_here q) [ inl r ↦ inl (r.0, r.2) | inr r ↦ inr r.1 ]
        where
          searched_here : (q : ForkName) → ((k : ℕ) × (index_of maps q ≡ Some k) × (fork_at maps k ≡ Some q)) ⊎ ((index_of maps q ≡ None) × ((k : ℕ) → fork_at maps k ≢ Some q))
          searched_here q = searched maps q

      at_fork : (q : ForkName) (k : ℕ) → fork_at maps k ≡ Some q → SameFork q f → fin.get (maps_held names' maps') q ≡ cond (same_fork q f) (Some m) (fin.get (maps_held names maps) q)
      at_fork q k e (inl t) =
          let k_is : k ≡ at = once k at q e (is ∙ ap Some (sym t.1)) in
          get_living names' maps' once' q k (forks k ∙ e) ∙ ap (λ j. Some (entries_of names' (map_at maps' j))) k_is ∙ ap Some here ∙ sym (ap (λ b. cond b (Some m) (fin.get (maps_held names maps) q)) t.0)
      at_fork q k e (inr t) =
          let ne : k ≢ at = λ s. t.1 (let z : Some q ≡ Some f = sym e ∙ ap (fork_at maps) s ∙ is in cc z) in
          get_living names' maps' once' q k (forks k ∙ e) ∙ ap Some (others k ne) ∙ sym (get_living names maps once q k e) ∙ sym (ap (λ b. cond b (Some m) (fin.get (maps_held names maps) q)) t.0)

      at_none : (q : ForkName) → ((k : ℕ) → fork_at maps k ≢ Some q) → SameFork q f → fin.get (maps_held names' maps') q ≡ cond (same_fork q f) (Some m) (fin.get (maps_held names maps) q)
      at_none q none (inl t) = absurd (none at (is ∙ ap Some (sym t.1)))
      at_none q none (inr t) = get_gone names' maps' q (λ k e. none k (sym (forks k) ∙ e)) ∙ sym (get_gone names maps q none) ∙ sym (ap (λ b. cond b (Some m) (fin.get (maps_held names maps) q)) t.0)

      look : (q : ForkName) → ((k : ℕ) × (fork_at maps k ≡ Some q)) ⊎ ((k : ℕ) → fork_at maps k ≢ Some q) → fin.get (maps_held names' maps') q ≡ cond (same_fork q f) (Some m) (fin.get (maps_held names maps) q)
      look q (inl r) = at_fork q r.0 r.1 (fork_tells q f)
      look q (inr none) = at_none q none (fork_tells q f)
