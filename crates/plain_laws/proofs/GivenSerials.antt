-- The serials that entries follow were given out: references and stores make no entry that follows, and a call follows forks that live.
use Rattle.std.proofs.Common.{◌≡◌, ℕ, zero, suc, ◌+◌, ◌<◌, List, [], ◌∷◌, Option, None, Some, ◌⊎◌, inl, inr, refl, sym, ◌∙◌, ap, subst, replicate, Ordering}
use Rattle.std.specs.Prelude.{map, slice_get, slice_set}
use Rattle.std.specs.List.{filter_map, range_with_len}
use Rattle.std.specs.Option.{option_and_then, option_map_or}
use Rattle.std.specs.Cmp.{IsTotalOrder}
use Rattle.std.specs.FinMap as map_of
use Rattle.machine_names.specs.declared.names.TheConstants.{SPACE_PAGES}
use Rattle.machine_names.specs.declared.names.Access.{Access}
use Rattle.machine_names.specs.declared.names.ForkName.{ForkName}
use Rattle.machine_names.specs.declared.names.Kind.{Kind}
use Rattle.machine_names.specs.declared.names.Slot.{Slot}
use Rattle.machine_names.specs.declared.names.Tty.{Tty}
use Rattle.machine_names.specs.declared.names.PageName.{PageName}
use Rattle.plain_pages.specs.declared.map.MapEntry.{MapEntry}
use Rattle.plain_pages.specs.declared.map.MapEntry.TheVariants.{Empty, Names, Follows}
use Rattle.plain_pages.specs.declared.map.NewMap.{NewMap}
use Rattle.plain_pages.specs.declared.map.NewMap.TheVariants.{Empty as EmptyMap, FollowAll}
use Rattle.plain_pages.specs.PlainPages.{PlainPages, Map, Maps}
use Rattle.plain_pages.specs.Maps.{entry_at, full_access, narrow, set_entry}
use Rattle.plain_pages.specs.NewMaps.{empty_map, following_map, new_map}
use Rattle.plain_pages.specs.Room.{HasRoom, page_in}
use Rattle.plain_pages.specs.References.{Making, blank, copy, in_map, in_file, makings, make, make_all, next_page, page_at, granted, denied, reference, slot_at, stored, with_entry, without_fork, with_changed}
use Rattle.plain_pages.specs.WholePages.{AreWhole}
use Rattle.plain_pages.proofs.Kept.{drop_all_leaves, entry_maps}
use Rattle.plain_pages.proofs.Settles.{copy_maps}
use Rattle.plain_pages.proofs.ReferencesMade.{roomy, reference_makes, reference_denied}
use Rattle.plain_units.proofs.PageRuns.{PlanLeaves, stored_maps}
use Rattle.plain_units.specs.Blocks.{stored_from}
use Rattle.plain_units.specs.Steps.{Progress, Steps, plainly, run}
use Rattle.plain_model.specs.declared.call.MapChange.{MapChange}
use Rattle.plain_model.specs.declared.call.MapChange.TheVariants.{Nothing, Unmap, Follow, Narrow, Map as MapPage, Put, Drop}
use Rattle.plain_pages.proofs.FilesKept.{filed_maps}
use Rattle.plain_model.specs.MapCalls.{entry_for, keyed, map_changed}
use Rattle.plain_model.proofs.ForkMaps.{cases_name, get_put, get_put_other, get_gone, get_gone_other}
use Rattle.plain_laws.specs.Whole.{AreGiven}
use Rattle.plain_laws.proofs.Led.{run_led, words_led}

-- an entry that was written, or stood there
set_tells : (m : Map) (i j : ℕ) (y x : MapEntry) → slice_get (slice_set m i y) j ≡ Some x → (x ≡ y) ⊎ (slice_get m j ≡ Some x)
set_tells [] i j y x is = inr is
set_tells (e ∷ es) zero zero y x is = let same : y ≡ x = cc is in inl (sym same)
set_tells (e ∷ es) zero (suc j) y x is = inr is
set_tells (e ∷ es) (suc i) zero y x is = inr is
set_tells (e ∷ es) (suc i) (suc j) y x is = set_tells es i j y x is

abbrev in_page : ℕ → Option Map → Option MapEntry
in_page page o = option_and_then (λ (m : Map). slice_get m page) o

entry_tells : (maps : Maps) (s at : Slot) (y x : MapEntry) → entry_at (set_entry maps s y) at ≡ Some x → ((at.fork ≡ s.fork) × (x ≡ y)) ⊎ (entry_at maps at ≡ Some x)
entry_tells maps s at y x is = by (map_of.get maps s.fork) refl is
  where
    by : (o : Option Map) → map_of.get maps s.fork ≡ o → entry_at (option_map_or (λ m. map_of.insert maps s.fork (slice_set m s.page y)) o maps) at ≡ Some x → ((at.fork ≡ s.fork) × (x ≡ y)) ⊎ (entry_at maps at ≡ Some x)
    by None none is = inr is
    by (Some m) there is = elim (cases_name at.fork s.fork) [
      | inl e ↦ elim (set_tells m s.page at.page y x (sym (ap (in_page at.page) (get_put maps s.fork at.fork (slice_set m s.page y) e)) ∙ is)) [
        | inl same ↦ inl (e, same)
        | inr old ↦ inr (ap (in_page at.page) (ap (map_of.get maps) e ∙ there) ∙ old)
      ]
      | inr ne ↦ inr (sym (ap (in_page at.page) (get_put_other maps s.fork at.fork (slice_set m s.page y) ne)) ∙ is)
    ]

-- the entries of new maps
empty_got : (n i : ℕ) (x : MapEntry) → slice_get (replicate n Empty) i ≡ Some x → x ≡ Empty
empty_got zero i x is = absurd (cc is)
empty_got (suc n) zero x is = let same : Empty ≡ x = cc is in sym same
empty_got (suc n) (suc i) x is = empty_got n i x is

follow_got : (f : ForkName) (from len i : ℕ) (x : MapEntry) → slice_get (map (λ page. Follows f.serial page full_access) (range_with_len from len)) i ≡ Some x → (page : ℕ) × (x ≡ Follows f.serial page full_access)
follow_got f from zero i x is = absurd (cc is)
follow_got f from (suc len) zero x is = let same : Follows f.serial from full_access ≡ x = cc is in (from, sym same)
follow_got f from (suc len) (suc i) x is = follow_got f (from + 1) len i x is

module _ (next : Tty → ℕ) where
  -- an entry that follows, follows a serial that was given out
  abbrev pub IsGiven : Tty → MapEntry → Type 0
  IsGiven t e = (serial page : ℕ) (a : Access) → e ≡ Follows serial page a → serial < next t

  pub set_given : (maps : Maps) (s : Slot) (y : MapEntry) → AreGiven next maps → IsGiven s.fork.tty y → AreGiven next (set_entry maps s y)
  set_given maps s y given fits = λ at serial page a is. elim (entry_tells maps s at y (Follows serial page a) is) [
    | inl e ↦ subst (λ (n : ForkName). serial < next n.tty) (sym e.0) (fits serial page a (sym e.1))
    | inr old ↦ given at serial page a old
  ]

  pub removed_given : (maps : Maps) (f : ForkName) → AreGiven next maps → AreGiven next (map_of.remove maps f)
  removed_given maps f given = λ at serial page a is. elim (cases_name at.fork f) [
    | inl e ↦ absurd (let no : None ≡ Some (Follows serial page a) = sym (ap (in_page at.page) (get_gone maps f at.fork e)) ∙ is in cc no)
    | inr ne ↦ given at serial page a (sym (ap (in_page at.page) (get_gone_other maps f at.fork ne)) ∙ is)
  ]

  -- a new map follows a fork whose serial was given out
  abbrev pub IsNewGiven : Tty → NewMap → Type 0
  IsNewGiven t EmptyMap = Unit {0}
  IsNewGiven t (FollowAll f) = f.serial < next t

  new_given : (t : Tty) (entries : NewMap) → IsNewGiven t entries → (i : ℕ) (x : MapEntry) → slice_get (new_map entries) i ≡ Some x → IsGiven t x
  unfolding empty_map following_map
  new_given t EmptyMap fits i x is = λ serial page a e. (let no : Empty ≡ Follows serial page a = sym (empty_got SPACE_PAGES i x is) ∙ e in absurd (cc no))
  new_given t (FollowAll f) fits i x is = λ serial page a e.
      let got = follow_got f 0 SPACE_PAGES i x is in
      let both : Follows f.serial got.0 full_access ≡ Follows serial page a = sym got.1 ∙ e in
      let same : f.serial ≡ serial = cc both in
      subst (λ n. n < next t) same fits

  pub added_given : (maps : Maps) (name : ForkName) (entries : NewMap) → AreGiven next maps → IsNewGiven name.tty entries → AreGiven next (map_of.insert maps name (new_map entries))
  added_given maps name entries given fits = λ at serial page a is. elim (cases_name at.fork name) [
    | inl e ↦
        subst (λ (n : ForkName). serial < next n.tty) (sym e)
        (new_given name.tty entries fits at.page (Follows serial page a) (sym (ap (in_page at.page) (get_put maps name at.fork (new_map entries) e)) ∙ is) serial page a refl)
    | inr ne ↦ given at serial page a (sym (ap (in_page at.page) (get_put_other maps name at.fork (new_map entries) ne)) ∙ is)
  ]

  -- a change of a call on maps, which follows a fork whose serial was given out
  abbrev pub IsGivenChange : MapChange → Type 0
  IsGivenChange Nothing = Unit {0}
  IsGivenChange (Unmap s) = Unit {0}
  IsGivenChange (Follow s from a) = from.fork.serial < next s.fork.tty
  IsGivenChange (Narrow s a) = Unit {0}
  IsGivenChange (MapPage s name page a) = Unit {0}
  IsGivenChange (Put name page s) = Unit {0}
  IsGivenChange (Drop name page) = Unit {0}

  module _ {K : Type 0} {file_cmp : K → K → Ordering} where
    abbrev pub Holds : PlainPages file_cmp → Type 0
    Holds p = AreGiven next p.maps

    stored_given : (p : PlainPages file_cmp) (s : Slot) (offset word : ℕ) → Holds p → Holds (stored p (in_map s) offset word)
    stored_given p s offset word given = subst (AreGiven next) (sym (stored_maps p (in_map s) offset word)) given

    names_given : (p : PlainPages file_cmp) (s : Slot) (owner : Tty) (access : Access) → Holds p → AreGiven next (set_entry p.maps s (Names (next_page p owner) access))
    names_given p s owner access given = set_given p.maps s (Names (next_page p owner) access) given (λ serial page a is. absurd (cc is))

    -- a fork that goes with its map
    pub gone_given : (p : PlainPages file_cmp) (f : ForkName) → Holds p → Holds (without_fork p f)
    unfolding without_fork
    gone_given p f given =
        subst (AreGiven next) (sym (ap (λ (q : PlainPages file_cmp). q.maps) (drop_all_leaves (record p { maps = map_of.remove p.maps f }) (option_map_or (filter_map page_in) (map_of.get p.maps f) [])))) (removed_given p.maps f given)

    module _ (o : IsTotalOrder file_cmp) (owner : Tty) where
      make_given : (p : PlainPages file_cmp) (m : Making K) → Holds p → Holds (make p owner m)
      unfolding make
      make_given p (blank (in_map s)) given = names_given p s owner full_access given
      make_given p (blank (in_file f)) given = given
      make_given p (copy s a) given = subst (AreGiven next) (sym (copy_maps o p owner s a)) (names_given p s owner a given)

      all_given : (ms : List (Making K)) (p q : PlainPages file_cmp) → Holds p → make_all p owner ms ≡ granted q → Holds q
      unfolding make_all
      all_given [] p q given g = let same : p ≡ q = cc g in subst Holds same given
      all_given (m ∷ ms) p q given g =
          let r = roomy (HasRoom (make p owner m) owner) (make_all (make p owner m) owner ms) q g in
          all_given ms (make p owner m) q (make_given p m given) r.1

      pub reference_given : (p q : PlainPages file_cmp) (s : Slot) (kind : Kind) → Holds p → reference p (in_map s) kind owner ≡ granted q → Holds q
      reference_given p q s kind given g = by (makings p (in_map s) kind) refl
        where
          by : (x : Option (List (Making K))) → makings p (in_map s) kind ≡ x → Holds q
          by None h = absurd (let no : denied kind ≡ granted q = sym (reference_denied p owner (in_map s) kind h) ∙ g in cc no)
          by (Some ms) h = all_given ms p q given (sym (reference_makes p owner (in_map s) kind ms h) ∙ g)

    -- a word poked
    pub poked_given : IsTotalOrder file_cmp → (owner : Tty) (p q : PlainPages file_cmp) (s : Slot) (kind : Kind) (offset word : ℕ) → Holds p → reference p (in_map s) kind owner ≡ granted q → Holds (stored q (in_map s) offset word)
    poked_given o owner p q s kind offset word given g = stored_given q s offset word (reference_given o owner p q s kind given g)

    -- steps of a fork, and words that it stores
    module _ (o : IsTotalOrder file_cmp) (f : ForkName) where
      pub run_given : (steps : Steps) (u : Progress file_cmp) → Holds u.pages → PlanLeaves Holds f (run (plainly f) f steps u)
      run_given steps u given = run_led f Holds (λ p q a kind w is. reference_given o f.tty p q (slot_at f a) kind w is) stored_given steps u given

      pub words_given : (p : PlainPages file_cmp) (at : ℕ) (words : List ℕ) → Holds p → Holds (stored_from p f at words)
      words_given p at words given = words_led f Holds (λ q r a kind w is. reference_given o f.tty q r (slot_at f a) kind w is) stored_given p given at words

    where_given : (p : PlainPages file_cmp) → AreWhole p → Holds p → (s : Slot) (change : MapEntry → MapEntry) → ((e : MapEntry) → IsGiven s.fork.tty e → IsGiven s.fork.tty (change e)) → Holds (with_changed p s change)
    where_given p whole given s change fits = by (entry_at p.maps s) refl
      where
        by : (o : Option MapEntry) → entry_at p.maps s ≡ o → Holds (option_map_or (λ e. with_entry p s (change e)) o p)
        by None none = given
        by (Some e) is = subst (AreGiven next) (sym (entry_maps p whole s e (change e) is)) (set_given p.maps s (change e) given (fits e (λ serial page a same. given s serial page a (is ∙ ap Some same))))

    pub change_given : IsTotalOrder file_cmp → map_of.IsAntisymmetric file_cmp → (key : List ℕ → K) (p : PlainPages file_cmp) → AreWhole p → Holds p → (what : MapChange) → IsGivenChange what → Holds (map_changed key what p)
    unfolding map_changed
    change_given o apart key p whole given Nothing fits = given
    change_given o apart key p whole given (Unmap s) fits = where_given p whole given s (λ e. Empty) (λ e was serial page a is. absurd (cc is))
    change_given o apart key p whole given (Follow s from a) fits = where_given p whole given s (λ e. Follows from.fork.serial from.page a) (λ e was serial page b is. let same : from.fork.serial ≡ serial = cc is in subst (λ n. n < next s.fork.tty) same fits)
    change_given o apart key p whole given (Narrow s a) fits = where_given p whole given s (narrow a) (λ e was. narrowed a e was)
      where
        narrowed : (a : Access) (e : MapEntry) → IsGiven s.fork.tty e → IsGiven s.fork.tty (narrow a e)
        narrowed a Empty was = λ serial page b is. absurd (cc is)
        narrowed a (Names n x) was = λ serial page b is. absurd (cc is)
        narrowed a (Follows serial page x) was = λ n to b is. let same : serial ≡ n = cc is in subst (λ k. k < next s.fork.tty) same (was serial page x refl)
    change_given o apart key p whole given (MapPage s name page a) fits = where_given p whole given s (λ e. entry_for a e (map_of.get p.files (keyed key name page))) (λ e was. entered e was (map_of.get p.files (keyed key name page)))
      where
        entered : (e : MapEntry) → IsGiven s.fork.tty e → (n : Option PageName) → IsGiven s.fork.tty (entry_for a e n)
        entered e was None = was
        entered e was (Some n) = λ serial to b is. absurd (cc is)
    change_given o apart key p whole given (Put name page s) fits = subst (AreGiven next) (sym (filed_maps o apart p (keyed key name page) (page_at p (in_map s)))) given
    change_given o apart key p whole given (Drop name page) fits = subst (AreGiven next) (sym (filed_maps o apart p (keyed key name page) None)) given
