-- A home that is given up, whose page had one name: what is left of the names, the words and the frames.
use Rattle.std.proofs.Common.{◌≡◌, ◌≢◌, inl, inr, ℕ, List, Option, None, Some, refl, sym, ◌∙◌, ap, subst, arith, length}
use Rattle.std.specs.Prelude.{slice_set}
use Rattle.std.specs.Option.{option_and_then}
use Rattle.std.proofs.lemmas.Bool.{cases_eq, cases_lt}
use Rattle.std.proofs.lemmas.List.{get_or-set_other, get_or-set_same, get_or_past, length-set}
use Rattle.machine_names.specs.declared.names.PageName.{PageName}
use Rattle.page_homes.specs.declared.homes.Home.{Home}
use Rattle.page_contracts.specs.Pages.{StaysInCore}
use Rattle.page_contracts.specs.Stores.{StoreMeaning, IsFreed, HomePlace, free, place, away_at, away_home}
use Rattle.flat_tables.specs.HeldMaps.{name_at}
use Rattle.flat_tables.specs.SlotTables.{Tables, share_of, AreTables}
use Rattle.flat_tables.specs.SlotTouches.{scene_of, home_named}
use Rattle.flat_tables.specs.SlotSteps.{HomeStays}
use Rattle.flat_pages.proofs.Leaving.{name_kept, name_gone, named_of}
use Rattle.flat_pages.proofs.Telling.{named_home}
use Rattle.flat_pages.proofs.Touching.{home_is}

-- a home that is given up is free
free_set : (places : List HomePlace) (k : ℕ) → place (slice_set places k free) k ≡ free
free_set places k = elim (cases_lt k (length places)) [
  | inl below ↦ get_or-set_same places k free free below
  | inr over ↦ get_or_past (slice_set places k free) k free (omega (arith, over, length-set places k free))
]

module _ (t : Tables) (a : AreTables t) (h : Home) (one : share_of t.shares h.0 ≡ 1) where
  -- the tables without the home's page
  abbrev pub given : Tables
  given = record t { places = slice_set t.places h.0 free; names = slice_set t.names h.0 None }

  -- what still has a name is another home's page
  pub gone_not : (k : ℕ) (n : PageName) → name_at given.names k ≡ Some n → k ≢ h.0
  gone_not k n named same = (let z : None ≡ Some n = sym (name_gone t a h one) ∙ ap (name_at given.names) (sym same) ∙ named in cc z)

  -- this home alone goes
  pub freed_stays : (named : ℕ → Type 0) → named h.0 → (k : ℕ) → HomeStays t given k (named k)
  freed_stays named it k = elim (cases_eq k h.0) [
    | inl same ↦ inr (ap (place given.places) same ∙ free_set t.places h.0, ap (name_at given.names) same ∙ name_gone t a h one, subst named (sym same) it)
    | inr ne ↦ inl (get_or-set_other t.places h.0 k free free ne, name_kept t a h one k ne)
  ]

-- and nothing has left its frame
module _ {S : Type 0} (store : StoreMeaning S) (old new : S) (t : Tables) (a : AreTables t) (h : Home) (one : share_of t.shares h.0 ≡ 1) (given_up : IsFreed store h.0 old new) where
  pub freed_core : StaysInCore (scene_of t (store.spare old)) (scene_of (given t a h one) (store.spare new)) 0
  freed_core = record { maps = λ f e. e; pages = λ n away. by n away (home_named u.names n) refl; frames = omega (arith, given_up.spare) }
    where
      u : Tables
      u = given t a h one

      by : (n : PageName) → option_and_then (away_at t.places) (home_named t.names n) ≡ None → (o : Option ℕ) → home_named u.names n ≡ o → option_and_then (away_at u.places) (home_named u.names n) ≡ None
      by n away None is = ap (option_and_then (away_at u.places)) is
      by n away (Some k) is =
          let named = named_home u.names n k is in
          let before = named_of t a h one k n named in
          let home : home_named t.names n ≡ Some k = home_is t.names k n before (λ j f. a.once j k n f before) in
          ap (option_and_then (away_at u.places)) is
          ∙ ap (λ p. away_home p k) (get_or-set_other t.places h.0 k free free (gone_not t a h one k n named))
          ∙ sym (ap (option_and_then (away_at t.places)) home) ∙ away
