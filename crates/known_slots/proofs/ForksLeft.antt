-- What else is left once a fork has ended: who lives, and what is in a frame.
use Rattle.std.proofs.Common.{◌≡◌, ◌≢◌, ◌⊎◌, inl, inr, ℕ, ◌+◌, ◌≤◌, List, not, ◌&&◌, cond, Option, None, Some, is_some, map, refl, sym, ◌∙◌, ap, subst, arith}
use Rattle.std.specs.Prelude.{IsSome, slice_set}
use Rattle.std.specs.Option.{option_and_then, option_map}
use Rattle.std.proofs.lemmas.Bool.{cases_eq}
use Rattle.std.proofs.lemmas.Bool.Decides.{eqb_tells}
use Rattle.std.proofs.lemmas.List.{get_or-set_same, get_or-set_other, map-set}
use Rattle.machine_names.specs.declared.names.ForkName.{ForkName}
use Rattle.machine_names.specs.declared.names.Tty.{Tty}
use Rattle.machine_names.specs.Orders.{same_fork}
use Rattle.page_contracts.specs.Pages.{StaysInCore}
use Rattle.page_contracts.specs.Stores.{HomePlace, IsFreed, KeepsFrame, Loses, RenewsNone, StoreMeaning, away_at, away_home, free, is_taken, place, tenant_left, traffic}
use Rattle.page_contracts.proofs.Losing.{freed_none, loses_freed, loses_on}
use Rattle.pager_walk.specs.MapPages.{AreNumbered, fork_at, index_of, root_at}
use Rattle.pager_walk.specs.PagedMaps.{AreRooted, map_away}
use Rattle.pager_walk.proofs.Ended.{root_is, whose}
use Rattle.pager_walk.proofs.Looking.{taken_map, taken_within}
use Rattle.pager_walk.proofs.NumberedMaps.{fork_within, index_is, searched}
use Rattle.flat_tables.specs.declared.held_map.HeldMap.{HeldMap}
use Rattle.flat_tables.specs.HeldMaps as flat
use Rattle.flat_tables.specs.SlotTouches.{home_named}
use Rattle.flat_pages.proofs.Ending.{ended_lives, ended_other, ended_own}
use Rattle.paged_tables.specs.EndedForks.{EmptiesFork, fork_gone}
use Rattle.paged_tables.specs.PagedSlots.{map_home_over}
use Rattle.paged_tables.specs.PagedMeaning.{forks_in, lives_in}
use Rattle.paged_tables.specs.PagedTables.{Beside}
use Rattle.paged_tables.specs.PagedTouches.{scene_over}
use Rattle.paged_tables.proofs.NewForks.{bare_are_held, bare_at, bare_fork, bare_held, bare_index, bare_living}

module _ (b : Beside) (n : AreNumbered b.tables.maps) (k : ℕ) (f : ForkName) (own : fork_at b.tables.maps k ≡ Some f) where
  abbrev held : List HeldMap
  held = bare_held b.tables.maps

  abbrev after : Beside
  after = fork_gone b k

  are : flat.AreHeld held
  are = bare_are_held b.tables.maps n

  is : flat.fork_at held k ≡ Some f
  is = bare_fork b.tables.maps k ∙ own

  bare_ended : bare_held after.tables.maps ≡ slice_set held k (record (flat.map_at held k) { fork = None })
  unfolding bare_held
  bare_ended =
      map-set (λ m. record { fork = m.fork; entries = flat.no_page }) b.tables.maps k (record { fork = None; home = root_at b.tables.maps k })
      ∙ (λ i. slice_set held k (record { fork = None; entries = sym (bare_at b.tables.maps k (fork_within b.tables.maps k f own)) i }))

  pub left_lives : (g : ForkName) → lives_in after g ≡ (not (same_fork g f) && lives_in b g)
  left_lives g =
      ap is_some (sym (bare_index after.tables.maps g)) ∙ ap (λ ms. is_some (flat.index_of ms g)) bare_ended
      ∙ ended_lives held are k f is g ∙ ap (λ o. not (same_fork g f) && is_some o) (bare_index b.tables.maps g)

  pub left_own : forks_in after f.tty + 1 ≡ forks_in b f.tty
  left_own = ap (λ c. c + 1) (sym (bare_living after.tables.maps f.tty) ∙ ap (λ ms. flat.living_of ms f.tty) bare_ended) ∙ ended_own held are k f is ∙ bare_living b.tables.maps f.tty

  pub left_others : (t : Tty) → t ≢ f.tty → forks_in after t ≡ forks_in b t
  left_others t ne = sym (bare_living after.tables.maps t) ∙ ap (λ ms. flat.living_of ms t) bare_ended ∙ ended_other held are k f is t ne ∙ bare_living b.tables.maps t

module _ (b : Beside) (places : List HomePlace) (rooted : AreRooted b.tables (map is_taken places)) (k : ℕ) (f : ForkName) (own : fork_at b.tables.maps k ≡ Some f) where
  abbrev root : ℕ
  root = (root_at b.tables.maps k).0

  abbrev less : List HomePlace
  less = slice_set places root free

  below : place less root ≡ free
  below = get_or-set_same places root free free (taken_within places root (sym (taken_map places root) ∙ rooted.there k f own))

  -- what is in a frame is still in one, or gone
  still_near : (h : ℕ) → away_at places h ≡ None → away_at less h ≡ None
  still_near h near = elim (cases_eq h root) [
    | inl same ↦ ap (away_at less) same ∙ ap (λ p. away_home p root) below
    | inr other ↦ ap (λ p. away_home p h) (get_or-set_other places root h free free other) ∙ near
  ]

  map_near : (g : ForkName) → map_away b.tables places g ≡ None → map_away (fork_gone b k).tables less g ≡ None
  map_near g near = by (searched (fork_gone b k).tables.maps g)
    where
      by : ((j : ℕ) × (index_of (fork_gone b k).tables.maps g ≡ Some j) × (fork_at (fork_gone b k).tables.maps j ≡ Some g)) ⊎ ((index_of (fork_gone b k).tables.maps g ≡ None) × ((j : ℕ) → fork_at (fork_gone b k).tables.maps j ≢ Some g))
          → map_away (fork_gone b k).tables less g ≡ None
      by (inr r) = ap (option_and_then (λ j. away_at less (root_at (fork_gone b k).tables.maps j).0)) r.0
      by (inl r) =
          let x = whose b.tables places rooted k f own r.0 g r.2 in
          let was : index_of b.tables.maps g ≡ Some r.0 = index_is b.tables.maps rooted.numbered.once g r.0 x.1 in
          ap (option_and_then (λ j. away_at less (root_at (fork_gone b k).tables.maps j).0)) r.1 ∙ ap (away_at less) (root_is b.tables places rooted k f own r.0 x.0)
          ∙ still_near (root_at b.tables.maps r.0).0 (sym (ap (option_and_then (λ j. away_at places (root_at b.tables.maps j).0)) was) ∙ near)

  page_near : (o : Option ℕ) → option_and_then (away_at places) o ≡ None → option_and_then (away_at less) o ≡ None
  page_near None near = refl
  page_near (Some h) near = still_near h near

  pub left_core : (frames frames' : ℕ) → frames ≤ frames' → StaysInCore (scene_over b places frames) (scene_over (fork_gone b k) less frames') 0
  left_core frames frames' more = record {
    maps = map_near;
    pages = λ n near. page_near (home_named b.tables.names n) near;
    frames = omega (arith, more);
  }

module _ {S : Type 0} (store : StoreMeaning S) (old mid new : S) (b b1 : Beside) (fork : ForkName) (k pages : ℕ) (numbered : index_of b1.tables.maps fork ≡ Some k) (empties : EmptiesFork store old mid b b1 fork pages)
    (freed : IsFreed store (root_at b1.tables.maps k).0 mid new) where
  abbrev home : ℕ
  home = (root_at b1.tables.maps k).0

  pub left_lost : Loses (traffic store old) (traffic store new)
  left_lost = loses_on (traffic store old) (traffic store mid) (traffic store new) empties.lost (loses_freed store mid new home freed)

  left_none : tenant_left home (Some home) ≡ None
  left_none = elim (eqb_tells home home) [ inl t ↦ ap (λ c. cond c None (Some home)) t.0 | inr t ↦ absurd (t.1 refl) ]

  left_kept : (frame : ℕ) → IsSome (store.tenant new frame) → KeepsFrame (traffic store old) (traffic store new) frame
  left_kept frame there =
      let second = (freed_none store mid new home freed).kept frame there in
      let apart : (at : ℕ) → map_home_over b1 fork ≡ Some at → store.tenant mid frame ≡ Some at → ⊥ = λ at is tenant.
      (let own : store.tenant mid frame ≡ Some home = tenant ∙ sym is ∙ ap (option_map (λ j. (root_at b1.tables.maps j).0)) numbered in
      not_there (store.tenant new frame) there (freed.tenants frame ∙ ap (tenant_left home) own ∙ left_none)) in
      let first = empties.uses frame (subst IsSome second.tenant there) apart in record {
        tenant = second.tenant ∙ first.tenant;
        age = second.age ∙ first.age;
      }
    where
      not_there : (o : Option ℕ) → IsSome o → o ≡ None → ⊥
      not_there None h e = absurd (cc h)
      not_there (Some x) h e = absurd (cc e)

  pub left_uses : RenewsNone (traffic store old) (traffic store new)
  left_uses = record { kept = left_kept; grows = (let first = empties.lost.ages.grows in let last = freed.uses in omega (arith, first, last)) }
