-- What is told of pages of which a fork with its map was dropped.
use Rattle.std.proofs.Common.{◌≡◌, ◌≢◌, ◌⊎◌, inl, inr, ℕ, ◌+◌, ◌<◌, ◌≤◌, List, Bool, true, false, cond, not, Option, None, Some, is_some, length, refl, sym, ◌∙◌, ap, subst, arith}
use Rattle.std.specs.Prelude.{◌||◌, ◌==◌, slice_set}
use Rattle.std.specs.List.{filter, list_any}
use Rattle.std.specs.Option.{option_and_then, option_map, unwrap_or}
use Rattle.std.proofs.lemmas.Bool.{cases_eq}
use Rattle.std.proofs.lemmas.List.{get_or-set_same, get_or-set_other}
use Rattle.machine_names.specs.declared.names.ForkName.{ForkName}
use Rattle.machine_names.specs.declared.names.PageName.{PageName}
use Rattle.machine_names.specs.declared.names.Slot.{Slot}
use Rattle.page_contracts.specs.declared.answers.Seen.TheVariants as seen
use Rattle.page_contracts.specs.Changes.{GivesMapUp, IsQuiet}
use Rattle.page_contracts.specs.Pages.{DropsMap, IsOfMap, NamesPage}
use Rattle.page_contracts.specs.Stores.{HomePlace, StaysQueued, StoreMeaning, arrives, away_at, away_home, free, is_here, moves, place}
use Rattle.page_contracts.proofs.Losing.{cancels_none, given_none, still_here}
use Rattle.plain_pages.specs.declared.map.MapEntry.TheVariants.{Names}
use Rattle.flat_tables.specs.SlotTouches.{home_named}
use Rattle.flat_pages.proofs.Telling.{named_home}
use Rattle.pager_walk.specs.declared.map_pages.MapPage.{MapPage}
use Rattle.pager_walk.specs.declared.paged_entry.Looked.{Looked}
use Rattle.pager_walk.specs.MapPages.{fork_at, index_of, root_at}
use Rattle.pager_walk.specs.PagedMaps.{LookStands, map_away, name_at, nobody, seen_for}
use Rattle.pager_walk.proofs.Looking.{root_taken, stands_at, taken_within}
use Rattle.pager_walk.proofs.NumberedMaps.{Once, fork_within, index_fork}
use Rattle.paged_tables.specs.FiledSteps.{PageStays}
use Rattle.paged_tables.specs.FreedEntries.{EndsFork, MapHas}
use Rattle.paged_tables.specs.PagedSlots.{filed_over, map_home_over, paged_slots}
use Rattle.paged_tables.specs.PagedTables.{Beside, AreKept}
use Rattle.paged_tables.proofs.FilingSteps.{some_name}
use Rattle.slot_paged.proofs.HousedPages.{named_is}
use Rattle.known_slots.proofs.OtherMaps.{other_away, other_home}

one_frame : (c : Bool) → ◌≤◌ (cond c 1 0) 1
one_frame true = omega arith
one_frame false = omega arith

module _ {P S : Type 0} (store : StoreMeaning S) (part : P → S) (beside : P → Beside) (old new : P) (fork : ForkName) (kept : AreKept (beside old) (store.homes (part old))) (kept' : AreKept (beside new) (store.homes (part new))) (e : EndsFork store (part old) (part new) (beside old) (beside new) fork) where
  abbrev b : Beside
  b = beside old

  abbrev b' : Beside
  b' = beside new

  abbrev places : List HomePlace
  places = store.homes (part old)

  abbrev middle : List HomePlace
  middle = store.homes e.mid

  abbrev places' : List HomePlace
  places' = store.homes (part new)

  abbrev number : ℕ
  number = e.frees.number

  abbrev root : ℕ
  root = (root_at b.tables.maps number).0

  abbrev gone : MapPage
  gone = record { fork = None; home = root_at b.tables.maps number }

  own : fork_at b.tables.maps number ≡ Some fork
  own = index_fork b.tables.maps fork number e.frees.numbered

  maps : b'.tables.maps ≡ slice_set b.tables.maps number gone
  maps = ap (λ (x : Beside). x.tables.maps) e.beside ∙ (λ i. slice_set (e.empties.maps i) number (record { fork = None; home = root_at (e.empties.maps i) number }))

  once : Once (slice_set b.tables.maps number gone)
  once = subst Once maps kept'.rooted.numbered.once

  -- the map's home in between
  between_index : index_of e.between.tables.maps fork ≡ Some number
  between_index = ap (λ ms. index_of ms fork) e.empties.maps ∙ e.frees.numbered

  between_root : (root_at e.between.tables.maps number).0 ≡ root
  between_root = ap (λ ms. (root_at ms number).0) e.empties.maps

  within : root < length middle
  within = subst (λ (h : ℕ). h < length middle) between_root (taken_within middle (root_at e.between.tables.maps number).0 (root_taken e.between.tables middle e.kept.rooted fork number between_index))

  unnamed : name_at e.between.tables.names root ≡ None
  unnamed = ap (name_at e.between.tables.names) (sym between_root) ∙ e.kept.rooted.unnamed number fork (ap (λ ms. fork_at ms number) e.empties.maps ∙ own)

  names : b'.tables.names ≡ e.between.tables.names
  names = ap (λ (x : Beside). x.tables.names) e.beside

  root_free : place places' root ≡ free
  root_free = ap (λ ps. place ps root) e.freed.homes ∙ get_or-set_same middle root free free within

  other_place : (home : ℕ) → home ≢ root → place places' home ≡ place middle home
  other_place home ne = ap (λ ps. place ps home) e.freed.homes ∙ get_or-set_other middle root home free free ne

  -- a page whose home the map has is named by it
  named_page : (home : ℕ) → MapHas b places fork home → (n : PageName) × (name_at b.tables.names home ≡ Some n) × NamesPage (paged_slots store part beside) old fork n
  named_page home has =
      let s : Slot = record { fork = fork; page = has.page } in
      let stands : is_some (name_at b.tables.names home) ≡ true = subst (λ (l : Looked). LookStands b.tables places l) has.there.is (stands_at b.tables places kept.rooted s) in
      let n = some_name (name_at b.tables.names home) stands in
      (n.0, n.1, record { page = has.page; access = has.there.access; is = ap (seen_for b.tables) has.there.is ∙ ap (λ (o : Option PageName). seen.Is (Names (unwrap_or o nobody) has.there.access)) n.1 })

  of_map : (home : ℕ) → (place places' home ≡ place places home) ⊎ ((place places' home ≡ free) × IsOfMap (paged_slots store part beside) old fork home)
  of_map home = elim (cases_eq home root) [
    | inl same ↦ inr (ap (place places') same ∙ root_free, inl (ap (option_map (λ k. (root_at b.tables.maps k).0)) e.frees.numbered ∙ ap Some (sym same)))
    | inr ne ↦ by ne (e.frees.homes home ne)
  ]
    where
      by : home ≢ root → PageStays b places e.between middle home (MapHas b places fork home) → (place places' home ≡ place places home) ⊎ ((place places' home ≡ free) × IsOfMap (paged_slots store part beside) old fork home)
      by ne (inl same) = inl (other_place home ne ∙ same.0)
      by ne (inr given) = let n = named_page home given.2 in inr (other_place home ne ∙ given.0, inr (n.0, named_is b places kept home n.0 n.1, n.2))

  page_stays : (n : PageName) → (home_named b'.tables.names n ≡ home_named b.tables.names n) ⊎ ((home_named b'.tables.names n ≡ None) × NamesPage (paged_slots store part beside) old fork n)
  page_stays n = by (home_named b.tables.names n) (home_named b'.tables.names n) refl refl
    where
      not_root : (home : ℕ) → name_at b.tables.names home ≡ Some n → home ≢ root
      not_root home named same = let z : None ≡ Some n = sym (kept.rooted.unnamed number fork own) ∙ ap (name_at b.tables.names) (sym same) ∙ named in cc z

      not_root_now : (home : ℕ) → name_at b'.tables.names home ≡ Some n → home ≢ root
      not_root_now home named same = let z : None ≡ Some n = sym unnamed ∙ ap (λ ns. name_at ns root) (sym names) ∙ ap (name_at b'.tables.names) (sym same) ∙ named in cc z

      was : (home : ℕ) → name_at b'.tables.names home ≡ Some n → PageStays b places e.between middle home (MapHas b places fork home) → name_at b.tables.names home ≡ Some n
      was home named (inl same) = sym same.1 ∙ ap (λ ns. name_at ns home) (sym names) ∙ named
      was home named (inr given) = absurd (let z : None ≡ Some n = sym given.1 ∙ ap (λ ns. name_at ns home) (sym names) ∙ named in cc z)

      went : (home : ℕ) → name_at b.tables.names home ≡ Some n → home_named b'.tables.names n ≡ None → PageStays b places e.between middle home (MapHas b places fork home) → NamesPage (paged_slots store part beside) old fork n
      went home named none (inl same) = absurd (let z : None ≡ Some home = sym none ∙ named_is b' places' kept' home n (ap (λ ns. name_at ns home) names ∙ same.1 ∙ named) in cc z)
      went home named none (inr given) =
          let x = named_page home given.2 in
          let z : Some x.0 ≡ Some n = sym x.1 ∙ named in
          subst (λ (m : PageName). NamesPage (paged_slots store part beside) old fork m) (cc z) x.2

      by : (o o' : Option ℕ) → home_named b.tables.names n ≡ o → home_named b'.tables.names n ≡ o' → (home_named b'.tables.names n ≡ home_named b.tables.names n) ⊎ ((home_named b'.tables.names n ≡ None) × NamesPage (paged_slots store part beside) old fork n)
      by o (Some home) is is' =
          let now = named_home b'.tables.names n home is' in
          inl (is' ∙ sym (named_is b places kept home n (was home now (e.frees.homes home (not_root_now home now)))))
      by None None is is' = inl (is' ∙ sym is)
      by (Some home) None is is' = let named = named_home b.tables.names n home is in inr (is', went home named is' (e.frees.homes home (not_root home named)))

  below : number < length b.tables.maps
  below = fork_within b.tables.maps number fork own

  not_own : (g : ForkName) → g ≢ fork → fork_at b.tables.maps number ≢ Some g
  not_own g ne has = ne (let z : Some fork ≡ Some g = sym own ∙ has in let same : fork ≡ g = cc z in sym same)

  no_fork : (g : ForkName) → None ≢ Some g
  no_fork g z = cc z

  map_same : (g : ForkName) → g ≢ fork → map_home_over b' g ≡ map_home_over b g
  map_same g ne = ap (λ ms. option_map (λ k. (root_at ms k).0) (index_of ms g)) maps ∙ other_home b.tables.maps number gone below once g (not_own g ne) (no_fork g)

  away_same : (g : ForkName) → g ≢ fork → map_away b'.tables places' g ≡ map_away b.tables places g
  away_same g ne =
      ap (λ ms. option_and_then (λ k. away_at places' (root_at ms k).0) (index_of ms g)) maps
      ∙ other_away b.tables.maps number gone below once g (not_own g ne) (no_fork g) middle places' (λ j is. ap (λ p. away_home p (root_at b.tables.maps j).0) (other_place (root_at b.tables.maps j).0 (apart j is)))
      ∙ ap (λ ms. option_and_then (λ k. away_at middle (root_at ms k).0) (index_of ms g)) (sym e.empties.maps) ∙ ap (λ (f : ForkName → Option ℕ). f g) e.frees.away
    where
      apart : (j : ℕ) → index_of b.tables.maps g ≡ Some j → (root_at b.tables.maps j).0 ≢ root
      apart j is same =
          let one : j ≡ number = kept.rooted.apart j number g fork (index_fork b.tables.maps g j is) own same in
          not_own g ne (ap (fork_at b.tables.maps) (sym one) ∙ index_fork b.tables.maps g j is)

  frames_are : ((n : PageName) → NamesPage (paged_slots store part beside) old fork n → ⊥) → store.spare (part new) ≤ store.spare (part old) + 1
  frames_are none =
      let same = e.frees.frames (λ k has. (let n = named_page k has in none n.0 n.2)) in
      omega (arith, e.freed.spare, same, one_frame (is_here (place middle root) || list_any (arrives root) (store.queue e.mid)))

  pub drops_map : filed_over (beside new) ≡ filed_over (beside old) → DropsMap (paged_slots store part beside) fork old new
  drops_map filed = record { homes = of_map; pages = page_stays; maps = map_same; away = away_same; frames = frames_are; filed = filed }

  -- where it named no page, and no transfer moved it, it is given up alone
  pub gives_up : ((n : PageName) → NamesPage (paged_slots store part beside) old fork n → ⊥) → ((home : ℕ) → map_home_over b fork ≡ Some home → IsQuiet (paged_slots store part beside) old home) → GivesMapUp (paged_slots store part beside) fork old new
  gives_up none quiet = record {
    own = λ home is. (let same : root ≡ home = (let z : Some root ≡ Some home = sym its_home ∙ is in cc z) in ap (place places') (sym same) ∙ root_free);
    beside = record {
      queued = record { queue = last.queue ∙ first.queue; untold = last.untold ∙ first.untold };
      holds = λ i holder. holds_same holder i;
    };
  }
    where
      its_home : map_home_over b fork ≡ Some root
      its_home = ap (option_map (λ k. (root_at b.tables.maps k).0)) e.frees.numbered

      bare : (k : ℕ) → MapHas b places fork k → ⊥
      bare k has = let n = named_page k has in none n.0 n.2

      still : IsQuiet (paged_slots store part beside) old root
      still = quiet root its_home

      first : StaysQueued store (part old) e.mid
      first = e.frees.still bare (still_here root (store.queue (part old)) still.unmoved)

      last : StaysQueued store e.mid (part new)
      last = cancels_none store (moves root) e.mid (part new) (ap (list_any (moves root)) first.queue ∙ still.unmoved) e.freed.cancelled

      holds_same : (holder : ℕ) → store.holds (part new) holder ≡ store.holds (part old) holder
      holds_same holder =
          ap (λ (f : ℕ → List ℕ). f holder) e.freed.holds ∙ ap (λ (f : ℕ → List ℕ). filter (λ h. not (h == root)) (f holder)) (e.frees.holds bare)
          ∙ given_none root (store.holds (part old) holder) (still.unheld holder)
