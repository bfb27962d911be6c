-- What is told of pages to which a fork with its map was added.
use Rattle.std.proofs.Common.{◌≡◌, ◌≢◌, inl, inr, ℕ, List, Option, None, Some, refl, sym, ◌∙◌, ap, subst, arith}
use Rattle.std.specs.Prelude.{MatchOption, slice_index, slice_set}
use Rattle.std.specs.Option.{option_and_then, option_map, option_map_or}
use Rattle.std.proofs.Math.Path.{fun_ext}
use Rattle.std.proofs.lemmas.List.{get_or-set_same, get_or-set_other}
use Rattle.machine_names.specs.declared.names.Access.{Access}
use Rattle.machine_names.specs.declared.names.ForkName.{ForkName}
use Rattle.machine_names.specs.declared.names.PageName.{PageName}
use Rattle.machine_names.specs.declared.names.Slot.{Slot}
use Rattle.page_homes.specs.declared.homes.Home.{Home}
use Rattle.page_contracts.specs.declared.answers.Seen.TheVariants as seen
use Rattle.page_contracts.specs.Changes.{ForkAdded}
use Rattle.page_contracts.specs.Pages.{AddsMap, TakesMap}
use Rattle.page_contracts.specs.Stores.{HomePlace, Loses, RenewsNone, RenewsOne, StoreMeaning, away_at, away_home, free, here, place, traffic, word_in}
use Rattle.page_contracts.proofs.Losing.{loses_made, made_one}
use Rattle.plain_pages.specs.declared.map.MapEntry.TheVariants.{Names}
use Rattle.plain_pages.specs.declared.map.NewMap.{NewMap}
use Rattle.share_table.specs.declared.pointer.Pointer.{Pointer}
use Rattle.share_table.specs.declared.pointer.Pointer.TheVariants as pointer
use Rattle.flat_tables.specs.Serials.{serial_of}
use Rattle.flat_tables.specs.SlotTouches.{home_named}
use Rattle.pager_walk.specs.declared.map_pages.MapPage.{MapPage}
use Rattle.pager_walk.specs.declared.paged_entry.Looked.TheVariants.{Is, Refused}
use Rattle.pager_walk.specs.declared.paged_entry.PagedEntry.{PagedEntry}
use Rattle.pager_walk.specs.declared.paged_entry.PagedEntry.TheVariants.{Empty, Page, Follows}
use Rattle.pager_walk.specs.Decoding.{pointer_in}
use Rattle.pager_walk.specs.MapPages.{fork_at, index_of, map_at, no_map, root_at}
use Rattle.pager_walk.specs.PagedMaps.{Tables, entry_for, entry_in, look_at, look_word, map_away, seen_for}
use Rattle.pager_walk.proofs.Looking.{look_there}
use Rattle.pager_walk.proofs.NumberedMaps.{Once, fork_tells, index_is}
use Rattle.paged_tables.specs.AddedForks.{AddsFork, new_words}
use Rattle.paged_tables.specs.PagedMeaning.{forks_in, lives_in}
use Rattle.paged_tables.specs.PagedSlots.{filed_over, map_home_over, paged_slots}
use Rattle.paged_tables.specs.PagedTables.{Beside, AreKept}
use Rattle.paged_tables.specs.PagedTouches.{scene_over}
use Rattle.paged_tables.proofs.NewForks.{fork_lives, forks_more, forks_others}
use Rattle.paged_tables.proofs.StillScenes.{away_made}
use Rattle.known_slots.proofs.OtherMaps.{other_away, other_home}

-- a word stands for the same entry whatever the maps
word_same : (t : Tables) (maps : List MapPage) (w : ℕ) → entry_in (record t { maps = maps }) w ≡ entry_in t w
word_same t maps w = by (pointer_in w)
  where
    of : (p : Pointer) → entry_for (record t { maps = maps }) p ≡ entry_for t p
    of pointer.Empty = refl
    of (pointer.Private h a) = refl
    of (pointer.Shared s a) = refl
    of (pointer.Indirect serial page a) = refl

    by : (o : Option Pointer) → option_and_then (entry_for (record t { maps = maps })) o ≡ option_and_then (entry_for t) o
    by None = refl
    by (Some p) = of p

-- a look that shows a page's name found a page
shown_page : (t : Tables) (o : Option PagedEntry) (n : PageName) (a : Access) → seen_for t (option_map_or Is o Refused) ≡ seen.Is (Names n a) → (h : Home) × (c : Access) × (o ≡ Some (Page h c))
shown_page t None n a e = absurd (cc e)
shown_page t (Some Empty) n a e = absurd (cc e)
shown_page t (Some (Page h c)) n a e = (h, c, refl)
shown_page t (Some (Follows serial page c)) n a e = absurd (cc e)

module _ {S : Type 0} (store : StoreMeaning S) (old new : S) (b b' : Beside) (fork : ForkName) (map : NewMap) (kept' : AreKept b' (store.homes new)) (a : AddsFork store old new b b' fork map) where
  abbrev places : List HomePlace
  places = store.homes old

  abbrev places' : List HomePlace
  places' = store.homes new

  abbrev m : MapPage
  m = record { fork = Some fork; home = a.home }

  maps : b'.tables.maps ≡ slice_set b.tables.maps a.number m
  maps = ap (λ (x : Beside). x.tables.maps) a.beside

  once : Once (slice_set b.tables.maps a.number m)
  once = subst Once maps kept'.rooted.numbered.once

  map_is : map_at b'.tables.maps a.number ≡ m
  map_is = ap (λ ms. map_at ms a.number) maps ∙ get_or-set_same b.tables.maps a.number m no_map a.below

  numbered : index_of b'.tables.maps fork ≡ Some a.number
  numbered = index_is b'.tables.maps kept'.rooted.numbered.once fork a.number (ap (λ (x : MapPage). x.fork) map_is)

  root : root_at b'.tables.maps a.number ≡ a.home
  root = ap (λ (x : MapPage). x.home) map_is

  own_home : map_home_over b' fork ≡ Some a.home.0
  own_home = ap (option_map (λ k. (root_at b'.tables.maps k).0)) numbered ∙ ap (λ (h : Home). Some h.0) root

  unused : (g : ForkName) → fork_at b.tables.maps a.number ≢ Some g
  unused g has = let z : None ≡ Some g = sym a.unused ∙ has in cc z

  not_own : (g : ForkName) → g ≢ fork → Some fork ≢ Some g
  not_own g ne e = ne (let same : fork ≡ g = cc e in sym same)

  away_same : ◌≡◌ {A = ℕ → Option ℕ} (away_at places') (away_at places)
  away_same = fun_ext (λ k. ap (λ ps. away_at ps k) a.made.homes ∙ away_made places a.home.0 (new_words map) k a.made.below a.made.was_free)

  own_near : map_away b'.tables places' fork ≡ None
  own_near =
      ap (option_and_then (λ k. away_at places' (root_at b'.tables.maps k).0)) numbered ∙ ap (λ (h : Home). away_at places' h.0) root
      ∙ ap (λ ps. away_at ps a.home.0) a.made.homes ∙ ap (λ p. away_home p a.home.0) (get_or-set_same places a.home.0 (here (new_words map)) free a.made.below)

  map_same : (g : ForkName) → map_away b'.tables places' g ≡ map_away b.tables places g
  map_same g = elim (fork_tells g fork) [
    | inl t ↦ ap (map_away b'.tables places') t.1 ∙ own_near ∙ sym (ap (option_and_then (λ k. away_at places (root_at b.tables.maps k).0)) (ap (index_of b.tables.maps) t.1 ∙ a.absent))
    | inr t ↦ ap (λ ms. option_and_then (λ k. away_at places' (root_at ms k).0) (index_of ms g)) maps
        ∙ other_away b.tables.maps a.number m a.below once g (unused g) (not_own g t.1) places places' (λ j is. ap (λ (f : ℕ → Option ℕ). f (root_at b.tables.maps j).0) away_same)
  ]

  names : b'.tables.names ≡ b.tables.names
  names = ap (λ (x : Beside). x.tables.names) a.beside

  pub takes_map : TakesMap (scene_over b (store.homes old) (store.spare old)) (scene_over b' (store.homes new) (store.spare new)) fork
  takes_map = record {
    own = own_near;
    maps = fun_ext map_same;
    pages = λ i n. option_and_then (away_same i) (home_named (names i) n);
    frames = omega (arith, a.made.spare);
  }

  pub added_loses : Loses (traffic store old) (traffic store new)
  added_loses = loses_made store old new a.home.0 (here (new_words map)) a.made

  pub added_uses : MatchOption (map_home_over b' fork) (RenewsNone (traffic store old) (traffic store new)) (λ home. RenewsOne home (traffic store old) (traffic store new))
  added_uses = subst (λ (o : Option ℕ). MatchOption o (RenewsNone (traffic store old) (traffic store new)) (λ home. RenewsOne home (traffic store old) (traffic store new))) (sym own_home) (made_one store old new a.home.0 (here (new_words map)) a.made)

  shows_none : (page : ℕ) (n : PageName) (access : Access) → seen_for b'.tables (look_at b'.tables places' (record { fork = fork; page = page })) ≡ seen.Is (Names n access) → ⊥
  shows_none page n access is =
      let s : Slot = record { fork = fork; page = page } in
      let w : ℕ = slice_index (new_words map) page in
      let there : place places' (root_at b'.tables.maps a.number).0 ≡ here (new_words map) = ap (λ (h : Home). place places' h.0) root ∙ ap (λ ps. place ps a.home.0) a.made.homes ∙ get_or-set_same places a.home.0 (here (new_words map)) free a.made.below in
      let looks : look_at b'.tables places' s ≡ option_map_or Is (entry_in b'.tables w) Refused =
      look_there b'.tables places' s a.number (root_at b'.tables.maps a.number) numbered refl ∙ ap (λ p. look_word b'.tables (root_at b'.tables.maps a.number) (word_in p page)) there in
      let found = shown_page b'.tables (entry_in b'.tables w) n access (sym (ap (seen_for b'.tables) looks) ∙ is) in
      a.bare page found.0 found.1 (sym (ap (λ (y : Beside). entry_in y.tables w) a.beside ∙ word_same b.tables (slice_set b.tables.maps a.number m) w) ∙ found.2)

  home_same : (g : ForkName) → g ≢ fork → map_home_over b' g ≡ map_home_over b g
  home_same g ne = ap (λ ms. option_map (λ k. (root_at ms k).0) (index_of ms g)) maps ∙ other_home b.tables.maps a.number m a.below once g (unused g) (not_own g ne)

  place_same : (home : ℕ) → (map_home_over b' fork ≡ Some home → ⊥) → place places' home ≡ place places home
  place_same home not = ap (λ ps. place ps home) a.made.homes ∙ get_or-set_other places a.home.0 home (here (new_words map)) free (λ same. not (own_home ∙ ap Some (sym same)))

-- what is left once a fork was added
module _ {P S : Type 0} (store : StoreMeaning S) (part : P → S) (beside : P → Beside) (old new : P) (fork : ForkName) (map : NewMap) (kept : AreKept (beside old) (store.homes (part old))) (kept' : AreKept (beside new) (store.homes (part new)))
    (a : AddsFork store (part old) (part new) (beside old) (beside new) fork map) where
  adds_map : AddsMap (paged_slots store part beside) fork old new
  adds_map = record {
    homes = place_same store (part old) (part new) (beside old) (beside new) fork map kept' a;
    pages = λ i. home_named (names store (part old) (part new) (beside old) (beside new) fork map kept' a i);
    maps = home_same store (part old) (part new) (beside old) (beside new) fork map kept' a;
    names = λ n x. shows_none store (part old) (part new) (beside old) (beside new) fork map kept' a x.page n x.access x.is;
    filed = ap filed_over a.beside;
  }

  pub fork_added : ForkAdded (paged_slots store part beside) fork map old new
  fork_added =
      let numbered = kept.rooted.numbered in
      record {
        told = a.told;
        scene = takes_map store (part old) (part new) (beside old) (beside new) fork map kept' a;
        loses = added_loses store (part old) (part new) (beside old) (beside new) fork map kept' a;
        uses = added_uses store (part old) (part new) (beside old) (beside new) fork map kept' a;
        adds = adds_map;
        own = λ home is. (let z : Some a.home.0 ≡ Some home = sym (own_home store (part old) (part new) (beside old) (beside new) fork map kept' a) ∙ is in
            let same : a.home.0 ≡ home = cc z in ap (place (store.homes (part old))) (sym same) ∙ a.made.was_free);
        beside = record { queued = record { queue = a.made.queued.queue; untold = a.made.queued.untold }; holds = a.made.holds };
        lives = λ f. ap (λ (x : Beside). lives_in x f) a.beside ∙ fork_lives (beside old) numbered a.number fork a.home a.below a.absent a.unused a.from a.last f;
        forks = ap (λ (x : Beside). forks_in x fork.tty) a.beside ∙ forks_more (beside old) numbered a.number fork a.home a.below a.absent a.unused a.from a.last;
        others = λ t ne. ap (λ (x : Beside). forks_in x t) a.beside ∙ forks_others (beside old) numbered a.number fork a.home a.below a.absent a.unused a.from a.last t ne;
        serials = ap (λ (x : Beside). serial_of x.serials) a.beside;
        most = ap (λ (x : Beside). x.limit) a.beside;
      }
