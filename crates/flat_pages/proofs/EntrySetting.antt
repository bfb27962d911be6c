-- An entry that is set: what the pages are then, and what is in frames.
use Rattle.std.proofs.Common.{◌≡◌, ◌≢◌, inl, ℕ, ◌<◌, List, false, Option, None, Some, refl, sym, ◌∙◌, ap, subst, arith}
use Rattle.std.specs.Prelude.{IsSome}
use Rattle.std.specs.Option.{option_map}
use Rattle.machine_names.specs.declared.names.ForkName.{ForkName}
use Rattle.machine_names.specs.declared.names.PageName.{PageName}
use Rattle.page_homes.specs.declared.homes.Home.{Home}
use Rattle.machine_names.specs.declared.names.Access.{Access}
use Rattle.plain_pages.specs.declared.map.MapEntry.{MapEntry}
use Rattle.machine_names.specs.declared.names.TheConstants.{SPACE_PAGES}
use Rattle.plain_pages.specs.Maps.{set_entry}
use Rattle.page_contracts.specs.DrumWords.{DrumWords}
use Rattle.page_contracts.specs.Pages.{Scene, StaysInCore}
use Rattle.page_contracts.specs.Stores.{StoreMeaning, IsSound, IsFreed, Loses, RenewsNone, FitsHomes, free, place, content, traffic}
use Rattle.page_contracts.proofs.Losing.{freed_none, keeps_frames, loses_freed, loses_nothing}
use Rattle.flat_tables.specs.declared.held_entry.EntryAt.{EntryAt}
use Rattle.flat_tables.specs.declared.held_entry.HeldEntry.{HeldEntry}
use Rattle.flat_tables.specs.declared.held_entry.HeldEntry.TheVariants.{Empty, Page, Follows}
use Rattle.flat_tables.specs.declared.held_entry.Link.{Link}
use Rattle.flat_tables.specs.declared.map_tables.MapTables.{MapTables}
use Rattle.flat_tables.specs.HeldMaps.{fork_at, held_entry, with_entry, name_at, entry_of, maps_held, points_at}
use Rattle.flat_tables.specs.SlotTables.{Tables, files_held, share_of, AreTables}
use Rattle.flat_tables.specs.SlotTouches.{scene_of, is_alone}
use Rattle.flat_pages.specs.SlotMeaning.{AreTold}
use Rattle.flat_tables.specs.TableSteps.{tables_of, entry_kept, entry_left, home_freed}
use Rattle.flat_tables.specs.SlotSteps.{HomeStays, NamesHome, SetsEntry}
use Rattle.flat_tables.proofs.HeldEntries.{points_self}
use Rattle.flat_tables.proofs.LivingMaps.{entry_held}
use Rattle.flat_pages.proofs.Settling.{sized_of, content_other, fits_set}
use Rattle.flat_pages.proofs.Told.{maps_set, none_else, none_filed, entry_still}
use Rattle.flat_tables.proofs.FiledHomes.{files_still}
use Rattle.flat_pages.proofs.Leaving.{kept_tables, left_tables, freed_tables, name_kept, named_of, told_set}
use Rattle.flat_pages.proofs.GivenUp.{gone_not, freed_stays, freed_core}
use Rattle.flat_pages.proofs.Telling.{tables_told}

-- an entry of a fork that lives may be any
pub lives_used : (o : Option ForkName) (e : HeldEntry) → IsSome o → o ≡ None → e ≡ Empty
lives_used None e some none = absurd (cc some)
lives_used (Some f) e some none = absurd (cc none)

pub same_core : (scene : Scene) → StaysInCore scene scene 0
same_core scene = record { maps = λ f h. h; pages = λ n h. h; frames = omega arith }

module _ {S : Type 0} (store : StoreMeaning S) (old new : S) (sound_old : IsSound store old) (sound_new : IsSound store new) (tables tables' : MapTables) (at : EntryAt) (q e : HeldEntry) where
  abbrev t : Tables
  t = tables_of (store.homes old) tables

  abbrev t' : Tables
  t' = tables_of (store.homes new) tables'

  -- what names and words are left are those that were
  pub sets_entry : AreTables t → AreTables t' → held_entry t.maps at ≡ Some q → t'.maps ≡ with_entry t.maps at e → t'.files ≡ t.files → files_held t'.names t'.files ≡ files_held t.names t.files → t'.serials ≡ t.serials → t'.living ≡ t.living → t'.limit ≡ t.limit
      → ((k : ℕ) (n : PageName) → name_at t'.names k ≡ Some n → name_at t.names k ≡ Some n)
      → ((d : DrumWords) (k : ℕ) (n : PageName) → name_at t'.names k ≡ Some n → content t'.places d k ≡ content t.places d k)
      → ((b : EntryAt) (x : HeldEntry) → b ≢ at → held_entry t.maps b ≡ Some x → entry_of t'.names x ≡ entry_of t.names x)
      → entry_of t'.names e ≡ entry_of t.names e
      → ((d : DrumWords) → FitsHomes t.places d → FitsHomes t'.places d)
      → ((home : ℕ) → HomeStays t t' home (NamesHome t.maps at home))
      → (((home : ℕ) → NamesHome t.maps at home → ⊥) → new ≡ old)
      → StaysInCore (scene_of t (store.spare old)) (scene_of t' (store.spare new)) 0
      → Loses (traffic store old) (traffic store new)
      → RenewsNone (traffic store old) (traffic store new)
      → SetsEntry store old new tables tables' at e
  sets_entry a a' there maps files filed serials living limit names words others same fits homes untouched core lost used = record {
    told = λ d s is fit. (
      fits d fit,
      told_set t t' a a' d (sized_of t.places d fit sound_old.pages) (sized_of t'.places d (fits d fit) sound_new.pages) names (words d) serials limit s (entry_of t.names q) (entry_of t.names e)
          (entry_held t.names t.maps a.held.once at s is ∙ ap (option_map (entry_of t.names)) there)
          (ap (maps_held t'.names) maps ∙ maps_set t.names t'.names t.maps a.held at q e s is there others ∙ ap (λ (y : MapEntry). set_entry (maps_held t.names t.maps) s y) same) filed,
    );
    maps = maps;
    files = files;
    filed = filed;
    serials = serials;
    living = living;
    limit = limit;
    homes = homes;
    untouched = untouched;
    core = core;
    lost = lost;
    used = used;
  }

  -- the same page is named, or none as before
  module _ (a : AreTables t) (there : held_entry t.maps at ≡ Some q) (page : (l : Link) (b : Access) → e ≡ Follows l b → l.page < SPACE_PAGES) (lives : IsSome (fork_at t.maps at.map)) (same_store : new ≡ old) where
    used : fork_at t.maps at.map ≡ None → e ≡ Empty
    used = lives_used (fork_at t.maps at.map) e lives

    -- names and places stay, and the maps and the counts are others
    module _ (u : Tables) (is : t' ≡ u) (a' : AreTables u) (maps : u.maps ≡ with_entry t.maps at e) (files : u.files ≡ t.files) (serials : u.serials ≡ t.serials) (living : u.living ≡ t.living) (limit : u.limit ≡ t.limit) (names : u.names ≡ t.names) (places : u.places ≡ t.places) where
      pub same_names_agree : AreTables t'
      same_names_agree = subst AreTables (sym is) a'

      pub same_names_told : AreTold t'
      same_names_told = tables_told t' same_names_agree sound_new.pages

      names_are : t'.names ≡ t.names
      names_are = ap (λ (x : Tables). x.names) is ∙ names

      files_are : t'.files ≡ t.files
      files_are = ap (λ (x : Tables). x.files) is ∙ files

      places_are : t'.places ≡ t.places
      places_are = ap (λ (x : Tables). x.places) is ∙ places

      pub same_names_set : SetsEntry store old new tables tables' at e
      same_names_set =
          sets_entry a same_names_agree there (ap (λ (x : Tables). x.maps) is ∙ maps) files_are (λ i. files_held (names_are i) (files_are i)) (ap (λ (x : Tables). x.serials) is ∙ serials) (ap (λ (x : Tables). x.living) is ∙ living) (ap (λ (x : Tables). x.limit) is ∙ limit)
          (λ k n h. ap (λ ns. name_at ns k) (sym names_are) ∙ h)
          (λ d k n h. ap (λ ps. content ps d k) places_are)
          (λ b x ne h. ap (λ ns. entry_of ns x) names_are)
          (ap (λ ns. entry_of ns e) names_are)
          (λ d fit. subst (λ ps. FitsHomes ps d) (sym places_are) fit)
          (λ home. inl (ap (λ ps. place ps home) places_are, ap (λ ns. name_at ns home) names_are))
          (λ none. same_store)
          (subst (λ (x : Scene). StaysInCore (scene_of t (store.spare old)) x 0) (sym scenes) (same_core (scene_of t (store.spare old))))
          (subst (λ (x : S). Loses (traffic store old) (traffic store x)) (sym same_store) (loses_nothing (traffic store old)))
          (subst (λ (x : S). RenewsNone (traffic store old) (traffic store x)) (sym same_store) (keeps_frames (traffic store old)))
        where
          scenes : scene_of t' (store.spare new) ≡ scene_of t (store.spare old)
          scenes = λ i. scene_of (record t { places = places_are i; names = names_are i }) (store.spare (same_store i))

    pub kept_step : ((k : ℕ) → points_at k e ≡ points_at k q) → t' ≡ entry_kept t at e → AreTables t' × AreTold t' × SetsEntry store old new tables tables' at e
    kept_step same is =
        let a' = kept_tables t a at q e there page used same in (
          same_names_agree (entry_kept t at e) is a' refl refl refl refl refl refl refl,
          same_names_told (entry_kept t at e) is a' refl refl refl refl refl refl refl,
          same_names_set (entry_kept t at e) is a' refl refl refl refl refl refl refl,
        )

    pub left_step : ((k : ℕ) → points_at k e ≡ 0) → ((k : ℕ) → points_at k q ≡ 1 → share_of t.shares k ≢ 1) → t' ≡ entry_left t at e → AreTables t' × AreTold t' × SetsEntry store old new tables tables' at e
    left_step none stays is =
        let a' = left_tables t a at q e there page used none stays in (
          same_names_agree (entry_left t at e) is a' refl refl refl refl refl refl refl,
          same_names_told (entry_left t at e) is a' refl refl refl refl refl refl refl,
          same_names_set (entry_left t at e) is a' refl refl refl refl refl refl refl,
        )

  -- the page that the entry alone named is given up
  module _ (a : AreTables t) (there : held_entry t.maps at ≡ Some q) (page : (l : Link) (b : Access) → e ≡ Follows l b → l.page < SPACE_PAGES) (lives : IsSome (fork_at t.maps at.map)) (none : (k : ℕ) → points_at k e ≡ 0)
      (h : Home) (b : Access) (q_is : q ≡ Page h b) (one : share_of t.shares h.0 ≡ 1) (given_up : IsFreed store h.0 old new) (is : t' ≡ home_freed t at h e) where
    abbrev u : Tables
    u = home_freed t at h e

    used_here : fork_at t.maps at.map ≡ None → e ≡ Empty
    used_here = lives_used (fork_at t.maps at.map) e lives

    agrees : AreTables u
    agrees = freed_tables t a at q e there page used_here none h b q_is one

    others_still : (c : EntryAt) (x : HeldEntry) → c ≢ at → held_entry t.maps c ≡ Some x → entry_of u.names x ≡ entry_of t.names x
    others_still c x ne held = entry_still t.names u.names h.0 x (name_kept t a h one) (none_else t a at c q x h.0 there (one ∙ sym (ap (points_at h.0) q_is ∙ points_self h b)) ne held)

    pub freed_step : AreTables t' × AreTold t' × SetsEntry store old new tables tables' at e
    freed_step =
        let a' : AreTables t' = subst AreTables (sym is) agrees in (
          a',
          tables_told t' a' sound_new.pages,
          sets_entry a a' there (ap (λ (x : Tables). x.maps) is) (ap (λ (x : Tables). x.files) is) (ap (λ (x : Tables). files_held x.names x.files) is ∙ files_still t.names u.names t.files h.0 (none_filed t a at q h.0 there (one ∙ sym (ap (points_at h.0) q_is ∙ points_self h b))) (name_kept t a h one)) (ap (λ (x : Tables). x.serials) is) (ap (λ (x : Tables). x.living) is) (ap (λ (x : Tables). x.limit) is)
              (λ k n f. named_of t a h one k n (ap (λ (x : Tables). name_at x.names k) (sym is) ∙ f))
              (λ d k n f. ap (λ (x : Tables). content x.places d k) is ∙ content_other t.places d h.0 k free (gone_not t a h one k n (ap (λ (x : Tables). name_at x.names k) (sym is) ∙ f)))
              (λ c x ne held. ap (λ (y : Tables). entry_of y.names x) is ∙ others_still c x ne held)
              (ap (λ (y : Tables). entry_of y.names e) is ∙ entry_still t.names u.names h.0 e (name_kept t a h one) (none h.0))
              (λ d fit. subst (λ (x : Tables). FitsHomes x.places d) (sym is) (fits_set t.places d h.0 free fit))
              (λ k. subst (λ (x : Tables). HomeStays t x k (NamesHome t.maps at k)) (sym is) (freed_stays t a h one (NamesHome t.maps at) (record { access = b; is = there ∙ ap Some q_is }) k))
              (λ none. absurd (none h.0 (record { access = b; is = there ∙ ap Some q_is })))
              (subst (λ (x : Tables). StaysInCore (scene_of t (store.spare old)) (scene_of x (store.spare new)) 0) (sym is) (freed_core store old new t a h one given_up))
              (loses_freed store old new h.0 given_up) (freed_none store old new h.0 given_up),
        )

-- an entry that names no page is not the only one to name it
pub names_none : (shares : List ℕ) (q : HeldEntry) → ((h : Home) (b : Access) → q ≡ Page h b → ⊥) → is_alone shares (Some q) ≡ false
names_none shares Empty none = refl
names_none shares (Page h b) none = absurd (none h b refl)
names_none shares (Follows l b) none = refl
