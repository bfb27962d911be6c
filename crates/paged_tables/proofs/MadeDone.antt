-- A page that was made for an entry at the end of a chain, or with its first copy mark, whatever the drum.
use Rattle.std.proofs.Common.{◌≡◌, ◌≢◌, ℕ, ◌+◌, ◌<◌, ◌≤◌, List, true, false, cond, Option, None, Some, is_some, length, refl, sym, ◌∙◌, ap, subst, arith}
use Rattle.std.specs.Prelude.{slice_set}
use Rattle.std.specs.FinMap as fin
use Rattle.std.proofs.lemmas.List.{get_or-set_same, get_or-set_other}
use Rattle.machine_names.specs.declared.names.Access.{Access}
use Rattle.machine_names.specs.declared.names.ForkName.{ForkName}
use Rattle.machine_names.specs.declared.names.PageName.{PageName}
use Rattle.machine_names.specs.declared.names.Slot.{Slot}
use Rattle.machine_names.specs.declared.names.Tty.{Tty}
use Rattle.machine_names.specs.Bounds.{IsOwner}
use Rattle.page_contracts.specs.Pages.{TakesFrames}
use Rattle.page_contracts.specs.Stores.{HomePlace, Loses, StoreMeaning, away_at, away_home, free, here, is_here, is_taken, place, traffic, with_word_in}
use Rattle.page_contracts.proofs.Losing.{loses_made, loses_on, loses_used}
use Rattle.share_table.specs.declared.pointer.Pointer.TheVariants.{Private}
use Rattle.share_table.specs.Pointers.{pointer_word}
use Rattle.share_table.specs.Shares.{Shares}
use Rattle.pager_walk.specs.declared.paged_entry.PagedEntry.TheVariants.{Page}
use Rattle.pager_walk.specs.MapPages.{fork_at, root_at}
use Rattle.pager_walk.specs.PagedMaps.{Tables, entry_in, name_at, with_name}
use Rattle.pager_walk.specs.Walks.{IsNearSlot}
use Rattle.pager_walk.proofs.Changing.{entry_back}
use Rattle.pager_walk.proofs.Looking.{ArePages, root_taken, taken_within}
use Rattle.pager_walk.proofs.NumberedMaps.{index_fork}
use Rattle.flat_tables.specs.Serials.{serial_of}
use Rattle.flat_tables.specs.SlotTables.{files_held, filed_total, share_of}
use Rattle.flat_tables.specs.TableSteps.{next_name}
use Rattle.flat_tables.proofs.FiledHomes.{files_still}
use Rattle.flat_tables.proofs.NextSerials.{next_other, next_own}
use Rattle.paged_tables.specs.MadePages.{MakesPage}
use Rattle.paged_tables.specs.NameCounts.{count_of, share_at}
use Rattle.paged_tables.specs.PagedMeaning.{forks_in, lives_in}
use Rattle.paged_tables.specs.PagedTables.{Beside, AreKept}
use Rattle.paged_tables.specs.PagedTouches.{roomy, scene_over}
use Rattle.paged_tables.specs.PagedSlots.{filed_over}
use Rattle.paged_tables.specs.PlacesSettled.{SetsOneWord, UsesBoth}
use Rattle.paged_tables.proofs.EntryLooks.{SetsOne, sets_one}
use Rattle.paged_tables.proofs.EntryPut.{put_places}
use Rattle.paged_tables.proofs.NewForks.{free_apart}
use Rattle.paged_tables.proofs.PagesMade.{no_name}
use Rattle.paged_tables.proofs.Places.{IsNoRoot}
use Rattle.paged_tables.proofs.StillScenes.{away_made, away_put, made_other, made_takes, put_taken, room_less, still_scene}
use Rattle.paged_tables.proofs.UsedPlaces.{made_both, uses_both}

module _ {S : Type 0} (store : StoreMeaning S) (old new : S) (b b' : Beside) (kept : AreKept b (store.homes old)) (kept' : AreKept b' (store.homes new)) (pages : ArePages (store.homes old)) (owner : Tty) (own : IsOwner owner)
    (at : Slot) (near : IsNearSlot b.tables (store.homes old) at) (words : List ℕ) (access : Access) (shares : Shares) (z : MakesPage store old new b b' at (here words) access shares owner) where
  abbrev places : List HomePlace
  places = store.homes old

  abbrev title : PageName
  title = next_name b.serials owner

  abbrev t' : Tables
  t' = with_name (record b.tables { shares = shares }) z.home title

  abbrev mid : List HomePlace
  mid = slice_set places z.home.0 (here words)

  abbrev word : ℕ
  word = pointer_word (Private z.home access)

  apart : IsNoRoot b.tables.maps z.home.0
  apart = free_apart b.tables places kept.rooted z.home.0 z.made.was_free

  roots : (j : ℕ) (g : ForkName) → fork_at b.tables.maps j ≡ Some g → place mid (root_at b.tables.maps j).0 ≡ place places (root_at b.tables.maps j).0
  roots j g has = get_or-set_other places z.home.0 (root_at b.tables.maps j).0 (here words) free (apart j g has)

  abbrev root : ℕ
  root = (root_at b.tables.maps z.number).0

  abbrev put : List HomePlace
  put = put_places b places mid kept at near z.number z.numbered roots word

  homes_are : store.homes new ≡ put
  homes_are = z.homes ∙ ap (λ ps. slice_set ps root (with_word_in (place ps root) at.page word)) z.made.homes

  tables_are : b'.tables ≡ t'
  tables_are = ap (λ (x : Beside). x.tables) z.beside

  below : z.home.0 < length b.tables.names
  below = omega (arith, z.made.below, kept.homes, kept.sized)

  stands : entry_in t' word ≡ Some (Page z.home access)
  stands =
      entry_back t' (Private z.home access) (omega (arith, below, kept.sized, kept.few))
      ∙ ap (λ (o : Option PageName). cond (is_some o) (Some (Page z.home access)) None) (get_or-set_same b.tables.names z.home.0 (Some title) None below)

  sets : SetsOne b.tables t' places put at (Page z.home access)
  sets = sets_one b places mid kept pages at near z.number z.numbered roots word (slice_set b.tables.names z.home.0 (Some title)) shares (Page z.home access) stands

  -- what looks find then
  pub made_sets : SetsOne b.tables b'.tables places (store.homes new) at (Page z.home access)
  made_sets = subst (λ (x : Tables). SetsOne b.tables x places (store.homes new) at (Page z.home access)) (sym tables_are) (subst (λ (ps : List HomePlace). SetsOne b.tables t' places ps at (Page z.home access)) (sym homes_are) sets)

  away_same : (k : ℕ) → away_at (store.homes new) k ≡ away_at places k
  away_same k = ap (λ ps. away_at ps k) homes_are ∙ away_put mid root at.page word k ∙ away_made places z.home.0 words k z.made.below z.made.was_free

  home_near : away_at places z.home.0 ≡ None
  home_near = ap (λ p. away_home p z.home.0) z.made.was_free

  pub made_near : away_at (store.homes new) z.home.0 ≡ None
  made_near = away_same z.home.0 ∙ home_near

  pub made_here : is_here (place (store.homes new) z.home.0) ≡ true
  made_here =
      ap (λ ps. is_here (place ps z.home.0)) homes_are
      ∙ ap is_here (get_or-set_other mid root z.home.0 (with_word_in (place mid root) at.page word) free (λ same. apart z.number at.fork (index_fork b.tables.maps at.fork z.number z.numbered) (sym same)))
      ∙ ap is_here (get_or-set_same places z.home.0 (here words) free z.made.below)

  pub made_taken : (k : ℕ) → is_taken (place places k) ≡ true → is_taken (place (store.homes new) k) ≡ true
  made_taken k taken = ap (λ ps. is_taken (place ps k)) homes_are ∙ put_taken mid root at.page word k ∙ made_takes places z.home.0 words k taken

  own_fork : fork_at b.tables.maps z.number ≡ Some at.fork
  own_fork = index_fork b.tables.maps at.fork z.number z.numbered

  -- what was taken has the page that it had, but for the word of the entry
  pub made_pages : SetsOneWord b places (store.homes new)
  made_pages = record {
    fork = at.fork;
    number = z.number;
    numbered = z.numbered;
    page = at.page;
    word = word;
    map = ap (λ ps. place ps root) homes_are
        ∙ get_or-set_same mid root (with_word_in (place mid root) at.page word) free (taken_within mid root (ap is_taken (roots z.number at.fork own_fork) ∙ root_taken b.tables places kept.rooted at.fork z.number z.numbered))
        ∙ ap (λ p. with_word_in p at.page word) (roots z.number at.fork own_fork);
    homes = λ k ne taken. ap (λ ps. place ps k) homes_are ∙ get_or-set_other mid root k (with_word_in (place mid root) at.page word) free ne ∙ made_other places z.home.0 words k z.made.was_free taken;
  }

  -- what was free is free, but the home that was taken
  pub made_fresh : (k : ℕ) → k ≢ z.home.0 → is_taken (place places k) ≡ false → place (store.homes new) k ≡ place places k
  made_fresh k ne unused =
      ap (λ ps. place ps k) homes_are
      ∙ get_or-set_other mid root k (with_word_in (place mid root) at.page word) free (λ same. (let no : true ≡ false = sym (root_taken b.tables places kept.rooted at.fork z.number z.numbered) ∙ ap (λ j. is_taken (place places j)) (sym same) ∙ unused in cc no))
      ∙ get_or-set_other places z.home.0 k (here words) free ne

  pub made_maps : b'.tables.maps ≡ b.tables.maps
  made_maps = ap (λ (x : Beside). x.tables.maps) z.beside

  pub made_names : (k : ℕ) → k ≢ z.home.0 → name_at b'.tables.names k ≡ name_at b.tables.names k
  made_names k ne = ap (λ (x : Tables). name_at x.names k) tables_are ∙ get_or-set_other b.tables.names z.home.0 k (Some title) None ne

  pub made_scene : TakesFrames (scene_over b places (store.spare old)) (scene_over b' (store.homes new) (store.spare new)) 1
  made_scene =
      still_scene b b' places (store.homes new) (ap (λ (x : Beside). x.tables.maps) z.beside) away_same z.home.0 kept.named.once kept'.named.once made_names home_near
      (store.spare old) (store.spare new) 1 (ap (λ n. n + 1) z.used.framed.spare ∙ z.made.spare)

  pub made_count : b'.taken + b'.living ≡ b.taken + b.living + 1
  made_count = (let t = ap (λ (x : Beside). x.taken) z.beside in let l = ap (λ (x : Beside). x.living) z.beside in omega (arith, t, l))

  pub made_room : roomy b 2 ≡ true → roomy b' 1 ≡ true
  made_room two = (let l = ap (λ (x : Beside). x.limit) z.beside in room_less b b' made_count l two)

  pub made_loses : Loses (traffic store old) (traffic store new)
  made_loses = loses_on (traffic store old) (traffic store z.mid) (traffic store new) (loses_made store old z.mid z.home.0 (here words) z.made) (loses_used store z.mid new root z.used)

  pub made_ages : UsesBoth store old new b' z.home.0 (Some at.fork)
  made_ages = uses_both store old new b b' at.fork z.number z.numbered (ap (λ (x : Beside). x.tables.maps) z.beside) z.home.0 (made_both store old z.mid new z.home.0 root z.used (here words) z.made)

  unfiled : filed_total z.home.0 b.files ≡ 0
  unfiled =
      let none = no_name b places kept z.home owner own (here words) refl z.made.below z.made.was_free in
      let few = subst (λ (o : Option PageName). share_of b.filed z.home.0 ≤ count_of b.tables.shares o (share_at b.shared z.home.0)) none (kept.files.few z.home.0) in
      omega (arith, few, kept.files.count z.home.0)

  pub made_files : filed_over b' ≡ filed_over b
  made_files =
      let files = ap (λ (x : Beside). x.files) z.beside in
      (λ i. fin.get (files_held b'.tables.names (files i))) ∙ ap fin.get (files_still b.tables.names b'.tables.names b.files z.home.0 unfiled made_names)

  pub made_lives : lives_in b' ≡ lives_in b
  made_lives = ap lives_in z.beside

  pub made_forks : forks_in b' ≡ forks_in b
  made_forks = ap forks_in z.beside

  pub made_serial : serial_of b'.serials owner ≤ serial_of b.serials owner + 1
  made_serial = (let s = ap (λ (x : Beside). serial_of x.serials owner) z.beside in omega (arith, s, next_own b.serials owner own kept.named.owners))

  pub made_serials : (t : Tty) → t ≢ owner → serial_of b'.serials t ≡ serial_of b.serials t
  made_serials t ne = ap (λ (x : Beside). serial_of x.serials t) z.beside ∙ next_other b.serials owner t (λ e. ne (λ i. record { 0 = e i }))

  pub made_most : b'.limit ≡ b.limit
  made_most = ap (λ (x : Beside). x.limit) z.beside
