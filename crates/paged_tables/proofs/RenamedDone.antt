-- A page that became another owner's in its place, whatever the drum.
use Rattle.std.proofs.Common.{◌≡◌, ◌≢◌, ℕ, ◌+◌, ◌≤◌, List, Bool, true, false, None, Some, is_some, refl, sym, ◌∙◌, ap, subst, arith}
use Rattle.std.specs.Prelude.{◌&&◌, ◌==◌}
use Rattle.std.specs.FinMap as fin
use Rattle.std.proofs.lemmas.Bool.Decides.{nat_tests}
use Rattle.std.proofs.lemmas.List.{get_or-set_same, get_or-set_other}
use Rattle.machine_names.specs.declared.names.Access.{Access}
use Rattle.machine_names.specs.declared.names.PageName.{PageName}
use Rattle.machine_names.specs.declared.names.Slot.{Slot}
use Rattle.machine_names.specs.declared.names.Tty.{Tty}
use Rattle.machine_names.specs.Bounds.{IsOwner}
use Rattle.page_homes.specs.declared.homes.Home.{Home}
use Rattle.page_contracts.specs.Pages.{TakesFrames}
use Rattle.page_contracts.specs.Stores.{HomePlace, Loses, StoreMeaning, away_at, away_home, free, here, is_here, is_taken, place, traffic, with_word_in}
use Rattle.page_contracts.proofs.Losing.{loses_on, loses_used}
use Rattle.share_table.specs.Pointers.{pointer_word}
use Rattle.pager_walk.specs.declared.paged_entry.PagedEntry.TheVariants.{Page}
use Rattle.pager_walk.specs.MapPages.{fork_at, root_at}
use Rattle.pager_walk.specs.PagedMaps.{Tables, entry_in, name_at}
use Rattle.pager_walk.specs.Walks.{IsNearSlot}
use Rattle.pager_walk.proofs.Changing.{entry_back}
use Rattle.pager_walk.proofs.Looking.{ArePages, root_taken, taken_within}
use Rattle.pager_walk.proofs.NumberedMaps.{index_fork}
use Rattle.flat_tables.specs.Serials.{serial_of}
use Rattle.flat_tables.specs.SlotTables.{files_held, filed_total, share_of}
use Rattle.flat_tables.specs.TableSteps.{next_name}
use Rattle.flat_tables.proofs.FiledHomes.{files_still}
use Rattle.flat_tables.proofs.NextSerials.{next_other, next_own}
use Rattle.paged_tables.specs.MadePages.{RenamesPage, pointer_to}
use Rattle.paged_tables.specs.PagedMeaning.{forks_in, lives_in}
use Rattle.paged_tables.specs.PagedTables.{Beside, AreKept}
use Rattle.paged_tables.specs.PagedTouches.{has_one_name, names_at, scene_over}
use Rattle.paged_tables.specs.PagedSlots.{filed_over}
use Rattle.paged_tables.specs.PlacesSettled.{SetsOneWord, UsesBoth}
use Rattle.paged_tables.proofs.EntryLooks.{SetsOne, sets_one}
use Rattle.paged_tables.proofs.EntryPut.{put_places}
use Rattle.paged_tables.proofs.RenamedPages.{names', one_named, pointer_fits, pointer_names, some_still, tables'}
use Rattle.paged_tables.proofs.StillScenes.{away_put, put_taken, still_scene}
use Rattle.paged_tables.proofs.Touched.{named_apart}
use Rattle.paged_tables.proofs.UsedPlaces.{used_both, uses_both}

-- no file names a page that has one name, which is no file's
pub one_unfiled : (b : Beside) (h : ℕ) → has_one_name b h ≡ true → share_of b.filed h ≡ 0
one_unfiled b h one = none (share_of b.filed h) (second (names_at b h == 1) (share_of b.filed h == 0) one)
  where
    second : (x y : Bool) → (x && y) ≡ true → y ≡ true
    second true y e = e
    second false y e = absurd (cc e)

    none : (n : ℕ) → (n == 0) ≡ true → n ≡ 0
    none n e = grind (arith, nat_tests, e)

module _ {S : Type 0} (store : StoreMeaning S) (old new : S) (b b' : Beside) (kept : AreKept b (store.homes old)) (kept' : AreKept b' (store.homes new)) (pages : ArePages (store.homes old)) (owner : Tty) (own : IsOwner owner)
    (at : Slot) (near : IsNearSlot b.tables (store.homes old) at) (h : Home) (one : has_one_name b h.0 ≡ true) (words : List ℕ) (old_words : place (store.homes old) h.0 ≡ here words) (access : Access) (z : RenamesPage store old new b b' at h access owner) where
  abbrev places : List HomePlace
  places = store.homes old

  abbrev title : PageName
  title = next_name b.serials owner

  some : is_some (name_at b.tables.names h.0) ≡ true
  some = one_named b h.0 one

  abbrev t' : Tables
  t' = tables' b places kept h owner own some

  abbrev root : ℕ
  root = (root_at b.tables.maps z.number).0

  abbrev word : ℕ
  word = pointer_word (pointer_to b h access)

  tables_are : b'.tables ≡ t'
  tables_are = ap (λ (x : Beside). x.tables) z.beside

  stands : entry_in t' word ≡ Some (Page h access)
  stands =
      entry_back t' (pointer_to b h access) (pointer_fits b places kept h access some)
      ∙ pointer_names b places kept h access some (names' b places kept h owner own some) (some_still b places kept h owner own some h.0 ∙ some)

  sets : SetsOne b.tables t' places (put_places b places places kept at near z.number z.numbered (λ j g e. refl) word) at (Page h access)
  sets = sets_one b places places kept pages at near z.number z.numbered (λ j g e. refl) word (names' b places kept h owner own some) b.tables.shares (Page h access) stands

  -- what looks find then
  pub renamed_sets : SetsOne b.tables b'.tables places (store.homes new) at (Page h access)
  renamed_sets = subst (λ (x : Tables). SetsOne b.tables x places (store.homes new) at (Page h access)) (sym tables_are) (subst (λ (ps : List HomePlace). SetsOne b.tables t' places ps at (Page h access)) (sym z.homes) sets)

  away_same : (k : ℕ) → away_at (store.homes new) k ≡ away_at places k
  away_same k = ap (λ ps. away_at ps k) z.homes ∙ away_put places root at.page word k

  home_near : away_at places h.0 ≡ None
  home_near = ap (λ p. away_home p h.0) old_words

  pub renamed_near : away_at (store.homes new) h.0 ≡ None
  renamed_near = away_same h.0 ∙ home_near

  own_fork : fork_at b.tables.maps z.number ≡ Some at.fork
  own_fork = index_fork b.tables.maps at.fork z.number z.numbered

  apart : root ≢ h.0
  apart = named_apart b places kept.rooted h.0 some z.number at.fork own_fork

  pub renamed_here : is_here (place (store.homes new) h.0) ≡ true
  renamed_here = ap (λ ps. is_here (place ps h.0)) z.homes ∙ ap is_here (get_or-set_other places root h.0 (with_word_in (place places root) at.page word) free (λ same. apart (sym same))) ∙ ap is_here old_words

  pub renamed_taken : (k : ℕ) → is_taken (place places k) ≡ true → is_taken (place (store.homes new) k) ≡ true
  renamed_taken k taken = ap (λ ps. is_taken (place ps k)) z.homes ∙ put_taken places root at.page word k ∙ taken

  -- what was taken has the page that it had, but for the word of the entry
  pub renamed_pages : SetsOneWord b places (store.homes new)
  renamed_pages = record {
    fork = at.fork;
    number = z.number;
    numbered = z.numbered;
    page = at.page;
    word = word;
    map = ap (λ ps. place ps root) z.homes ∙ get_or-set_same places root (with_word_in (place places root) at.page word) free (taken_within places root (root_taken b.tables places kept.rooted at.fork z.number z.numbered));
    homes = λ k ne taken. ap (λ ps. place ps k) z.homes ∙ get_or-set_other places root k (with_word_in (place places root) at.page word) free ne;
  }

  -- what was free is free
  pub renamed_fresh : (k : ℕ) → k ≢ h.0 → is_taken (place places k) ≡ false → place (store.homes new) k ≡ place places k
  renamed_fresh k ne unused =
      ap (λ ps. place ps k) z.homes
      ∙ get_or-set_other places root k (with_word_in (place places root) at.page word) free (λ same. (let no : true ≡ false = sym (root_taken b.tables places kept.rooted at.fork z.number z.numbered) ∙ ap (λ j. is_taken (place places j)) (sym same) ∙ unused in cc no))

  pub renamed_maps : b'.tables.maps ≡ b.tables.maps
  renamed_maps = ap (λ (x : Beside). x.tables.maps) z.beside

  pub renamed_names : (k : ℕ) → k ≢ h.0 → name_at b'.tables.names k ≡ name_at b.tables.names k
  renamed_names k ne = ap (λ (x : Tables). name_at x.names k) tables_are ∙ get_or-set_other b.tables.names h.0 k (Some title) None ne

  pub renamed_scene : TakesFrames (scene_over b places (store.spare old)) (scene_over b' (store.homes new) (store.spare new)) 0
  renamed_scene =
      still_scene b b' places (store.homes new) (ap (λ (x : Beside). x.tables.maps) z.beside) away_same h.0 kept.named.once kept'.named.once renamed_names home_near (store.spare old) (store.spare new) 0
      (let two = z.used.framed.spare ∙ z.page_used.framed.spare in omega (arith, two))

  pub renamed_count : b'.taken + b'.living ≡ b.taken + b.living
  renamed_count = (let t = ap (λ (x : Beside). x.taken) z.beside in let l = ap (λ (x : Beside). x.living) z.beside in omega (arith, t, l))

  pub renamed_loses : Loses (traffic store old) (traffic store new)
  renamed_loses = loses_on (traffic store old) (traffic store z.mid) (traffic store new) (loses_used store old z.mid h.0 z.page_used) (loses_used store z.mid new root z.used)

  pub renamed_ages : UsesBoth store old new b' h.0 (Some at.fork)
  renamed_ages = uses_both store old new b b' at.fork z.number z.numbered (ap (λ (x : Beside). x.tables.maps) z.beside) h.0 (used_both store old z.mid new h.0 root z.used z.page_used)

  pub renamed_files : filed_over b' ≡ filed_over b
  renamed_files =
      let files = ap (λ (x : Beside). x.files) z.beside in
      let none : filed_total h.0 b.files ≡ 0 = omega (arith, one_unfiled b h.0 one, kept.files.count h.0) in
      (λ i. fin.get (files_held b'.tables.names (files i))) ∙ ap fin.get (files_still b.tables.names b'.tables.names b.files h.0 none renamed_names)

  pub renamed_lives : lives_in b' ≡ lives_in b
  renamed_lives = ap lives_in z.beside

  pub renamed_forks : forks_in b' ≡ forks_in b
  renamed_forks = ap forks_in z.beside

  pub renamed_serial : serial_of b'.serials owner ≤ serial_of b.serials owner + 1
  renamed_serial = (let s = ap (λ (x : Beside). serial_of x.serials owner) z.beside in omega (arith, s, next_own b.serials owner own kept.named.owners))

  pub renamed_serials : (t : Tty) → t ≢ owner → serial_of b'.serials t ≡ serial_of b.serials t
  renamed_serials t ne = ap (λ (x : Beside). serial_of x.serials t) z.beside ∙ next_other b.serials owner t (λ e. ne (λ i. record { 0 = e i }))

  pub renamed_most : b'.limit ≡ b.limit
  renamed_most = ap (λ (x : Beside). x.limit) z.beside
