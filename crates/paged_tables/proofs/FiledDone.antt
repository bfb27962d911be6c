-- A page that was made for a file, whatever the drum.
use Rattle.std.proofs.Common.{◌≡◌, ◌≢◌, ℕ, ◌+◌, ◌<◌, ◌≤◌, List, true, false, Option, None, Some, is_some, length, refl, sym, ◌∙◌, ap, subst, arith}
use Rattle.std.specs.FinMap as fin
use Rattle.std.specs.Option.{option_map}
use Rattle.std.proofs.lemmas.List.{get_or-set_same, get_or-set_other}
use Rattle.machine_names.specs.declared.names.PageName.{PageName}
use Rattle.machine_names.specs.declared.names.Tty.{Tty}
use Rattle.machine_names.specs.Bounds.{IsOwner}
use Rattle.machine_names.specs.Orders.{FilePage}
use Rattle.machine_names.specs.PageWords.{zero_words}
use Rattle.page_contracts.specs.Pages.{TakesFrames}
use Rattle.page_contracts.specs.Stores.{HomePlace, Loses, StoreMeaning, away_at, away_home, free, here, is_here, is_taken, place, traffic}
use Rattle.page_contracts.proofs.Losing.{loses_made, made_one}
use Rattle.pager_walk.specs.PagedMaps.{name_at}
use Rattle.flat_tables.specs.HeldMaps.{name_of}
use Rattle.flat_tables.specs.Serials.{serial_of}
use Rattle.flat_tables.specs.SlotTables.{files_held, filed_total, share_of}
use Rattle.flat_tables.specs.TableSteps.{next_name}
use Rattle.flat_tables.proofs.FiledHomes.{files_still, get_filed, with_elsewhere, with_here}
use Rattle.flat_tables.proofs.NextSerials.{next_other, next_own}
use Rattle.paged_tables.specs.MadePages.{FilesPage}
use Rattle.paged_tables.specs.NameCounts.{count_of, share_at}
use Rattle.paged_tables.specs.PagedMeaning.{forks_in, lives_in}
use Rattle.paged_tables.specs.PagedTables.{Beside, AreKept}
use Rattle.paged_tables.specs.PagedTouches.{scene_over}
use Rattle.paged_tables.specs.PlacesSettled.{FilesOnePage, UsesBoth}
use Rattle.paged_tables.proofs.PagesMade.{no_name}
use Rattle.paged_tables.proofs.StillScenes.{away_made, made_other, made_takes, still_scene}

module _ {S : Type 0} (store : StoreMeaning S) (old new : S) (b b' : Beside) (kept : AreKept b (store.homes old)) (kept' : AreKept b' (store.homes new)) (owner : Tty) (own : IsOwner owner) (f : FilePage ℕ) (z : FilesPage store old new b b' f owner) where
  abbrev places : List HomePlace
  places = store.homes old

  abbrev title : PageName
  title = next_name b.serials owner

  below : z.home.0 < length b.tables.names
  below = omega (arith, z.made.below, kept.homes, kept.sized)

  away_same : (k : ℕ) → away_at (store.homes new) k ≡ away_at places k
  away_same k = ap (λ ps. away_at ps k) z.made.homes ∙ away_made places z.home.0 zero_words k z.made.below z.made.was_free

  home_near : away_at places z.home.0 ≡ None
  home_near = ap (λ p. away_home p z.home.0) z.made.was_free

  pub filed_near : away_at (store.homes new) z.home.0 ≡ None
  filed_near = away_same z.home.0 ∙ home_near

  pub filed_here : is_here (place (store.homes new) z.home.0) ≡ true
  filed_here = ap (λ ps. is_here (place ps z.home.0)) z.made.homes ∙ ap is_here (get_or-set_same places z.home.0 (here zero_words) free z.made.below)

  pub filed_taken : (k : ℕ) → is_taken (place places k) ≡ true → is_taken (place (store.homes new) k) ≡ true
  filed_taken k taken = ap (λ ps. is_taken (place ps k)) z.made.homes ∙ made_takes places z.home.0 zero_words k taken

  pub filed_pages : (k : ℕ) → is_taken (place places k) ≡ true → place (store.homes new) k ≡ place places k
  filed_pages k taken = ap (λ ps. place ps k) z.made.homes ∙ made_other places z.home.0 zero_words k z.made.was_free taken

  -- what was free is free, but the home that was taken
  pub filed_fresh : (k : ℕ) → k ≢ z.home.0 → is_taken (place places k) ≡ false → place (store.homes new) k ≡ place places k
  filed_fresh k ne unused = ap (λ ps. place ps k) z.made.homes ∙ get_or-set_other places z.home.0 k (here zero_words) free ne

  pub filed_maps : b'.tables.maps ≡ b.tables.maps
  filed_maps = ap (λ (x : Beside). x.tables.maps) z.beside

  pub filed_names : (k : ℕ) → k ≢ z.home.0 → name_at b'.tables.names k ≡ name_at b.tables.names k
  filed_names k ne = ap (λ (x : Beside). name_at x.tables.names k) z.beside ∙ get_or-set_other b.tables.names z.home.0 k (Some title) None ne

  pub filed_at : fin.get b'.files f ≡ Some z.home
  filed_at = ap (λ (x : Beside). fin.get x.files f) z.beside ∙ with_here b.files f (Some z.home)

  pub filed_scene : TakesFrames (scene_over b places (store.spare old)) (scene_over b' (store.homes new) (store.spare new)) 1
  filed_scene = still_scene b b' places (store.homes new) (ap (λ (x : Beside). x.tables.maps) z.beside) away_same z.home.0 kept.named.once kept'.named.once filed_names home_near (store.spare old) (store.spare new) 1 z.made.spare

  pub filed_count : b'.taken + b'.living ≡ b.taken + b.living + 1
  filed_count = (let t = ap (λ (x : Beside). x.taken) z.beside in let l = ap (λ (x : Beside). x.living) z.beside in omega (arith, t, l))

  pub filed_loses : Loses (traffic store old) (traffic store new)
  filed_loses = loses_made store old new z.home.0 (here zero_words) z.made

  pub filed_ages : UsesBoth store old new b' z.home.0 None
  filed_ages = made_one store old new z.home.0 (here zero_words) z.made

  unfiled : filed_total z.home.0 b.files ≡ 0
  unfiled =
      let none = no_name b places kept z.home owner own (here zero_words) refl z.made.below z.made.was_free in
      let few = subst (λ (o : Option PageName). share_of b.filed z.home.0 ≤ count_of b.tables.shares o (share_at b.shared z.home.0)) none (kept.files.few z.home.0) in
      omega (arith, few, kept.files.count z.home.0)

  still : files_held b'.tables.names b.files ≡ files_held b.tables.names b.files
  still = files_still b.tables.names b'.tables.names b.files z.home.0 unfiled filed_names

  pub filed_one : FilesOnePage b b' f true
  filed_one = record {
    set = ap is_some (get_filed b'.tables.names b'.files f ∙ ap (option_map (name_of b'.tables.names)) filed_at);
    others = λ g ne.
        get_filed b'.tables.names b'.files g
        ∙ ap (option_map (name_of b'.tables.names)) (ap (λ (x : Beside). fin.get x.files g) z.beside ∙ with_elsewhere b.files f g (Some z.home) ne)
        ∙ sym (get_filed b'.tables.names b.files g) ∙ ap (λ m. fin.get m g) still;
  }

  pub filed_lives : lives_in b' ≡ lives_in b
  filed_lives = ap lives_in z.beside

  pub filed_forks : forks_in b' ≡ forks_in b
  filed_forks = ap forks_in z.beside

  pub filed_serial : serial_of b'.serials owner ≤ serial_of b.serials owner + 1
  filed_serial = (let s = ap (λ (x : Beside). serial_of x.serials owner) z.beside in omega (arith, s, next_own b.serials owner own kept.named.owners))

  pub filed_serials : (t : Tty) → t ≢ owner → serial_of b'.serials t ≡ serial_of b.serials t
  filed_serials t ne = ap (λ (x : Beside). serial_of x.serials t) z.beside ∙ next_other b.serials owner t (λ e. ne (λ i. record { 0 = e i }))

  pub filed_most : b'.limit ≡ b.limit
  filed_most = ap (λ (x : Beside). x.limit) z.beside
