-- The word of an entry is put into the page of a map, where the pages of maps are as they were.
use Rattle.std.proofs.Common.{◌≡◌, ◌≢◌, ℕ, ◌<◌, List, true, Option, Some, length, refl, sym, ◌∙◌, ap}
use Rattle.std.specs.Prelude.{IsSome, slice_set}
use Rattle.machine_names.specs.declared.names.ForkName.{ForkName}
use Rattle.machine_names.specs.declared.names.Slot.{Slot}
use Rattle.page_contracts.specs.DrumWords.{DrumWords}
use Rattle.page_contracts.specs.Stores.{HomePlace, content, here, is_taken, place, with_word_in}
use Rattle.pager_walk.specs.declared.paged_entry.Looked.TheVariants.{Is, Absent, Missing, Refused}
use Rattle.pager_walk.specs.declared.paged_entry.Looked.{Looked}
use Rattle.pager_walk.specs.declared.paged_entry.PagedEntry.{PagedEntry}
use Rattle.pager_walk.specs.MapPages.{fork_at, root_at, index_of}
use Rattle.pager_walk.specs.PagedMaps.{Tables, entry_in, is_near, look_at, look_map, words_in}
use Rattle.pager_walk.specs.Walks.{IsNearSlot}
use Rattle.pager_walk.proofs.Changing.{content_other, content_same, near_here}
use Rattle.pager_walk.proofs.Looking.{ArePages, content_here, taken_within}
use Rattle.pager_walk.proofs.NumberedMaps.{index_fork, index_is}
use Rattle.flat_tables.specs.declared.held_entry.EntryAt.{EntryAt}
use Rattle.flat_tables.specs.HeldMaps as flat
use Rattle.flat_tables.specs.Walks.{slot_of}
use Rattle.paged_tables.specs.MapsInMemory.{in_memory, maps_in_memory}
use Rattle.paged_tables.specs.PagedPlaces.{page_places}
use Rattle.paged_tables.specs.PagedTables.{Beside, AreKept, FitsPages}
use Rattle.paged_tables.proofs.EntrySet.{memory_set}
use Rattle.paged_tables.proofs.Places.{root_set}
use Rattle.paged_tables.proofs.Touched.{StandsIn, stands_in}
use Rattle.paged_tables.proofs.WalksTold.{LookIs, fork_same, look_told, maps}

module _ (b : Beside) (places mid : List HomePlace) (kept : AreKept b places) (at : Slot) (near : IsNearSlot b.tables places at) (number : ℕ) (numbered : index_of b.tables.maps at.fork ≡ Some number)
    (roots : (j : ℕ) (g : ForkName) → fork_at b.tables.maps j ≡ Some g → place mid (root_at b.tables.maps j).0 ≡ place places (root_at b.tables.maps j).0) (word : ℕ) where
  abbrev root : ℕ
  root = (root_at b.tables.maps number).0

  abbrev pub put_places : List HomePlace
  put_places = slice_set mid root (with_word_in (place mid root) at.page word)

  pub own_fork : fork_at b.tables.maps number ≡ Some at.fork
  own_fork = index_fork b.tables.maps at.fork number numbered

  -- the words of the map that has the entry
  pub words_there : (ws : List ℕ) × (place places root ≡ here ws)
  words_there = near_here b.tables (root_at b.tables.maps number) (place places root) at.page (sym (ap (λ (o : Option ℕ). is_near (look_map b.tables places at.page o)) numbered) ∙ near.near)

  mid_words : place mid root ≡ here words_there.0
  mid_words = roots number at.fork own_fork ∙ words_there.1

  pub put_is : put_places ≡ slice_set mid root (here (slice_set words_there.0 at.page word))
  put_is = ap (λ p. slice_set mid root (with_word_in p at.page word)) mid_words

  -- the pages of forks and files stay
  pub pages_put : page_places b.tables.maps put_places ≡ page_places b.tables.maps mid
  pages_put = root_set b.tables.maps mid number at.fork (with_word_in (place mid root) at.page word) own_fork

  -- over the words of a drum
  module _ (pages : ArePages places) (d : DrumWords) (fits : FitsPages b places d) (mid_same : (j : ℕ) (g : ForkName) → fork_at b.tables.maps j ≡ Some g → content mid d (root_at b.tables.maps j).0 ≡ content places d (root_at b.tables.maps j).0) where
    others : (j : ℕ) (g : ForkName) → fork_at b.tables.maps j ≡ Some g → j ≢ number → content put_places d (root_at b.tables.maps j).0 ≡ content places d (root_at b.tables.maps j).0
    others j g has ne = content_other mid d root (root_at b.tables.maps j).0 (with_word_in (place mid root) at.page word) (λ same. ne (kept.rooted.apart j number g at.fork has own_fork same)) ∙ mid_same j g has

    inside : root < length mid
    inside = taken_within mid root (ap is_taken mid_words)

    own_words : words_in (content put_places d root) ≡ slice_set (words_in (content places d root)) at.page word
    own_words =
        ap (λ ps. words_in (content ps d root)) put_is ∙ ap words_in (content_same mid d root (here (slice_set words_there.0 at.page word)) inside)
        ∙ sym (ap (λ (c : Option (List ℕ)). slice_set (words_in c) at.page word) (content_here places d root words_there.0 words_there.1))

    module _ (e : EntryAt) (is : slot_of (maps b.tables places d) e ≡ Some at) where
      at_slot : StandsIn (maps b.tables places d) e at
      at_slot = stands_in (maps b.tables places d) e at is

      index_here : index_of b.tables.maps at.fork ≡ Some e.map
      index_here = index_is b.tables.maps kept.rooted.numbered.once at.fork e.map (sym (fork_same b.tables places d e.map) ∙ at_slot.fork)

      number_is : e.map ≡ number
      number_is = let y : Some e.map ≡ Some number = sym index_here ∙ numbered in cc y

      entry_is : ◌≡◌ {A = EntryAt} (record { map = number; page = at.page }) e
      entry_is = λ i. record { map = sym number_is i; page = sym at_slot.page i }

      -- the maps in memory
      pub memory_put : (t : Tables) → t.maps ≡ b.tables.maps → ((w : ℕ) → IsSome (entry_in b.tables w) → entry_in t w ≡ entry_in b.tables w) → (p : PagedEntry) → entry_in t word ≡ Some p
          → maps_in_memory t (content put_places d) ≡ flat.with_entry (maps b.tables places d) e (in_memory p)
      memory_put t same stays p stands =
          memory_set b.tables t places put_places d kept.rooted pages fits.maps stays same number at.page word at.fork p own_fork stands others own_words
          ∙ ap (λ (x : EntryAt). flat.with_entry (maps b.tables places d) x (in_memory p)) entry_is

-- the entry that a look finds, in memory
pub record Held (b : Beside) (places : List HomePlace) (d : DrumWords) (at : Slot) (e : EntryAt) : Type 0 where
  pub entry : PagedEntry
  pub look : look_at b.tables places at ≡ Is entry
  pub held : flat.held_entry (maps b.tables places d) e ≡ Some (in_memory entry)

pub held_at : (b : Beside) (places : List HomePlace) (kept : AreKept b places) (pages : ArePages places) (d : DrumWords) (fits : FitsPages b places d) (at : Slot) (near : IsNearSlot b.tables places at) (e : EntryAt)
    → slot_of (maps b.tables places d) e ≡ Some at → Held b places d at e
held_at b places kept pages d fits at near e is = by (look_at b.tables places at) refl (look_told b.tables places d kept.rooted pages fits.maps at e.map index near.page)
  where
    x : StandsIn (maps b.tables places d) e at
    x = stands_in (maps b.tables places d) e at is

    index : index_of b.tables.maps at.fork ≡ Some e.map
    index = index_is b.tables.maps kept.rooted.numbered.once at.fork e.map (sym (fork_same b.tables places d e.map) ∙ x.fork)

    here_is : ◌≡◌ {A = EntryAt} (record { map = e.map; page = at.page }) e
    here_is = λ i. record { map = e.map; page = sym x.page i }

    by : (l : Looked) → look_at b.tables places at ≡ l → LookIs l (flat.held_entry (maps b.tables places d) (record { map = e.map; page = at.page })) → Held b places d at e
    by (Is p) k h = record { entry = p; look = k; held = ap (λ (y : EntryAt). flat.held_entry (maps b.tables places d) y) (sym here_is) ∙ h }
    by (Absent home) k h = absurd (let z : is_near (Absent home) ≡ true = sym (ap is_near k) ∙ near.near in cc z)
    by Missing k h = absurd h
    by Refused k h = absurd h
