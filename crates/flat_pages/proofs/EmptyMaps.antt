-- A map whose entries are emptied one after another.
use Rattle.std.proofs.Common.{◌≡◌, inl, inr, ℕ, zero, suc, ◌+◌, ◌<◌, ◌≤◌, List, [], ◌∷◌, Bool, true, false, cond, Option, None, Some, refl, sym, ◌∙◌, ap, subst, arith, length}
use Rattle.std.specs.Prelude.{IsSome, nat_lt, slice_get, slice_set}
use Rattle.std.specs.Option.{option_map, option_map_or}
use Rattle.std.specs.FinMap as fin
use Rattle.std.proofs.lemmas.Bool.{cases_eq}
use Rattle.std.proofs.lemmas.Bool.Decides.{nat_tests}
use Rattle.machine_names.specs.declared.names.ForkName.{ForkName}
use Rattle.machine_names.specs.declared.names.PageName.{PageName}
use Rattle.machine_names.specs.declared.names.Slot.{Slot}
use Rattle.plain_pages.specs.declared.map.MapEntry.{MapEntry}
use Rattle.plain_pages.specs.declared.map.MapEntry.TheVariants as entry
use Rattle.machine_names.specs.declared.names.TheConstants.{SPACE_PAGES}
use Rattle.page_contracts.specs.DrumWords.{DrumWords}
use Rattle.plain_pages.specs.PlainPages.{NumberedPages, Map, Maps}
use Rattle.plain_pages.specs.Maps.{entry_at}
use Rattle.plain_pages.specs.Room.{uses}
use Rattle.plain_pages.specs.References.{with_entry as entry_put}
use Rattle.page_contracts.specs.Pages.{StaysInCore}
use Rattle.machine_names.specs.Orders.{same_fork}
use Rattle.page_contracts.specs.Stores.{HomePlace, StoreMeaning, FitsHomes, traffic}
use Rattle.page_contracts.proofs.Losing.{keeps_frames, loses_nothing, loses_on, none_on}
use Rattle.plain_pages.specs.WholePages.{AreWhole}
use Rattle.plain_pages.proofs.Kept.{entry_kept, entry_maps, uses_entry, unnamed_gone}
use Rattle.flat_tables.specs.declared.held_entry.EntryAt.{EntryAt}
use Rattle.flat_tables.specs.declared.held_entry.HeldEntry.{HeldEntry}
use Rattle.flat_tables.specs.declared.held_entry.HeldEntry.TheVariants.{Empty}
use Rattle.flat_tables.specs.declared.held_map.HeldMap.{HeldMap}
use Rattle.flat_tables.specs.declared.map_tables.MapTables.{MapTables}
use Rattle.flat_tables.specs.HeldMaps.{AreHeld, fork_at, held_entry, map_at, with_entry, entry_of}
use Rattle.flat_tables.specs.SlotTables.{plain_of, AreTables}
use Rattle.flat_pages.specs.SlotMeaning.{AreTold}
use Rattle.flat_tables.specs.SlotSteps.{NamesHome, SetsEntry, Stays}
use Rattle.flat_tables.specs.TableSteps.{tables_of}
use Rattle.flat_pages.specs.Emptying.{AreFewer, EmptiesMap, MapNames, NamesFewer}
use Rattle.flat_tables.proofs.ForkMaps.{fork_within}
use Rattle.flat_tables.proofs.HeldEntries.{entry_same, entry_other, fork_set, maps_length}
use Rattle.flat_tables.proofs.LivingMaps.{inserted, entry_held}
use Rattle.flat_pages.proofs.EntrySetting.{same_core}

-- the pages as they are
pub names_itself : (p : NumberedPages) → AreWhole p → NamesFewer p p
names_itself p w = record { objects = λ n. by n (nat_lt 0 (uses p n)) refl; named = λ n h. h; page_serials = refl; console_serial = refl; limit = refl }
  where
    by : (n : PageName) (b : Bool) → nat_lt 0 (uses p n) ≡ b → fin.get p.objects n ≡ cond b (fin.get p.objects n) None
    by n true is = refl
    by n false is = unnamed_gone p w n is

pub fewer_itself : (p : NumberedPages) (f : ForkName) → AreWhole p → AreFewer p p f
fewer_itself p f w = record { pages = names_itself p w; others = λ g ne. refl; files = refl }

-- fewer of fewer
pub names_on : (p q r : NumberedPages) → NamesFewer p q → NamesFewer q r → NamesFewer p r
names_on p q r k l = record {
  objects = λ n. l.objects n ∙ by n (nat_lt 0 (uses r n)) refl;
  named = λ n h. k.named n (l.named n h);
  page_serials = l.page_serials ∙ k.page_serials;
  console_serial = l.console_serial ∙ k.console_serial;
  limit = l.limit ∙ k.limit;
}
  where
    by : (n : PageName) (b : Bool) → nat_lt 0 (uses r n) ≡ b → cond b (fin.get q.objects n) None ≡ cond b (fin.get p.objects n) None
    by n true is = k.objects n ∙ ap (λ b. cond b (fin.get p.objects n) None) (l.named n is)
    by n false is = refl

pub fewer_on : (p q r : NumberedPages) (f : ForkName) → AreFewer p q f → AreFewer q r f → AreFewer p r f
fewer_on p q r f k l = record { pages = names_on p q r k.pages l.pages; others = λ g ne. l.others g ne ∙ k.others g ne; files = l.files ∙ k.files }

pub less_used : (j k : ℕ) → j ≤ k → nat_lt 0 j ≡ true → nat_lt 0 k ≡ true
less_used j k le h = grind (arith, nat_tests)

-- an entry of the fork's map that is emptied
pub fewer_emptied : (p : NumberedPages) → AreWhole p → (s : Slot) (x : MapEntry) → entry_at p.maps s ≡ Some x → AreFewer p (entry_put p s entry.Empty) s.fork
fewer_emptied p w s x there =
    let k = entry_kept p w s x entry.Empty there in
    record {
      pages = record {
        objects = k.objects;
        named = λ n h. less_used (uses (entry_put p s entry.Empty) n) (uses p n) (omega (arith, uses_entry p w s x entry.Empty there n)) h;
        page_serials = k.page_serials;
        console_serial = k.console_serial;
        limit = k.limit;
      };
      others = λ g ne. ap (λ (m : Maps). fin.get m g) (entry_maps p w s x entry.Empty there) ∙ by g ne (fin.get p.maps s.fork);
      files = k.files;
    }
  where
    by : (g : ForkName) → same_fork g s.fork ≡ false → (o : Option Map) → fin.get (option_map_or (λ m. fin.insert p.maps s.fork (slice_set m s.page entry.Empty)) o p.maps) g ≡ fin.get p.maps g
    by g ne None = refl
    by g ne (Some m) = inserted p.maps s.fork g (slice_set m s.page entry.Empty) ∙ ap (λ b. cond b (Some (slice_set m s.page entry.Empty)) (fin.get p.maps g)) ne

-- an entry is there
pub some_entry : (xs : List HeldEntry) (i : ℕ) → i < length xs → IsSome (slice_get xs i)
some_entry [] i l = absurd (omega (arith, l))
some_entry (x ∷ xs) zero l = refl
some_entry (x ∷ xs) (suc i) l = some_entry xs i (omega (arith, l))

some_is : (o : Option ForkName) → IsSome o → (f : ForkName) × (o ≡ Some f)
some_is None h = absurd (cc h)
some_is (Some f) h = (f, refl)

held_some : (o : Option HeldEntry) → IsSome o → (q : HeldEntry) × (o ≡ Some q)
held_some None h = absurd (cc h)
held_some (Some q) h = (q, refl)

pub page_there : (maps : List HeldMap) → AreHeld maps → (k page : ℕ) → IsSome (fork_at maps k) → page < SPACE_PAGES → IsSome (held_entry maps (record { map = k; page = page }))
page_there maps held k page lives l =
    let f = some_is (fork_at maps k) lives in
    some_entry (map_at maps k).entries page (omega (arith, l, held.pages k (fork_within maps k f.0 f.1)))

pub core_on : {a b c : _} → StaysInCore a b 0 → StaysInCore b c 0 → StaysInCore a c 0
core_on k l = record { maps = λ f h. l.maps f (k.maps f h); pages = λ n h. l.pages n (k.pages n h); frames = omega (arith, k.frames, l.frames) }

-- two steps, of which each leaves a home its page and name, or gives it up
pub stays_on : {old mid new : HomePlace} {old_name mid_name new_name : Option PageName} {A B : Type 0} → Stays old mid old_name mid_name A → Stays mid new mid_name new_name B → (B → A) → Stays old new old_name new_name A
stays_on (inl before) (inl now) back = inl (now.0 ∙ before.0, now.1 ∙ before.1)
stays_on (inr before) (inl now) back = inr (now.0 ∙ before.0, now.1 ∙ before.1, before.2)
stays_on before (inr now) back = inr (now.0, now.1, back now.2)

module _ {S : Type 0} (store : StoreMeaning S) (k : ℕ) where
  -- none of its entries
  pub empties_none : (old : S) (tables : MapTables) → AreTold (tables_of (store.homes old) tables) → EmptiesMap store old old tables tables k 0
  empties_none old tables told = record {
    told = λ d f is fits. (fits, fewer_itself (plain_of (tables_of (store.homes old) tables) d) f (told.whole d fits));
    many = refl;
    forks = λ j. refl;
    entries = λ page l. absurd (omega (arith, l));
    files = refl;
    filed = refl;
    serials = refl;
    living = refl;
    limit = refl;
    rest = λ page l. refl;
    homes = λ home. inl (refl, refl);
    untouched = λ none. refl;
    core = same_core _;
    lost = loses_nothing (traffic store old);
    used = keeps_frames (traffic store old);
  }

  -- one more
  pub empties_more : (old now new : S) (tables then_tables tables' : MapTables) (page : ℕ) → AreTables (tables_of (store.homes now) then_tables) → AreTold (tables_of (store.homes now) then_tables)
      → EmptiesMap store old now tables then_tables k page → IsSome (held_entry then_tables.maps.held.items (record { map = k; page = page })) → SetsEntry store now new then_tables tables' (record { map = k; page = page }) Empty → EmptiesMap store old new tables tables' k (page + 1)
  empties_more old now new tables then_tables tables' page agree told so_far some sets = record {
    told = λ d f is fits. told_more d f is fits;
    many = ap length sets.maps ∙ maps_length maps at Empty ∙ so_far.many;
    forks = λ j. ap (λ (ms : List HeldMap). fork_at ms j) sets.maps ∙ fork_set maps at Empty j ∙ so_far.forks j;
    entries = λ j l. ap (λ (ms : List HeldMap). held_entry ms (record { map = k; page = j })) sets.maps ∙ each j l;
    files = sets.files ∙ so_far.files;
    filed = sets.filed ∙ so_far.filed;
    serials = sets.serials ∙ so_far.serials;
    living = sets.living ∙ so_far.living;
    limit = sets.limit ∙ so_far.limit;
    rest = λ j l. ap (λ (ms : List HeldMap). held_entry ms (record { map = k; page = j })) sets.maps
        ∙ entry_other maps at Empty (record { map = k; page = j }) (λ e. (let same : j ≡ page = ap (λ (x : EntryAt). x.page) e in absurd (omega (arith, same, l)))) ∙ so_far.rest j (omega (arith, l));
    homes = λ home. stays_on (so_far.homes home) (sets.homes home) (named_first home);
    untouched = λ none. sets.untouched (λ home named. none home (named_first home named)) ∙ so_far.untouched none;
    core = core_on so_far.core sets.core;
    lost = loses_on (traffic store old) (traffic store now) (traffic store new) so_far.lost sets.lost;
    used = none_on (traffic store old) (traffic store now) (traffic store new) so_far.used sets.used;
  }
    where
      maps : List HeldMap
      maps = then_tables.maps.held.items

      at : EntryAt
      at = record { map = k; page = page }

      there : (q : HeldEntry) × (held_entry maps at ≡ Some q)
      there = held_some (held_entry maps at) some

      each : (j : ℕ) → j < page + 1 → held_entry (with_entry maps at Empty) (record { map = k; page = j }) ≡ Some Empty
      each j l = elim (cases_eq j page) [
        | inl same ↦ ap (λ p. held_entry (with_entry maps at Empty) (record { map = k; page = p })) same ∙ entry_same maps at Empty there.0 there.1
        | inr ne ↦ entry_other maps at Empty (record { map = k; page = j }) (λ e. ne (ap (λ (x : EntryAt). x.page) e)) ∙ so_far.entries j (omega (arith, l, ne))
      ]

      named_first : (home : ℕ) → NamesHome maps at home → MapNames tables.maps.held.items k home
      named_first home named = record { page = page; there = record { access = named.access; is = sym (so_far.rest page (omega arith)) ∙ named.is } }

      told_more : (d : DrumWords) (f : ForkName) → fork_at tables.maps.held.items k ≡ Some f → FitsHomes (store.homes old) d → FitsHomes (store.homes new) d × AreFewer (plain_of (tables_of (store.homes old) tables) d) (plain_of (tables_of (store.homes new) tables') d) f
      told_more d f is fits =
          let before = so_far.told d f is fits in
          let slot : Slot = record { fork = f; page = page } in
          let slot_is = ap (option_map (λ (g : ForkName). record { fork = g; page = page })) (so_far.forks k ∙ is) in
          let step = sets.told d slot slot_is before.0 in
          let p : NumberedPages = plain_of (tables_of (store.homes now) then_tables) d in
          let entry_is = entry_held then_tables.names.items maps agree.held.once at slot slot_is ∙ ap (option_map (entry_of then_tables.names.items)) there.1 in (
            step.0,
            fewer_on _ p _ f before.1 (subst (λ (q : NumberedPages). AreFewer p q f) (sym step.1) (fewer_emptied p (told.whole d before.0) slot (entry_of then_tables.names.items there.0) entry_is)),
          )
