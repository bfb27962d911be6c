-- Tables with no fork and no page.
use Rattle.std.proofs.Common.{◌≡◌, inl, inr, ℕ, zero, suc, ◌*◌, ◌<◌, ◌≤◌, List, [], Bool, true, false, cond, Option, None, Some, if◌then◌else◌, length, replicate, refl, sym, ◌∙◌, ap, arith, is_some, nat_eq, get_or, eq-eqb}
use Rattle.std.specs.Prelude.{slice_get, slice_index, slice_index_or, nat_lt}
use Rattle.std.specs.List.{sum_by}
use Rattle.std.specs.Option.{option_map_or}
use Rattle.std.specs.Ordering.{nat_cmp}
use Rattle.std.specs.FinMap as fin
use Rattle.std.proofs.lemmas.List.{length-replicate, get_or-replicate}
use Rattle.std.proofs.lemmas.List.Folds.{sum_by-replicate}
use Rattle.machine_names.specs.declared.names.ForkName.{ForkName}
use Rattle.machine_names.specs.declared.names.PageName.{PageName}
use Rattle.machine_names.specs.declared.names.Tty.{Tty}
use Rattle.machine_names.specs.declared.names.TheConstants.{SPACE_PAGES, TERMINALS}
use Rattle.page_homes.specs.declared.homes.TheConstants.{MOST_HOMES}
use Rattle.page_contracts.specs.DrumWords.{DrumWords}
use Rattle.machine_names.specs.Bounds.{IsOwner}
use Rattle.plain_pages.specs.PlainPages.{is_console, opening_pages, first_serials}
use Rattle.page_contracts.specs.Stores.{HomePlace, free, is_free, is_taken, content}
use Rattle.flat_tables.specs.declared.held_entry.HeldEntry.{HeldEntry}
use Rattle.flat_tables.specs.declared.held_entry.HeldEntry.TheVariants.{Empty, Follows}
use Rattle.flat_tables.specs.declared.held_map.HeldMap.{HeldMap}
use Rattle.fork_maps.specs.declared.map_numbers.TheConstants.{MOST_MAPS}
use Rattle.flat_tables.specs.declared.page_serials.PageSerials.{PageSerials}
use Rattle.flat_tables.specs.Serials.{serial_of}
use Rattle.flat_tables.specs.HeldMaps.{no_page, free_map, map_at, fork_at, index_of, maps_from, maps_held, entries_total, points_at, living_of, AreHeld}
use Rattle.flat_tables.specs.SlotTables.{Tables, is_at, objects_from, objects_of, plain_of, AreTables}
use Rattle.machine_names.specs.Orders.{file_page_cmp}
use Rattle.plain_pages.proofs.Whole.{no_values}
use Rattle.flat_tables.proofs.FiledHomes.{none_filed}
use Rattle.flat_tables.proofs.ForkMaps.{index_none}

-- reading what is the same everywhere
all_at : {A : Type 0} (n i : ℕ) (x : A) → slice_index_or (replicate n x) i x ≡ x
all_at zero i x = refl
all_at (suc n) zero x = refl
all_at (suc n) (suc i) x = all_at n i x

all_get : {A : Type 0} (n i : ℕ) (x y : A) → slice_get (replicate n x) i ≡ Some y → y ≡ x
all_get zero i x y e = absurd (cc e)
all_get (suc n) zero x y e = let same : x ≡ y = cc e in sym same
all_get (suc n) (suc i) x y e = all_get n i x y e

abbrev free_maps : List HeldMap
free_maps = replicate MOST_MAPS free_map

-- no map is a fork's
pub none_at : (n k : ℕ) → fork_at (replicate n free_map) k ≡ None
none_at zero k = refl
none_at (suc n) zero = refl
none_at (suc n) (suc k) = none_at n k

pub entry_none : (n k page : ℕ) (e : HeldEntry) → slice_get (map_at (replicate n free_map) k).entries page ≡ Some e → e ≡ Empty
unfolding no_page
entry_none zero k page e h = absurd (cc h)
entry_none (suc n) zero page e h = all_get SPACE_PAGES page Empty e h
entry_none (suc n) (suc k) page e h = entry_none n k page e h

pub entries_sized : (n k : ℕ) → k < length (replicate n free_map) → length (map_at (replicate n free_map) k).entries ≡ SPACE_PAGES
unfolding no_page
entries_sized n k l = ap (λ (m : HeldMap). length m.entries) (get_or-replicate n k free_map (record { fork = None; entries = [] }) (omega (arith, length-replicate n free_map))) ∙ length-replicate SPACE_PAGES Empty

total_free : (w : HeldEntry → ℕ) → w Empty ≡ 0 → (n : ℕ) → entries_total w (replicate n free_map) ≡ 0
unfolding no_page
total_free w none n =
    let row : sum_by w (replicate SPACE_PAGES Empty) ≡ 0 = sum_by-replicate w SPACE_PAGES Empty ∙ ap (λ k. SPACE_PAGES * k) none ∙ omega arith in
    sum_by-replicate (λ (m : HeldMap). sum_by w m.entries) n free_map ∙ ap (λ k. n * k) row ∙ none_times n
  where
    none_times : (k : ℕ) → k * 0 ≡ 0
    none_times k = omega arith

held_free : AreHeld free_maps
held_free = record {
  count = length-replicate MOST_MAPS free_map;
  pages = λ k l. entries_sized MOST_MAPS k l;
  once = λ j k f a b. absurd (let z : None ≡ Some f = sym (none_at MOST_MAPS j) ∙ a in cc z);
  from = λ k f a. absurd (let z : None ≡ Some f = sym (none_at MOST_MAPS k) ∙ a in cc z);
  below = λ k f a. absurd (let z : None ≡ Some f = sym (none_at MOST_MAPS k) ∙ a in cc z);
  links = λ at l a h. absurd (let z : Follows l a ≡ Empty = entry_none MOST_MAPS at.map at.page (Follows l a) h in cc z);
  unused = λ at e none h. entry_none MOST_MAPS at.map at.page e h;
}

objects_none : (words : ℕ → Option (List ℕ)) (home n : ℕ) → objects_from words home (replicate n None) ≡ fin.empty
objects_none words home zero = refl
objects_none words home (suc n) = objects_none words (suc home) n

no_objects : (words : ℕ → Option (List ℕ)) (n : ℕ) → objects_of (replicate n None) words ≡ fin.empty
unfolding objects_of
no_objects words n = objects_none words 0 n

maps_none : (names : List (Option PageName)) (n : ℕ) → maps_from names (replicate n free_map) ≡ fin.empty
maps_none names zero = refl
maps_none names (suc n) = maps_none names n

no_maps : (names : List (Option PageName)) → maps_held names free_maps ≡ fin.empty
unfolding maps_held
no_maps names = maps_none names MOST_MAPS

module _ (limit : ℕ) (serials : PageSerials) (terminals : serials.terminals ≡ first_serials) (console : serials.console ≡ 1) where
  abbrev pub opened : Tables
  opened = record { places = replicate limit free; names = replicate limit None; shares = replicate limit 0; maps = free_maps; files = fin.empty; serials = serials; taken = 0; living = 0; limit = limit }

  pub opened_plain : (d : DrumWords) → plain_of opened d ≡ opening_pages nat_cmp limit
  unfolding opening_pages
  opened_plain d = λ i. record {
    objects = no_objects (content opened.places d) limit i;
    maps = no_maps opened.names i;
    files = none_filed opened.names i;
    page_serials = terminals i;
    console_serial = console i;
    limit = limit;
  }

  first_terminals : length first_serials ≡ TERMINALS
  unfolding first_serials
  first_terminals = length-replicate {A = ℕ} TERMINALS 1

  pub opened_tables : limit ≤ MOST_HOMES → AreTables opened
  opened_tables few = record {
    held = held_free;
    homes = length-replicate limit free;
    named = length-replicate limit None;
    counted = length-replicate limit 0;
    shares = λ h. omega (arith, all_at {A = ℕ} limit h 0, total_free (points_at h) refl MOST_MAPS, no_values (file_page_cmp nat_cmp) (is_at h));
    filed = λ f h is. absurd (let z : None ≡ Some h = sym (fin.get-empty (file_page_cmp nat_cmp) f) ∙ is in cc z);
    shared = λ h. ap is_some (all_at limit h None) ∙ sym (ap (nat_lt 0) (all_at limit h 0));
    is_taken = λ h. ap is_taken (all_at limit h free) ∙ sym (ap is_some (all_at limit h None));
    once = λ h k n a b. absurd (let z : None ≡ Some n = sym (all_at limit h None) ∙ a in cc z);
    old = λ h n a. absurd (let z : None ≡ Some n = sym (all_at limit h None) ∙ a in cc z);
    owners = ap length terminals ∙ first_terminals;
    taken = sym (sum_by-replicate (λ (n : Option PageName). cond (is_some n) 1 0) limit None ∙ none_times limit);
    free = omega (arith, sum_by-replicate (λ (p : HomePlace). cond (is_free p) 1 0) limit free);
    living = sym (sum_by-replicate (λ (m : HeldMap). cond (is_some m.fork) 1 0) MOST_MAPS free_map ∙ none_times MOST_MAPS);
    room = omega arith;
    few = few;
  }
    where
      none_times : (k : ℕ) → k * 0 ≡ 0
      none_times k = omega arith

  -- nobody lives
  pub nobody_lives : (f : ForkName) → is_some (index_of free_maps f) ≡ false
  nobody_lives f = ap is_some (index_none free_maps f (λ k e. let z : None ≡ Some f = sym (none_at MOST_MAPS k) ∙ e in cc z))

  pub none_of : (t : Tty) → living_of free_maps t ≡ 0
  none_of t = sum_by-replicate (λ (m : HeldMap). cond (option_map_or (λ f. nat_eq f.tty.0 t.0) m.fork false) 1 0) MOST_MAPS free_map ∙ none_times MOST_MAPS
    where
      none_times : (k : ℕ) → k * 0 ≡ 0
      none_times k = omega arith

  first_is_one : (k : ℕ) → k < TERMINALS → slice_index first_serials k ≡ 1
  unfolding first_serials
  first_is_one k l = get_or-replicate TERMINALS k 1 0 l

  console_next : (owner : Tty) → is_console owner ≡ true → serial_of serials owner ≡ 1
  console_next owner e = ap (λ b. if b then serials.console else slice_index serials.terminals owner.0) e ∙ console

  terminal_next : (owner : Tty) → is_console owner ≡ false → serial_of serials owner ≡ slice_index first_serials owner.0
  terminal_next owner e = ap (λ b. if b then serials.console else slice_index serials.terminals owner.0) e ∙ ap (λ xs. slice_index xs owner.0) terminals

  pub first_serial : (owner : Tty) → IsOwner owner → serial_of serials owner ≡ 1
  first_serial owner own = by (is_console owner) refl own
    where
      by : (b : Bool) → is_console owner ≡ b → IsOwner owner → serial_of serials owner ≡ 1
      by true is o = console_next owner is
      by false is (inl l) = terminal_next owner is ∙ first_is_one owner.0 l
      by false is (inr e) = absurd (let z : true ≡ false = sym (eq-eqb owner.0 255 e) ∙ is in cc z)

  one_at_most : (n k : ℕ) → get_or (replicate n 1) k 0 ≤ 1
  one_at_most zero k = omega arith
  one_at_most (suc n) zero = omega arith
  one_at_most (suc n) (suc k) = one_at_most n k

  -- nobody's serial is above the first
  pub low_serial : (owner : Tty) → serial_of serials owner ≤ 1
  unfolding first_serials
  low_serial owner = by (is_console owner) refl
    where
      by : (b : Bool) → is_console owner ≡ b → serial_of serials owner ≤ 1
      by true is = omega (arith, console_next owner is)
      by false is = omega (arith, terminal_next owner is, one_at_most TERMINALS owner.0)
