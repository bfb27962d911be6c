-- What the clauses of pages say of maps in memory over a store.
use Rattle.std.specs.Prelude.{◌≡◌, ℕ, ◌+◌, ◌<◌, ◌≤◌, List, count_by, length, true, false, Option, None, Some, is_some, IsSome, MatchOption}
use Rattle.std.specs.Option.{option_map, option_and_then}
use Rattle.std.specs.FinMap as map
use Rattle.std.proofs.Common.{refl, sym, ◌∙◌, ap}
use Rattle.machine_names.specs.declared.names.ForkName.{ForkName}
use Rattle.machine_names.specs.declared.names.PageName.{PageName}
use Rattle.machine_names.specs.declared.names.Slot.{Slot}
use Rattle.machine_names.specs.declared.names.TheConstants.{MOST_FORKS, MOST_FILES, FILE_PAGES}
use Rattle.machine_names.specs.Orders.{FilePage}
use Rattle.page_contracts.specs.declared.answers.Found.{Found}
use Rattle.page_contracts.specs.declared.answers.SpaceHandle.{SpaceHandle}
use Rattle.page_contracts.specs.declared.answers.Seen.{Seen}
use Rattle.page_contracts.specs.declared.answers.Seen.TheVariants.{Is, Missing}
use Rattle.page_contracts.specs.DrumWords.{DrumWords}
use Rattle.plain_pages.specs.Room.{live}
use Rattle.plain_pages.specs.WholePages.{AreWhole}
use Rattle.page_contracts.specs.Stores.{StoreMeaning, content, IsSound, CanLeave, IsNext, AllStay, FitsHomes, HomePlace, away, away_of, is_taken, place}
use Rattle.page_contracts.specs.Pages.{PagesMeaning, Agrees, AreHoused, Housed, a_map, a_page, home_for}
use Rattle.flat_tables.specs.declared.held_entry.HeldEntry.{HeldEntry}
use Rattle.flat_tables.specs.Serials.{serial_of}
use Rattle.flat_tables.specs.HeldMaps.{index_of, held_entry, entry_of, living_of, maps_held}
use Rattle.flat_tables.specs.Walks.{walk}
use Rattle.flat_tables.specs.SlotTables.{Tables, plain_of, files_held}
use Rattle.flat_tables.specs.SlotTouches.{home_named, scene_of, touch_of_place}

-- an entry as a look at it finds it; its map is always in memory
abbrev pub seen_entry : Tables → Option HeldEntry → Seen
seen_entry t None = Missing
seen_entry t (Some e) = Is (entry_of t.names e)

abbrev pub seen_in : Tables → Slot → Seen
seen_in t s = seen_entry t (option_and_then (λ k. held_entry t.maps (record { map = k; page = s.page })) (index_of t.maps s.fork))

-- where the page at the end of a chain is, if it is in a frame
abbrev pub place_along : (ℕ → Option Found) → Tables → SpaceHandle → ℕ → Option Found
place_along found t space page = option_and_then (λ w. option_and_then (λ h. found h.0) w.home) (walk t.maps (record { map = space.0; page = page }))

-- what files name
abbrev pub filed_in : Tables → FilePage ℕ → Option PageName
filed_in t = map.get (files_held t.names t.files)

-- a store's meaning, for what has a store
abbrev pub within : {P S : Type 0} → StoreMeaning S → (P → S) → StoreMeaning P
within store part = record {
  homes = λ p. store.homes (part p);
  frames = λ p. store.frames (part p);
  spare = λ p. store.spare (part p);
  queue = λ p. store.queue (part p);
  untold = λ p. store.untold (part p);
  holds = λ p. store.holds (part p);
  tenant = λ p. store.tenant (part p);
  victim = λ p. store.victim (part p);
  age = λ p. store.age (part p);
  uses = λ p. store.uses (part p);
  found = λ p. store.found (part p);
  members = λ p. store.members (part p);
  flat = store.flat;
}

-- pages that have a store and tables
abbrev pub slots_meaning : {P S : Type 0} → StoreMeaning S → (P → S) → (P → Tables) → PagesMeaning P
slots_meaning store part tables = record {
  fits = λ p d. FitsHomes (tables p).places d;
  plain = λ p d. plain_of (tables p) d;
  scene = λ p. scene_of (tables p) (store.spare (part p));
  touched = λ p. touch_of_place (tables p) (store.spare (part p));
  seen = λ p. seen_in (tables p);
  filed = λ p. filed_in (tables p);
  lives = λ p f. is_some (index_of (tables p).maps f);
  forks_of = λ p. living_of (tables p).maps;
  serial = λ p. serial_of (tables p).serials;
  count = λ p. (tables p).taken + (tables p).living;
  most = λ p. (tables p).limit;
  most_forks = MOST_FORKS;
  flat = store.flat;
  paged = false;
  space = λ p f. option_map (λ k. record { 0 = k }) (index_of (tables p).maps f);
  place = λ p. place_along (store.found (part p)) (tables p);
  map_home = λ p f. None;
  page_home = λ p. home_named (tables p).names;
  store = within store part;
}

-- what is told of tables that agree, over each drum that fits
pub record AreTold (t : Tables) : Type 0 where
  pub whole : (d : DrumWords) → FitsHomes t.places d → AreWhole (plain_of t d)
  pub number : (d : DrumWords) → FitsHomes t.places d → t.taken + t.living ≡ live (plain_of t d)
  pub room : (d : DrumWords) → FitsHomes t.places d → live (plain_of t d) ≤ t.limit
  pub lives : (f : ForkName) → is_some (index_of t.maps f) ≡ map.contains_key (maps_held t.names t.maps) f
  pub alone : (f : ForkName) → living_of t.maps f.tty ≡ 0 → is_some (index_of t.maps f) ≡ false
  pub away : (n : PageName) (home : ℕ) (frames : ℕ) → (scene_of t frames).page_away n ≡ Some home → place t.places home ≡ away
  pub there : (d : DrumWords) (n : PageName) (home frames : ℕ) → FitsHomes t.places d → (scene_of t frames).page_away n ≡ Some home → map.contains_key (plain_of t d).objects n ≡ true
  pub taken : (n : PageName) (home : ℕ) → home_named t.names n ≡ Some home → is_taken (place t.places home) ≡ true
  pub filed : (f : FilePage ℕ) (n : PageName) → filed_in t f ≡ Some n → (f.file < MOST_FILES) × (f.page < FILE_PAGES) × IsSome (home_named t.names n)
  pub apart : (n m : PageName) (home : ℕ) → home_named t.names n ≡ Some home → home_named t.names m ≡ Some home → n ≡ m
  pub housed : (d : DrumWords) (n : PageName) → FitsHomes t.places d → is_some (home_named t.names n) ≡ map.contains_key (plain_of t d).objects n
  pub homes : length t.places ≡ t.limit
  pub objects : (d : DrumWords) → FitsHomes t.places d → count_by is_taken t.places ≡ map.len (plain_of t d).objects
  pub mapped : (home : ℕ) → ◌≡◌ {A = Option ℕ} None (Some home) → ⊥
  pub words : (d : DrumWords) (n : PageName) (home : ℕ) → home_named t.names n ≡ Some home → map.get (plain_of t d).objects n ≡ content t.places d home

module _ {P S : Type 0} (store : StoreMeaning S) (part : P → S) where
  leaves : (p : P) (frame home : ℕ) → CanLeave (within store part) p frame home → CanLeave store (part p) frame home
  leaves p frame home c = record { there = c.there; still = c.still; unheld = c.unheld }

  left : (p : P) (frame home : ℕ) → CanLeave store (part p) frame home → CanLeave (within store part) p frame home
  left p frame home c = record { there = c.there; still = c.still; unheld = c.unheld }

  next_within : (p : P) (o : Option ℕ) → MatchOption o (AllStay store (part p)) (IsNext store (part p)) → MatchOption o (AllStay (within store part) p) (IsNext (within store part) p)
  next_within p None stay = λ frame home c. stay frame home (leaves p frame home c)
  next_within p (Some frame) n = record {
    home = n.home;
    leaves = left p frame n.home n.leaves;
    oldest = λ g other c. n.oldest g other (leaves p g other c);
    least = λ g other c. n.least g other (leaves p g other c);
  }

  -- what has a sound store is sound
  pub sound_within : (p : P) → IsSound store (part p) → IsSound (within store part) p
  sound_within p s = record {
    few = s.few;
    pages = s.pages;
    finds = s.finds;
    apart = s.apart;
    comes = s.comes;
    goes = s.goes;
    once = s.once;
    held = s.held;
    unmoved = s.unmoved;
    shared = s.shared;
    seated = λ flat home is. (let f = s.seated flat home is in record { frame = f.frame; is = f.is });
    given = s.given;
    single = s.single;
    members = s.members;
    few_held = s.few_held;
    none_held = s.none_held;
    held_once = s.held_once;
    numbered = s.numbered;
    aged = s.aged;
    next = next_within p (store.victim (part p)) s.next;
    core = s.core;
    still = s.still;
    frames = s.frames;
  }

  module _ (tables : P → Tables) (p : P) (told : AreTold (tables p)) where
    housed_taken : store.homes (part p) ≡ (tables p).places → (x : Housed) (home : ℕ) → home_for (slots_meaning store part tables) p x ≡ Some home → is_taken (place (store.homes (part p)) home) ≡ true
    housed_taken same (a_page n) home is = ap (λ (places : List HomePlace). is_taken (place places home)) same ∙ told.taken n home is
    housed_taken same (a_map f) home is = absurd (told.mapped home is)

    housed_apart : (x y : Housed) (home : ℕ) → home_for (slots_meaning store part tables) p x ≡ Some home → home_for (slots_meaning store part tables) p y ≡ Some home → x ≡ y
    housed_apart (a_page n) (a_page m) home is it = ap a_page (told.apart n m home is it)
    housed_apart (a_page n) (a_map f) home is it = absurd (told.mapped home it)
    housed_apart (a_map f) y home is it = absurd (told.mapped home is)

    -- the homes are those of the store
    pub slots_housed : store.homes (part p) ≡ (tables p).places → IsSound store (part p) → AreHoused (slots_meaning store part tables) p
    slots_housed same s = record {
      sound = sound_within p s;
      maps = λ f home is. absurd (told.mapped home is);
      pages = λ n home is. ap (λ places. place places home) same ∙ told.away n home (store.spare (part p)) is;
      map_homes = λ f. refl;
      page_homes = λ n. ap (λ (places : List HomePlace). away_of places (home_named (tables p).names n)) (sym same);
      taken = housed_taken same;
      apart = housed_apart;
      mapped = λ f. refl;
      filed = told.filed;
      frames = refl;
      homes = ap (λ (places : List HomePlace). length places) same ∙ told.homes;
      flat = refl;
    }

    pub slots_agree : store.homes (part p) ≡ (tables p).places → (d : DrumWords) → FitsHomes (tables p).places d → Agrees (slots_meaning store part tables) p (plain_of (tables p) d)
    slots_agree same d fits = record {
      living = told.lives;
      filed = refl;
      next = λ t owner. refl;
      number = told.number d fits;
      bound = refl;
      room = told.room d fits;
      housed = λ n. told.housed d n fits;
      taken = ap (count_by is_taken) same ∙ told.objects d fits;
      absent_pages = λ n home is. told.there d n home (store.spare (part p)) fits is;
      absent_maps = λ f home is. absurd (told.mapped home is);
    }
