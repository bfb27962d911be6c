-- To which pages and maps references lead.
use Rattle.std.specs.Prelude.{◌==◌, ℕ, List, [], ◌∷◌, ◌++◌, length, map, Bool, Option, None, Some, if◌then◌else◌, nat_le}
use Rattle.std.specs.List.{filter_map, list_any}
use Rattle.std.specs.Option.{option_map_or, option_and_then}
use Rattle.std.specs.declared.cmp.Ordering.{Ordering}
use Rattle.machine_names.specs.declared.names.ForkName.{ForkName}
use Rattle.machine_names.specs.declared.names.Kind.TheVariants.{Write}
use Rattle.machine_names.specs.declared.names.PageName.{PageName}
use Rattle.plain_pages.specs.Maps.{entry_at, maps_on_way}
use Rattle.plain_pages.specs.NewMaps.{with_map}
use Rattle.plain_pages.specs.PlainPages.{PlainPages}
use Rattle.plain_pages.specs.References.{Spot, denied, in_file, in_map, page_at, reference, slot_at, word_at}
use Rattle.plain_pages.specs.Room.{HasRoom}
use Rattle.plain_units.specs.declared.unit.TheConstants.{MOST_REFERENCES}
use Rattle.plain_units.specs.Steps.{Asked, Progress, Steps, asked_at, begun, calls, ends as ends_steps, goes, is_accumulator, keeps, plainly, referred, refers, stops, traps, widened, widens, word_taken}
use Rattle.plain_units.specs.Blocks.{steps_on}
use Rattle.plain_model.specs.Calls.{Sight, Turn, adds, ends, entry_of, finds, looks, makes, reads, sees, spot_of, stepped, takes, touched, touches, with_added}
use Rattle.plain_model.specs.declared.call.End.{End}

-- what may have a home: the map of a fork, or a page
pub data Housed : Type 0 where
  a_map : ForkName → Housed
  a_page : PageName → Housed

-- its home, by those of maps and of pages
abbrev pub home_for : (ForkName → Option ℕ) → (PageName → Option ℕ) → Housed → Option ℕ
home_for map_home page_home (a_map f) = map_home f
home_for map_home page_home (a_page n) = page_home n

-- the homes of these, as far as they have some
abbrev pub homes_for : (ForkName → Option ℕ) → (PageName → Option ℕ) → List Housed → List ℕ
homes_for map_home page_home names = filter_map (home_for map_home page_home) names

-- whether a home is that of one of these
abbrev pub is_named : (ForkName → Option ℕ) → (PageName → Option ℕ) → List Housed → ℕ → Bool
is_named map_home page_home names home = list_any (λ h. h == home) (homes_for map_home page_home names)

-- a page, if there is one
abbrev pub page_named : Option PageName → List Housed
page_named None = []
page_named (Some n) = a_page n ∷ []

module _ {K : Type 0} {file_cmp : K → K → Ordering} where
  -- the maps on the way to a spot
  abbrev pub maps_to : PlainPages file_cmp → Spot K → List Housed
  maps_to p (in_map s) = map a_map (maps_on_way (entry_at p.maps) s)
  maps_to p (in_file f) = []

  -- the maps on the way, and the page that is there
  abbrev pub names_on_way : PlainPages file_cmp → Spot K → List Housed
  names_on_way p at = maps_to p at ++ page_named (page_at p at)

  -- those of a reference of a fork; the accumulators are none
  abbrev pub names_at : PlainPages file_cmp → ForkName → ℕ → List Housed
  names_at p f a = if is_accumulator a then [] else names_on_way p (in_map (slot_at f a))

  -- what follows where a reference goes through
  abbrev pub where_granted : {N : Type 0} → Asked N (PlainPages file_cmp) → (PlainPages file_cmp → List Housed) → List Housed
  where_granted (goes p) next = next p
  where_granted (stops why) next = []

  -- THE STEPS OF A UNIT refer to these: each reference, and each that is asked for again, to write, on the pages that those before it leave.
  unfoldable pub names_of_steps : ForkName → Steps → Progress file_cmp → List Housed
  names_of_steps f (refers a kind next) t =
      if nat_le MOST_REFERENCES (length t.refs) then []
      else names_at t.pages f a ++ where_granted (asked_at (plainly f) f t.pages a kind) (λ p. names_of_steps f (next (word_taken f (referred t a kind p) a)) (referred t a kind p))
  names_of_steps f (widens a next) t = names_at t.pages f a ++ where_granted (asked_at (plainly f) f t.pages a Write) (λ p. names_of_steps f next (widened t a p))
  names_of_steps f (keeps a w next) t = names_of_steps f next (record t { kept = Some (record { at = a; word = w }) })
  names_of_steps f (ends_steps e) t = []
  names_of_steps f (traps channel) t = []
  names_of_steps f (calls number) t = []

  -- A TURN OF A CALL refers to these, until it ends or traps, and as it ends to these
  unfoldable pub names_of_turn : {F C : Type 0} → Sight F K → (End C → List Housed) → PlainPages file_cmp → Turn F C → List Housed
  names_of_turn sight at_end p (sees s next) = a_map s.fork ∷ names_of_turn sight at_end p (next (entry_of p s))
  names_of_turn sight at_end p (finds at next) =
      option_map_or (maps_to p) (spot_of sight at) [] ++ names_of_turn sight at_end p (next (option_and_then (page_at p) (spot_of sight at)))
  names_of_turn sight at_end p (reads f offset next) =
      option_map_or (names_on_way p) (spot_of sight (in_file f)) []
      ++ names_of_turn sight at_end p (next (option_map_or (λ at. word_at p at offset) (spot_of sight (in_file f)) 0))
  names_of_turn sight at_end p (touches owner at kind next) =
      option_map_or (names_on_way p) (spot_of sight at) []
      ++ touched p (option_map_or (λ s. reference p s kind owner) (spot_of sight at) (denied kind)) (λ q what. names_of_turn sight at_end q (next what))
  names_of_turn sight at_end p (takes f regs steps next) =
      names_of_steps f steps (begun p regs.ac) ++ stepped f (steps_on f regs steps p) (λ q e. names_of_turn sight at_end q (next e)) (λ channel. [])
  names_of_turn sight at_end p (adds f entries next) =
      let room = HasRoom (with_map p f entries) f.tty in names_of_turn sight at_end (with_added p f entries room) (next room)
  names_of_turn sight at_end p (looks name next) = names_of_turn sight at_end p (next (sight.is_name name))
  names_of_turn sight at_end p (makes name next) = names_of_turn sight at_end p (next sight.has_more)
  names_of_turn sight at_end p (ends e) = at_end e

-- no names at the end of a turn
abbrev pub none_at_end : {C : Type 0} → End C → List Housed
none_at_end e = []
