-- Where PMAP goes over pages.
use Rattle.std.specs.Prelude.{◌≡◌, ◌<◌, ℕ, List, true}
use Rattle.plain_units.specs.declared.registers.Regs.{Regs}
use Rattle.machine_names.specs.declared.names.Slot.{Slot}
use Rattle.plain_files.specs.OpenFiles.{OpenFile}
use Rattle.plain_model.specs.declared.call.End.{End}
use Rattle.plain_model.specs.declared.call.MapChange.{MapChange}
use Rattle.plain_model.specs.declared.call.MapChange.TheVariants.{Map, Put, Drop}
use Rattle.plain_model.specs.Calls.{Turn, given}
use Rattle.plain_model.specs.MapCalls.{MapAsked, access_wanted, is_counted, mapping_into, maps, pages_left, place_named, places_named, unmapping}
use Rattle.call_turns.specs.Turns.{IsRegs}

-- the registers of a call that does a page: where it goes over pages, one is left
abbrev pub CanGoOn : Regs → Type 0
CanGoOn regs = IsRegs regs × (is_counted regs ≡ true → 0 < pages_left regs)

-- the two things that PMAP does with a page
abbrev pub unmapping_named : MapAsked → Turn (List ℕ) MapChange
unmapping_named a = given (place_named a 2) (unmapping a)

abbrev pub mapping_named : MapAsked → Turn (List ℕ) MapChange
mapping_named a = given (places_named a) (λ p. mapping_into a p.0 p.1)

-- how it ends where a page of a file is mapped, put there, or taken away
abbrev pub map_end : MapAsked → OpenFile → ℕ → Slot → End MapChange
map_end a j page to = maps a (Map to j.file page (access_wanted a))

abbrev pub put_end : MapAsked → Slot → OpenFile → ℕ → End MapChange
put_end a from j page = maps a (Put j.file page from)

abbrev pub drop_end : MapAsked → OpenFile → ℕ → End MapChange
drop_end a j page = maps a (Drop j.file page)
