-- WHY A UNIT NEEDS SOMETHING FIRST: by the inspection of its fork's channels, by its instruction, or by the turn of its call, on pages of which some are in no frame.
use Rattle.std.specs.Prelude.{◌≡◌, ◌⊎◌, ℕ, Bool, true, false, Option, None, Some}
use Rattle.std.specs.Ordering.{nat_cmp}
use Rattle.machine_names.specs.declared.names.ForkName.{ForkName}
use Rattle.page_contracts.specs.declared.answers.Need.{Need}
use Rattle.page_contracts.specs.Pages.{Scene}
use Rattle.plain_units.specs.declared.registers.Regs.{Regs}
use Rattle.plain_units.specs.Steps.{call, need, stopped}
use Rattle.plain_units.specs.Units.{unit_on}
use Rattle.plain_model.specs.declared.call.TheConstants.{GTJFN}
use Rattle.plain_model.specs.declared.fork.Fork.{Fork}
use Rattle.plain_model.specs.declared.interrupt.Inspected.TheVariants.{Nothing}
use Rattle.plain_model.specs.ByteCalls.{byte_call}
use Rattle.plain_model.specs.Calls.{numbered}
use Rattle.plain_model.specs.Families.{Parts, asks, asks_bytes, asks_jfns, asks_maps}
use Rattle.plain_model.specs.ForkCalls.{fork_call}
use Rattle.plain_model.specs.Inspections.{inspected, inspected_by, inspection, is_interrupted}
use Rattle.plain_model.specs.InterruptCalls.{interrupt_calls}
use Rattle.plain_model.specs.MapCalls.{map_call}
use Rattle.plain_model.specs.StringCalls.{string_call}
use Rattle.ka10_unit.specs.Gathers.{Framed}
use Rattle.ka10_unit.specs.Planning.{unit_over}
use Rattle.text_pointers.specs.Outcomes.{read_over, stops}
use Rattle.call_turns.specs.declared.family.CallFamily.{CallFamily}
use Rattle.call_turns.specs.declared.family.CallFamily.TheVariants.{Printing, Forks, Interrupts, Clock, Maps, Errors, Jfns, Bytes, Strings}
use Rattle.call_turns.specs.Families.{family_of}
use Rattle.file_tables.specs.declared.tables.FileTables.{FileTables}
use Rattle.file_tables.specs.Keys.{key_of}
use Rattle.pmap_calls.specs.Making.{MapNeeds}
use Rattle.fork_calls.specs.Needing.{TurnNeeds as ForkNeeds}
use Rattle.psi_calls.specs.Turning.{PsiNeeds}
use Rattle.file_calls.specs.Turning.{TextNeeds}
use Rattle.file_bytes.specs.Turning.{ByteNeeds}
use Rattle.string_io.specs.Turning.{StringNeeds}
use Rattle.monitor_calls.specs.declared.row.Last.{Last}
use Rattle.monitor_calls.specs.declared.row.Last.TheVariants.{Shows, Calls, Needs}

-- the pages of all parts, and what of them is in frames
abbrev pub framed_in : Scene → Parts nat_cmp → Framed
framed_in scene v = record { pages = v.pages; scene = scene }

-- ---- a call

-- what the turn of a call of a family needs first, among these tables of files and all parts: a call that prints, or on the clock or on errors, needs nothing,
-- and of those on JFNs one alone does
abbrev pub FamilyNeeds : Option CallFamily → FileTables → Scene → Parts nat_cmp → ForkName → Regs → ℕ → Need → Type 0
FamilyNeeds None files scene v who regs number n = ⊥
FamilyNeeds (Some Printing) files scene v who regs number n = ⊥
FamilyNeeds (Some Forks) files scene v who regs number n = ForkNeeds (framed_in scene v) v.tree.forks (fork_call number (asks v who regs)) n
FamilyNeeds (Some Interrupts) files scene v who regs number n = PsiNeeds scene v.pages (numbered interrupt_calls number (asks v who regs)) n
FamilyNeeds (Some Clock) files scene v who regs number n = ⊥
FamilyNeeds (Some Maps) files scene v who regs number n = MapNeeds files scene v.pages (map_call number (asks_maps v who regs)) n
FamilyNeeds (Some Errors) files scene v who regs number n = ⊥
FamilyNeeds (Some Jfns) files scene v who regs number n = (number ≡ GTJFN) × TextNeeds (framed_in scene v) (asks_jfns v who regs) n
FamilyNeeds (Some Bytes) files scene v who regs number n = ByteNeeds files scene v.pages (byte_call number (asks_bytes (key_of files) v who regs)) n
FamilyNeeds (Some Strings) files scene v who regs number n = StringNeeds files scene v.pages (string_call number (asks_bytes (key_of files) v who regs)) n

-- WHAT THE TURN OF A MONITOR CALL NEEDS FIRST, by the family that has its number
abbrev pub CallNeeds : FileTables → Scene → Parts nat_cmp → ForkName → Regs → ℕ → Need → Type 0
CallNeeds files scene v who regs number n = FamilyNeeds (family_of number) files scene v who regs number n

-- ---- a unit

-- what an instruction needs first: its references do, or it is a call whose turn does
abbrev pub InstructionNeeds : FileTables → Scene → Parts nat_cmp → Fork → Need → Type 0
InstructionNeeds files scene v f n =
    (unit_over f.name (framed_in scene v) f.body.regs ≡ stopped (need n))
    ⊎ ((number : ℕ) × (unit_on f.name v.pages f.body.regs ≡ call number) × CallNeeds files scene v f.name f.body.regs number n)

-- what a unit of a fork needs first that looks at its channels: the inspection does, or its instruction does where none is taken
abbrev pub InspectionNeeds : FileTables → Scene → Parts nat_cmp → Fork → Need → Type 0
InspectionNeeds files scene v f n =
    (read_over f.name (framed_in scene v) f.body.regs (inspection f) v.pages ≡ stops (need n))
    ⊎ ((inspected_by (inspected f v.pages).end ≡ Nothing) × InstructionNeeds files scene v f n)

abbrev pub NeedsIf : Bool → FileTables → Scene → Parts nat_cmp → Fork → Need → Type 0
NeedsIf true files scene v f n = InspectionNeeds files scene v f n
NeedsIf false files scene v f n = InstructionNeeds files scene v f n

-- WHAT A UNIT OF A FORK NEEDS FIRST
abbrev pub UnitNeeds : FileTables → Scene → Parts nat_cmp → Fork → Need → Type 0
UnitNeeds files scene v f n = NeedsIf (is_interrupted f.body.psi) files scene v f n

-- ---- a unit that isn't over

-- what an instruction comes to that is a call of a number, or needs something first, its call aside
abbrev pub InstructionStops : Framed → Fork → Last → Type 0
InstructionStops p f (Shows shown) = Unit {0}
InstructionStops p f (Calls number) = unit_on f.name p.pages f.body.regs ≡ call number
InstructionStops p f (Needs n) = unit_over f.name p f.body.regs ≡ stopped (need n)

-- the same of a fork that looks at its channels first
abbrev pub InspectionStops : Framed → Fork → Last → Type 0
InspectionStops p f (Shows shown) = Unit {0}
InspectionStops p f (Calls number) = (inspected_by (inspected f p.pages).end ≡ Nothing) × (unit_on f.name p.pages f.body.regs ≡ call number)
InspectionStops p f (Needs n) =
    (read_over f.name p f.body.regs (inspection f) p.pages ≡ stops (need n))
    ⊎ ((inspected_by (inspected f p.pages).end ≡ Nothing) × (unit_over f.name p f.body.regs ≡ stopped (need n)))

abbrev pub StopsIf : Bool → Framed → Fork → Last → Type 0
StopsIf true p f last = InspectionStops p f last
StopsIf false p f last = InstructionStops p f last

-- how a unit of a fork stops that isn't over
abbrev pub UnitStops : Framed → Fork → Last → Type 0
UnitStops p f last = StopsIf (is_interrupted f.body.psi) p f last
