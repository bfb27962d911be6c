-- A turn as it is driven: its first step and what is left of it, and the whole turn that this comes to.
use Rattle.std.specs.Prelude.{◌≡◌, ℕ, zero, suc, ◌<◌, ◌^◌, Option, None, Some, is_some, if◌then◌else◌, length}
use Rattle.plain_model.specs.declared.call.End.{End}
use Rattle.plain_model.specs.declared.call.End.TheVariants.{Done, Waits, Halts, Refused, Failed, Trap}
use Rattle.plain_model.specs.declared.call.TheConstants.{NO_PAGE, NO_ROOM}
use Rattle.plain_units.specs.declared.channel.TheConstants.{DRUM_FULL, ILLEGAL_INSTRUCTION}
use Rattle.outside.specs.declared.TheConstants.{PAGE_WORDS}
use Rattle.machine_names.specs.declared.names.TheConstants.{SPACE_PAGES, ACCUMULATORS}
use Rattle.machine_names.specs.declared.names.PageName.{PageName}
use Rattle.machine_names.specs.declared.names.Slot.{Slot}
use Rattle.machine_names.specs.declared.names.Tty.{Tty}
use Rattle.machine_names.specs.declared.names.Kind.{Kind}
use Rattle.machine_names.specs.declared.names.Kind.TheVariants.{Read, Write}
use Rattle.machine_names.specs.Bounds.{IsFilePage}
use Rattle.machine_names.specs.Orders.{FilePage, file_page}
use Rattle.plain_units.specs.declared.registers.Regs.{Regs}
use Rattle.plain_pages.specs.declared.map.MapEntry.{MapEntry}
use Rattle.plain_pages.specs.declared.map.MapEntry.TheVariants.{Empty}
use Rattle.plain_pages.specs.References.{Spot, in_map, in_file}
use Rattle.plain_model.specs.Calls.{Turn, sees, finds, reads, touches, ends, granted_or}
use Rattle.call_turns.specs.declared.turn.Ask.{Ask}
use Rattle.call_turns.specs.declared.turn.Ask.TheVariants.{Sees, Finds, FindsFile, ReadsFile}
use Rattle.call_turns.specs.declared.turn.Told.{Told}
use Rattle.call_turns.specs.declared.turn.Told.TheVariants.{Entry, Page, Word as AWord}
use Rattle.call_turns.specs.declared.turn.Turn.{Turn as Step}
use Rattle.call_turns.specs.declared.turn.Turn.TheVariants.{Ends, Asks, Reads, Fills}
use Rattle.call_turns.specs.declared.turn.Grant.{Grant}
use Rattle.call_turns.specs.declared.turn.Grant.TheVariants.{Nothing, Read as MayRead, Fill}
use Rattle.call_turns.specs.declared.turn.Outcome.{Outcome}
use Rattle.call_turns.specs.declared.turn.WhenFull.{WhenFull}
use Rattle.call_turns.specs.declared.turn.WhenFull.TheVariants as full

abbrev pub entry_in : Told → MapEntry
entry_in (Entry e) = e
entry_in (Page n) = Empty
entry_in (AWord w) = Empty

abbrev pub page_in : Told → Option PageName
page_in (Entry e) = None
page_in (Page n) = n
page_in (AWord w) = None

abbrev pub word_in : Told → ℕ
word_in (Entry e) = 0
word_in (Page n) = 0
word_in (AWord w) = w

-- asks, and goes on with what is told
abbrev pub asking : {C : Type 0} → Ask → (Told → Turn ℕ C) → Turn ℕ C
asking (Sees s) next = sees s (λ e. next (Entry e))
asking (Finds s) next = finds (in_map s) (λ n. next (Page n))
asking (FindsFile f page) next = finds (in_file (file_page f.0 page)) (λ n. next (Page n))
asking (ReadsFile f page offset) next = reads (file_page f.0 page) offset (λ w. next (AWord w))

-- how a turn ends that finds the drum full
abbrev pub full_end : {C : Type 0} → WhenFull → End C
full_end full.Refused = Refused NO_ROOM
full_end full.Traps = Trap DRUM_FULL

-- refers to a page, and ends so where that is granted
abbrev pub touching : {C : Type 0} → Tty → Spot ℕ → Kind → End C → WhenFull → Turn ℕ C
touching owner at kind e when = touches owner at kind (λ what. ends (granted_or e (full_end when) what))

-- reads the page at the end of a slot's chain, where one is there
abbrev pub reading : {C : Type 0} → Tty → Slot → End C → Turn ℕ C
reading owner s e = finds (in_map s) (λ n. if is_some n then touching owner (in_map s) Read e full.Refused else ends (Refused NO_PAGE))

-- writes a page of a file
abbrev pub filling : {C : Type 0} → Tty → FilePage ℕ → End C → WhenFull → Turn ℕ C
filling owner f e when = touching owner (in_file f) Write e when

-- the whole turn of an owner of pages, where what is left is done after each reply, and where more than so many asks trap
abbrev pub turn_of : {C S : Type 0} → Tty → (S → Told → Step C S) → Step C S → ℕ → Turn ℕ C
turn_of owner later (Ends e) n = ends e
turn_of owner later (Reads s e) n = reading owner s e
turn_of owner later (Fills f page e when) n = filling owner (file_page f.0 page) e when
turn_of owner later (Asks what rest) zero = ends (Trap ILLEGAL_INSTRUCTION)
turn_of owner later (Asks what rest) (suc n) = asking what (λ r. turn_of owner later (later rest r) n)

-- what is asked is of a page of a fork's space, or of a file
abbrev pub IsAsk : Ask → Type 0
IsAsk (Sees s) = s.page < SPACE_PAGES
IsAsk (Finds s) = s.page < SPACE_PAGES
IsAsk (FindsFile f page) = IsFilePage f page
IsAsk (ReadsFile f page offset) = IsFilePage f page × (offset < PAGE_WORDS)

-- registers of a fork: an address for a program counter, and 16 accumulators
abbrev pub IsRegs : Regs → Type 0
IsRegs regs = (regs.pc < 2 ^ 18) × (length regs.ac ≡ ACCUMULATORS)

-- a character, if one is printed
abbrev pub IsOut : Option ℕ → Type 0
IsOut None = Unit {0}
IsOut (Some code) = code < 128

-- a channel, if one is posted
abbrev pub IsPost : Option ℕ → Type 0
IsPost None = Unit {0}
IsPost (Some channel) = channel < 36

-- a change that is made is sound, and registers, a character and a channel are within their limits
abbrev pub FitsEnd : {C : Type 0} → (C → Type 0) → End C → Type 0
FitsEnd sound (Done change regs out post) = sound change × IsRegs regs × IsOut out × IsPost post
FitsEnd sound (Waits on) = Unit {0}
FitsEnd sound Halts = Unit {0}
FitsEnd sound (Refused code) = Unit {0}
FitsEnd sound (Failed code) = Unit {0}
FitsEnd sound (Trap channel) = channel < 36

-- how a turn comes out is within its limits: its change is sound behind what was granted
abbrev pub FitsOutcome : {C : Type 0} → (Grant → C → Type 0) → Outcome C → Type 0
FitsOutcome sound o = FitsEnd (sound o.grant) o.end

-- what is asked is of a page, what is left holds, and each end is within its limits
abbrev pub FitsTurn : {C S : Type 0} → (S → Type 0) → (Grant → C → Type 0) → Step C S → Type 0
FitsTurn holds sound (Ends e) = FitsEnd (sound Nothing) e
FitsTurn holds sound (Asks what rest) = IsAsk what × holds rest
FitsTurn holds sound (Reads s e) = (s.page < SPACE_PAGES) × FitsEnd (sound (MayRead s)) e
FitsTurn holds sound (Fills f page e when) = IsFilePage f page × FitsEnd (sound (Fill f page)) e
