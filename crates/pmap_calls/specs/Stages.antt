-- What is left of a call on maps, and the whole turn that this comes to.
use Rattle.std.specs.Prelude.{◌≡◌, ◌<◌, ℕ, Option, None, Some}
use Rattle.machine_names.specs.declared.names.TheConstants.{SPACE_PAGES, FILE_PAGES}
use Rattle.machine_names.specs.declared.names.FileNo.{FileNo}
use Rattle.machine_names.specs.declared.names.PageName.{PageName}
use Rattle.machine_names.specs.declared.names.Tty.{Tty}
use Rattle.machine_names.specs.Bounds.{IsFilePage}
use Rattle.plain_model.specs.declared.call.TheConstants.{NO_PAGE}
use Rattle.plain_model.specs.declared.call.End.{End}
use Rattle.plain_model.specs.declared.call.End.TheVariants.{Refused}
use Rattle.plain_model.specs.declared.call.MapChange.{MapChange}
use Rattle.plain_model.specs.declared.call.MapChange.TheVariants.{Nothing, Unmap, Follow, Narrow as Narrowed, Map, Put, Drop}
use Rattle.plain_model.specs.Calls.{Turn, returning, with_ac}
use Rattle.plain_model.specs.MapCalls.{file_access, narrows, source_of, tells_access}
use Rattle.plain_model.specs.Trees.{PlainTree}
use Rattle.call_turns.specs.declared.turn.Ask.TheVariants.{Finds}
use Rattle.call_turns.specs.declared.turn.Told.{Told}
use Rattle.call_turns.specs.declared.turn.Grant.{Grant}
use Rattle.call_turns.specs.declared.turn.Grant.TheVariants as grant
use Rattle.call_turns.specs.declared.turn.Turn.{Turn as Step}
use Rattle.call_turns.specs.declared.turn.Turn.TheVariants.{Ends, Asks, Fills}
use Rattle.call_turns.specs.declared.turn.WhenFull.TheVariants as when
use Rattle.call_turns.specs.Turns.{FitsEnd, IsRegs, entry_in, page_in, turn_of}
use Rattle.pmap_calls.specs.Asking.{IsSlot}
use Rattle.pmap_calls.specs.declared.stage.Stage.{Stage}
use Rattle.pmap_calls.specs.declared.stage.Stage.TheVariants.{Access, Source, Page, Narrow, FileAccess, Fill, There}

-- a page of a file that isn't there is made
abbrev pub filled : FileNo → ℕ → End MapChange → Option PageName → Step MapChange Stage
filled f page e (Some n) = Ends e
filled f page e None = Fills f page e when.Refused

-- or has to be there
abbrev pub if_there : End MapChange → Option PageName → Step MapChange Stage
if_there e (Some n) = Ends e
if_there e None = Ends (Refused NO_PAGE)

-- what is done with what is told
abbrev pub later : PlainTree → Stage → Told → Step MapChange Stage
later tree (Access slot regs) reply = Asks (Finds slot) (Page (entry_in reply) regs)
later tree (Source slot regs) reply = Asks (Finds slot) (Page (entry_in reply) (with_ac regs 1 (source_of tree.forks slot (entry_in reply))))
later tree (Page e regs) reply = Ends (tells_access regs e (page_in reply))
later tree (Narrow slot access regs) reply = Ends (narrows slot access regs (entry_in reply))
later tree (FileAccess regs) reply = Ends (returning Nothing (with_ac regs 2 (file_access (page_in reply))))
later tree (Fill f page e) reply = filled f page e (page_in reply)
later tree (There e) reply = if_there e (page_in reply)

-- a call on maps asks twice at most: for an entry, and for the page behind it
abbrev pub most_asks : ℕ
most_asks = 2

-- the whole turn of a first step, for an owner of pages
abbrev pub whole : Tty → PlainTree → Step MapChange Stage → Turn ℕ MapChange
whole owner tree step = turn_of owner (later tree) step most_asks

-- a change behind what was granted: a page that was read is put into a file, one that is made is mapped; and what is followed is a page of a fork that
-- has a serial
abbrev pub IsMapChange : Grant → MapChange → Type 0
IsMapChange grant.Nothing Nothing = Unit {0}
IsMapChange grant.Nothing (Unmap slot) = slot.page < SPACE_PAGES
IsMapChange grant.Nothing (Follow slot other access) = (slot.page < SPACE_PAGES) × IsSlot other
IsMapChange grant.Nothing (Narrowed slot access) = slot.page < SPACE_PAGES
IsMapChange grant.Nothing (Map slot name page access) = (slot.page < SPACE_PAGES) × (page < FILE_PAGES)
IsMapChange (grant.Fill f at) (Map slot name page access) = (slot.page < SPACE_PAGES) × (page < FILE_PAGES)
IsMapChange (grant.Read from) (Put name page slot) = (slot ≡ from) × (page < FILE_PAGES)
IsMapChange grant.Nothing (Drop name page) = page < FILE_PAGES
IsMapChange g change = ⊥

abbrev pub IsStage : Stage → Type 0
IsStage (Access slot regs) = (slot.page < SPACE_PAGES) × IsRegs regs
IsStage (Source slot regs) = (slot.page < SPACE_PAGES) × IsRegs regs
IsStage (Page e regs) = IsRegs regs
IsStage (Narrow slot access regs) = (slot.page < SPACE_PAGES) × IsRegs regs
IsStage (FileAccess regs) = IsRegs regs
IsStage (Fill f page e) = IsFilePage f page × FitsEnd (IsMapChange grant.Nothing) e × FitsEnd (IsMapChange (grant.Fill f page)) e
IsStage (There e) = FitsEnd (IsMapChange grant.Nothing) e
