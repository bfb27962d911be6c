-- What a step shows, as items.
use Rattle.std.specs.Prelude.{ℕ, ◌<◌, List, [], ◌∷◌, ◌++◌, map, Bool, true, false, if◌then◌else◌, Option, None, Some, Result, Ok, Err}
use Rattle.script_texts.specs.declared.event.Item.{Item}
use Rattle.script_texts.specs.declared.event.Item.TheVariants.{ForkLine, PageLine, Refusal, UnitLine}
use Rattle.script_texts.specs.declared.event.Refusal.{Refusal as Cause}
use Rattle.plain_model.specs.State.{PlainState}
use Rattle.plain_model.specs.declared.fork.Fork.{Fork}
use Rattle.plain_model.specs.Forks.{ForkMap, fork_line, forks_by_slot}
use Rattle.std.specs.Option.{option_map, option_map_or}
use Rattle.machine_names.specs.declared.names.TheConstants.{SPACE_PAGES}
use Rattle.plain_pages.specs.References.{page_at, words_of}
use Rattle.plain_model.specs.FileEvents.{page_named, words_shown}
use Rattle.machine_names.specs.Bounds.{IsAddress, IsFileName, IsForkName, IsTerminal}
use Rattle.machine_names.specs.declared.names.ForkName.{ForkName}
use Rattle.machine_names.specs.declared.names.Tty.{Tty}
use Rattle.script_texts.specs.Limits.{FitsItem}
use Rattle.step_shown.specs.declared.reply.Reply.{Reply}
use Rattle.step_shown.specs.declared.reply.Reply.TheVariants.{Nothing, One, Ran, Forks, Page}
use Rattle.step_shown.specs.Shown.{shown_items, is_nothing, FitsShown}
use Rattle.step_shown.specs.declared.shown.Shown.{Shown}

-- a fork as it is shown, if there is one
abbrev pub lines_of : ForkMap → Option Fork → List Item
lines_of forks None = []
lines_of forks (Some f) = ForkLine (fork_line forks f) ∷ []

-- the program counter of a fork before its next unit, where each unit is shown
abbrev pub line_before : Bool → Option Fork → Option ℕ
line_before trace f = if trace then option_map (λ k. k.body.regs.pc) f else None

-- what is shown before a unit of a fork at this program counter, where each unit is shown
abbrev pub line_items : ForkName → Option ℕ → List Item
line_items f None = []
line_items f (Some pc) = UnitLine f pc ∷ []

-- and with what its terminal shows
abbrev pub ran_items : ForkName → Option ℕ → Shown → List Item
ran_items f line shown = line_items f line ++ shown_items f.tty shown

-- a file's page as it is shown, if it is there
abbrev pub page_items : PlainState → List ℕ → ℕ → List Item
page_items s name page = option_map_or (λ n. PageLine name page ∷ words_shown 0 (words_of s.pages n)) (page_at s.pages (page_named name page)) []

-- the forks of a terminal's job as they are shown, by slot
abbrev pub fork_items : ForkMap → Tty → List Item
fork_items forks t = map (λ f. ForkLine (fork_line forks f)) (forks_by_slot forks t)

-- the items of a reply, in the state that the step leaves
abbrev pub reply_items : PlainState → Reply → List Item
reply_items s Nothing = []
reply_items s (One item) = item ∷ []
reply_items s (Ran f line shown) = ran_items f line shown
reply_items s (Page name page) = page_items s name page
reply_items s (Forks t) = fork_items s.forks t

-- the limits of the program counter of a line, where there is one
abbrev pub FitsLine : Option ℕ → Type 0
FitsLine None = Unit {0}
FitsLine (Some pc) = IsAddress pc

-- whether a reply has no item, whatever the state
abbrev pub is_silent : Reply → Bool
is_silent Nothing = true
is_silent (Ran f None shown) = is_nothing shown
is_silent reply = false

-- the limits of a reply
abbrev pub FitsReply : Reply → Type 0
FitsReply Nothing = Unit {0}
FitsReply (One item) = FitsItem item
FitsReply (Ran f line shown) = IsForkName f × FitsLine line × FitsShown shown
FitsReply (Forks t) = IsTerminal t
FitsReply (Page name page) = IsFileName name × (page < SPACE_PAGES)

-- a refusal is shown, and nothing else
abbrev pub reply_of : Result Reply Cause → Reply
reply_of (Ok reply) = reply
reply_of (Err cause) = One (Refusal cause)
