-- What a unit shows, as items.
use Rattle.std.specs.Prelude.{ℕ, ◌<◌, List, [], ◌++◌, Bool, true, false, not, ◌&&◌, Option, None, Some, if◌then◌else◌, ◌==◌}
use Rattle.machine_names.specs.declared.names.Tty.{Tty}
use Rattle.script_texts.specs.declared.status.ForkStatus.{ForkStatus}
use Rattle.script_texts.specs.declared.status.ForkStatus.TheVariants.{Halted as AHalted, Forced as AForced}
use Rattle.script_texts.specs.declared.event.Item.{Item}
use Rattle.plain_model.specs.Unit.{printed, stop_text, turn_printed}
use Rattle.call_turns.specs.Turns.{IsOut}
use Rattle.step_shown.specs.declared.shown.Shown.{Shown}
use Rattle.step_shown.specs.declared.shown.Stop.{Stop}
use Rattle.step_shown.specs.declared.shown.Stop.TheVariants.{GoesOn, Halted, Forced}

-- what a terminal prints of a top fork that stands so
abbrev pub stop_items : Tty → Stop → List Item
stop_items t GoesOn = []
stop_items t Halted = printed t (stop_text AHalted)
stop_items t (Forced channel) = printed t (stop_text (AForced channel))

-- and what it prints of a unit
abbrev pub shown_items : Tty → Shown → List Item
shown_items t shown = turn_printed t shown.out ++ stop_items t shown.stop

-- how a fork of this status stands
abbrev pub stop_of : ForkStatus → Stop
stop_of AHalted = Halted
stop_of (AForced channel) = Forced channel
stop_of status = GoesOn

-- a character is shown, if one is printed, and how a fork of this status stands
abbrev pub shown_of : Option ℕ → ForkStatus → Shown
shown_of out status = record { out = out; stop = stop_of status }

-- nothing but how a fork stands
abbrev pub stands : Stop → Shown
stands stop = record { out = None; stop = stop }

-- nothing is shown
abbrev pub nothing : Shown
nothing = stands GoesOn

-- the limits of what is shown
abbrev pub FitsStop : Stop → Type 0
FitsStop GoesOn = Unit {0}
FitsStop Halted = Unit {0}
FitsStop (Forced channel) = channel < 36

abbrev pub FitsShown : Shown → Type 0
FitsShown shown = IsOut shown.out × FitsStop shown.stop

-- whether a fork has stopped
abbrev pub is_stopped : Stop → Bool
is_stopped GoesOn = false
is_stopped Halted = true
is_stopped (Forced channel) = true

abbrev pub is_stop : Shown → Bool
is_stop shown = is_stopped shown.stop

-- whether nothing is shown
abbrev pub none_shown : Option ℕ → Stop → Bool
none_shown None stop = not (is_stopped stop)
none_shown (Some code) stop = false

abbrev pub is_nothing : Shown → Bool
is_nothing shown = none_shown shown.out shown.stop

-- what a terminal shows of the fork in a slot of its job: one that is no top fork stops without a word
abbrev pub seen_stop : ℕ → Stop → Stop
seen_stop slot stop = if is_stopped stop && not (slot == 1) then GoesOn else stop

abbrev pub seen_of : ℕ → Shown → Shown
seen_of slot shown = record { out = shown.out; stop = seen_stop slot shown.stop }
