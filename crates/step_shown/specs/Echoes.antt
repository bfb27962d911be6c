-- What a terminal shows of a character that is typed, as items.
use Rattle.std.specs.Prelude.{ℕ, ◌<◌, List, [], ◌∷◌, ◌++◌, codes}
use Rattle.std.specs.List.{flat_map}
use Rattle.std.specs.FinMap as map
use Rattle.machine_names.specs.declared.character.TheConstants.{CARRIAGE_RETURN, LINE_END, LINE_FEED, PROMPT}
use Rattle.machine_names.specs.Bounds.{IsTerminal}
use Rattle.machine_names.specs.declared.names.Tty.{Tty}
use Rattle.plain_typing.specs.declared.typed.TheConstants.{BELL}
use Rattle.script_texts.specs.declared.event.Item.{Item}
use Rattle.plain_model.specs.State.{PlainState}
use Rattle.plain_model.specs.Unit.{printed}
use Rattle.plain_model.specs.Commands.{file_line, with_line_end}
use Rattle.plain_model.specs.TypeEvents.{echo}
use Rattle.step_shown.specs.declared.echo.Complaint.{Complaint}
use Rattle.step_shown.specs.declared.echo.Complaint.TheVariants as complaint
use Rattle.step_shown.specs.declared.echo.Told.{Told}
use Rattle.step_shown.specs.declared.echo.Told.TheVariants as told
use Rattle.step_shown.specs.declared.echo.Echo.{Echo}
use Rattle.step_shown.specs.declared.echo.Echo.TheVariants.{Nothing, Shows, Wakes, Bell, Stops, Posts, Ends}
use Rattle.step_shown.specs.Shown.{FitsStop, stop_items}

-- how it is printed why a command isn't done
abbrev pub complaint_text : Complaint → List ℕ
complaint_text complaint.NoFile = codes "?NO FILE"
complaint_text complaint.NoProgram = codes "?NO PROGRAM"
complaint_text complaint.Cannot = codes "?CANNOT"
complaint_text complaint.Busy = codes "?FILE BUSY"
complaint_text complaint.Unknown = codes "?"

-- what a command prints behind its line
abbrev pub told_text : PlainState → Told → List ℕ
told_text s told.Nothing = []
told_text s told.Prompt = PROMPT ∷ []
told_text s (told.Refused why) = with_line_end (complaint_text why) ++ PROMPT ∷ []
told_text s (told.Files user) = flat_map (file_line user) (map.keys s.files) ++ PROMPT ∷ []

abbrev pub told_items : Tty → Told → PlainState → List Item
told_items t told s = printed t (told_text s told)

-- what control-C prints
abbrev pub stop_text : List ℕ
stop_text = 94 ∷ 67 ∷ CARRIAGE_RETURN ∷ LINE_FEED ∷ PROMPT ∷ []

abbrev pub echo_items : Tty → Echo → PlainState → List Item
echo_items t Nothing s = []
echo_items t (Shows code) s = echo t code
echo_items t (Wakes code) s = echo t code
echo_items t Bell s = printed t (BELL ∷ [])
echo_items t Stops s = printed t stop_text
echo_items t (Posts u stop) s = stop_items u stop
echo_items t (Ends told) s = echo t LINE_END ++ told_items t told s

-- the limits of what is shown
abbrev pub FitsEcho : Echo → Type 0
FitsEcho (Shows code) = code < 128
FitsEcho (Wakes code) = code < 128
FitsEcho (Posts u stop) = IsTerminal u × FitsStop stop
FitsEcho other = Unit {0}
