-- What a command makes of a text.
use Rattle.std.specs.Prelude.{ℕ, ◌≤◌}
use Rattle.outside.specs.declared.TheConstants.{MOST_DRUM_PAGES}
use Rattle.machine_names.specs.Bounds.{IsTerminal}
use Rattle.asm_core.specs.declared.line.AsmFault.{AsmFault}
use Rattle.asm_core.specs.declared.line.AsmFault.TheVariants.{Memory as NoMemory}
use Rattle.asm_console.specs.declared.asm_end.AsmEnd.{AsmEnd}
use Rattle.asm_console.specs.declared.asm_end.AsmEnd.TheVariants as of_asm
use Rattle.asm_console.specs.declared.asm_end.Stopped.TheVariants as why
use Rattle.asm_console.specs.Endings.{Assembled as AssembledText}
use Rattle.command_words.specs.declared.record_command.RecordCommand.{RecordCommand}
use Rattle.command_words.specs.declared.record_command.RecordCommand.TheVariants.{Replay, Image}
use Rattle.command_words.specs.declared.request.TextRequest.{TextRequest}
use Rattle.command_words.specs.declared.request.TextRequest.TheVariants.{Record, Assemble}
use Rattle.record_image.specs.Imaged.{Imaged}
use Rattle.record_player.specs.Replays.{Replayed}
use Rattle.record_player.specs.declared.replay_end.ReplayEnd.{ReplayEnd}
use Rattle.record_player.specs.declared.replay_end.ReplayEnd.TheVariants as of_replay
use Rattle.text_console.specs.declared.text_end.TextEnd.{TextEnd}
use Rattle.text_console.specs.declared.text_end.TextEnd.TheVariants.{Played, Assembled}
use Rattle.texts.specs.Wrote.{Told}
use Rattle.texts.specs.declared.last.Status.{Status}
use Rattle.texts.specs.declared.last.Status.TheVariants as status

-- what each command made of a record that is told, where it ended so, with a drum of so many pages unless the record tells another number
abbrev pub MakesOfRecord : RecordCommand → (pages : ℕ) → (told : Told) → ReplayEnd → (out out' : Told) → Type 0
MakesOfRecord Replay pages told how out out' = Replayed pages told how out out'
MakesOfRecord Image pages told how out out' = Imaged pages told how out out'

-- WHAT IS MADE OF A TEXT: of one that is told, as it is asked for, where it ended so
abbrev pub Makes : TextRequest → (told told' : Told) → TextEnd → (out out' : Told) → Type 0
Makes (Record request) told told' (Played how) out out' = MakesOfRecord request.command request.drum told how out out'
Makes (Assemble t) told told' (Assembled how) out out' = AssembledText t told told' how out out'
Makes request told told' how out out' = ⊥

-- how each ends where the text is right and whole
abbrev pub done_of : TextRequest → TextEnd
done_of (Record request) = Played of_replay.Done
done_of (Assemble t) = Assembled of_asm.Done

-- what is asked for keeps its limits: those of a drum's pages, and of terminals
abbrev pub CanBeMade : TextRequest → Type 0
CanBeMade (Record request) = (256 ≤ request.drum) × (request.drum ≤ MOST_DRUM_PAGES)
CanBeMade (Assemble t) = IsTerminal t

-- the status where a record was played
abbrev pub status_of_replay : ReplayEnd → Status
status_of_replay of_replay.Done = status.Done
status_of_replay (of_replay.Bad n) = status.Script
status_of_replay (of_replay.Illegal n) = status.Illegal
status_of_replay of_replay.Long = status.LongScript
status_of_replay of_replay.ReadFault = status.ReadFault
status_of_replay of_replay.WriteFault = status.WriteFault
status_of_replay of_replay.Memory = status.Memory

-- the status where a program has a fault, or there was no memory for it
abbrev pub status_of_fault : AsmFault → Status
status_of_fault NoMemory = status.Memory
status_of_fault fault = status.Assembly

-- the status where a program was assembled
abbrev pub status_of_asm : AsmEnd → Status
status_of_asm of_asm.Done = status.Done
status_of_asm (of_asm.Stopped why.ReadFault) = status.ReadFault
status_of_asm (of_asm.Stopped why.LongText) = status.LongScript
status_of_asm (of_asm.Stopped (why.Fault fault)) = status_of_fault fault
status_of_asm of_asm.WriteFault = status.WriteFault

-- the status of a command that ended so
abbrev pub status_of : TextEnd → Status
status_of (Played how) = status_of_replay how
status_of (Assembled how) = status_of_asm how
