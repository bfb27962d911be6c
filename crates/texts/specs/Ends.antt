-- How the texts end.
use Rattle.std.specs.Prelude.{ℕ, List, [], ◌++◌, codes, decimal}
use Rattle.script_texts.specs.Texts.{ended, counts_line}
use Rattle.texts.specs.declared.last.Status.{Status}
use Rattle.texts.specs.declared.last.Status.TheVariants.{Done, Usage, Script, DrumFault, Memory, ReadFault, WriteFault, LongScript, Illegal, Assembly, Image}
use Rattle.texts.specs.declared.last.Last.{Last}
use Rattle.texts.specs.declared.last.Last.TheVariants.{Done as Ended, Summary, Stopped}
use Rattle.texts.specs.declared.tally.Tally.{Tally}
use Rattle.texts.specs.Tally.{tally_line}

-- the exit status
abbrev pub status_number : Status → ℕ
status_number Done = 0
status_number Usage = 1
status_number Script = 2
status_number DrumFault = 3
status_number Memory = 4
status_number ReadFault = 5
status_number WriteFault = 6
status_number LongScript = 7
status_number Illegal = 8
status_number Assembly = 10
status_number Image = 11

-- the line that tells how a command stopped, with the number of a line, of an entry or of the parts before;
-- that of a program with a fault is the assembler's own
abbrev pub closing_line : Status → ℕ → List ℕ
closing_line Done n = []
closing_line Usage n = ended (codes "?USAGE")
closing_line Script n = ended (codes "?LINE " ++ decimal n)
closing_line DrumFault n = ended (codes "?DRUM")
closing_line Memory n = ended (codes "?MEMORY")
closing_line ReadFault n = ended (codes "?READ")
closing_line WriteFault n = []
closing_line LongScript n = ended (codes "?LONG SCRIPT")
closing_line Illegal n = ended (codes "?ILLEGAL " ++ decimal n)
closing_line Assembly n = []
closing_line Image n = ended (codes "?IMAGE " ++ decimal n)

-- the last line of the transcript, behind the closed line of characters, where so much was counted
abbrev pub end_line : Last → Tally → List ℕ
end_line (Ended reads writes) counts = []
end_line (Summary reads writes) counts = tally_line counts
end_line (Stopped status n) counts = closing_line status n

-- the last line of the record, behind the closed run of turns
abbrev pub record_end : Last → List ℕ
record_end (Ended reads writes) = counts_line reads writes
record_end (Summary reads writes) = counts_line reads writes
record_end (Stopped status n) = []
