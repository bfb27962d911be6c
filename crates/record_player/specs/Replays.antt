-- What the replay of a record writes, on each way in which it ends.
use Rattle.std.specs.Prelude.{◌⊎◌, ℕ, List, [], ◌++◌, codes, decimal, Option, None, Some}
use Rattle.outside.specs.Told.{Grows}
use Rattle.script_texts.specs.declared.event.Item.{Item}
use Rattle.script_texts.specs.Texts.{ended, transcript}
use Rattle.texts.specs.Wrote.{WrotePartly}
use Rattle.texts.specs.declared.last.Last.{Last}
use Rattle.texts.specs.declared.last.Last.TheVariants.{Done as Ended, Stopped}
use Rattle.texts.specs.declared.last.Status.TheVariants as status
use Rattle.record_player.specs.declared.replay_end.ReplayEnd.{ReplayEnd}
use Rattle.record_player.specs.declared.replay_end.ReplayEnd.TheVariants.{Done, Bad, Illegal, Long, ReadFault, WriteFault, Memory}
use Rattle.record_player.specs.Plays.{Plays, items_shown}

-- the line that tells why it ended
abbrev pub end_text : ReplayEnd → List ℕ
end_text Done = []
end_text (Bad n) = ended (codes "?LINE " ++ decimal n)
end_text (Illegal n) = ended (codes "?ILLEGAL " ++ decimal n)
end_text Long = ended (codes "?LONG SCRIPT")
end_text ReadFault = ended (codes "?READ")
end_text WriteFault = []
end_text Memory = ended (codes "?MEMORY")

-- the sink took the transcript of the entries that were played, and the line that tells why the replay ended
pub record Replays (asked : ℕ) (told : Option (List ℕ)) (how : ReplayEnd) (out out' : Option (List ℕ)) : Type 0 where
  pub plays : Plays asked told how
  pub shown : Grows out out' (transcript (items_shown plays) ++ end_text how)

-- the sink failed within the transcript: it took a front of that, whatever items follow
pub record FailsWithin (asked : ℕ) (told out out' : Option (List ℕ)) : Type 0 where
  pub plays : Plays asked told WriteFault
  pub shown : (more : List Item) → WrotePartly out out' (transcript (items_shown plays ++ more))

-- the sink failed when the replay had ended so: it took a front of the transcript and of the line behind it
pub record FailsAtEnd (asked : ℕ) (told out out' : Option (List ℕ)) : Type 0 where
  pub how : ReplayEnd
  pub plays : Plays asked told how
  pub shown : WrotePartly out out' (transcript (items_shown plays) ++ end_text how)

-- REPLAY: what it wrote, on each way in which it ends
abbrev pub Replayed : ℕ → Option (List ℕ) → ReplayEnd → (out out' : Option (List ℕ)) → Type 0
Replayed asked told WriteFault out out' = FailsWithin asked told out out' ⊎ FailsAtEnd asked told out out'
Replayed asked told how out out' = Replays asked told how out out'

-- the last line, where there is one
abbrev pub last_of : ReplayEnd → Option Last
last_of Done = Some (Ended 0 0)
last_of (Bad n) = Some (Stopped status.Script n)
last_of (Illegal n) = Some (Stopped status.Illegal n)
last_of Long = Some (Stopped status.LongScript 0)
last_of ReadFault = Some (Stopped status.ReadFault 0)
last_of WriteFault = None
last_of Memory = Some (Stopped status.Memory 0)

-- it ended by what the record says, and not by a fault or for want of memory
abbrev pub IsJudged : ReplayEnd → Type 0
IsJudged Done = Unit {0}
IsJudged (Bad n) = Unit {0}
IsJudged (Illegal n) = Unit {0}
IsJudged Long = Unit {0}
IsJudged ReadFault = ⊥
IsJudged WriteFault = ⊥
IsJudged Memory = ⊥
