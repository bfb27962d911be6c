-- What was read of a record and played of its entries, on each way in which that ends.
use Rattle.std.specs.Prelude.{◌≡◌, ◌≢◌, ℕ, ◌+◌, ◌<◌, ◌≤◌, List, [], ◌++◌, length, replicate, Option, Some, Result, Ok, Err, IfOk}
use Rattle.std.specs.Option.{unwrap_or}
use Rattle.outside.specs.Faults.{Rose}
use Rattle.script_texts.specs.declared.event.Item.{Item}
use Rattle.script_texts.specs.declared.event.Step.{Step}
use Rattle.script_texts.specs.RecordLines.{RecordLine, entries_told}
use Rattle.script_texts.specs.Taker.{GoesOn, IsCut, StaysOnward, max_steps}
use Rattle.plain_model.specs.State.{PlainState, opening}
use Rattle.plain_model.specs.Run.{items_of, state_after}
use Rattle.page_contracts.specs.DrumWords.{DrumWords}
use Rattle.page_contracts.specs.Stores.{FitsHomes, free}
use Rattle.monitor_core.specs.declared.system.System.{System}
use Rattle.monitor_core.specs.Systems.{FitsPages, state_of}
use Rattle.record_reader.specs.Order.{AreRecordLines}
use Rattle.record_reader.specs.Verdicts.{BeginsWith, ReadsAs, whole, bad, too_long}
use Rattle.record_reader.specs.Versions.{size_told}
use Rattle.record_player.specs.declared.replay_end.ReplayEnd.{ReplayEnd}
use Rattle.record_player.specs.declared.replay_end.ReplayEnd.TheVariants.{Done, Bad, Illegal, Long, ReadFault, WriteFault, Memory}
use Rattle.record_player.specs.Played.{ArePlayed, BreaksAt}

-- how many pages the drum has: as many as the first line tells, and else those that are asked for
abbrev pub pages_of : ℕ → List RecordLine → ℕ
pages_of asked read = unwrap_or (size_told read) asked

-- the state from which these lines are played
abbrev pub start_of : ℕ → List RecordLine → PlainState
start_of asked read = opening (pages_of asked read)

-- how far a text was read that gave these lines, where it ended so: to a verdict, or to what stopped the playing
abbrev pub WasRead : ReplayEnd → List ℕ → List RecordLine → Type 0
WasRead Done text read = ReadsAs text read whole
WasRead (Bad n) text read = ReadsAs text read (bad n)
WasRead Long text read = ReadsAs text read too_long
WasRead how text read = (rest : List ℕ) × BeginsWith text read rest

-- which entries of these lines were played: all; those before the first that can't be; or those up to which a taker failed
abbrev pub ArePlayedOf : ReplayEnd → PlainState → List RecordLine → List Step → Type 0
ArePlayedOf (Illegal n) s read entries = BreaksAt s (entries_told read) n entries
ArePlayedOf WriteFault s read entries = ArePlayed s entries × ((later : List Step) × (entries_told read ≡ entries ++ later))
ArePlayedOf Memory s read entries = entries ≡ []
ArePlayedOf how s read entries = (entries ≡ entries_told read) × ArePlayed s entries

-- the number of a bad line is that of the one behind those that were read
abbrev pub IsNumbered : ReplayEnd → List RecordLine → Type 0
IsNumbered (Bad n) read = n ≡ length read + 1
IsNumbered how read = Unit {0}

-- A RECORD IS PLAYED: these lines were read, of the text where it is told, and these entries of them were played. The first of what can stop
-- it decides, in the order of the record: all entries before a bad line, or before the limit, can be played.
pub record Plays (asked : ℕ) (told : Option (List ℕ)) (how : ReplayEnd) : Type 0 where
  pub read : List RecordLine
  pub entries : List Step
  pub right : AreRecordLines read
  pub few : length entries < max_steps
  pub numbered : IsNumbered how read
  pub was_read : (text : List ℕ) → told ≡ Some text → WasRead how text read
  pub played : ArePlayedOf how (start_of asked read) read entries

-- the items of the entries that were played
abbrev pub items_shown : {asked : ℕ} {told : Option (List ℕ)} {how : ReplayEnd} → Plays asked told how → List Item
items_shown {asked} plays = items_of (start_of asked plays.read) plays.entries

-- what the taker was given: all of these, or it is cut within them
abbrev pub Handed : {T : Type 0} → (stands cut : T → T → List Item → List Step → Type 0) → (out out' : T) → ReplayEnd → List Item → List Step → Type 0
Handed stands cut out out' WriteFault items entries = IsCut stands cut out out' items entries
Handed stands cut out out' how items entries = GoesOn stands out out' items entries

-- over each drum of so many pages a system stands for this state
abbrev pub StandsFor : {P : Type 0} {b : _} → System P b → ℕ → PlainState → Type 0
StandsFor m pages s = (d : DrumWords) → FitsHomes (replicate pages free) d → FitsPages m d × (state_of m d ≡ s)

-- how the playing ended that answers this
abbrev pub end_of : {X : Type 0} → Result X ReplayEnd → ReplayEnd
end_of (Ok x) = Done
end_of (Err how) = how

-- a record was played, the taker was given what was played, and where all was, the system is in the last state
pub record Played {P T : Type 0} {b : _} (asked : ℕ) (told : Option (List ℕ)) (stands cut : T → T → List Item → List Step → Type 0) (out out' : T) (result : Result (System P b) ReplayEnd) : Type 0 where
  pub plays : Plays asked told (end_of result)
  pub given : Handed stands cut out out' (end_of result) (items_shown plays) plays.entries
  pub left : IfOk result (λ m. StandsFor m (pages_of asked plays.read) (state_after (start_of asked plays.read) plays.entries))

-- the same, whatever becomes of the system, with the counts of faults
pub record PlayedOut {S T : Type 0} (asked : ℕ) (read_faults : S → ℕ) (left : S → Option (List ℕ)) (faults : T → ℕ) (onward : T → T → Type 0) (stands cut : T → T → List Item → List Step → Type 0)
    (input input' : S) (out out' : T) (how : ReplayEnd) : Type 0 where
  pub plays : Plays asked (left input) how
  pub given : Handed stands cut out out' how (items_shown plays) plays.entries
  pub read_later : read_faults input ≤ read_faults input'
  pub read_cause : how ≡ ReadFault → Rose (read_faults input) (read_faults input')
  pub unfaulted : how ≢ ReadFault → how ≢ Memory → read_faults input' ≡ read_faults input
  pub later : faults out ≤ faults out'
  pub cause : how ≡ WriteFault → Rose (faults out) (faults out')
  pub goes_on : StaysOnward onward out out'
