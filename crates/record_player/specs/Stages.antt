-- What is played on a stage, and given to a taker.
use Rattle.std.specs.Prelude.{◌≡◌, ℕ, ◌+◌, ◌<◌, ◌≤◌, List, [], ◌∷◌, length, replicate, false, Option, Some, Result, OnOk, OnErr, IfOk, IfErr, MatchOption}
use Rattle.outside.specs.Faults.{Rose}
use Rattle.machine_names.specs.declared.names.ForkName.{ForkName}
use Rattle.machine_names.specs.declared.names.Tty.{Tty}
use Rattle.script_texts.specs.declared.event.Event.{Event}
use Rattle.script_texts.specs.declared.event.Item.{Item}
use Rattle.script_texts.specs.declared.event.Step.{Step}
use Rattle.script_texts.specs.declared.event.Step.TheVariants.{Outer, Unit as AUnit}
use Rattle.script_texts.specs.RecordLines.{RecordLine, told_by}
use Rattle.script_texts.specs.Taker.{StaysOnward, max_steps}
use Rattle.plain_model.specs.State.{PlainState}
use Rattle.plain_model.specs.Run.{items_of, state_after}
use Rattle.plain_model.specs.TypeEvents.{typed_all}
use Rattle.page_contracts.specs.DrumWords.{DrumWords}
use Rattle.monitor_core.specs.declared.system.System.{System}
use Rattle.monitor_core.specs.Systems.{FitsPages, state_of}
use Rattle.event_items.specs.Giving.{Standing, StaysTaker, Takes}
use Rattle.event_items.specs.Outcome.{Gave, GaveCut}
use Rattle.record_reader.specs.Order.{AreRecordLines}
use Rattle.record_reader.specs.Reader.{line_given}
use Rattle.record_reader.specs.Versions.{size_told}
use Rattle.record_reader.specs.declared.reader.NextStep.{NextStep}
use Rattle.record_reader.specs.declared.reader.NextStep.TheVariants as answers
use Rattle.record_player.specs.declared.halt.Halt.{Halt}
use Rattle.record_player.specs.declared.halt.Halt.TheVariants.{Illegal as HaltIllegal, Fault}
use Rattle.record_player.specs.declared.replay_end.ReplayEnd.{ReplayEnd}
use Rattle.record_player.specs.declared.replay_end.ReplayEnd.TheVariants.{Done, Bad, Illegal, Long, ReadFault, WriteFault, Memory}
use Rattle.record_player.specs.declared.stage.Stage.{Stage}
use Rattle.record_player.specs.Hearing.{size_given}
use Rattle.record_player.specs.Played.{CanPlay}
use Rattle.record_player.specs.Plays.{ArePlayedOf, Handed, IsNumbered, WasRead}

-- Entries were played, each where it can be, and given with their items; over each drum that fits, the system stands for the state that they
-- leave. Legal under no AUTO mark is what can be played.
pub record Gives {P T : Type 0} {b : _} (stands : Standing T) (m m' : Stage P b) (out out' : T) (entries : List Step) : Type 0 where
  pub count : m'.done ≡ m.done + length entries
  pub each : (d : DrumWords) → FitsPages m.system d → FitsPages m'.system d × Gave stands out out' false (state_of m.system d) (state_of m'.system d) entries

-- the taker failed within these entries, the last of them the one at hand
pub record CutIn {P T : Type 0} {b : _} (stands cut : Standing T) (m : Stage P b) (out out' : T) (entries : List Step) : Type 0 where
  pub each : (d : DrumWords) → FitsPages m.system d → GaveCut stands cut out out' false (state_of m.system d) entries

-- an event was played, or the taker failed within what it shows
pub record PlayedEvent {P T X E : Type 0} {b : _} (fault_count : T → ℕ) (onward : T → T → Type 0) (stands cut : Standing T) (m m' : Stage P b) (out out' : T) (result : Result X E) (event : Event) : Type 0 where
  pub taker : StaysTaker fault_count onward out out' result
  pub ok : OnOk result (Gives stands m m' out out' (Outer event ∷ []))
  pub err : OnErr result (CutIn stands cut m out out' (Outer event ∷ []))

-- the characters of a text were typed, and what each showed was given; or the taker failed
pub record TypedOut {P T X E : Type 0} {b : _} (fault_count : T → ℕ) (onward : T → T → Type 0) (stands cut : Standing T) (m m' : Stage P b) (out out' : T) (result : Result X E) (t : Tty) (text : List ℕ) : Type 0 where
  pub taker : StaysTaker fault_count onward out out' result
  pub given : (d : DrumWords) → FitsPages m.system d → Takes stands cut out out' result (typed_all (state_of m.system d) t text).items []
  pub left : OnOk result ((d : DrumWords) → FitsPages m.system d → FitsPages m'.system d × (state_of m'.system d ≡ (typed_all (state_of m.system d) t text).state))
  pub count : m'.done ≡ m.done

-- of equal entries some were played, and the next one can't be
pub record Breaks {P T : Type 0} {b : _} (stands : Standing T) (m m' : Stage P b) (out out' : T) (step : Step) (count : ℕ) : Type 0 where
  pub played : ℕ
  pub fewer : played < count
  pub gives : Gives stands m m' out out' (replicate played step)
  pub broken : (d : DrumWords) → FitsPages m'.system d → CanPlay (state_of m'.system d) step → ⊥

-- of equal entries some were played, and the taker failed within these
pub record Fails {P T : Type 0} {b : _} (fault_count : T → ℕ) (stands cut : Standing T) (m : Stage P b) (out out' : T) (step : Step) (count : ℕ) : Type 0 where
  pub rose : Rose (fault_count out) (fault_count out')
  pub played : ℕ
  pub few : played ≤ count
  pub cut_in : CutIn stands cut m out out' (replicate played step)

-- why equal entries were not all played
abbrev pub Halts : {P T : Type 0} {b : _} → (fault_count : T → ℕ) → (stands cut : Standing T) → (m m' : Stage P b) → (out out' : T) → Step → ℕ → Halt → Type 0
Halts fault_count stands cut m m' out out' step count HaltIllegal = Breaks stands m m' out out' step count
Halts fault_count stands cut m m' out out' step count Fault = Fails fault_count stands cut m out out' step count

-- so many equal entries were played, or it is told why not
pub record PlayedSteps {P T X : Type 0} {b : _} (fault_count : T → ℕ) (onward : T → T → Type 0) (stands cut : Standing T) (m m' : Stage P b) (out out' : T) (result : Result X Halt) (step : Step) (count : ℕ) : Type 0 where
  pub later : fault_count out ≤ fault_count out'
  pub goes_on : StaysOnward onward out out'
  pub ok : OnOk result (Gives stands m m' out out' (replicate count step))
  pub err : IfErr result (Halts fault_count stands cut m m' out out' step count)

-- so many units of a fork were played as are told, at least one; or it is told why not
pub record PlayedRow {P T : Type 0} {b : _} (fault_count : T → ℕ) (onward : T → T → Type 0) (stands cut : Standing T) (m m' : Stage P b) (out out' : T) (result : Result ℕ Halt) (fork : ForkName) (left : ℕ) : Type 0 where
  pub later : fault_count out ≤ fault_count out'
  pub goes_on : StaysOnward onward out out'
  pub some : IfOk result (λ n. 1 ≤ n)
  pub few : IfOk result (λ n. n ≤ left)
  pub ok : IfOk result (λ n. Gives stands m m' out out' (replicate n (AUnit fork)))
  pub err : IfErr result (Halts fault_count stands cut m m' out out' (AUnit fork) left)

-- the entries of a line were all played
pub record WholeLine {P T : Type 0} {b : _} (stands : Standing T) (m m' : Stage P b) (out out' : T) (next : NextStep) : Type 0 where
  pub line : RecordLine
  pub given : line_given next ≡ Some line
  pub gives : Gives stands m m' out out' (told_by line)

-- nothing was played, as this was the answer
pub record NoLine {P T : Type 0} {b : _} (stands : Standing T) (m m' : Stage P b) (out out' : T) (next answer : NextStep) : Type 0 where
  pub same : next ≡ answer
  pub gives : Gives stands m m' out out' []

-- an entry of a line can't be played, which has this number
pub record BrokenLine {P T : Type 0} {b : _} (stands : Standing T) (m m' : Stage P b) (out out' : T) (next : NextStep) (number : ℕ) : Type 0 where
  pub step : Step
  pub count : ℕ
  pub same : next ≡ answers.Run step count
  pub breaks : Breaks stands m m' out out' step count
  pub numbered : number ≡ m'.done + 1

-- the taker failed within a line
pub record CutLine {P T : Type 0} {b : _} (fault_count : T → ℕ) (stands cut : Standing T) (m : Stage P b) (out out' : T) (next : NextStep) : Type 0 where
  pub step : Step
  pub count : ℕ
  pub same : next ≡ answers.Run step count
  pub fails : Fails fault_count stands cut m out out' step count

-- what stopped the playing, where it ended so
abbrev pub StoppedBy : {P T : Type 0} {b : _} → (fault_count : T → ℕ) → (stands cut : Standing T) → (m m' : Stage P b) → (out out' : T) → NextStep → ReplayEnd → Type 0
StoppedBy fault_count stands cut m m' out out' next Done = NoLine stands m m' out out' next answers.End
StoppedBy fault_count stands cut m m' out out' next (Bad n) = NoLine stands m m' out out' next (answers.Bad n)
StoppedBy fault_count stands cut m m' out out' next (Illegal n) = BrokenLine stands m m' out out' next n
StoppedBy fault_count stands cut m m' out out' next Long = NoLine stands m m' out out' next answers.Long
StoppedBy fault_count stands cut m m' out out' next ReadFault = NoLine stands m m' out out' next answers.ReadFault
StoppedBy fault_count stands cut m m' out out' next WriteFault = CutLine fault_count stands cut m out out' next
StoppedBy fault_count stands cut m m' out out' next Memory = ⊥

-- what a record has next was played, or stopped the playing
pub record PlayedLine {P T : Type 0} {b : _} (fault_count : T → ℕ) (onward : T → T → Type 0) (stands cut : Standing T) (m m' : Stage P b) (out out' : T) (next : NextStep) (result : Option ReplayEnd) : Type 0 where
  pub later : fault_count out ≤ fault_count out'
  pub goes_on : StaysOnward onward out out'
  pub done : MatchOption result (WholeLine stands m m' out out' next) (StoppedBy fault_count stands cut m m' out out' next)

-- over one drum: which entries were played, and what the taker was given
pub record PlayedOver {T : Type 0} (stands cut : Standing T) (out out' : T) (s : PlainState) (how : ReplayEnd) (read : List RecordLine) (entries : List Step) : Type 0 where
  pub played : ArePlayedOf how s read entries
  pub given : Handed stands cut out out' how (items_of s entries) entries

-- a record was played from a system's state on, from this answer of its reader on
pub record PlayedOn {P T : Type 0} {b : _} (stands cut : Standing T) (m m' : System P b) (out out' : T) (told : Option (List ℕ)) (first : NextStep) (how : ReplayEnd) : Type 0 where
  pub read : List RecordLine
  pub entries : List Step
  pub right : AreRecordLines read
  pub few : length entries < max_steps
  pub numbered : IsNumbered how read
  pub size : size_told read ≡ size_given first
  pub was_read : (text : List ℕ) → told ≡ Some text → WasRead how text read
  pub each : (d : DrumWords) → FitsPages m d → PlayedOver stands cut out out' (state_of m d) how read entries
  pub left : how ≡ Done → (d : DrumWords) → FitsPages m d → FitsPages m' d × (state_of m' d ≡ state_after (state_of m d) entries)
