-- What is left of a generated script.
use Rattle.std.specs.Prelude.{◌≡◌, ℕ, ◌+◌, ◌-◌, ◌*◌, ◌<◌, List, [], ◌∷◌, ◌++◌, drop}
use Rattle.script_texts.specs.declared.event.Event.{Event}
use Rattle.script_texts.specs.declared.event.Event.TheVariants.{File, Poke, Start as Starts, Run as Runs, Tick as Ticks}
use Rattle.script_texts.specs.Limits.{FitsEvent}
use Rattle.script_lang.specs.declared.stages.Loading.{Loading}
use Rattle.script_lang.specs.declared.stages.Loading.TheVariants.{Code, Address, Turns, Stride, Start}
use Rattle.script_lang.specs.declared.stages.ScriptStage.{ScriptStage}
use Rattle.script_lang.specs.declared.stages.ScriptStage.TheVariants.{Login, MakeFile, Fill, Load, Evict, Run, Tick, Show, Over}
use Rattle.script_lang.specs.Generator.{evictions, fills, generated_file, logins, next_number, number_after, pokes, program_words, programs, shown, stride_drawn, terminal, turns_drawn}

-- the last lines
abbrev pub closing : List Event
closing = Ticks ∷ shown 0 8

-- the lines from so many evictions before the last one on
abbrev pub evicting : ℕ → ℕ → List Event
evicting n x = evictions n x ++ closing

-- the lines from the programs of the last so many terminals on
abbrev pub loading : ℕ → ℕ → ℕ → List Event
loading t n x = programs t n x ++ evicting 40 (number_after (2 * n) x)

-- the lines from the file on
abbrev pub filing : ℕ → List Event
filing x = File generated_file ∷ (fills 0 64 ++ loading 0 8 x)

-- a terminal's program behind its code, and the lines from the programs of so many more terminals on
abbrev pub behind_code : ℕ → ℕ → ℕ → List Event
behind_code t n x =
    Poke (terminal t) 2 0o20
    ∷ Poke (terminal t) 3 (turns_drawn x)
    ∷ Poke (terminal t) 4 (stride_drawn (next_number x))
    ∷ Starts (terminal t) 0o100
    ∷ loading (t + 1) n (number_after 2 x)

-- what is left of a terminal's program, and the lines behind it
abbrev pub rest_of_program : ℕ → Loading → ℕ → List Event
rest_of_program t Start x = Starts (terminal t) 0o100 ∷ loading (t + 1) (7 - t) x
rest_of_program t Stride x = Poke (terminal t) 4 (stride_drawn x) ∷ Starts (terminal t) 0o100 ∷ loading (t + 1) (7 - t) (next_number x)
rest_of_program t Turns x =
    Poke (terminal t) 3 (turns_drawn x) ∷ Poke (terminal t) 4 (stride_drawn (next_number x)) ∷ Starts (terminal t) 0o100 ∷ loading (t + 1) (7 - t) (number_after 2 x)
rest_of_program t Address x = behind_code t (7 - t) x
rest_of_program t (Code k) x = pokes t (0o100 + k) (drop k program_words) ++ behind_code t (7 - t) x

-- what is left at a stage where this is the last number
unfoldable pub rest_of : ScriptStage → ℕ → List Event
rest_of (Login t) x = logins t (8 - t) ++ filing x
rest_of MakeFile x = filing x
rest_of (Fill p) x = fills p (64 - p) ++ loading 0 8 x
rest_of (Load t part) x = rest_of_program t part x
rest_of (Evict n) x = evicting (40 - n) x
rest_of (Run n) x = Runs 500 ∷ evicting (39 - n) x
rest_of Tick x = closing
rest_of (Show t) x = shown t (8 - t)
rest_of Over x = []

-- the places within a part
abbrev pub IsLoading : Loading → Type 0
IsLoading (Code k) = k < 6
IsLoading part = Unit {0}

-- the stages that there are
abbrev pub IsStage : ScriptStage → Type 0
IsStage (Login t) = t < 8
IsStage (Fill p) = p < 64
IsStage (Load t part) = (t < 8) × IsLoading part
IsStage (Evict n) = n < 40
IsStage (Run n) = n < 40
IsStage (Show t) = t < 8
IsStage stage = Unit {0}

-- at a stage an event comes, and what is left behind it is what is left at another stage
pub record Moves (stage : ScriptStage) (x : ℕ) (event : Event) (next : ScriptStage) (y : ℕ) : Type 0 where
  pub comes : rest_of stage x ≡ event ∷ rest_of next y
  pub there : IsStage next
  pub fits : FitsEvent event
