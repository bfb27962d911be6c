-- One small script: a job prints a letter and halts. Its events, its entries, and its two texts.
use Rattle.std.specs.Prelude.{ℕ, List, [], ◌∷◌, codes}
use Rattle.machine_names.specs.declared.names.Tty.{Tty}
use Rattle.machine_names.specs.declared.names.ForkName.{ForkName}
use Rattle.script_texts.specs.declared.event.Event.{Event}
use Rattle.script_texts.specs.declared.event.Event.TheVariants.{Login, Poke, Start, Run}
use Rattle.script_texts.specs.declared.event.Item.{Item}
use Rattle.script_texts.specs.declared.event.Item.TheVariants.{Char}
use Rattle.script_texts.specs.declared.event.Step.{Step}
use Rattle.script_texts.specs.declared.event.Step.TheVariants.{Outer, Unit as AUnit, Idle}

abbrev pub first_terminal : Tty
first_terminal = record { 0 = 0 }

abbrev pub first_fork : ForkName
first_fork = record { tty = first_terminal; serial = 1 }

-- MOVEI 1,101, PBOUT and HALTF, from address 100 on
abbrev pub movei_word : ℕ
movei_word = 0o201040000101

abbrev pub pbout_word : ℕ
pbout_word = 0o104000000074

abbrev pub haltf_word : ℕ
haltf_word = 0o104000000170

-- the events of its lines
abbrev pub example_events : List Event
example_events =
    Login first_terminal (codes "SMITH")
    ∷ Poke first_terminal 0o100 movei_word
    ∷ Poke first_terminal 0o101 pbout_word
    ∷ Poke first_terminal 0o102 haltf_word
    ∷ Start first_terminal 0o100
    ∷ Run 5
    ∷ []

-- its entries: three units, and two idle ones
abbrev pub example_steps : List Step
example_steps =
    Outer (Login first_terminal (codes "SMITH"))
    ∷ Outer (Poke first_terminal 0o100 movei_word)
    ∷ Outer (Poke first_terminal 0o101 pbout_word)
    ∷ Outer (Poke first_terminal 0o102 haltf_word)
    ∷ Outer (Start first_terminal 0o100)
    ∷ AUnit first_fork
    ∷ AUnit first_fork
    ∷ AUnit first_fork
    ∷ Idle
    ∷ Idle
    ∷ []

-- what it shows
abbrev pub example_items : List Item
example_items =
    Char first_terminal 64
    ∷ Char first_terminal 65
    ∷ Char first_terminal 13
    ∷ Char first_terminal 10
    ∷ Char first_terminal 64
    ∷ []

abbrev pub example_transcript : List ℕ
example_transcript = codes "T0 @A\\015\\012\nT0 @\n"

abbrev pub example_record : List ℕ
example_record =
    codes "LOGIN 0 SMITH\nPOKE 0 100 201040000101\nPOKE 0 101 104000000074\nPOKE 0 102 104000000170\nSTART 0 100\nU 0 1 3\nI 2\nE 0 0\n"

-- its bytes
abbrev pub example_script : List ℕ
example_script =
    codes "LOGIN 0 SMITH\nPOKE 0 100 201040000101\nPOKE 0 101 104000000074\nPOKE 0 102 104000000170\nSTART 0 100\nRUN 5\n"
