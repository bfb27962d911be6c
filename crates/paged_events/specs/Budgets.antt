-- How many transfers end at most with an event.
use Rattle.std.specs.Prelude.{ℕ, ◌*◌}
use Rattle.event_deeds.specs.Deeds.{IsTold}
use Rattle.event_deeds.specs.declared.deed.Deed.TheVariants.{Outer}
use Rattle.page_waits.specs.Transfers.{most_transfers}
use Rattle.script_texts.specs.declared.event.Event.{Event}

-- with so many turns of a run: for each so many, until a unit is done or it is idle, and where a quantum ends with it
abbrev pub most_in_turns : ℕ → ℕ
most_in_turns n = n * most_transfers

-- a POKE or an EXAMINE: the tables alone don't tell to which pages it refers
abbrev pub IsLook : Event → Type 0
IsLook e = IsTold (Outer e) → ⊥
