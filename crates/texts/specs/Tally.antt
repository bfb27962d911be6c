-- What a run did, counted: its entries, and the characters that it shows.
use Rattle.std.specs.Prelude.{ℕ, ◌+◌, List, ◌++◌, Bool, true, false, min, length, filter, codes, decimal}
use Rattle.script_texts.specs.declared.event.Item.{Item}
use Rattle.script_texts.specs.declared.event.Item.TheVariants.{Char}
use Rattle.script_texts.specs.declared.event.Step.{Step}
use Rattle.script_texts.specs.declared.event.Step.TheVariants.{Outer, Unit as AUnit, Idle}
use Rattle.script_texts.specs.Texts.{ended, field}
use Rattle.texts.specs.declared.tally.Tally.{Tally}

-- each count stays at 2^64 - 1
abbrev pub most_counted : ℕ
most_counted = 18446744073709551615

-- a count, and so many more
abbrev pub counted : ℕ → ℕ → ℕ
counted n more = min (n + more) most_counted

-- nothing is counted yet
abbrev pub no_tally : Tally
no_tally = record { events = 0; units = 0; idles = 0; characters = 0 }

-- so many equal entries more
abbrev pub with_steps : Tally → Step → ℕ → Tally
with_steps t (Outer e) n = record t { events = counted t.events n }
with_steps t (AUnit f) n = record t { units = counted t.units n }
with_steps t Idle n = record t { idles = counted t.idles n }

-- an item more
abbrev pub with_item : Tally → Item → Tally
with_item t (Char tty c) = record t { characters = counted t.characters 1 }
with_item t i = t

abbrev pub is_event : Step → Bool
is_event (Outer e) = true
is_event s = false

abbrev pub is_unit : Step → Bool
is_unit (AUnit f) = true
is_unit s = false

abbrev pub is_idle : Step → Bool
is_idle Idle = true
is_idle s = false

abbrev pub is_character : Item → Bool
is_character (Char tty c) = true
is_character i = false

-- how many events, units and idle entries these entries are, and how many characters these items have
abbrev pub tally : List Item → List Step → Tally
tally items steps = record {
  events = min (length (filter is_event steps)) most_counted;
  units = min (length (filter is_unit steps)) most_counted;
  idles = min (length (filter is_idle steps)) most_counted;
  characters = min (length (filter is_character items)) most_counted;
}

-- the line that tells the counts
abbrev pub tally_line : Tally → List ℕ
tally_line t = ended (codes "S " ++ (decimal t.events ++ (field (decimal t.units) ++ (field (decimal t.idles) ++ field (decimal t.characters)))))
