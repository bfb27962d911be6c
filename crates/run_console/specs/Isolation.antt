-- What a user at a terminal may rely on, where a run is done.
use Rattle.std.specs.Prelude.{List, String, IsSome}
use Rattle.plain_alone.specs.Alone.{AllSeeTheirOwn}
use Rattle.command_words.specs.declared.request.Request.{Request}
use Rattle.command_words.specs.Words.{Ask}
use Rattle.script_driver.specs.RunTexts.{Headline, entries_of}
use Rattle.script_driver.specs.Observed.{Observed}

-- The words ask for a run, of which the headline holds, where the drum tells its pages; and over the entries of its record, of which the
-- transcript has the items, each terminal that is apart sees its own work alone.
abbrev pub HasIsolation : {Z : Type 0} → List (String Z) → Observed → Type 0
HasIsolation words told = (request : Request) × Ask words request
    × (IsSome told.before.drum → (run : Headline request.events request.sizes told) × AllSeeTheirOwn request.sizes.drum (entries_of request.events request.sizes told run))
