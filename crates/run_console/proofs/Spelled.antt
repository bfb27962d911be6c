-- Events that lines spell are within their limits, and so are the entries of a run of them: a record of these is that of no others.
use Rattle.std.proofs.Common.{ℕ, List, [], ◌∷◌, All, false}
use Rattle.std.proofs.lemmas.List.Elements.{All-cons, All-head, All-nil, All-tail}
use Rattle.script_texts.specs.declared.event.Event.{Event}
use Rattle.script_texts.specs.declared.event.Item.{Item}
use Rattle.script_texts.specs.declared.event.Step.{Step}
use Rattle.script_texts.specs.Entries.{FitsRecord}
use Rattle.script_texts.specs.Limits.{FitsEvent}
use Rattle.script_lang.proofs.Spellings.{spelled_fits}
use Rattle.plain_laws.proofs.Named.{opened_fit}
use Rattle.command_words.specs.declared.sizes.Sizes.{Sizes}
use Rattle.script_driver.specs.RunTexts.{IsRunOf}
use Rattle.script_driver.specs.Observed.{Observed}
use Rattle.script_driver.proofs.Spelled.{IsSpelled}

all_fit : (es : List Event) → All IsSpelled es → All FitsEvent es
all_fit [] spelled = All-nil FitsEvent
all_fit (e ∷ es) spelled =
    let one = All-head IsSpelled e es spelled in All-cons FitsEvent e es (spelled_fits one.0 e one.1) (all_fit es (All-tail IsSpelled e es spelled))

-- what the record of a run can tell
pub record_fits : (events : List Event) (text : List Item → List Step → List ℕ) (sizes : Sizes) (told : Observed) (run : IsRunOf events text sizes told)
    → FitsRecord run.entries told.reads told.writes
record_fits events text sizes told run = record {
  fit = opened_fit false sizes.drum events run.entries (all_fit events run.spelled) run.follows run.legal;
  few = run.few.0;
  few_reads = run.few.1;
  few_writes = run.few.2;
}
