-- What holds of a run over frames and a drum, beside the headline: who runs, and where the pages are at its end.
use Rattle.std.specs.Prelude.{◌≡◌, ℕ, List, Option, Some}
use Rattle.script_texts.specs.declared.event.Event.{Event}
use Rattle.script_texts.specs.declared.event.Step.{Step}
use Rattle.script_texts.specs.Follows.{Follows}
use Rattle.page_contracts.specs.DrumWords.{DrumWords}
use Rattle.page_waits.specs.Calm.{AreCalmlyFair}
use Rattle.page_waits.specs.Placed.{AreOnDrum}
use Rattle.plain_model.specs.Run.{state_after}
use Rattle.plain_model.specs.State.{PlainState, opening}
use Rattle.command_words.specs.declared.request.EventSource.{EventSource}
use Rattle.command_words.specs.declared.sizes.Sizes.{Sizes}
use Rattle.script_driver.specs.RunTexts.{Headline, entries_of, events_of, follows_of}
use Rattle.script_driver.specs.Observed.{Observed}
use Rattle.script_driver.specs.Runs.{AreTaken}

-- a drum tells its pages, and all pages of a plain state but so many stand there
abbrev pub ArePlaced : ℕ → PlainState → Option DrumWords → Type 0
ArePlaced frames s held = (d : DrumWords) × (held ≡ Some d) × AreOnDrum frames s d

-- OVER SO MANY FRAMES the entries of a run take their turns, from the lists of a machine that has done nothing; while they are calm, and no EVICT stood
-- before them, an idle one stands only where no fork can run, under AUTO OFF too, and a fork that can run is not passed over for long within a RUN; and of the
-- plain state that they leave all pages but as many as there are frames stand on the drum.
pub record IsOverFrames (sizes : Sizes) (events : List Event) (entries : List Step) (follows : Follows events entries) (held : Option DrumWords) : Type 0 where
  pub turns : AreTaken sizes.frames (opening sizes.drum) entries
  pub calm : AreCalmlyFair sizes.frames (opening sizes.drum) events entries follows
  pub placed : ArePlaced sizes.frames (state_after (opening sizes.drum) entries) held

-- the headline holds, and so it is of its events and the entries of its record
abbrev pub RunsOverFrames : EventSource → Sizes → Observed → Type 0
RunsOverFrames events sizes told =
    (run : Headline events sizes told) × IsOverFrames sizes (events_of events sizes told run) (entries_of events sizes told run) (follows_of events sizes told run) told.after.drum
