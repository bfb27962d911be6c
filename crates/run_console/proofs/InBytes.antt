-- The headline in bytes, where all is told.
use Rattle.std.proofs.Common.{◌≡◌, ℕ, ◌-◌, List, ◌++◌, Option, Some, refl, sym, subst}
use Rattle.std.specs.Prelude.{String}
use Rattle.outside.specs.declared.memory_drum.SureDrum.{SureDrum}
use Rattle.outside.specs.declared.memory_sink.MemSink.{MemSink}
use Rattle.outside.specs.Told.{Grows}
use Rattle.script_texts.specs.declared.event.Event.{Event}
use Rattle.script_texts.specs.declared.event.Item.{Item}
use Rattle.script_texts.specs.declared.event.Step.{Step}
use Rattle.page_waits.specs.Placed.{AreOnDrum}
use Rattle.plain_model.specs.Run.{items_of, state_after}
use Rattle.plain_model.specs.State.{opening}
use Rattle.command_words.specs.declared.request.EventSource.{EventSource}
use Rattle.command_words.specs.declared.request.EventSource.TheVariants.{Script, Generated}
use Rattle.command_words.specs.declared.request.Request.{Request}
use Rattle.command_words.specs.Words.{Ask}
use Rattle.script_driver.specs.RunTexts.{IsRunOf}
use Rattle.script_driver.specs.Observed.{Observed}
use Rattle.script_driver.specs.OverFrames.{IsOverFrames, RunsOverFrames}
use Rattle.run_console.specs.Memory.{AreSpelled, HeadlineInBytes, whole_transcript}
use Rattle.run_console.specs.Headline.{HasFrames}
use Rattle.run_console.proofs.Spelled.{record_fits}

-- bytes that are told have these behind them
told_grows : (xs ys bytes : List ℕ) → Grows (Some xs) (Some ys) bytes → ys ≡ xs ++ bytes
told_grows xs ys bytes grows = let both : Some ys ≡ Some (xs ++ bytes) = grows xs refl in cc both

module _ {Z : Type 0} (words : List (String Z)) (script : List ℕ) (left left' : Option (List ℕ)) (is_script : left ≡ Some script) (out out' rec rec' : MemSink) (drum drum' : SureDrum) where
  -- what was told
  abbrev pub told : Observed
  told = record {
    before = record { script = left; out = Some out.bytes.items; rec = Some rec.bytes.items; drum = Some drum.held.pages.items };
    after = record { script = left'; out = Some out'.bytes.items; rec = Some rec'.bytes.items; drum = Some drum'.held.pages.items };
    reads = drum'.held.reads - drum.held.reads;
    writes = drum'.held.writes - drum.held.writes;
  }

  module _ (request : Request) (asked : Ask words request) (source : EventSource) (is : request.events ≡ source) where
    -- what was run of these events, where the transcript is that of the source
    ran : (events : List Event) (text : List Item → List Step → List ℕ) → AreSpelled source script events → ((items : List Item) (entries : List Step) → text items entries ≡ whole_transcript source items entries)
        → (run : IsRunOf events text request.sizes told) → IsOverFrames request.sizes events run.entries run.follows told.after.drum → HeadlineInBytes words script out out' rec rec' drum drum'
    ran events text spelled same run over = record {
      request = request;
      asked = asked;
      events = events;
      entries = run.entries;
      spelled = subst (λ e. AreSpelled e script events) (sym is) spelled;
      follows = run.follows;
      legal = run.legal;
      calm = over.calm;
      turns = over.turns;
      transcript_is =
          let items = items_of (opening request.sizes.drum) run.entries in
          subst (λ e. out'.bytes.items ≡ out.bytes.items ++ whole_transcript e items run.entries) (sym is)
          (subst (λ bytes. out'.bytes.items ≡ out.bytes.items ++ bytes) (same items run.entries) (told_grows out.bytes.items out'.bytes.items (text items run.entries) run.transcript_is));
      record_is = told_grows rec.bytes.items rec'.bytes.items _ run.record_is;
      fits = record_fits events text request.sizes told run;
      placed = let words : over.placed.0 ≡ drum'.held.pages.items = cc over.placed.1 in subst (AreOnDrum request.sizes.frames (state_after (opening request.sizes.drum) run.entries)) words over.placed.2;
    }

  by_source : (request : Request) → Ask words request → (source : EventSource) → request.events ≡ source → RunsOverFrames source request.sizes told → HeadlineInBytes words script out out' rec rec' drum drum'
  by_source request asked Script is (headline, over) = ran request asked Script is headline.events _ (headline.all script is_script).0 (λ items entries. refl) headline.run over
  by_source request asked (Generated seed) is (headline, over) = ran request asked (Generated seed) is _ _ refl (λ items entries. refl) headline.run over

  pub in_bytes : HasFrames words told → HeadlineInBytes words script out out' rec rec' drum drum'
  in_bytes h = by_source h.0 h.1 h.0.events refl (h.2 refl)
