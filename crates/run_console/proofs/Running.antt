-- What is said of the console of a run, where one began and where none did.
use Rattle.std.proofs.Common.{◌≡◌, ◌⊎◌, ◌∙◌, ℕ, ◌≤◌, List, Option, Some, String, refl, subst, sym, arith}
use Rattle.std.specs.Prelude.{IsSome}
use Rattle.outside.specs.Faults.{Rose}
use Rattle.page_contracts.specs.DrumWords.{DrumWords}
use Rattle.command_words.specs.declared.request.EventSource.{EventSource}
use Rattle.command_words.specs.declared.request.EventSource.TheVariants.{Script as ReadScript, Generated}
use Rattle.command_words.specs.declared.request.Request.{Request}
use Rattle.texts.specs.declared.last.Status.{Status}
use Rattle.texts.specs.declared.last.Status.TheVariants.{Done, Script, DrumFault, ReadFault, WriteFault, LongScript}
use Rattle.script_driver.specs.Observed.{Faults, IsCaused, Observed}
use Rattle.script_driver.specs.Statuses.{IsOfRun, Judges, Ran}
use Rattle.run_console.specs.declared.asked.Unbegun.{Unbegun}
use Rattle.run_console.specs.Command.{IsAsked, IsUsage, ReadsScript}
use Rattle.run_console.specs.Headline.{HasFrames, HasHeadline, IsTrueOf, Stops}
use Rattle.run_console.specs.Runs.{AreLeft, IsJudged, Runs}
use Rattle.run_console.specs.Statuses.{IsEarly, IsUsageOrBefore, Tells}
use Rattle.run_console.proofs.Asking.{asks_generated, asks_script, not_usage}
use Rattle.run_console.proofs.Isolation.{isolated}
use Rattle.run_console.proofs.Statuses.{complete_run, faultless, late, never_passed, never_short, stopped, tells_ran, tells_stopped, usage_true}

is_judged : (bytes : List ℕ) (status : Status) → Judges status bytes → IsJudged bytes status
is_judged bytes status judges = record {
  judged = judges;
  bad = λ n events stops. never_passed status bytes n events judges stops;
  long = λ events long. never_short status bytes events judges long;
}

-- a run of these events that was asked for and began
module _ {Z S D : Type 0} (words : List (String Z)) (pages : ℕ) (told : Observed) (counts : Faults) (script script' : S) (drum drum' : D) (status : Status) where
  pub began : (request : Request) (events : EventSource) → IsAsked words pages request → events ≡ request.events → IsOfRun status → (IsSome told.before.drum → Ran request told status)
      → ((bytes : List ℕ) → events ≡ ReadScript → told.before.script ≡ Some bytes → Judges status bytes)
      → ((seed : ℕ) → events ≡ Generated seed → (status ≡ Script → ⊥) × (status ≡ LongScript → ⊥))
      → ((seed : ℕ) → events ≡ Generated seed → script' ≡ script)
      → IsCaused status counts → Runs words pages told counts script script' drum drum' status
  began request events asked is of_run ran judges generated unread caused =
      let framed : status ≡ Done → HasFrames words told = λ done. (request, asked.asks, λ paged. subst (Ran request told) done (ran paged)) in
      let headline : status ≡ Done → HasHeadline words told = λ done. let over = framed done in (over.0, over.1, λ paged. (over.2 paged).0) in
      let tells : Tells words pages told status = tells_ran words pages told status of_run (request, asked, ran) in
      let not_early : IsEarly status → ⊥ = late status of_run in
      let judged : (bytes : List ℕ) → ReadsScript words → told.before.script ≡ Some bytes → Judges status bytes = λ bytes reads. judges bytes (is ∙ asks_script words request asked.asks reads) in
      record {
        headline = headline;
        framed = framed;
        alone = λ done. isolated words told (headline done);
        tells = tells;
        judged = λ bytes reads left. is_judged bytes status (judged bytes reads left);
        usage = λ usage. absurd (not_early (subst IsEarly (sym usage) tt));
        always_usage = λ usage. absurd (not_usage words pages request asked usage);
        left = record {
          unread = λ early. absurd (not_early early);
          untouched = λ early. absurd (not_early early);
          unasked = λ usage. absurd (not_usage words pages request asked usage);
          not_asked = λ seed generates. unread seed (is ∙ asks_generated words request seed asked.asks generates);
        };
        caused = caused;
        complete = λ steady. faultless words pages told status counts tells caused steady;
        complete_run = complete_run words pages told.before.script status (λ usage. absurd (not_early (subst IsEarly (sym usage) tt))) judged
            (λ seed generates. generated seed (is ∙ asks_generated words request seed asked.asks generates));
      }

-- what is told where nothing was read and the drum stayed
abbrev pub left_alone : (script : Option (List ℕ)) (out out' rec rec' : Option (List ℕ)) (drum : Option DrumWords) (reads writes : ℕ) → Observed
left_alone script out out' rec rec' drum reads writes =
    record { before = record { script = script; out = out; rec = rec; drum = drum }; after = record { script = script; out = out'; rec = rec'; drum = drum }; reads = reads; writes = writes }

-- no run began
module _ {Z S D : Type 0} (words : List (String Z)) (pages : ℕ) (left out out' rec rec' : Option (List ℕ)) (held : Option DrumWords) (reads writes : ℕ) (counts : Faults) (script : S) (drum : D)
    (why : Unbegun) (status : Status) (stops : Stops why out out' rec rec' status) (is_true : IsTrueOf words pages why) where
  abbrev pub told : Observed
  told = left_alone left out out' rec rec' held reads writes

  never : (other : Status) → (Stops why out out' rec rec' other → ⊥) → status ≡ other → ⊥
  never other refuted is = refuted (subst (Stops why out out' rec rec') is stops)

  no_done : Stops why out out' rec rec' Done → ⊥
  no_done s = stopped (λ x. x ≡ Done → ⊥) why Done s (λ e. absurd (cc e)) (λ e. absurd (cc e)) (λ e. absurd (cc e)) refl

  judges : (bytes : List ℕ) → Judges status bytes
  judges bytes = stopped (λ s. Judges s bytes) why status stops tt tt tt

  caused : counts.script_after ≡ counts.script → counts.drum_after ≡ counts.drum → counts.out ≤ counts.out_after → counts.rec ≤ counts.rec_after
      → (status ≡ WriteFault → Rose counts.out counts.out_after ⊎ Rose counts.rec counts.rec_after) → IsCaused status counts
  caused read drum_same out_later rec_later write = record {
    read = λ is. absurd (stopped (λ s. s ≡ ReadFault → ⊥) why status stops (λ e. absurd (cc e)) (λ e. absurd (cc e)) (λ e. absurd (cc e)) is);
    write = write;
    drum = λ is. absurd (stopped (λ s. s ≡ DrumFault → ⊥) why status stops (λ e. absurd (cc e)) (λ e. absurd (cc e)) (λ e. absurd (cc e)) is);
    later = record { script = omega (arith, read); out = out_later; rec = rec_later; drum = omega (arith, drum_same) };
    unfaulted = λ no_read no_write. read;
  }

  pub unbegun : counts.script_after ≡ counts.script → counts.drum_after ≡ counts.drum → counts.out ≤ counts.out_after → counts.rec ≤ counts.rec_after
      → (status ≡ WriteFault → Rose counts.out counts.out_after ⊎ Rose counts.rec counts.rec_after) → Runs words pages told counts script script drum drum status
  unbegun read drum_same out_later rec_later write =
      let causes = caused read drum_same out_later rec_later write in
      let tells : Tells words pages told status = tells_stopped words pages left held reads writes why status stops is_true in
      let done : status ≡ Done → ⊥ = never Done no_done in
      record {
        headline = λ is. absurd (done is);
        framed = λ is. absurd (done is);
        alone = λ is. absurd (done is);
        tells = tells;
        judged = λ bytes reads told. is_judged bytes status (judges bytes);
        usage = usage_true words pages why status stops is_true;
        always_usage = λ usage. stopped IsUsageOrBefore why status stops tt tt tt;
        left = record { unread = λ early. refl; untouched = λ early. refl; unasked = λ usage. (refl, refl); not_asked = λ seed generates. refl };
        caused = causes;
        complete = λ steady. faultless words pages told status counts tells causes steady;
        complete_run = complete_run words pages left status (usage_true words pages why status stops is_true) (λ bytes reads told. judges bytes)
            (λ seed generates. stopped (λ s. (s ≡ Script → ⊥) × (s ≡ LongScript → ⊥)) why status stops (λ e. absurd (cc e), λ e. absurd (cc e)) (λ e. absurd (cc e), λ e. absurd (cc e)) (λ e. absurd (cc e), λ e. absurd (cc e)));
      }
