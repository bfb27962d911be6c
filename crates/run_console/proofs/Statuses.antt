-- What a status tells, and where it comes from.
use Rattle.std.proofs.Common.{◌≡◌, ◌⊎◌, inl, inr, ℕ, List, Option, Some, refl, sym, subst, arith, String}
use Rattle.std.specs.Prelude.{IsSome}
use Rattle.outside.specs.Faults.{Rose}
use Rattle.page_contracts.specs.DrumWords.{DrumWords}
use Rattle.script_texts.specs.declared.event.Event.{Event}
use Rattle.script_texts.specs.Script.{IsScript, IsTooLong, StopsAt}
use Rattle.script_lang.proofs.OnePlace.{script_not_bad, script_not_long, bad_not_too_long}
use Rattle.command_words.specs.declared.request.EventSource.{EventSource}
use Rattle.command_words.specs.declared.request.EventSource.TheVariants.{Script as ReadScript, Generated}
use Rattle.command_words.specs.declared.request.Request.{Request}
use Rattle.texts.specs.declared.last.Status.{Status}
use Rattle.texts.specs.declared.last.Status.TheVariants.{Done, Usage, Script, DrumFault, Memory, ReadFault, WriteFault, LongScript, Illegal, Assembly, Image}
use Rattle.script_driver.specs.Observed.{Faults, IsCaused, Observed}
use Rattle.script_driver.specs.Statuses.{IsOfRun, Judges, Ran, RanWith}
use Rattle.run_console.specs.declared.asked.Unbegun.{Unbegun}
use Rattle.run_console.specs.declared.asked.Unbegun.TheVariants.{Usage as WrongWords, Memory as NoMemory}
use Rattle.run_console.specs.Command.{Generates, IsReady, IsRight, IsUsage, ReadsScript}
use Rattle.run_console.specs.Headline.{IsTrueOf, Stops}
use Rattle.run_console.specs.Steady.{AreSteady, IsSteady}
use Rattle.run_console.specs.Statuses.{IsEarly, IsFaultless, IsUsageOrBefore, RanAsked, Tells}
use Rattle.run_console.proofs.Asking.{not_usage}

-- a bad script is never done, and never too long
pub never_passed : (status : Status) (bytes : List ℕ) (n : ℕ) (es : List Event) → Judges status bytes → StopsAt n bytes es → (status ≡ Done → ⊥) × (status ≡ LongScript → ⊥)
never_passed status bytes n es judged stops = (
  λ is. let j = subst (λ s. Judges s bytes) is judged in script_not_bad bytes n j.0 es j.1 stops,
  λ is. let j = subst (λ s. Judges s bytes) is judged in bad_not_too_long bytes n es j.0 stops j.1,
)

-- a script that is too long is never done, and never bad
pub never_short : (status : Status) (bytes : List ℕ) (es : List Event) → Judges status bytes → IsTooLong bytes es → (status ≡ Done → ⊥) × (status ≡ Script → ⊥)
never_short status bytes es judged long = (
  λ is. let j = subst (λ s. Judges s bytes) is judged in script_not_long bytes j.0 es j.1 long,
  λ is. let j = subst (λ s. Judges s bytes) is judged in bad_not_too_long bytes j.0 j.1 es j.2 long,
)

steady : (before after : ℕ) → IsSteady before after → Rose before after → ⊥
steady before after s r = absurd (omega (arith, s.0, s.1, r))

module _ {Z : Type 0} (words : List (String Z)) (pages : ℕ) where
  -- a status that tells of no fault, of right words and, where it is run, a right script
  pub complete_run : (left : Option (List ℕ)) (status : Status) → (status ≡ Usage → IsUsage words pages) → ((bytes : List ℕ) → ReadsScript words → left ≡ Some bytes → Judges status bytes)
      → ((seed : ℕ) → Generates words seed → (status ≡ Script → ⊥) × (status ≡ LongScript → ⊥)) → IsRight words pages left → IsFaultless status → (status ≡ Done) ⊎ (status ≡ Memory)
  complete_run left status usage judged never right = by status usage judged never
    where
      of_script : (P : Type 0) → ((bytes : List ℕ) (events : List Event) → ReadsScript words → left ≡ Some bytes → IsScript bytes events → P) → ((seed : ℕ) → Generates words seed → P) → P
      of_script P read generated = split right.request.events refl right.ready
        where
          split : (source : EventSource) → right.request.events ≡ source → IsReady source left → P
          split ReadScript is (bytes, events, told, script) = read bytes events (right.request, right.asked.asks, is) told script
          split (Generated seed) is ready = generated seed (right.request, right.asked.asks, is)

      by : (s : Status) → (s ≡ Usage → IsUsage words pages) → ((bytes : List ℕ) → ReadsScript words → left ≡ Some bytes → Judges s bytes)
          → ((seed : ℕ) → Generates words seed → (s ≡ Script → ⊥) × (s ≡ LongScript → ⊥)) → IsFaultless s → (s ≡ Done) ⊎ (s ≡ Memory)
      by Done u j n fine = inl refl
      by Usage u j n fine = absurd (not_usage words pages right.request right.asked (u refl))
      by Script u j n fine = absurd (of_script ⊥ (λ bytes events reads told script. let bad = j bytes reads told in script_not_bad bytes bad.0 events bad.1 script bad.2) (λ seed g. (n seed g).0 refl))
      by DrumFault u j n fine = absurd fine
      by Memory u j n fine = inr refl
      by ReadFault u j n fine = absurd fine
      by WriteFault u j n fine = absurd fine
      by Illegal u j n fine = absurd fine
      by Assembly u j n fine = absurd fine
      by Image u j n fine = absurd fine
      by LongScript u j n fine = absurd (of_script ⊥ (λ bytes events reads told script. let long = j bytes reads told in script_not_long bytes events long.0 script long.1) (λ seed g. (n seed g).1 refl))

  module _ (told : Observed) where
    -- a run that began
    pub tells_ran : (status : Status) → IsOfRun status → RanAsked words pages told status → Tells words pages told status
    tells_ran Done began ran = ran
    tells_ran Usage began ran = absurd began
    tells_ran Script began ran = ran
    tells_ran DrumFault began ran = ran
    tells_ran Memory began ran = absurd began
    tells_ran ReadFault began ran = ran
    tells_ran WriteFault began ran = inr ran
    tells_ran LongScript began ran = ran
    tells_ran Illegal began ran = began
    tells_ran Assembly began ran = began
    tells_ran Image began ran = began

    -- no status but those of a fault tells of one
    pub faultless_but : (status : Status) → Tells words pages told status → (status ≡ DrumFault → ⊥) → (status ≡ ReadFault → ⊥) → IsFaultless status ⊎ (status ≡ WriteFault)
    faultless_but Done tells drum read = inl tt
    faultless_but Usage tells drum read = inl tt
    faultless_but Script tells drum read = inl tt
    faultless_but DrumFault tells drum read = absurd (drum refl)
    faultless_but Memory tells drum read = inl tt
    faultless_but ReadFault tells drum read = absurd (read refl)
    faultless_but WriteFault tells drum read = inr refl
    faultless_but LongScript tells drum read = inl tt
    faultless_but Illegal tells drum read = absurd tells
    faultless_but Assembly tells drum read = absurd tells
    faultless_but Image tells drum read = absurd tells

    -- where no count rose, no fault is told
    pub faultless : (status : Status) (f : Faults) → Tells words pages told status → IsCaused status f → AreSteady f → IsFaultless status
    faultless status f tells caused all = elim (faultless_but status tells drum read) [ inl fine ↦ fine | inr fault ↦ absurd (written (caused.write fault)) ]
      where
        drum : status ≡ DrumFault → ⊥
        drum is = steady f.drum f.drum_after all.drum (caused.drum is)

        read : status ≡ ReadFault → ⊥
        read is = steady f.script f.script_after all.script (caused.read is)

        written : Rose f.out f.out_after ⊎ Rose f.rec f.rec_after → ⊥
        written (inl x) = steady f.out f.out_after all.out x
        written (inr y) = steady f.rec f.rec_after all.rec y

-- a run that began is not early
pub late : (status : Status) → IsOfRun status → IsEarly status → ⊥
late Usage began early = began
late Memory began early = began
late Done began early = early
late Script began early = early
late DrumFault began early = early
late ReadFault began early = early
late WriteFault began early = early
late LongScript began early = early
late Illegal began early = early
late Assembly began early = early
late Image began early = early

-- wrong words without a fault
pub early_usage : (status : Status) → IsUsageOrBefore status → IsFaultless status → (status ≡ Usage) ⊎ (status ≡ Memory)
early_usage Usage early fine = inl refl
early_usage Memory early fine = inr refl
early_usage WriteFault early fine = absurd fine
early_usage Done early fine = absurd early
early_usage Script early fine = absurd early
early_usage DrumFault early fine = absurd early
early_usage ReadFault early fine = absurd early
early_usage LongScript early fine = absurd early
early_usage Illegal early fine = absurd early
early_usage Assembly early fine = absurd early
early_usage Image early fine = absurd early

-- what a run came to is told of the run that was asked for
pub ran_asked : (told : Observed) (request : Request) (events : EventSource) (frames pages : ℕ) (status : Status) → events ≡ request.events → request.sizes.frames ≡ frames → request.sizes.drum ≡ pages
    → RanWith events frames pages told status → IsSome told.before.drum → Ran request told status
ran_asked told request events frames pages status is core room ran paged = subst (λ e. Ran (record { events = e; sizes = request.sizes }) told status) is (ran request.sizes core room paged)

module _ {out out' rec rec' : Option (List ℕ)} where
  -- which statuses there are where nothing was run
  pub stopped : (P : Status → Type 0) (why : Unbegun) (status : Status) → Stops why out out' rec rec' status → P Usage → P Memory → P WriteFault → P status
  stopped P WrongWords status (inl is) usage memory fault = subst P (sym is.0) usage
  stopped P NoMemory status (inl is) usage memory fault = subst P (sym is.0) memory
  stopped P why status (inr is) usage memory fault = subst P (sym is.0) fault

  module _ {Z : Type 0} (words : List (String Z)) (pages : ℕ) where
    pub usage_true : (why : Unbegun) (status : Status) → Stops why out out' rec rec' status → IsTrueOf words pages why → status ≡ Usage → IsUsage words pages
    usage_true WrongWords status stops right is = right
    usage_true NoMemory status (inl this) right is = absurd (cc (this.0, is))
    usage_true NoMemory status (inr this) right is = absurd (cc (this.0, is))

    pub tells_stopped : (script : Option (List ℕ)) (drum : Option DrumWords) (reads writes : ℕ) (why : Unbegun) (status : Status) → Stops why out out' rec rec' status → IsTrueOf words pages why
        → Tells words pages (record { before = record { script = script; out = out; rec = rec; drum = drum }; after = record { script = script; out = out'; rec = rec'; drum = drum }; reads = reads; writes = writes }) status
    tells_stopped script drum reads writes why status (inr this) right =
        subst (Tells words pages _) (sym this.0) (inl (record { why = why; is_true = right; unread = λ xs h. h; transcript_front = this.1; record_stays = this.2; drum_stays = refl }))
    tells_stopped script drum reads writes WrongWords status (inl this) right =
        subst (Tells words pages _) (sym this.0) (record { unread = λ xs h. h; transcript_is = this.1; record_stays = this.2; drum_stays = refl })
    tells_stopped script drum reads writes NoMemory status (inl this) right =
        subst (Tells words pages _) (sym this.0) (record { unread = λ xs h. h; transcript_is = this.1; record_stays = this.2; drum_stays = refl })
