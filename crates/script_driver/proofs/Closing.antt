-- What the sinks took of a run.
use Rattle.std.proofs.Common.{◌≡◌, inl, is_some, ℕ, ◌-◌, ◌<◌, ◌≤◌, ◌^◌, List, [], ◌++◌, replicate, All, true, false, Option, None, Some, refl, sym, ◌∙◌, ap, subst, arith}
use Rattle.std.proofs.lemmas.List.{append-nil, length-replicate}
use Rattle.outside.specs.Drums.{AreDrumPages}
use Rattle.outside.specs.Told.{Grows}
use Rattle.script_texts.specs.declared.event.Event.{Event}
use Rattle.script_texts.specs.declared.event.Item.{Item}
use Rattle.script_texts.specs.declared.event.Step.{Step}
use Rattle.page_contracts.specs.DrumWords.{DrumWords}
use Rattle.page_contracts.specs.Stores.{FitsHomes, free}
use Rattle.page_waits.specs.Systems.{SystemMeaning}
use Rattle.paged_events.specs.declared.machine.Machine.{Machine}
use Rattle.plain_model.specs.Run.{state_after}
use Rattle.plain_model.specs.State.{opening}
use Rattle.script_lang.specs.Generator.{big_events}
use Rattle.script_texts.specs.Taker.{GoesOn}
use Rattle.script_texts.specs.Script.{IsScript}
use Rattle.script_texts.specs.Texts.{transcript, entries_text, record_text}
use Rattle.command_words.specs.declared.request.EventSource.{EventSource}
use Rattle.command_words.specs.declared.request.EventSource.TheVariants.{Script as ReadScript, Generated}
use Rattle.command_words.specs.declared.request.Request.{Request}
use Rattle.texts.specs.Tally.{no_tally, tally}
use Rattle.texts.specs.declared.writer.Writer.{Writer}
use Rattle.texts.specs.declared.last.Last.{Last}
use Rattle.texts.specs.declared.last.Last.TheVariants.{Summary, Stopped}
use Rattle.texts.specs.declared.last.Status.{Status}
use Rattle.texts.specs.declared.last.Status.TheVariants.{Script, DrumFault, ReadFault, LongScript}
use Rattle.texts.specs.Ends.{closing_line, end_line, record_end}
use Rattle.texts.specs.Wrote.{WrotePartly}
use Rattle.texts.specs.Writer.{Stands, IsCutWithin, IsFinished, Finishes, FailsAtEnd, Keeps}
use Rattle.texts.proofs.Starts.{stands_start}
use Rattle.script_driver.specs.declared.driver.Driven.{Driven}
use Rattle.script_driver.specs.declared.driver.Driven.TheVariants.{Done as WholeScript, Bad, Long, ReadFault as Unread, DrumFault as Unpaged, TakerFault}
use Rattle.script_driver.specs.Machines.{frames, limit}
use Rattle.script_driver.specs.Runs.{AreEntries, RunsTo}
use Rattle.script_driver.specs.Driving.{Handed, IsBooted, OpensOver, RanTo}
use Rattle.script_driver.specs.OverFrames.{ArePlaced, IsOverFrames, RunsOverFrames}
use Rattle.script_driver.specs.RunTexts.{DrivenTo, Fronts, IsRunOf, Part, closing, generated_transcript, last_after, last_done}
use Rattle.script_driver.specs.Verdicts.{AreRun}
use Rattle.script_driver.specs.Observed.{Observed, seen}
use Rattle.script_driver.specs.Statuses.{Ran, status_after}
use Rattle.script_driver.proofs.Spelled.{IsSpelled, all_spelled}

-- what grew by bytes and no more grew by these bytes
grows_alone : (old new : Option (List ℕ)) (bytes : List ℕ) → Grows old new (bytes ++ []) → Grows old new bytes
grows_alone old new bytes grows = subst (Grows old new) (append-nil bytes) grows

-- what is so of what a writer refers to is so of its sinks
pub moved : {T R : Type 0} (P : (o o' : T) → (r r' : R) → Type 0) {o o' p p' : T} {r r' q q' : R} → o ≡ p → o' ≡ p' → r ≡ q → r' ≡ q' → P o o' r r' → P p p' q q'
moved P {o} {o'} {p} {p'} {r} {r'} {q} {q'} a b c d is = subst (λ x. P p p' q x) d (subst (λ x. P p p' x r') c (subst (λ x. P p x r r') b (subst (λ x. P x o' r r') a is)))

module _ {T R : Type 0} (out_taken : T → Option (List ℕ)) (rec_taken : R → Option (List ℕ)) (w u : Writer T R) (line : w.line ≡ None) (run : w.run ≡ None) where
  -- a new writer stands for nothing
  abbrev start : Stands out_taken rec_taken w w [] []
  start = stands_start out_taken rec_taken w line run

-- what is told, where something is
told_words : {A : Type 0} (held : Option A) → is_some held ≡ true → (d : A) × (held ≡ Some d)
told_words None some = absurd (cc some)
told_words (Some d) some = (d, refl)

-- what a drum of enough pages tells fits homes that are free
drum_fits : (room size : ℕ) (d : DrumWords) → AreDrumPages size d → room ≤ size → FitsHomes (replicate room free) d
drum_fits room size d are enough = record {
  enough = omega (arith, length-replicate room free, are.number, enough);
  pages = λ home l. are.pages home (omega (arith, l, are.number));
}

-- a booted machine opens over what its drum tells
pub opens_booted : {S : Type 0} {b : _} {D : Type 0} (held : D → Option DrumWords) (m : Machine S b) (drum : D) (size : ℕ) → IsBooted (frames m) (limit m) m → limit m ≤ size
    → ((d : DrumWords) → held drum ≡ Some d → AreDrumPages size d) → is_some (held drum) ≡ true → (d : DrumWords) × OpensOver b.means held m.waits.system drum d
opens_booted held m drum size booted enough pages some =
    let d = told_words (held drum) some in
    (d.0, record { stood = inl d.1; opened = booted.opened d.0 (drum_fits (limit m) size d.0 (pages d.0 d.1) enough) })

-- the last lines are those of the counts that the drum told
pub last_told : (driven : Driven) (events : EventSource) {a b c d a' b' c' d' : ℕ} {last this : Option Last} → a ≡ a' → b ≡ b' → c ≡ c' → d ≡ d' → last ≡ last_after driven events (a - b) (c - d) → last ≡ this → last_after driven events (a' - b') (c' - d') ≡ this
last_told driven events p q r s is that = sym (λ i. last_after driven events (p i - q i) (r i - s i)) ∙ (sym is ∙ that)

-- a count that the drum told has risen by no more
pub few_told : {a b a' b' most : ℕ} → a ≡ a' → b ≡ b' → a - b < most → a' - b' < most
few_told p q few = omega (arith, p, q, few)

-- where there are last lines, the taker was given all
handed_whole : {K : Type 0} (stands cut : K → K → List Item → List Step → Type 0) (out out' : K) (items : List Item) (entries : List Step) (driven : Driven) (events : EventSource) (reads writes : ℕ) (last : Last) → last_after driven events reads writes ≡ Some last
    → Handed stands cut out out' driven items entries → GoesOn stands out out' items entries
handed_whole stands cut out out' items entries WholeScript events reads writes last is handed = handed
handed_whole stands cut out out' items entries (Bad n) events reads writes last is handed = handed
handed_whole stands cut out out' items entries Long events reads writes last is handed = handed
handed_whole stands cut out out' items entries Unread events reads writes last is handed = handed
handed_whole stands cut out out' items entries Unpaged events reads writes last is handed = handed
handed_whole stands cut out out' items entries TakerFault events reads writes last is handed = absurd (cc is)

-- A run that began from the opening state, seen through the writer: as it was new, after the driving, and at the end.
module _ {M S T R D : Type 0} {means : SystemMeaning M} {held : D → Option DrumWords} {m : M} {d : D} {words : DrumWords}
    (left : S → Option (List ℕ)) (out_taken : T → Option (List ℕ)) (rec_taken : R → Option (List ℕ)) (reads writes : D → ℕ) (s s' : S) (d' : D) (w v u : Writer T R)
    (opens : OpensOver means held m d words) (framed : means.store.flat ≡ false) (line : w.line ≡ None) (run : w.run ≡ None) (fresh : w.tally ≡ no_tally) (request : Request)
    (core : request.sizes.frames ≡ means.store.frames m) (room : request.sizes.drum ≡ means.limit m) where
  abbrev told : Observed
  told = seen left out_taken rec_taken held reads writes s s' w.out.now u.out.now w.rec.now u.rec.now d d'

  abbrev Drove : Driven → Type 0
  Drove driven = RanTo means held m d d' (Stands out_taken rec_taken) (IsCutWithin out_taken rec_taken) driven w v (AreRun request.events (left s) (left s') driven)

  runs : (driven : Driven) (ran : Drove driven) → RunsTo false request.sizes.frames request.sizes.drum driven ran.events ran.entries (ran.told words opens).items
  runs driven ran =
      let given = ran.told words opens in
      subst (λ f. RunsTo f request.sizes.frames request.sizes.drum driven ran.events ran.entries given.items) framed
      (subst (λ n. RunsTo means.store.flat request.sizes.frames n driven ran.events ran.entries given.items) (sym room)
      (subst (λ n. RunsTo means.store.flat n (means.limit m) driven ran.events ran.entries given.items) (sym core) given.run))

  driven_to : (driven : Driven) → Drove driven → DrivenTo driven request told
  driven_to driven ran = record {
    events = ran.events;
    entries = ran.entries;
    items = (ran.told words opens).items;
    found = ran.found;
    run = runs driven ran;
  }

  -- the writer stood for what it was given
  stood : (driven : Driven) (last : Last) → last_after driven request.events told.reads told.writes ≡ Some last → (ran : Drove driven) → Stands out_taken rec_taken w v (ran.told words opens).items ran.entries
  stood driven last is ran =
      let given = ran.told words opens in
      (handed_whole (Stands out_taken rec_taken) (IsCutWithin out_taken rec_taken) w v given.items ran.entries driven request.events told.reads told.writes last is given.given).each w [] [] ran.few (start out_taken rec_taken w u line run)

  part : (driven : Driven) (status : Status) (n : ℕ) → last_after driven request.events told.reads told.writes ≡ Some (Stopped status n) → Drove driven → Finishes out_taken rec_taken (Stopped status n) v u → Part driven (closing_line status n) request told
  unfolding driven_to
  part driven status n is ran finishes =
      let given = ran.told words opens in
      let ends = finishes.each w given.items ran.entries (stood driven (Stopped status n) is ran) in
      record {
        so_far = driven_to driven ran;
        transcript_is = ends.out;
        record_is = grows_alone told.before.rec told.after.rec (entries_text ran.entries) ends.rec;
      }

  -- the writer has counted what it was given
  counted : (driven : Driven) (last : Last) → last_after driven request.events told.reads told.writes ≡ Some last → (ran : Drove driven) → v.tally ≡ tally (ran.told words opens).items ran.entries
  counted driven last is ran = (stood driven last is ran).tallied fresh

  whole_record : (events : EventSource) (entries : List Step) → Grows told.before.rec told.after.rec (entries_text entries ++ record_end (last_done events told.reads told.writes)) → Grows told.before.rec told.after.rec (record_text entries told.reads told.writes)
  whole_record ReadScript entries grows = grows
  whole_record (Generated seed) entries grows = grows

  module _ (few_reads : told.reads < 2 ^ 64) (few_writes : told.writes < 2 ^ 64) (ran : Drove WholeScript) (finishes : Finishes out_taken rec_taken (last_done request.events told.reads told.writes) v u) where
    abbrev shown : List Item
    shown = (ran.told words opens).items

    ends : IsFinished out_taken rec_taken (last_done request.events told.reads told.writes) v.tally w u shown ran.entries
    ends = finishes.each w shown ran.entries (stood WholeScript (last_done request.events told.reads told.writes) refl ran)

    -- the entries are of these events
    abbrev entries_are : (events : List Event) → ran.events ≡ events → AreEntries false request.sizes.frames request.sizes.drum events ran.entries shown
    entries_are events same = subst (λ es. AreEntries false request.sizes.frames request.sizes.drum es ran.entries shown) same (runs WholeScript ran)

    -- the machine ran these events, where the transcript is this text of what it showed
    run_of : (events : List Event) (text : List Item → List Step → List ℕ) → ran.events ≡ events → Grows told.before.out told.after.out (text shown ran.entries) → IsRunOf events text request.sizes told
    run_of events text same grows =
        let entries = entries_are events same in
        record {
          entries = ran.entries;
          follows = entries.follows;
          legal = entries.legal;
          transcript_is = subst (λ items. Grows told.before.out told.after.out (text items ran.entries)) entries.shown grows;
          record_is = whole_record request.events ran.entries ends.rec;
          spelled = subst (All IsSpelled) same (all_spelled ran.events ran.fit);
          few = (omega (arith, ran.few), few_reads, few_writes);
        }

    -- the pages that the machine's last state has on the drum
    left_pages : ArePlaced request.sizes.frames (state_after (opening request.sizes.drum) ran.entries) told.after.drum
    left_pages =
        subst (λ n. ArePlaced request.sizes.frames (state_after (opening n) ran.entries) told.after.drum) (sym room)
        (subst (λ n. ArePlaced n (state_after (opening (means.limit m)) ran.entries) told.after.drum) (sym core) (ran.placed refl framed words opens))

    -- over how many frames it ran them
    over_frames : (events : List Event) (same : ran.events ≡ events) → IsOverFrames request.sizes events ran.entries (entries_are events same).follows told.after.drum
    over_frames events same = let entries = entries_are events same in record { turns = entries.turns; calm = entries.calm; placed = left_pages }

    headline : (events : EventSource) → request.events ≡ events → RunsOverFrames events request.sizes told
    unfolding run_of
    headline ReadScript is = (
      record {
        events = ran.events;
        all = λ bytes left_are.
            let found = (subst (λ e. AreRun e told.before.script told.after.script WholeScript ran.events) is ran.found).each bytes left_are in
            let all : found.0 ≡ bytes = sym (found.2 ∙ (ap (λ rest. found.0 ++ rest) found.4.1 ∙ append-nil found.0)) in
            (subst (λ b. IsScript b ran.events) all found.4.0, found.3 ∙ ap Some found.4.1);
        run = run_of ran.events (λ items entries. transcript items) refl (grows_alone told.before.out told.after.out (transcript shown) (subst (λ e. Grows told.before.out told.after.out (transcript shown ++ end_line (last_done e told.reads told.writes) v.tally)) is ends.out));
      },
      over_frames ran.events refl,
    )
    headline (Generated seed) is =
        let found = subst (λ e. AreRun e told.before.script told.after.script WholeScript ran.events) is ran.found in
        let line = subst (λ e. Grows told.before.out told.after.out (transcript shown ++ end_line (last_done e told.reads told.writes) v.tally)) is ends.out in
        let counts : v.tally ≡ tally shown ran.entries = counted WholeScript (last_done request.events told.reads told.writes) refl ran in (
          record {
            unread = found.1;
            run = run_of (big_events seed) generated_transcript found.0
                (subst (λ t. Grows told.before.out told.after.out (transcript shown ++ end_line (Summary told.reads told.writes) t)) counts line);
          },
          over_frames (big_events seed) found.0,
        )

  -- both texts were closed with their last lines
  ended : (driven : Driven) (last : Last) → last_after driven request.events told.reads told.writes ≡ Some last → told.reads < 2 ^ 64 → told.writes < 2 ^ 64 → Drove driven → Finishes out_taken rec_taken last v u → Ran request told (status_after driven)
  ended WholeScript last is few_reads few_writes ran fin =
      let this : last ≡ last_done request.events told.reads told.writes = cc is in
      headline few_reads few_writes ran (subst (λ l. Finishes out_taken rec_taken l v u) this fin) request.events refl
  ended (Bad n) last is few_reads few_writes ran fin =
      let this : last ≡ Stopped Script n = cc is in
      (n, part (Bad n) Script n refl ran (subst (λ l. Finishes out_taken rec_taken l v u) this fin))
  ended Long last is few_reads few_writes ran fin =
      let this : last ≡ Stopped LongScript 0 = cc is in
      part Long LongScript 0 refl ran (subst (λ l. Finishes out_taken rec_taken l v u) this fin)
  ended Unread last is few_reads few_writes ran fin =
      let this : last ≡ Stopped ReadFault 0 = cc is in
      part Unread ReadFault 0 refl ran (subst (λ l. Finishes out_taken rec_taken l v u) this fin)
  ended Unpaged last is few_reads few_writes ran fin =
      let this : last ≡ Stopped DrumFault 0 = cc is in
      part Unpaged DrumFault 0 refl ran (subst (λ l. Finishes out_taken rec_taken l v u) this fin)
  ended TakerFault last is few_reads few_writes ran fin = absurd (cc is)

  pub closed : (driven : Driven) (last : Last) (status : Status) → last_after driven request.events told.reads told.writes ≡ Some last → status ≡ status_after driven → told.reads < 2 ^ 64 → told.writes < 2 ^ 64 → Drove driven → Finishes out_taken rec_taken last v u → Ran request told status
  closed driven last status is this few_reads few_writes ran fin = subst (Ran request told) (sym this) (ended driven last is few_reads few_writes ran fin)

  -- the texts were to be closed with their last lines, and a sink failed
  pub unclosed : (driven : Driven) (last : Last) → last_after driven request.events told.reads told.writes ≡ Some last → Drove driven → FailsAtEnd out_taken rec_taken last v u → Fronts request told
  unfolding driven_to
  unclosed driven last is ran fails =
      let given = ran.told words opens in
      let ends = fails.each w given.items ran.entries (stood driven last is ran) in
      record {
        driven = driven;
        so_far = driven_to driven ran;
        transcript_front = subst (λ l. WrotePartly told.before.out told.after.out (transcript given.items ++ closing (λ x. end_line x (tally given.items ran.entries)) l)) (sym is)
            (subst (λ t. WrotePartly told.before.out told.after.out (transcript given.items ++ end_line last t)) (counted driven last is ran) ends.out);
        record_front = subst (λ l. WrotePartly told.before.rec told.after.rec (entries_text ran.entries ++ closing record_end l)) (sym is) ends.rec;
      }

  -- the writer failed before the end
  pub cut_short : (driven : Driven) → last_after driven request.events told.reads told.writes ≡ None → Drove driven → Keeps (IsCutWithin out_taken rec_taken) v u → Fronts request told
  unfolding driven_to
  cut_short TakerFault is ran keeps =
      let given = ran.told words opens in
      let cut = keeps.each w (given.items ++ []) (ran.entries ++ []) (given.given.each w [] [] [] [] ran.few (start out_taken rec_taken w u line run)) in
      let items : transcript (given.items ++ []) ≡ transcript given.items ++ [] = ap transcript (append-nil given.items) ∙ sym (append-nil (transcript given.items)) in
      let entries : entries_text (ran.entries ++ []) ≡ entries_text ran.entries ++ [] = ap entries_text (append-nil ran.entries) ∙ sym (append-nil (entries_text ran.entries)) in
      record {
        driven = TakerFault;
        so_far = driven_to TakerFault ran;
        transcript_front = subst (WrotePartly told.before.out told.after.out) items cut.out;
        record_front = subst (WrotePartly told.before.rec told.after.rec) entries cut.rec;
      }
  cut_short WholeScript is ran keeps = absurd (cc is)
  cut_short (Bad n) is ran keeps = absurd (cc is)
  cut_short Long is ran keeps = absurd (cc is)
  cut_short Unread is ran keeps = absurd (cc is)
  cut_short Unpaged is ran keeps = absurd (cc is)
