-- What a replay has written.
use Rattle.std.proofs.Common.{◌≡◌, ◌≢◌, ◌⊎◌, inl, inr, ℕ, ◌+◌, ◌<◌, ◌≤◌, List, [], ◌++◌, length, refl, sym, ◌∙◌, ap, subst, arith}
use Rattle.std.specs.Prelude.{Option, None, Some}
use Rattle.outside.specs.Faults.{Rose}
use Rattle.outside.specs.Told.{Grows}
use Rattle.script_texts.specs.declared.event.Item.{Item}
use Rattle.script_texts.specs.declared.event.Step.{Step}
use Rattle.script_texts.specs.Taker.{GoesOn, IsCut}
use Rattle.script_texts.specs.Texts.{transcript}
use Rattle.texts.specs.declared.last.Last.{Last}
use Rattle.texts.specs.declared.last.Last.TheVariants.{Done as Ended, Stopped}
use Rattle.texts.specs.declared.last.Status.TheVariants as status
use Rattle.texts.specs.declared.tally.Tally.{Tally}
use Rattle.texts.specs.declared.writer.Writer.{Writer}
use Rattle.texts.specs.Ends.{end_line}
use Rattle.texts.specs.Writer.{FailsAtEnd as CutAtEnd, Finishes, IsCutAtEnd, IsCutWithin, IsOnward, Keeps, Stands}
use Rattle.texts.specs.Wrote.{WrotePartly}
use Rattle.texts.proofs.Starts.{stands_start}
use Rattle.record_player.specs.declared.replay_end.ReplayEnd.{ReplayEnd}
use Rattle.record_player.specs.declared.replay_end.ReplayEnd.TheVariants.{Done, Bad, Illegal, Long, ReadFault, WriteFault, Memory}
use Rattle.record_player.specs.Plays.{Handed, Plays, items_shown}
use Rattle.record_player.specs.Replays.{Replayed, Replays, end_text, last_of}

-- the last line is the one that tells why the replay ended
end_is : (how : ReplayEnd) (last : Last) (counts : Tally) → last_of how ≡ Some last → end_line last counts ≡ end_text how
end_is Done last counts is = let same : Ended 0 0 ≡ last = cc is in subst (λ l. end_line l counts ≡ end_text Done) same refl
end_is (Bad n) last counts is = let same : Stopped status.Script n ≡ last = cc is in subst (λ l. end_line l counts ≡ end_text (Bad n)) same refl
end_is (Illegal n) last counts is = let same : Stopped status.Illegal n ≡ last = cc is in subst (λ l. end_line l counts ≡ end_text (Illegal n)) same refl
end_is Long last counts is = let same : Stopped status.LongScript 0 ≡ last = cc is in subst (λ l. end_line l counts ≡ end_text Long) same refl
end_is ReadFault last counts is = let same : Stopped status.ReadFault 0 ≡ last = cc is in subst (λ l. end_line l counts ≡ end_text ReadFault) same refl
end_is WriteFault last counts is = absurd (cc is)
end_is Memory last counts is = let same : Stopped status.Memory 0 ≡ last = cc is in subst (λ l. end_line l counts ≡ end_text Memory) same refl

-- where there is one, the taker took all
handed_all : {T : Type 0} (stands cut : T → T → List Item → List Step → Type 0) (out out' : T) (how : ReplayEnd) (items : List Item) (entries : List Step) (last : Last) → last_of how ≡ Some last → Handed stands cut out out' how items entries → GoesOn stands out out' items entries
handed_all stands cut out out' Done items entries last is given = given
handed_all stands cut out out' (Bad n) items entries last is given = given
handed_all stands cut out out' (Illegal n) items entries last is given = given
handed_all stands cut out out' Long items entries last is given = given
handed_all stands cut out out' ReadFault items entries last is given = given
handed_all stands cut out out' WriteFault items entries last is given = absurd (cc is)
handed_all stands cut out out' Memory items entries last is given = given

replayed_so : (asked : ℕ) (told : Option (List ℕ)) (how : ReplayEnd) (last : Last) (out out' : Option (List ℕ)) → last_of how ≡ Some last → Replays asked told how out out' → Replayed asked told how out out'
replayed_so asked told Done last out out' is r = r
replayed_so asked told (Bad n) last out out' is r = r
replayed_so asked told (Illegal n) last out out' is r = r
replayed_so asked told Long last out out' is r = r
replayed_so asked told ReadFault last out out' is r = r
replayed_so asked told WriteFault last out out' is r = absurd (cc is)
replayed_so asked told Memory last out out' is r = r

module _ {T R : Type 0} (out_taken : T → Option (List ℕ)) (rec_taken : R → Option (List ℕ)) (w v u : Writer T R) (line : w.line ≡ None) (run : w.run ≡ None) (asked : ℕ) (told : Option (List ℕ)) where
  module _ (how : ReplayEnd) (last : Last) (is : last_of how ≡ Some last) (plays : Plays asked told how) (given : Handed (Stands out_taken rec_taken) (IsCutWithin out_taken rec_taken) w v how (items_shown plays) plays.entries) where
    standing : Stands out_taken rec_taken w v (items_shown plays) plays.entries
    standing =
        (handed_all (Stands out_taken rec_taken) (IsCutWithin out_taken rec_taken) w v how (items_shown plays) plays.entries last is given).each w [] [] plays.few (stands_start out_taken rec_taken w line run)

    -- it was closed
    pub written : Finishes out_taken rec_taken last v u → Replayed asked told how (out_taken w.out.now) (out_taken u.out.now)
    written finishes =
        let ends = finishes.each w (items_shown plays) plays.entries standing in
        replayed_so asked told how last (out_taken w.out.now) (out_taken u.out.now) is
        (record { plays = plays; shown = subst (λ l. Grows (out_taken w.out.now) (out_taken u.out.now) (transcript (items_shown plays) ++ l)) (end_is how last v.tally is) ends.out })

    -- it could not be closed
    pub unwritten : CutAtEnd out_taken rec_taken last v u → Replayed asked told WriteFault (out_taken w.out.now) (out_taken u.out.now)
    unwritten fails =
        let ends = fails.each w (items_shown plays) plays.entries standing in
        inr (record { how = how; plays = plays; shown = subst (λ l. WrotePartly (out_taken w.out.now) (out_taken u.out.now) (transcript (items_shown plays) ++ l)) (end_is how last v.tally is) ends.out })

  -- the sink had failed before
  pub given_up : (how : ReplayEnd) → last_of how ≡ None → (plays : Plays asked told how) → Handed (Stands out_taken rec_taken) (IsCutWithin out_taken rec_taken) w v how (items_shown plays) plays.entries → Keeps (IsCutWithin out_taken rec_taken) v u
      → Replayed asked told WriteFault (out_taken w.out.now) (out_taken u.out.now)
  given_up Done none plays given keeps = absurd (cc none)
  given_up (Bad n) none plays given keeps = absurd (cc none)
  given_up (Illegal n) none plays given keeps = absurd (cc none)
  given_up Long none plays given keeps = absurd (cc none)
  given_up ReadFault none plays given keeps = absurd (cc none)
  given_up WriteFault none plays given keeps =
      inl (record {
        plays = plays;
        shown = λ more. (keeps.each w (items_shown plays ++ more) (plays.entries ++ []) (given.each w [] more [] [] plays.few (stands_start out_taken rec_taken w line run))).out;
      })
  given_up Memory none plays given keeps = absurd (cc none)

-- without a last line the taker had failed
pub had_failed : (how : ReplayEnd) → last_of how ≡ None → how ≡ WriteFault
had_failed Done none = absurd (cc none)
had_failed (Bad n) none = absurd (cc none)
had_failed (Illegal n) none = absurd (cc none)
had_failed Long none = absurd (cc none)
had_failed ReadFault none = absurd (cc none)
had_failed WriteFault none = refl
had_failed Memory none = absurd (cc none)

-- what is so of what a writer refers to is so of its sink
pub moved : {T : Type 0} (P : (o o' : T) → Type 0) {o o' p p' : T} → o ≡ p → o' ≡ p' → P o o' → P p p'
moved P {o} {o'} {p} {p'} a b is = subst (λ x. P p x) b (subst (λ x. P x o') a is)

-- what fails to close, and is given up, has failed to close
pub fails_given_up : {T R : Type 0} (out_taken : T → Option (List ℕ)) (rec_taken : R → Option (List ℕ)) (last : Last) (v x u : Writer T R) → CutAtEnd out_taken rec_taken last v x → ((l : Last) (counts : Tally) → Keeps (IsCutAtEnd out_taken rec_taken l counts) x u)
    → CutAtEnd out_taken rec_taken last v u
fails_given_up out_taken rec_taken last v x u fails keeps = record { each = λ first is ss stood. (keeps last v.tally).each first is ss (fails.each first is ss stood) }

module _ {T R : Type 0} (of_out : T → ℕ) (of_rec : R → ℕ) (none : (r : R) → of_rec r ≡ 0) (w u : Writer T R) (onward : IsOnward of_out of_rec w u) (fresh : w.faults ≡ 0) where
  -- where only the sink of the transcript can fail, a fault of the writer is one of that
  pub rose_out : 0 < u.faults → Rose (of_out w.out.now) (of_out u.out.now)
  rose_out some =
      let more : w.faults < u.faults = omega (arith, fresh, some) in
      elim (onward.cause more) [
        | inl out ↦ out
        | inr rec ↦ absurd (omega (arith, rec, none u.rec.now, none w.rec.now))
      ]

-- what is handed on, or rose from a later count
pub handed_since : {A : Type 0} (first before after : ℕ) → first ≤ before → A ⊎ Rose before after → A ⊎ Rose first after
handed_since first before after later (inl handed) = inl handed
handed_since first before after later (inr rose) = inr (omega (arith, later, rose))
