-- What a writer stands for, as it takes items and steps.
use Rattle.std.proofs.Common.{◌≡◌, ℕ, ◌+◌, ◌<◌, ◌≤◌, List, [], ◌∷◌, ◌++◌, length, Option, Some, Result, OnOk, OnErr, refl, sym, ap, subst, arith, append_assoc, length-append, zero, suc, true, cond, ◌∙◌, ◌==◌, ◌&&◌, rules, ◌-◌}
use Rattle.std.proofs.lemmas.List.{append-nil, length-replicate}
use Rattle.outside.specs.Told.{Grows}
use Rattle.outside.specs.declared.failure.Failed.{Failed}
use Rattle.script_texts.specs.declared.event.Item.{Item}
use Rattle.script_texts.specs.declared.event.Step.{Step}
use Rattle.machine_names.specs.declared.names.ForkName.{ForkName}
use Rattle.script_texts.specs.Taker.{GoesOn, IsCut, max_steps}
use Rattle.texts.specs.OpenLine.{text_after, item_text, item_open}
use Rattle.texts.specs.OpenRun.{step_text, step_run, record_after}
use Rattle.script_texts.specs.Texts.{transcript, entries_text, same_turn, run_line}
use Rattle.script_texts.specs.declared.event.Step.TheVariants.{Unit as UnitStep, Idle as IdleStep}
use Rattle.script_texts.proofs.Takers.{cut_longer}
use Rattle.std.specs.Prelude.{replicate}
use Rattle.texts.specs.declared.last.Last.{Last}
use Rattle.texts.specs.declared.writer.Writer.{Writer}
use Rattle.texts.specs.Ends.{end_line, record_end}
use Rattle.texts.specs.declared.tally.Tally.{Tally}
use Rattle.texts.specs.Tally.{tally, with_item, with_steps}
use Rattle.texts.proofs.Tallies.{tally_item, tally_steps}
use Rattle.texts.specs.Turns.{open_run, run_count, step_of}
use Rattle.texts.specs.declared.turns.RunEntry.{RunEntry}
use Rattle.texts.specs.declared.turns.RunEntry.TheVariants.{Unit as UnitOf, Idle as IdleTurn}
use Rattle.texts.specs.Wrote.{Wrote, WrotePartly, GrowsPartly}
use Rattle.texts.specs.Writer.{Stands, IsCutWithin, IsCutAtEnd, Keeps, KeepsWritten, Finishes, FailsAtEnd}
use Rattle.texts.proofs.Writes.{wrote_more, wrote_list, wrote_partly, wrote_cut, wrote_end, wrote_end_partly, cut_here, whole_partly, partly_stays, wrote_stays}

-- a turn behind an open run of equal turns is counted
abbrev pub Counted : Step → Type 0
Counted s = (c : ℕ) (ts : List Step) → record_after (Some (s, c)) (s ∷ ts) ≡ record_after (Some (s, c + 1)) ts

same_is : (n : ℕ) → (n == n) ≡ true
same_is n = grind (arith, rules)

pub unit_counted : (f : ForkName) → Counted (UnitStep f)
unit_counted f c ts =
    let e : same_turn (UnitStep f) (UnitStep f) ≡ true = ap (λ b. b && (f.serial == f.serial)) (same_is f.tty.0) ∙ same_is f.serial in
    ap (λ b. cond b [] (run_line (UnitStep f) c) ++ record_after (cond b (Some (UnitStep f, c + 1)) (Some (UnitStep f, 1))) ts) e

pub idle_counted : Counted IdleStep
idle_counted c ts = refl

pub turn_counted : (t : RunEntry) → Counted (step_of t)
turn_counted (UnitOf f) = unit_counted f
turn_counted IdleTurn = idle_counted

-- a turn of the run that is open goes on with it
pub joins_text : (t u : RunEntry) (c : ℕ) → same_turn (step_of t) (step_of u) ≡ true → step_text (Some (step_of t, c)) (step_of u) ≡ []
joins_text (UnitOf f) (UnitOf h) c e = ap (λ b. cond b [] (run_line (UnitStep f) c)) e
joins_text (UnitOf f) IdleTurn c e = absurd (cc e)
joins_text IdleTurn (UnitOf h) c e = absurd (cc e)
joins_text IdleTurn IdleTurn c e = refl

pub joins_run : (t u : RunEntry) (c : ℕ) → same_turn (step_of t) (step_of u) ≡ true → step_run (Some (step_of t, c)) (step_of u) ≡ Some (step_of u, c + 1)
joins_run (UnitOf f) (UnitOf h) c e = ap (λ b. cond b (Some (UnitStep h, c + 1)) (Some (UnitStep h, 1))) e
joins_run (UnitOf f) IdleTurn c e = absurd (cc e)
joins_run IdleTurn (UnitOf h) c e = absurd (cc e)
joins_run IdleTurn IdleTurn c e = refl

pub joins_step : (t u : RunEntry) → same_turn (step_of t) (step_of u) ≡ true → step_of t ≡ step_of u
joins_step (UnitOf f) (UnitOf h) e = grind (arith, rules, e)
joins_step (UnitOf f) IdleTurn e = absurd (cc e)
joins_step IdleTurn (UnitOf h) e = absurd (cc e)
joins_step IdleTurn IdleTurn e = refl

-- equal turns are counted up
pub counted_up : (s : Step) → Counted s → (n c : ℕ) (ts : List Step) → record_after (Some (s, c)) (replicate n s ++ ts) ≡ record_after (Some (s, c + n)) ts
counted_up s one zero c ts = ap (λ k. record_after (Some (s, k)) ts) (omega arith)
counted_up s one (suc n) c ts = one c (replicate n s ++ ts) ∙ counted_up s one n (c + 1) ts ∙ ap (λ k. record_after (Some (s, k)) ts) (omega arith)

module _ {T R : Type 0} (out_taken : T → Option (List ℕ)) (rec_taken : R → Option (List ℕ)) (old new : Writer T R) where
  abbrev For : Writer T R → Writer T R → List Item → List Step → Type 0
  For = Stands out_taken rec_taken

  abbrev Cut : Writer T R → Writer T R → List Item → List Step → Type 0
  Cut = IsCutWithin out_taken rec_taken

  -- the transcript stays as it was, whatever the list is called
  out_stays : (first : Writer T R) (is js : List Item) → new.out.now ≡ old.out.now → new.line ≡ old.line → is ≡ js
      → Wrote (out_taken first.out.now) (out_taken old.out.now) (text_after old.line) (λ ks. transcript (is ++ ks))
      → Wrote (out_taken first.out.now) (out_taken new.out.now) (text_after new.line) (λ ks. transcript (js ++ ks))
  out_stays first is js out line e w =
      subst (λ l. Wrote (out_taken first.out.now) (out_taken new.out.now) (text_after new.line) (λ ks. transcript (l ++ ks))) e
      (subst (λ o. Wrote (out_taken first.out.now) (out_taken new.out.now) (text_after o) (λ ks. transcript (is ++ ks))) (sym line)
      (subst (λ o. Wrote (out_taken first.out.now) (out_taken o) (text_after old.line) (λ ks. transcript (is ++ ks))) (sym out) w))

  rec_stays : (first : Writer T R) (ss ts : List Step) → new.rec.now ≡ old.rec.now → new.run ≡ old.run → ss ≡ ts
      → Wrote (rec_taken first.rec.now) (rec_taken old.rec.now) (record_after (open_run old.run)) (λ us. entries_text (ss ++ us))
      → Wrote (rec_taken first.rec.now) (rec_taken new.rec.now) (record_after (open_run new.run)) (λ us. entries_text (ts ++ us))
  rec_stays first ss ts rec run e w =
      subst (λ l. Wrote (rec_taken first.rec.now) (rec_taken new.rec.now) (record_after (open_run new.run)) (λ us. entries_text (l ++ us))) e
      (subst (λ r. Wrote (rec_taken first.rec.now) (rec_taken new.rec.now) (record_after (open_run r)) (λ us. entries_text (ss ++ us))) (sym run)
      (subst (λ r. Wrote (rec_taken first.rec.now) (rec_taken r) (record_after (open_run old.run)) (λ us. entries_text (ss ++ us))) (sym rec) w))

  -- an item is written
  pub item_goes_on : (i : Item) → Grows (out_taken old.out.now) (out_taken new.out.now) (item_text old.line i) → new.line ≡ item_open i → new.rec.now ≡ old.rec.now → new.run ≡ old.run
      → new.tally ≡ with_item old.tally i → GoesOn For old new (i ∷ []) []
  item_goes_on i grows line rec run tallies = record {
    each = λ first is ss few s. record {
      out = wrote_more _ _ _ _ _ (text_after new.line) (λ js. transcript ((is ++ i ∷ []) ++ js)) i (item_text old.line i) s.out grows
          (λ js. ap (λ o. item_text old.line i ++ text_after o js) (sym line)) (λ js. ap transcript (append_assoc is (i ∷ []) js));
      rec = rec_stays first ss (ss ++ []) rec run (sym (append-nil ss)) s.rec;
      count = subst (λ r. run_count r ≤ length (ss ++ [])) (sym run) (omega (arith, s.count, length-append ss []));
      tallied = λ fresh. tallies ∙ ap (λ t. with_item t i) (s.tallied fresh) ∙ tally_item is ss i ∙ ap (tally (is ++ i ∷ [])) (sym (append-nil ss));
    };
  }

  -- a front of it is
  pub item_cut : (i : Item) → GrowsPartly (out_taken old.out.now) (out_taken new.out.now) (item_text old.line i) → new.rec.now ≡ old.rec.now
      → IsCut For Cut old new (i ∷ []) []
  item_cut i partly rec = record {
    each = λ first is more ss rest few s. record {
      out = subst (λ l. WrotePartly (out_taken first.out.now) (out_taken new.out.now) (transcript l)) (sym (append_assoc is (i ∷ []) more))
          (wrote_partly _ _ _ _ _ (text_after (item_open i) more) i more (item_text old.line i) s.out partly refl);
      rec = subst (λ r. WrotePartly (rec_taken first.rec.now) (rec_taken r) (entries_text (ss ++ [] ++ rest))) (sym rec)
          (subst (λ l. WrotePartly (rec_taken first.rec.now) (rec_taken old.rec.now) (entries_text l)) (sym (append_assoc ss [] rest)) (wrote_cut _ _ _ _ rest s.rec));
    };
  }

  -- a step is written, or held back
  pub step_goes_on : (s : Step) → Grows (rec_taken old.rec.now) (rec_taken new.rec.now) (step_text (open_run old.run) s)
      → (run_count old.run < max_steps → open_run new.run ≡ step_run (open_run old.run) s) → run_count new.run ≤ run_count old.run + 1 → new.out.now ≡ old.out.now → new.line ≡ old.line
      → new.tally ≡ with_steps old.tally s 1 → GoesOn For old new [] (s ∷ [])
  step_goes_on s grows run count out line tallies = record {
    each = λ first is ss few st.
        let small : run_count old.run < max_steps = omega (arith, few, st.count, length-append ss (s ∷ [])) in
        record {
          out = out_stays first is (is ++ []) out line (sym (append-nil is)) st.out;
          rec = wrote_more _ _ _ _ _ (record_after (open_run new.run)) (λ ts. entries_text ((ss ++ s ∷ []) ++ ts)) s (step_text (open_run old.run) s) st.rec grows
              (λ ts. ap (λ r. step_text (open_run old.run) s ++ record_after r ts) (sym (run small))) (λ ts. ap entries_text (append_assoc ss (s ∷ []) ts));
          count = omega (arith, st.count, count, length-append ss (s ∷ []));
          tallied = λ fresh. tallies ∙ ap (λ t. with_steps t s 1) (st.tallied fresh) ∙ tally_steps is ss s 1 ∙ ap (λ l. tally l (ss ++ s ∷ [])) (sym (append-nil is));
        };
  }

  -- a front of it is
  pub step_cut : (s : Step) → GrowsPartly (rec_taken old.rec.now) (rec_taken new.rec.now) (step_text (open_run old.run) s) → new.out.now ≡ old.out.now
      → IsCut For Cut old new [] (s ∷ [])
  step_cut s partly out = record {
    each = λ first is more ss rest few st. record {
      out = subst (λ o. WrotePartly (out_taken first.out.now) (out_taken o) (transcript (is ++ [] ++ more))) (sym out)
          (subst (λ l. WrotePartly (out_taken first.out.now) (out_taken old.out.now) (transcript l)) (sym (append_assoc is [] more)) (wrote_cut _ _ _ _ more st.out));
      rec = subst (λ l. WrotePartly (rec_taken first.rec.now) (rec_taken new.rec.now) (entries_text l)) (sym (append_assoc ss (s ∷ []) rest))
          (wrote_partly _ _ _ _ _ (record_after (step_run (open_run old.run) s) rest) s rest (step_text (open_run old.run) s) st.rec partly refl);
    };
  }

  -- equal turns are written, or held back
  pub turns_go_on : (s : Step) (m k : ℕ) → Counted s → Grows (rec_taken old.rec.now) (rec_taken new.rec.now) (step_text (open_run old.run) s)
      → step_run (open_run old.run) s ≡ Some (s, k)
      → (run_count old.run + m < max_steps → open_run new.run ≡ Some (s, k + m)) → run_count new.run ≤ run_count old.run + (m + 1) → new.out.now ≡ old.out.now → new.line ≡ old.line
      → new.tally ≡ with_steps old.tally s (suc m) → GoesOn For old new [] (replicate (suc m) s)
  turns_go_on s m k one grows begun run count out line tallies = record {
    each = λ first is ss few st.
        let long : length (replicate (suc m) s) ≡ suc m = length-replicate (suc m) s in
        let small : run_count old.run + m < max_steps = omega (arith, few, st.count, length-append ss (replicate (suc m) s), long) in
        let text : (ts : List Step) → record_after (open_run old.run) (replicate (suc m) s ++ ts) ≡ step_text (open_run old.run) s ++ record_after (open_run new.run) ts =
        λ ts. ap (λ r. step_text (open_run old.run) s ++ record_after r (replicate m s ++ ts)) begun ∙ ap (λ l. step_text (open_run old.run) s ++ l) (counted_up s one m k ts ∙ ap (λ r. record_after r ts) (sym (run small))) in
        record {
          out = out_stays first is (is ++ []) out line (sym (append-nil is)) st.out;
          rec = wrote_list _ _ _ _ _ (record_after (open_run new.run)) (λ ts. entries_text ((ss ++ replicate (suc m) s) ++ ts)) (replicate (suc m) s) (step_text (open_run old.run) s) st.rec grows
              text (λ ts. ap entries_text (append_assoc ss (replicate (suc m) s) ts));
          count = omega (arith, st.count, count, length-append ss (replicate (suc m) s), long);
          tallied = λ fresh. tallies ∙ ap (λ t. with_steps t s (suc m)) (st.tallied fresh) ∙ tally_steps is ss s (suc m) ∙ ap (λ l. tally l (ss ++ replicate (suc m) s)) (sym (append-nil is));
        };
  }

  pub turns_given : (s : Step) (n k : ℕ) → 1 ≤ n → Counted s → Grows (rec_taken old.rec.now) (rec_taken new.rec.now) (step_text (open_run old.run) s)
      → step_run (open_run old.run) s ≡ Some (s, k)
      → (run_count old.run + n ≤ max_steps → open_run new.run ≡ Some (s, k + (n - 1))) → run_count new.run ≤ run_count old.run + n → new.out.now ≡ old.out.now → new.line ≡ old.line
      → new.tally ≡ with_steps old.tally s n → GoesOn For old new [] (replicate n s)
  turns_given s zero k some one grows begun run count out line tallies = absurd (omega arith)
  turns_given s (suc m) k some one grows begun run count out line tallies = turns_go_on s m k one grows begun (λ small. run (omega arith) ∙ ap (λ j. Some (s, k + j)) (omega arith)) (omega arith) out line tallies

  pub turns_cut : (s : Step) (n : ℕ) → 1 ≤ n → GrowsPartly (rec_taken old.rec.now) (rec_taken new.rec.now) (step_text (open_run old.run) s) → new.out.now ≡ old.out.now
      → IsCut For Cut old new [] (replicate n s)
  turns_cut s zero some partly out = absurd (omega arith)
  turns_cut s (suc m) some partly out = cut_longer For Cut old new [] [] (s ∷ []) (replicate m s) (step_cut s partly out)

  -- what is flushed stands for what it stood for
  pub kept_standing : KeepsWritten out_taken rec_taken old new → Keeps For old new
  kept_standing keeps = record {
    each = λ first is ss st. record {
      out = subst (λ l. Wrote (out_taken first.out.now) (out_taken new.out.now) (text_after l) (λ js. transcript (is ++ js))) (sym keeps.line) (wrote_stays _ _ _ _ _ st.out keeps.out);
      rec = subst (λ r. Wrote (rec_taken first.rec.now) (rec_taken new.rec.now) (record_after (open_run r)) (λ ts. entries_text (ss ++ ts))) (sym keeps.run) (wrote_stays _ _ _ _ _ st.rec keeps.rec);
      count = subst (λ r. run_count r ≤ length ss) (sym keeps.run) st.count;
      tallied = λ fresh. keeps.tally ∙ st.tallied fresh;
    };
  }

  -- what was cut is cut where it was
  pub kept_within : KeepsWritten out_taken rec_taken old new → Keeps Cut old new
  kept_within keeps = record { each = λ first is ss c. record { out = partly_stays _ _ _ _ c.out keeps.out; rec = partly_stays _ _ _ _ c.rec keeps.rec } }

  pub kept_at_end : KeepsWritten out_taken rec_taken old new → (last : Last) (counts : Tally) → Keeps (IsCutAtEnd out_taken rec_taken last counts) old new
  kept_at_end keeps last counts = record { each = λ first is ss c. record { out = partly_stays _ _ _ _ c.out keeps.out; rec = partly_stays _ _ _ _ c.rec keeps.rec } }

  -- what is flushed is cut where it stood, whatever follows
  pub kept_cut : KeepsWritten out_taken rec_taken old new → IsCut For Cut old new [] []
  kept_cut keeps = record {
    each = λ first is more ss rest few st. record {
      out = partly_stays _ _ _ _ (subst (λ l. WrotePartly (out_taken first.out.now) (out_taken old.out.now) (transcript l)) (sym (append_assoc is [] more)) (wrote_cut _ _ _ _ more st.out)) keeps.out;
      rec = partly_stays _ _ _ _ (subst (λ l. WrotePartly (rec_taken first.rec.now) (rec_taken old.rec.now) (entries_text l)) (sym (append_assoc ss [] rest)) (wrote_cut _ _ _ _ rest st.rec)) keeps.rec;
    };
  }

  module _ (last : Last) where
    out_ends : (first : Writer T R) (is : List Item) → Wrote (out_taken first.out.now) (out_taken old.out.now) (text_after old.line) (λ js. transcript (is ++ js))
        → Grows (out_taken old.out.now) (out_taken new.out.now) (text_after old.line [] ++ end_line last old.tally)
        → (told : List ℕ) → out_taken first.out.now ≡ Some told → out_taken new.out.now ≡ Some (told ++ (transcript is ++ end_line last old.tally))
    out_ends first is w grows told h =
        subst (λ l. out_taken new.out.now ≡ Some (told ++ (transcript l ++ end_line last old.tally))) (append-nil is) (wrote_end _ _ _ _ _ (end_line last old.tally) w grows told h)

    -- both texts are closed
    pub finishes : Grows (out_taken old.out.now) (out_taken new.out.now) (text_after old.line [] ++ end_line last old.tally)
        → Grows (rec_taken old.rec.now) (rec_taken new.rec.now) (record_after (open_run old.run) [] ++ record_end last) → Finishes out_taken rec_taken last old new
    finishes out rec = record {
      each = λ first is ss st. record {
        out = out_ends first is st.out out;
        rec = λ told h. subst (λ l. rec_taken new.rec.now ≡ Some (told ++ (entries_text l ++ record_end last))) (append-nil ss) (wrote_end _ _ _ _ _ (record_end last) st.rec rec told h);
      };
    }

    -- each text that is closed is a front of itself
    pub finished_cut : Finishes out_taken rec_taken last old new → FailsAtEnd out_taken rec_taken last old new
    finished_cut done = record {
      each = λ first is ss st. let closed = done.each first is ss st in record { out = whole_partly _ _ _ closed.out; rec = whole_partly _ _ _ closed.rec };
    }

    -- the transcript is closed, and the record is not
    pub record_fails : Grows (out_taken old.out.now) (out_taken new.out.now) (text_after old.line [] ++ end_line last old.tally)
        → GrowsPartly (rec_taken old.rec.now) (rec_taken new.rec.now) (record_after (open_run old.run) [] ++ record_end last) → FailsAtEnd out_taken rec_taken last old new
    record_fails out rec = record {
      each = λ first is ss st. record {
        out = whole_partly _ _ _ (out_ends first is st.out out);
        rec = subst (λ l. WrotePartly (rec_taken first.rec.now) (rec_taken new.rec.now) (entries_text l ++ record_end last)) (append-nil ss) (wrote_end_partly _ _ _ _ _ (record_end last) st.rec rec);
      };
    }

    -- the transcript is not closed, and the record is as it was
    pub transcript_fails : GrowsPartly (out_taken old.out.now) (out_taken new.out.now) (text_after old.line [] ++ end_line last old.tally) → new.rec.now ≡ old.rec.now → FailsAtEnd out_taken rec_taken last old new
    transcript_fails out rec = record {
      each = λ first is ss st. record {
        out = subst (λ l. WrotePartly (out_taken first.out.now) (out_taken new.out.now) (transcript l ++ end_line last old.tally)) (append-nil is) (wrote_end_partly _ _ _ _ _ (end_line last old.tally) st.out out);
        rec = cut_here _ _ _ _ (subst (λ r. WrotePartly (rec_taken first.rec.now) (rec_taken r) (entries_text ss)) (sym rec)
            (subst (λ l. WrotePartly (rec_taken first.rec.now) (rec_taken old.rec.now) (entries_text l)) (append-nil ss) (wrote_cut _ _ _ _ [] st.rec)));
      };
    }

-- the same step by another name
module _ {T : Type 0} (r : Result (Unit {0}) Failed) (stands : T → T → List Item → List Step → Type 0) (old new : T) (s k : Step) (same : k ≡ s) where
  pub named_ok : OnOk r (GoesOn stands old new [] (k ∷ [])) → OnOk r (GoesOn stands old new [] (s ∷ []))
  named_ok h = subst (λ x. OnOk r (GoesOn stands old new [] (x ∷ []))) same h

  pub named_err : (cut : T → T → List Item → List Step → Type 0) → OnErr r (IsCut stands cut old new [] (k ∷ [])) → OnErr r (IsCut stands cut old new [] (s ∷ []))
  named_err cut h = subst (λ x. OnErr r (IsCut stands cut old new [] (x ∷ []))) same h
