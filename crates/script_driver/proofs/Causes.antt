-- Where faults come from, and what the sinks have handed on, behind a writer that was to be closed.
use Rattle.std.proofs.Common.{◌≡◌, ◌⊎◌, inl, inr, ℕ, ◌≤◌, None, Some, ap, refl, sym, ◌∙◌, arith}
use Rattle.outside.specs.Faults.{Rose}
use Rattle.texts.specs.declared.writer.Writer.{Writer}
use Rattle.command_words.specs.declared.request.EventSource.{EventSource}
use Rattle.texts.specs.declared.last.Last.{Last}
use Rattle.texts.specs.declared.last.Status.{Status}
use Rattle.texts.specs.declared.last.Status.TheVariants.{DrumFault, ReadFault, WriteFault}
use Rattle.texts.specs.Writer.{HandsOn, IsHandedOn, IsOnward}
use Rattle.script_driver.specs.declared.driver.Driven.{Driven}
use Rattle.script_driver.specs.declared.driver.Driven.TheVariants.{Done as WholeScript, Bad, Long, ReadFault as Unread, DrumFault as Unpaged, TakerFault}
use Rattle.script_driver.specs.RunTexts.{last_after}
use Rattle.script_driver.specs.Observed.{HandedOn, IsCaused, NoneFell, faults}
use Rattle.script_driver.specs.Statuses.{status_after}

-- a count that rose from a later one rose from an earlier one
rose_before : (first before after : ℕ) → first ≤ before → Rose before after → Rose first after
rose_before first before after later rose = omega (arith, later, rose)

-- each status of a fault is that of one way in which the driving ended
unread : {X : Type 0} (driven : Driven) → (driven ≡ Unread → X) → status_after driven ≡ ReadFault → X
unread WholeScript cause is = absurd (cc is)
unread (Bad n) cause is = absurd (cc is)
unread Long cause is = absurd (cc is)
unread Unread cause is = cause refl
unread Unpaged cause is = absurd (cc is)
unread TakerFault cause is = absurd (cc is)

unpaged : {X : Type 0} (driven : Driven) → (driven ≡ Unpaged → X) → status_after driven ≡ DrumFault → X
unpaged WholeScript cause is = absurd (cc is)
unpaged (Bad n) cause is = absurd (cc is)
unpaged Long cause is = absurd (cc is)
unpaged Unread cause is = absurd (cc is)
unpaged Unpaged cause is = cause refl
unpaged TakerFault cause is = absurd (cc is)

-- where the texts could be closed, it was no write that failed
written : {X : Type 0} (driven : Driven) (events : EventSource) (reads writes : ℕ) (last : Last) → last_after driven events reads writes ≡ Some last → status_after driven ≡ WriteFault → X
written WholeScript events reads writes last there is = absurd (cc is)
written (Bad n) events reads writes last there is = absurd (cc is)
written Long events reads writes last there is = absurd (cc is)
written Unread events reads writes last there is = absurd (cc is)
written Unpaged events reads writes last there is = absurd (cc is)
written TakerFault events reads writes last there is = absurd (cc there)

-- where no last line is left, a write had failed
given_up : {X : Type 0} (driven : Driven) (events : EventSource) (reads writes : ℕ) → last_after driven events reads writes ≡ None → (driven ≡ TakerFault → X) → X
given_up WholeScript events reads writes none cause = absurd (cc none)
given_up (Bad n) events reads writes none cause = absurd (cc none)
given_up Long events reads writes none cause = absurd (cc none)
given_up Unread events reads writes none cause = absurd (cc none)
given_up Unpaged events reads writes none cause = absurd (cc none)
given_up TakerFault events reads writes none cause = cause refl

module _ {S T R D : Type 0} (of_script : S → ℕ) (of_out : T → ℕ) (of_rec : R → ℕ) (of_drum : D → ℕ) (script script' : S) (drum drum' : D) (w v u : Writer T R)
    (onward : IsOnward of_out of_rec w u) (script_later : of_script script ≤ of_script script') (drum_later : of_drum drum ≤ of_drum drum') where
  later : NoneFell (faults of_script of_out of_rec of_drum script script' w.out.now u.out.now w.rec.now u.rec.now drum drum')
  later = record { script = script_later; out = onward.out_later; rec = onward.rec_later; drum = drum_later }

  -- the texts were closed
  pub caused_closed : (driven : Driven) (events : EventSource) (reads writes : ℕ) (last : Last) (status : Status) → last_after driven events reads writes ≡ Some last → status ≡ status_after driven
      → (driven ≡ Unread → Rose (of_script script) (of_script script')) → (driven ≡ Unpaged → Rose (of_drum drum) (of_drum drum'))
      → ((driven ≡ Unread → ⊥) → of_script script' ≡ of_script script)
      → IsCaused status (faults of_script of_out of_rec of_drum script script' w.out.now u.out.now w.rec.now u.rec.now drum drum')
  caused_closed driven events reads writes last status there is read paged sure = record {
    read = λ s. unread driven read (sym is ∙ s);
    write = λ s. written driven events reads writes last there (sym is ∙ s);
    drum = λ s. unpaged driven paged (sym is ∙ s);
    later = later;
    unfaulted = λ no_read no_write. sure (λ u. no_read (is ∙ ap status_after u));
  }

  -- the writing was given up, since a write had failed
  pub caused_given_up : (driven : Driven) (events : EventSource) (reads writes : ℕ) → last_after driven events reads writes ≡ None → w.faults ≡ 0 → (driven ≡ TakerFault → Rose w.faults v.faults) → v.faults ≤ u.faults
      → IsCaused WriteFault (faults of_script of_out of_rec of_drum script script' w.out.now u.out.now w.rec.now u.rec.now drum drum')
  caused_given_up driven events reads writes none zero cause more = record {
    read = λ s. absurd (cc s);
    write = λ s. onward.cause (let rose = given_up driven events reads writes none cause in omega (arith, zero, rose, more));
    drum = λ s. absurd (cc s);
    later = later;
    unfaulted = λ no_read no_write. absurd (no_write refl);
  }

  -- they could not be closed
  pub caused_unclosed : w.faults ≡ 0 → Rose v.faults u.faults → IsCaused WriteFault (faults of_script of_out of_rec of_drum script script' w.out.now u.out.now w.rec.now u.rec.now drum drum')
  caused_unclosed zero rose = record {
    read = λ s. absurd (cc s);
    write = λ s. onward.cause (omega (arith, zero, rose));
    drum = λ s. absurd (cc s);
    later = later;
    unfaulted = λ no_read no_write. absurd (no_write refl);
  }

module _ {T R : Type 0} (out_handed : T → Type 0) (rec_handed : R → Type 0) (of_out : T → ℕ) (of_rec : R → ℕ) (w v u : Writer T R) where
  -- the texts were closed
  pub handed_closed : (status : Status) → IsHandedOn out_handed rec_handed u → HandedOn out_handed rec_handed of_out of_rec w.out.now u.out.now w.rec.now u.rec.now status
  handed_closed status all = record { out_tried = inl all.out; rec_tried = inl all.rec; out_all = λ s. all.out; rec_all = λ s. all.rec }

  tried : {X : Type 0} (first before after : ℕ) → first ≤ before → X ⊎ Rose before after → X ⊎ Rose first after
  tried first before after later (inl x) = inl x
  tried first before after later (inr rose) = inr (rose_before first before after later rose)

  -- they could not be closed
  pub handed_unclosed : IsOnward of_out of_rec w v → HandsOn out_handed rec_handed of_out of_rec v u → HandedOn out_handed rec_handed of_out of_rec w.out.now u.out.now w.rec.now u.rec.now WriteFault
  handed_unclosed onward hands = record {
    out_tried = tried (of_out w.out.now) (of_out v.out.now) (of_out u.out.now) onward.out_later hands.out;
    rec_tried = tried (of_rec w.rec.now) (of_rec v.rec.now) (of_rec u.rec.now) onward.rec_later hands.rec;
    out_all = λ s. absurd (s refl);
    rec_all = λ s. absurd (s refl);
  }
