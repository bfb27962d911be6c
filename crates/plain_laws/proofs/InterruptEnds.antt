-- How the turn of a call on pseudo-interrupts ends: whom its change names, and what its readings make of the pages.
use Rattle.std.proofs.Common.{◌≡◌, ℕ, ◌||◌, Bool, true, false, cond, None, Result, Ok, Err, refl, sym, ◌∙◌, ap, Ordering}
use Rattle.std.specs.Prelude.{◌==◌, nat_le}
use Rattle.std.specs.FinMap as map
use Rattle.std.proofs.lemmas.Bool.{cond_both}
use Rattle.word36.specs.Words.{left, right}
use Rattle.machine_names.specs.Orders.{same_fork}
use Rattle.machine_names.specs.declared.names.ForkName.{ForkName}
use Rattle.plain_units.specs.declared.channel.TheConstants.{ILLEGAL_INSTRUCTION}
use Rattle.plain_units.specs.Blocks.{steps_on}
use Rattle.plain_units.specs.Deeds.{in_ac}
use Rattle.plain_units.specs.Steps.{Planned, Steps, call, done, stopped}
use Rattle.plain_units.proofs.Lookups.{looked_up}
use Rattle.plain_units.proofs.PageRuns.{PlanLeaves}
use Rattle.plain_pages.specs.PlainPages.{PlainPages}
use Rattle.plain_model.specs.declared.call.End.{End}
use Rattle.plain_model.specs.declared.call.End.TheVariants.{Done, Refused, Trap}
use Rattle.plain_model.specs.declared.call.InterruptChange.{InterruptChange}
use Rattle.plain_model.specs.declared.call.InterruptChange.TheVariants.{Become, Post, Assign, Unassign}
use Rattle.plain_model.specs.declared.call.TheConstants.{SIR, EIR, DIR, AIC, DIC, IIC, DEBRK, ATI, DTI, BAD_CODE, NO_INFERIOR}
use Rattle.plain_model.specs.declared.fork.Body.{Body}
use Rattle.plain_model.specs.declared.fork.Fork.{Fork}
use Rattle.plain_model.specs.declared.interrupt.TheConstants.{CHANNELS}
use Rattle.plain_model.specs.Calls.{Asked, and_then, ends, given, no_files, numbered, returning, turn_on, Turn}
use Rattle.plain_model.specs.ForkCalls.{fork_named, if_inferior, own_named}
use Rattle.plain_model.specs.Inferiors.{is_inferior}
use Rattle.plain_model.specs.InterruptCalls.{ati, becoming, debrk, dismissed, dismissed_if, dti, interrupt_calls, is_bad_code, level_to_end, posting, restored, without_level, word_stored}
use Rattle.plain_model.proofs.ForkMaps.{AreOwn, names_same}
use Rattle.plain_model.proofs.JfnEnds.{reading_comes}
use Rattle.plain_model.proofs.Turns.{Comes, KeepsEnd}
use Rattle.plain_laws.proofs.OtherJobs.{inferior_job}

-- a change is one of forks of the caller's job, and of codes of that job, which are assigned to the caller
abbrev pub ChangesOwn : Asked → InterruptChange → Type 0
ChangesOwn a (Become f body) = f.tty.0 ≡ a.who.tty.0
ChangesOwn a (Post f word) = f.tty.0 ≡ a.who.tty.0
ChangesOwn a (Assign code f channel) = f ≡ a.who
ChangesOwn a (Unassign t code) = t ≡ a.who.tty

module _ (a : Asked) (own : AreOwn a.tree.forks) where
  -- the caller, or an inferior of it, is of the job
  pub own_job : (f : Fork) → own_named a ≡ Ok f → f.name.tty.0 ≡ a.who.tty.0
  unfolding own_named
  own_job f is = by (fork_named a) is
    where
      below : (k : Fork) (b : Bool) → is_inferior a.tree.forks a.who k.name ≡ b → cond b (Ok k) (Err NO_INFERIOR) ≡ Ok f → f.name.tty.0 ≡ a.who.tty.0
      below k true so e = let same : k ≡ f = cc e in ap (λ (x : Fork). x.name.tty.0) (sym same) ∙ inferior_job a.tree.forks own a.who k.name so
      below k false so e = absurd (cc e)

      self : (k : Fork) (b : Bool) → same_fork k.name a.who ≡ b → cond b (Ok k) (if_inferior a k) ≡ Ok f → f.name.tty.0 ≡ a.who.tty.0
      self k true so e = let same : k ≡ f = cc e in ap (λ (x : Fork). x.name.tty.0) (sym same) ∙ ap (λ (n : ForkName). n.tty.0) (names_same k.name a.who so)
      self k false so e = below k (is_inferior a.tree.forks a.who k.name) refl e

      by : (r : Result Fork ℕ) → and_then r (λ f. cond (same_fork f.name a.who) (Ok f) (if_inferior a f)) ≡ Ok f → f.name.tty.0 ≡ a.who.tty.0
      by (Err code) e = absurd (cc e)
      by (Ok k) e = self k (same_fork k.name a.who) refl e

module _ {K : Type 0} {file_cmp : K → K → Ordering} (a : Asked) (own : AreOwn a.tree.forks) (After : PlainPages file_cmp → Type 0) where
  -- where such a change is made, the pages are such
  abbrev pub EndsOwn : End InterruptChange → PlainPages file_cmp → Type 0
  EndsOwn e q = KeepsEnd (ChangesOwn a) e × After q

  module _ (runs : (q : PlainPages file_cmp) → After q → (steps : Steps) → PlanLeaves After a.who (steps_on a.who a.regs steps q)) (p : PlainPages file_cmp) (after : After p) where
    abbrev Ends : PlainPages file_cmp → (Turn ⊥ InterruptChange) → Type 0
    Ends q t = Comes no_files q EndsOwn t

    over : (q : PlainPages file_cmp) → After q → (e : End InterruptChange) → KeepsEnd (ChangesOwn a) e → Ends q (ends e)
    unfolding turn_on
    over q h e fits = (fits, h)

    own_ends : (next : Fork → End InterruptChange) → ((f : Fork) → own_named a ≡ Ok f → KeepsEnd (ChangesOwn a) (next f)) → Ends p (given (own_named a) (λ f. ends (next f)))
    own_ends next fits = by (own_named a) refl
      where
        by : (r : Result Fork ℕ) → own_named a ≡ r → Ends p (given r (λ f. ends (next f)))
        by (Err code) is = over p after (Refused code) tt
        by (Ok f) is = over p after (next f) (fits f is)

    becoming_ends : (change : Body → Body) → Ends p (becoming a change)
    becoming_ends change = own_ends (λ f. returning (Become f.name (change f.body)) a.regs) (λ f is. own_job a own f is)

    iic_ends : Ends p (numbered interrupt_calls IIC a)
    iic_ends = own_ends (λ f. returning (posting a f) a.regs) (λ f is. cond_both (same_fork f.name a.who) _ _ (ChangesOwn a) (λ self. own_job a own f is) (λ other. own_job a own f is))

    debrk_ends : Ends p (debrk a)
    debrk_ends = looked_up (Ends p) (dismissed_if a) _ (map.get a.tree.forks a.who) (λ f there. looked_up (Ends p) (λ (at : ℕ × ℕ). dismissed a f at.0 at.1) _ (level_to_end f) (λ at is.
        reading_comes no_files EndsOwn After a.who a.regs runs (λ q channel h. (tt, h)) (λ w. ends (Done (Become f.name (without_level f.body at.1)) (restored a.regs w) None None))
        (λ q w h. over q h (Done (Become f.name (without_level f.body at.1)) (restored a.regs w) None None) (ap (λ (n : ForkName). n.tty.0) (own a.who f there))) (word_stored a.regs at.0 at.1) p after)
        (λ none. over p after (Trap ILLEGAL_INSTRUCTION) tt)) (λ none. over p after (Trap ILLEGAL_INSTRUCTION) tt)

    ati_ends : Ends p (ati a)
    ati_ends = cond_both (is_bad_code (left (in_ac a.regs 1)) || nat_le CHANNELS (right (in_ac a.regs 1))) (Err BAD_CODE) (Ok (Assign (left (in_ac a.regs 1)) a.who (right (in_ac a.regs 1)))) (λ r. Ends p (given r (λ change. ends (returning change a.regs))))
        (λ bad. over p after (Refused BAD_CODE) tt) (λ good. over p after (returning (Assign (left (in_ac a.regs 1)) a.who (right (in_ac a.regs 1))) a.regs) refl)

    dti_ends : Ends p (dti a)
    dti_ends = cond_both (is_bad_code (in_ac a.regs 1)) (Err BAD_CODE) (Ok (Unassign a.who.tty (in_ac a.regs 1))) (λ r. Ends p (given r (λ change. ends (returning change a.regs))))
        (λ bad. over p after (Refused BAD_CODE) tt) (λ good. over p after (returning (Unassign a.who.tty (in_ac a.regs 1)) a.regs) refl)

    -- THE TURN OF A CALL ON PSEUDO-INTERRUPTS
    pub interrupt_ends : (number : ℕ) → Ends p (numbered interrupt_calls number a)
    interrupt_ends number =
        cond_both (SIR == number) _ _ (Ends p) (λ is. becoming_ends _) (λ n1.
        cond_both (EIR == number) _ _ (Ends p) (λ is. becoming_ends _) (λ n2.
        cond_both (DIR == number) _ _ (Ends p) (λ is. becoming_ends _) (λ n3.
        cond_both (AIC == number) _ _ (Ends p) (λ is. becoming_ends _) (λ n4.
        cond_both (IIC == number) _ _ (Ends p) (λ is. iic_ends) (λ n5.
        cond_both (DIC == number) _ _ (Ends p) (λ is. becoming_ends _) (λ n6.
        cond_both (DEBRK == number) _ _ (Ends p) (λ is. debrk_ends) (λ n7.
        cond_both (ATI == number) _ _ (Ends p) (λ is. ati_ends) (λ n8.
        cond_both (DTI == number) _ _ (Ends p) (λ is. dti_ends) (λ n9. over p after (Trap ILLEGAL_INSTRUCTION) tt)))))))))

-- whatever the pages are, a change is such
module _ {K : Type 0} {file_cmp : K → K → Ordering} (a : Asked) (own : AreOwn a.tree.forks) (p : PlainPages file_cmp) where
  anyhow : (r : Planned file_cmp ⊥) → PlanLeaves (λ q. Unit {0}) a.who r
  anyhow (done t e) = tt
  anyhow (stopped why) = tt
  anyhow (call number) = tt

  pub interrupt_names : (number : ℕ) → KeepsEnd (ChangesOwn a) (turn_on no_files p (numbered interrupt_calls number a)).end
  interrupt_names number = let both = interrupt_ends a own (λ q. Unit {0}) (λ q h steps. anyhow (steps_on a.who a.regs steps q)) p tt number in both.0
