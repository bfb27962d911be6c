-- Equal entries that are played, some behind others.
use Rattle.std.proofs.Common.{◌≡◌, ℕ, ◌+◌, ◌-◌, ◌≤◌, ◌<◌, List, [], ◌++◌, replicate, refl, sym, ◌∙◌, ap, subst, arith}
use Rattle.std.specs.Prelude.{Result, Ok, Err, OnErr}
use Rattle.std.proofs.lemmas.List.{replicate-append-replicate}
use Rattle.outside.specs.Faults.{Rose}
use Rattle.script_texts.specs.declared.event.Step.{Step}
use Rattle.event_items.specs.Giving.{Standing}
use Rattle.record_player.specs.declared.halt.Halt.{Halt}
use Rattle.record_player.specs.declared.halt.Halt.TheVariants.{Illegal, Fault}
use Rattle.record_player.specs.declared.stage.Stage.{Stage}
use Rattle.record_player.specs.Stages.{CutIn, Gives, Halts}
use Rattle.record_player.proofs.Gone.{cut_append, gives_append}

module _ {P T : Type 0} {b : _} (fault_count : T → ℕ) (stands cut : Standing T) (step : Step) where
  -- so many, and more
  pub more_given : (m mid m' : Stage P b) (out between out' : T) (k n total : ℕ) → k + n ≡ total → Gives stands m mid out between (replicate k step) → Gives stands mid m' between out' (replicate n step) → Gives stands m m' out out' (replicate total step)
  more_given m mid m' out between out' k n total is first second =
      subst (Gives stands m m' out out') (replicate-append-replicate k n step ∙ ap (λ i. replicate i step) is) (gives_append stands m mid m' out between out' (replicate k step) (replicate n step) first second)

  more_cut : (m mid : Stage P b) (out between out' : T) (k n : ℕ) → Gives stands m mid out between (replicate k step) → CutIn stands cut mid between out' (replicate n step) → CutIn stands cut m out out' (replicate (k + n) step)
  more_cut m mid out between out' k n first second =
      subst (CutIn stands cut m out out') (replicate-append-replicate k n step) (cut_append stands cut m mid out between out' (replicate k step) (replicate n step) first second)

  -- so many, and a halt
  pub more_halts : (m mid m' : Stage P b) (out between out' : T) (k left total : ℕ) → k + left ≡ total → fault_count out ≤ fault_count between → Gives stands m mid out between (replicate k step) → (why : Halt) → Halts fault_count stands cut mid m' between out' step left why
      → Halts fault_count stands cut m m' out out' step total why
  more_halts m mid m' out between out' k left total is later first Illegal halts = record {
    played = k + halts.played;
    fewer = omega (arith, halts.fewer, is);
    gives = more_given m mid m' out between out' k halts.played (k + halts.played) refl first halts.gives;
    broken = halts.broken;
  }
  more_halts m mid m' out between out' k left total is later first Fault halts = record {
    rose = omega (arith, halts.rose, later);
    played = k + halts.played;
    few = omega (arith, halts.few, is);
    cut_in = more_cut m mid out between out' k halts.played first halts.cut_in;
  }
