-- Idle entries, where no fork can run.
use Rattle.std.proofs.Common.{◌≡◌, ℕ, zero, suc, ◌++◌, [], true, refl, sym, ◌∙◌, ap, subst, replicate}
use Rattle.script_texts.specs.declared.event.Step.TheVariants.{Idle}
use Rattle.plain_model.specs.Run.{state_after, items_of, AreLegal, IsLegalStep}
use Rattle.plain_model.specs.State.{PlainState}
use Rattle.plain_model.specs.Unit.{Effect}
use Rattle.plain_model.proofs.Equations.{apply_idle}

-- they leave a state, and show nothing
pub record Idles (s : PlainState) (n : ℕ) : Type 0 where
  pub state : state_after s (replicate n Idle) ≡ s
  pub items : items_of s (replicate n Idle) ≡ []
  pub legal : AreLegal true s (replicate n Idle)

pub all_idle : (s : PlainState) (n : ℕ) → IsLegalStep true s Idle → Idles s n
all_idle s zero none = record { state = refl; items = refl; legal = tt }
all_idle s (suc n) none =
    let rest = all_idle s n none in
    let one = apply_idle s in
    record {
      state = ap (λ (e : Effect). state_after e.state (replicate n Idle)) one ∙ rest.state;
      items = ap (λ (e : Effect). e.items ++ items_of e.state (replicate n Idle)) one ∙ rest.items;
      legal = (none, subst (λ (e : Effect). AreLegal true e.state (replicate n Idle)) (sym one) rest.legal);
    }
