-- What plans leave that need something first, one after another.
use Rattle.std.proofs.Common.{ℕ, refl, ◌∙◌, ap, subst, arith}
use Rattle.std.specs.Prelude.{IsSome}
use Rattle.page_contracts.specs.Stores.{StoreMeaning, KeepsFrame, StaysPlanned, StaysStored, traffic}

module _ {S : Type 0} (means : StoreMeaning S) where
  -- nothing was planned
  pub planned_still : (s : S) → StaysPlanned means s s
  planned_still s = record {
    homes = refl;
    frames = refl;
    spare = refl;
    members = refl;
    queued = record { queue = refl; untold = refl };
    holds = refl;
    ages = record { kept = λ frame there. record { tenant = refl; age = refl }; grows = omega arith };
  }

  -- one plan behind another
  pub planned_on : (s t u : S) → StaysPlanned means s t → StaysPlanned means t u → StaysPlanned means s u
  planned_on s t u first then = record {
    homes = then.homes ∙ first.homes;
    frames = then.frames ∙ first.frames;
    spare = then.spare ∙ first.spare;
    members = then.members ∙ first.members;
    queued = record { queue = then.queued.queue ∙ first.queued.queue; untold = then.queued.untold ∙ first.queued.untold };
    holds = then.holds ∙ first.holds;
    ages = record { kept = kept; grows = omega (arith, first.ages.grows, then.ages.grows) };
  }
    where
      kept : (frame : ℕ) → IsSome (means.tenant u frame) → KeepsFrame (traffic means s) (traffic means u) frame
      kept frame there =
          let last = then.ages.kept frame there in
          let before = first.ages.kept frame (subst IsSome last.tenant there) in
          record { tenant = last.tenant ∙ before.tenant; age = last.age ∙ before.age }

  -- where nothing that is stored has changed
  pub planned_stored : (s t : S) → StaysStored means s t → StaysPlanned means s t
  planned_stored s t same = record {
    homes = same.there.homes;
    frames = same.there.framed.frames;
    spare = same.there.framed.spare;
    members = same.there.framed.members;
    queued = same.queued;
    holds = same.holds;
    ages = record {
      kept = λ frame there. record { tenant = ap (λ (f : ℕ → _). f frame) same.there.framed.tenant; age = ap (λ (f : ℕ → ℕ). f frame) same.there.ages };
      grows = omega (arith, same.there.uses);
    };
  }
