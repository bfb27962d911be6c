-- What was given goes on.
use Rattle.std.proofs.Common.{List, [], ◌++◌, Bool, refl, sym, ◌∙◌, ap, subst}
use Rattle.script_texts.specs.declared.event.Item.{Item}
use Rattle.script_texts.specs.declared.event.Step.{Step}
use Rattle.plain_model.specs.State.{PlainState}
use Rattle.plain_model.specs.Run.{state_after, items_of, AreLegal}
use Rattle.script_texts.specs.Taker.{GoesOn, IsCut}
use Rattle.event_items.specs.Outcome.{Gave, GaveCut}
use Rattle.plain_model.proofs.Runs.{state_after-append, items_of-append, AreLegal-append}
use Rattle.script_texts.proofs.Takers.{goes_on_nil, goes_on_append, cut_behind}

module _ {T : Type 0} (stands : T → T → List Item → List Step → Type 0) (auto : Bool) where
  -- no step yet
  pub gave_none : (t : T) (s : PlainState) → Gave stands t t auto s s []
  gave_none t s = record { legal = tt; state = refl; given = goes_on_nil stands t }

  -- steps after steps
  pub gave_append : (a b c : T) (old mid new : PlainState) (ss ts : List Step) → Gave stands a b auto old mid ss → Gave stands b c auto mid new ts → Gave stands a c auto old new (ss ++ ts)
  gave_append a b c old mid new ss ts f g =
      let legal : AreLegal auto (state_after old ss) ts = subst (λ s. AreLegal auto s ts) f.state g.legal in
      let given : GoesOn stands b c (items_of (state_after old ss) ts) ts = subst (λ s. GoesOn stands b c (items_of s ts) ts) f.state g.given in
      record {
        legal = AreLegal-append auto old ss ts f.legal legal;
        state = g.state ∙ ap (λ s. state_after s ts) f.state ∙ sym (state_after-append old ss ts);
        given = subst (λ is. GoesOn stands a c is (ss ++ ts)) (sym (items_of-append old ss ts)) (goes_on_append stands a b c (items_of old ss) (items_of (state_after old ss) ts) ss ts f.given given);
      }

module _ {T : Type 0} (stands cut : T → T → List Item → List Step → Type 0) (auto : Bool) where
  -- a failure after steps
  pub gave_cut : (a b c : T) (old mid : PlainState) (ss ts : List Step) → Gave stands a b auto old mid ss → GaveCut stands cut b c auto mid ts → GaveCut stands cut a c auto old (ss ++ ts)
  gave_cut a b c old mid ss ts f g =
      let legal : AreLegal auto (state_after old ss) ts = subst (λ s. AreLegal auto s ts) f.state g.legal in
      let given : IsCut stands cut b c (items_of (state_after old ss) ts) ts = subst (λ s. IsCut stands cut b c (items_of s ts) ts) f.state g.given in
      record {
        legal = AreLegal-append auto old ss ts f.legal legal;
        given = subst (λ is. IsCut stands cut a c is (ss ++ ts)) (sym (items_of-append old ss ts)) (cut_behind stands cut a b c (items_of old ss) (items_of (state_after old ss) ts) ss ts f.given given);
      }
