-- Events that are one deed, given.
use Rattle.std.proofs.Common.{◌≡◌, List, [], ◌∷◌, ◌++◌, Bool, Option, refl, sym, ◌∙◌, ap, subst}
use Rattle.std.proofs.lemmas.List.{append-nil}
use Rattle.event_deeds.specs.Deeds.{DeedEffect, deed, over}
use Rattle.event_deeds.specs.declared.deed.Deed.TheVariants.{Outer as ADeed}
use Rattle.page_contracts.specs.DrumWords.{DrumWords}
use Rattle.page_waits.specs.Acts.{DidOver, Spent}
use Rattle.page_waits.specs.Systems.{SystemMeaning}
use Rattle.page_waits.specs.Waits.{ListsMeaning}
use Rattle.event_deeds.specs.declared.answer.Answer.{Answer}
use Rattle.plain_model.specs.Events.{outer}
use Rattle.plain_model.specs.Run.{apply}
use Rattle.plain_model.specs.State.{PlainState}
use Rattle.plain_model.specs.Unit.{Effect}
use Rattle.plain_model.proofs.Equations.{apply_outer}
use Rattle.script_texts.specs.Taker.{GoesOn, IsCut}
use Rattle.script_texts.specs.declared.event.Event.{Event}
use Rattle.script_texts.specs.declared.event.Step.{Step}
use Rattle.script_texts.specs.declared.event.Step.TheVariants.{Outer}
use Rattle.paged_events.specs.Given.{Gives, Standing}
use Rattle.event_items.specs.Outcome.{CutOver}

outer_is : (s : PlainState) (e : Event) → deed s (ADeed e) ≡ over (outer s e)
unfolding deed
outer_is s e = refl

-- such a deed leaves and shows what the event does
pub deed_state : (s : PlainState) (e : Event) → (deed s (ADeed e)).state ≡ (apply s (Outer e)).state
deed_state s e = ap (λ (x : DeedEffect). x.state) (outer_is s e) ∙ sym (ap (λ (x : Effect). x.state) (apply_outer s e))

deed_items : (s : PlainState) (e : Event) → (deed s (ADeed e)).items ≡ (apply s (Outer e)).items ++ []
deed_items s e = ap (λ (x : DeedEffect). x.items) (outer_is s e) ∙ sym (ap (λ (x : Effect). x.items) (apply_outer s e)) ∙ sym (append-nil (apply s (Outer e)).items)

module _ {S L : Type 0} (means : SystemMeaning S) (lists : ListsMeaning L) {D T : Type 0} (held : D → Option DrumWords) (stands cut : Standing T) (auto : Bool) (e : Event) where
  pub deed_gave : (answer : Answer) (s s' : S) (drum drum' : D) (out out' : T) → DidOver means lists held (ADeed e) answer s s' drum drum'
      → ((d : DrumWords) → means.fits s' d → means.gives s' d answer.showing → GoesOn stands out out' (means.items (means.plain s' d) answer.showing) (Outer e ∷ [])) → Gives means held stands cut auto s s' drum drum' out out' (Outer e ∷ [])
  deed_gave answer s s' drum drum' out out' did given = record {
    each = λ d st fits.
        let y = did.each d st fits in (
          y.0,
          y.1,
          y.2.fits,
          record {
            legal = (tt, tt);
            state = y.2.plain ∙ deed_state (means.plain s d) e;
            given = subst (λ is. GoesOn stands out out' is (Outer e ∷ [])) (y.2.items ∙ deed_items (means.plain s d) e) (given y.0 y.2.fits y.2.gives);
          },
        );
  }

  pub deed_cut : (answer : Answer) (s s' : S) (drum drum' : D) (out out' : T) → DidOver means lists held (ADeed e) answer s s' drum drum'
      → ((d : DrumWords) → means.fits s' d → means.gives s' d answer.showing → IsCut stands cut out out' (means.items (means.plain s' d) answer.showing) (Outer e ∷ [])) → CutOver means.store.flat means.fits means.plain held stands cut s drum out out' auto (Outer e ∷ [])
  deed_cut answer s s' drum drum' out out' did given = record {
    each = λ d st fits.
        let y = did.each d st fits in
        record { legal = (tt, tt); given = subst (λ is. IsCut stands cut out out' is (Outer e ∷ [])) (y.2.items ∙ deed_items (means.plain s d) e) (given y.0 y.2.fits y.2.gives) };
  }

  -- where so many transfers have ended, which never is
  pub spent_gave : (s s' : S) (drum drum' : D) (out out' : T) (steps : List Step) → Spent means lists held s drum → Gives means held stands cut auto s s' drum drum' out out' steps
  spent_gave s s' drum drum' out out' steps spent = record { each = λ d st fits. absurd (spent.never d st fits) }

  pub spent_cut : (s : S) (drum : D) (out out' : T) (steps : List Step) → Spent means lists held s drum → CutOver means.store.flat means.fits means.plain held stands cut s drum out out' auto steps
  spent_cut s drum out out' steps spent = record { each = λ d st fits. absurd (spent.never d st fits) }
