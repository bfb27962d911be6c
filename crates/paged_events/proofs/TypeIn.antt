-- TYPE: the characters of a text, and the step behind them.
use Rattle.std.proofs.Common.{◌≡◌, ℕ, List, [], ◌∷◌, ◌++◌, Bool, true, false, Option, None, Some, is_some, inr, ◌-◌, drop, length, refl, sym, ◌∙◌, ap, subst, arith}
use Rattle.std.specs.FinMap as map
use Rattle.std.specs.Option.{option_map_or}
use Rattle.machine_names.specs.declared.names.Tty.{Tty}
use Rattle.page_contracts.specs.DrumWords.{DrumWords}
use Rattle.page_waits.specs.Systems.{SystemMeaning}
use Rattle.plain_model.specs.Run.{apply}
use Rattle.plain_model.specs.State.{PlainJob, PlainState}
use Rattle.plain_model.specs.TypeEvents.{typed_all}
use Rattle.plain_model.specs.Unit.{Effect, refused}
use Rattle.plain_model.proofs.Equations.{apply_outer, outer_type_in}
use Rattle.script_texts.specs.declared.event.Event.TheVariants.{TypeIn}
use Rattle.script_texts.specs.declared.event.Item.TheVariants.{Refusal}
use Rattle.script_texts.specs.declared.event.Refusal.TheVariants.{NoJob}
use Rattle.script_texts.specs.declared.event.Step.{Step}
use Rattle.script_texts.specs.declared.event.Step.TheVariants.{Outer}
use Rattle.script_texts.specs.Taker.{GoesOn, IsCut}
use Rattle.script_texts.proofs.Takers.{cut_behind, cut_longer, goes_on_append}
use Rattle.paged_events.specs.Given.{Gives, Standing}
use Rattle.event_items.specs.Outcome.{CutOver, GaveBefore}
use Rattle.paged_events.specs.Typing.{CutTyped, DidTyped, ShowedFirst}

-- all characters of a text
pub all_of : (text xs : List ℕ) (n : ℕ) → xs ≡ text → n ≡ length xs → drop (length xs - n) xs ≡ text
all_of text xs n same all = let none : length xs - n ≡ 0 = omega (arith, all) in ap (λ k. drop k xs) none ∙ same

pub whole_text : (s : PlainState) (t : Tty) (text xs : List ℕ) (n : ℕ) → xs ≡ text → n ≡ length xs → typed_all s t text ≡ typed_all s t (drop (length xs - n) xs)
whole_text s t text xs n same all = ap (typed_all s t) (sym (all_of text xs n same all))

module _ (t : Tty) (text : List ℕ) where
  abbrev own : List Step
  own = Outer (TypeIn t text) ∷ []

  job_none : (o : Option PlainJob) → is_some o ≡ false → o ≡ None
  job_none None e = refl
  job_none (Some j) e = absurd (cc e)

  -- with a job it is what the characters do
  types_all : (s : PlainState) → is_some (map.get s.jobs t.0) ≡ true → apply s (Outer (TypeIn t text)) ≡ typed_all s t text
  types_all s there = apply_outer s (TypeIn t text) ∙ outer_type_in s t text ∙ by (map.get s.jobs t.0) there
    where
      by : (o : Option PlainJob) → is_some o ≡ true → option_map_or (λ (j : PlainJob). typed_all s t text) o (refused s (NoJob t)) ≡ typed_all s t text
      by None e = absurd (cc e)
      by (Some j) e = refl

  -- without one it is refused
  types_nothing : (s : PlainState) → is_some (map.get s.jobs t.0) ≡ false → apply s (Outer (TypeIn t text)) ≡ refused s (NoJob t)
  types_nothing s none = apply_outer s (TypeIn t text) ∙ outer_type_in s t text ∙ ap (λ (o : Option PlainJob). option_map_or (λ j. typed_all s t text) o (refused s (NoJob t))) (job_none (map.get s.jobs t.0) none)

  module _ {S : Type 0} (means : SystemMeaning S) {D T : Type 0} (held : D → Option DrumWords) (stands cut : Standing T) (auto : Bool) (s : S) (drum : D) where
    -- whether its terminal has a job
    abbrev pub HasJob : Bool → Type 0
    HasJob b = (d : DrumWords) → means.fits s d → is_some (map.get (means.plain s d).jobs t.0) ≡ b

    pub refused_gave : (out out' : T) → HasJob false → GoesOn stands out out' (Refusal (NoJob t) ∷ []) own → Gives means held stands cut auto s s drum drum out out' own
    refused_gave out out' none given = record {
      each = λ d st fits.
          let is = types_nothing (means.plain s d) (none d fits) in (
            d,
            st,
            fits,
            record {
              legal = (tt, tt);
              state = sym (ap (λ (e : Effect). e.state) is);
              given = subst (λ (e : Effect). GoesOn stands out out' (e.items ++ []) own) (sym is) given;
            },
          );
    }

    pub refused_cut : (out out' : T) → HasJob false → IsCut stands cut out out' (Refusal (NoJob t) ∷ []) own → CutOver means.store.flat means.fits means.plain held stands cut s drum out out' auto own
    refused_cut out out' none given = record {
      each = λ d st fits.
          let is = types_nothing (means.plain s d) (none d fits) in
          record { legal = (tt, tt); given = subst (λ (e : Effect). IsCut stands cut out out' (e.items ++ []) own) (sym is) given };
    }

    module _ (there : HasJob true) where
      pub text_gave : (s' : S) (drum' : D) (out mid out' : T) → DidTyped means held stands cut (λ p. typed_all p t text) s s' drum drum' out mid → GoesOn stands mid out' [] own → Gives means held stands cut auto s s' drum drum' out out' own
      text_gave s' drum' out mid out' did last = record {
        each = λ d st fits.
            let x = did.each d st fits in
            let is = types_all (means.plain s d) (there d fits) in (
              x.0,
              x.1,
              x.2,
              record {
                legal = (tt, tt);
                state = x.3 ∙ sym (ap (λ (e : Effect). e.state) is);
                given = subst (λ (e : Effect). GoesOn stands out out' (e.items ++ []) own) (sym is) (goes_on_append stands out mid out' (typed_all (means.plain s d) t text).items [] [] own x.4 last);
              },
            );
      }

      pub text_cut : (out out' : T) → CutTyped means held stands cut (λ p. typed_all p t text) s drum out out' → CutOver means.store.flat means.fits means.plain held stands cut s drum out out' auto own
      text_cut out out' failed = record {
        each = λ d st fits.
            let is = types_all (means.plain s d) (there d fits) in
            record {
              legal = (tt, tt);
              given = subst (λ (e : Effect). IsCut stands cut out out' (e.items ++ []) own) (sym is) (cut_longer stands cut out out' (typed_all (means.plain s d) t text).items [] [] own (failed.each d st fits));
            };
      }

      pub last_cut : (s' : S) (drum' : D) (out mid out' : T) → DidTyped means held stands cut (λ p. typed_all p t text) s s' drum drum' out mid → IsCut stands cut mid out' [] own → CutOver means.store.flat means.fits means.plain held stands cut s drum out out' auto own
      last_cut s' drum' out mid out' did last = record {
        each = λ d st fits.
            let is = types_all (means.plain s d) (there d fits) in
            record {
              legal = (tt, tt);
              given = subst (λ (e : Effect). IsCut stands cut out out' (e.items ++ []) own) (sym is) (cut_behind stands cut out mid out' (typed_all (means.plain s d) t text).items [] [] own (did.each d st fits).4 last);
            };
      }

      pub text_before : (out out' : T) → ShowedFirst means held stands cut (λ p. typed_all p t text) s drum out out' → GaveBefore means.store.flat means.fits means.plain held stands s drum out out' auto (TypeIn t text) []
      text_before out out' failed = record {
        each = λ d st fits.
            let x = failed.each d st fits in
            let p = means.plain s d in
            let is = types_all p (there d fits) in
            record {
              shown = x.0;
              legal = tt;
              first = inr (t, text, x.1, refl, ap (λ (e : Effect). e.items) (sym (apply_outer p (TypeIn t text)) ∙ is) ∙ x.2);
              given = x.3;
            };
      }
