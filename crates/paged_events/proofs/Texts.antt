-- What is typed and shown, one part behind the other.
use Rattle.std.proofs.Common.{◌≡◌, ℕ, zero, suc, ◌-◌, List, [], ◌∷◌, ◌++◌, Option, append_assoc, refl, sym, ◌∙◌, ap, subst, arith}
use Rattle.std.specs.Prelude.{Result, Ok, Err, OnOk}
use Rattle.std.specs.Option.{option_map_or}
use Rattle.event_deeds.specs.Deeds.{DeedEffect, deed, deeds}
use Rattle.event_deeds.specs.declared.deed.Deed.{Deed}
use Rattle.fork_lists.specs.declared.lists.ForkLists.{ForkLists}
use Rattle.machine_names.specs.declared.names.Tty.{Tty}
use Rattle.page_contracts.specs.DrumWords.{DrumWords}
use Rattle.page_waits.specs.Systems.{SystemMeaning}
use Rattle.plain_model.specs.State.{PlainState}
use Rattle.plain_model.specs.TypeEvents.{typed_all, typed_at}
use Rattle.plain_model.specs.Unit.{Effect}
use Rattle.script_texts.specs.Taker.{GoesOn, IsCut}
use Rattle.script_texts.proofs.Takers.{cut_behind, cut_longer, goes_on_append, goes_on_nil}
use Rattle.paged_events.specs.Calmly.{StaysInCore}
use Rattle.paged_events.specs.Given.{Standing}
use Rattle.paged_events.specs.Turns.{WhereTold}
use Rattle.paged_events.specs.Typing.{CutPart, CutTyped, DidPart, DidTyped, ShowedFirst, Typed}
use Rattle.paged_events.specs.declared.fault.Fault.{Fault}

-- one effect, and then another on what it leaves
abbrev pub joined : Effect → (PlainState → Effect) → Effect
joined e g = record { state = (g e.state).state; items = e.items ++ (g e.state).items }

-- the deeds behind one
abbrev pub behind : ℕ → Option Deed → PlainState → Effect
behind n next s = option_map_or (deeds n s) next (record { state = s; items = [] })

abbrev pub effect_of : DeedEffect → Effect
effect_of e = record { state = e.state; items = e.items }

pub deeds_are : (n : ℕ) (s : PlainState) (d : Deed) → deeds (suc n) s d ≡ joined (effect_of (deed s d)) (behind n (deed s d).next)
unfolding deeds
deeds_are n s d = refl

pub typed_more : (s : PlainState) (t : Tty) (c : ℕ) (cs : List ℕ) → typed_all s t (c ∷ cs) ≡ joined (typed_at s t c) (λ u. typed_all u t cs)
unfolding typed_all
typed_more s t c cs = refl

pub typed_none : (s : PlainState) (t : Tty) → typed_all s t [] ≡ record { state = s; items = [] }
unfolding typed_all
typed_none s t = refl

pub deeds_none : (s : PlainState) (d : Deed) → deeds zero s d ≡ record { state = s; items = [] }
unfolding deeds
deeds_none s d = refl

module _ {S : Type 0} (means : SystemMeaning S) {D T : Type 0} (held : D → Option DrumWords) (stands cut : Standing T) where
  -- nothing is typed
  pub did_none : (f : PlainState → Effect) (s : S) (drum : D) (out : T) → WhereTold means held s drum (λ p. f p ≡ record { state = p; items = [] }) → DidTyped means held stands cut f s s drum drum out out
  did_none f s drum out none = record {
    each = λ words st fits.
        let is = none words st fits in
        (words, st, fits, sym (ap (λ (e : Effect). e.state) is), subst (λ (e : Effect). GoesOn stands out out e.items []) (sym is) (goes_on_nil stands out));
  }

  -- the same under another name
  pub did_same : (f h : PlainState → Effect) (s s' : S) (drum drum' : D) (out out' : T) → WhereTold means held s drum (λ p. h p ≡ f p) → DidTyped means held stands cut f s s' drum drum' out out' → DidTyped means held stands cut h s s' drum drum' out out'
  did_same f h s s' drum drum' out out' same did = record {
    each = λ words st fits.
        let x = did.each words st fits in
        let is = same words st fits in
        (x.0, x.1, x.2, x.3 ∙ sym (ap (λ (e : Effect). e.state) is), subst (λ (e : Effect). GoesOn stands out out' e.items []) (sym is) x.4);
  }

  pub did_then : (f g h : PlainState → Effect) (s0 s1 s2 : S) (d0 d1 d2 : D) (o0 o1 o2 : T) → WhereTold means held s0 d0 (λ p. h p ≡ joined (f p) g) → DidTyped means held stands cut f s0 s1 d0 d1 o0 o1 → DidTyped means held stands cut g s1 s2 d1 d2 o1 o2
      → DidTyped means held stands cut h s0 s2 d0 d2 o0 o2
  did_then f g h s0 s1 s2 d0 d1 d2 o0 o1 o2 same first second = record {
    each = λ words st fits.
        let x = first.each words st fits in
        let y = second.each x.0 x.1 x.2 in
        let p = means.plain s0 words in
        let is : h p ≡ joined (f p) g = same words st fits in (
          y.0,
          y.1,
          y.2,
          y.3 ∙ ap (λ u. (g u).state) x.3 ∙ sym (ap (λ (e : Effect). e.state) is),
          subst (λ (e : Effect). GoesOn stands o0 o2 e.items []) (sym is)
              (goes_on_append stands o0 o1 o2 (f p).items (g (f p).state).items [] [] x.4 (subst (λ u. GoesOn stands o1 o2 (g u).items []) x.3 y.4)),
        );
  }

  pub first_then : (f g h : PlainState → Effect) (s0 s1 : S) (d0 d1 : D) (o0 o1 o2 : T) → WhereTold means held s0 d0 (λ p. h p ≡ joined (f p) g) → DidTyped means held stands cut f s0 s1 d0 d1 o0 o1 → ShowedFirst means held stands cut g s1 d1 o1 o2
      → ShowedFirst means held stands cut h s0 d0 o0 o2
  first_then f g h s0 s1 d0 d1 o0 o1 o2 same first second = record {
    each = λ words st fits.
        let x = first.each words st fits in
        let y = second.each x.0 x.1 x.2 in
        let p = means.plain s0 words in
        let is : h p ≡ joined (f p) g = same words st fits in (
          (f p).items ++ y.0,
          y.1,
          ap (λ (e : Effect). e.items) is ∙ ap (λ u. (f p).items ++ (g u).items) (sym x.3) ∙ ap (λ is'. (f p).items ++ is') y.2 ∙ sym (append_assoc (f p).items y.0 y.1),
          goes_on_append stands o0 o1 o2 (f p).items y.0 [] [] x.4 y.3,
        );
  }

  pub cut_then : (f g h : PlainState → Effect) (s0 s1 : S) (d0 d1 : D) (o0 o1 o2 : T) → WhereTold means held s0 d0 (λ p. h p ≡ joined (f p) g) → DidTyped means held stands cut f s0 s1 d0 d1 o0 o1 → CutTyped means held stands cut g s1 d1 o1 o2
      → CutTyped means held stands cut h s0 d0 o0 o2
  cut_then f g h s0 s1 d0 d1 o0 o1 o2 same first second = record {
    each = λ words st fits.
        let x = first.each words st fits in
        let p = means.plain s0 words in
        subst (λ (e : Effect). IsCut stands cut o0 o2 e.items []) (sym (same words st fits))
        (cut_behind stands cut o0 o1 o2 (f p).items (g (f p).state).items [] [] x.4 (subst (λ u. IsCut stands cut o1 o2 (g u).items []) x.3 (second.each x.0 x.1 x.2)));
  }

  -- what failed within the first part failed within both
  pub first_part : (f h : PlainState → Effect) (s : S) (drum : D) (out out' : T) → WhereTold means held s drum (λ p. (g : PlainState → Effect) × (h p ≡ joined (f p) g)) → ShowedFirst means held stands cut f s drum out out' → ShowedFirst means held stands cut h s drum out out'
  first_part f h s drum out out' same failed = record {
    each = λ words st fits.
        let x = failed.each words st fits in
        let is = same words st fits in
        let p = means.plain s words in
        (x.0, x.1 ++ (is.0 (f p).state).items, ap (λ (e : Effect). e.items) is.1 ∙ ap (λ items. items ++ (is.0 (f p).state).items) x.2 ∙ append_assoc x.0 x.1 (is.0 (f p).state).items, x.3);
  }

  pub cut_part : (f h : PlainState → Effect) (s : S) (drum : D) (out out' : T) → WhereTold means held s drum (λ p. (g : PlainState → Effect) × (h p ≡ joined (f p) g)) → CutTyped means held stands cut f s drum out out' → CutTyped means held stands cut h s drum out out'
  cut_part f h s drum out out' same failed = record {
    each = λ words st fits.
        let is = same words st fits in
        let p = means.plain s words in
        subst (λ (e : Effect). IsCut stands cut out out' e.items []) (sym is.1) (cut_longer stands cut out out' (f p).items (is.0 (f p).state).items [] [] (failed.each words st fits));
  }

  -- nothing was shown yet
  pub first_none : (f : PlainState → Effect) (s : S) (drum : D) (out : T) → ShowedFirst means held stands cut f s drum out out
  first_none f s drum out = record { each = λ words st fits. ([], (f (means.plain s words)).items, refl, goes_on_nil stands out) }

  -- what comes behind what was typed
  pub typed_behind : {X : Type 0} (r : Result X Fault) (f g h : PlainState → Effect) (s0 s1 s2 : S) (d0 d1 d2 : D) (o0 o1 o2 : T) → WhereTold means held s0 d0 (λ p. h p ≡ joined (f p) g) → DidTyped means held stands cut f s0 s1 d0 d1 o0 o1
      → Typed means held stands cut g r s1 s2 d1 d2 o1 o2 → Typed means held stands cut h r s0 s2 d0 d2 o0 o2
  typed_behind r f g h s0 s1 s2 d0 d1 d2 o0 o1 o2 same first second = record {
    ok = all r second.ok;
    stopped = λ is. first_then f g h s0 s1 d0 d1 o0 o1 o2 same first (second.stopped is);
    cutoff = λ is. cut_then f g h s0 s1 d0 d1 o0 o1 o2 same first (second.cutoff is);
  }
    where
      all : {X : Type 0} (r : Result X Fault) → OnOk r (DidTyped means held stands cut g s1 s2 d1 d2 o1 o2) → OnOk r (DidTyped means held stands cut h s0 s2 d0 d2 o0 o2)
      all (Ok x) did = did_then f g h s0 s1 s2 d0 d1 d2 o0 o1 o2 same first did
      all (Err e) did = tt

  -- the same under another name, whatever came of it
  pub typed_same : {X : Type 0} (r : Result X Fault) (f h : PlainState → Effect) (s s' : S) (drum drum' : D) (out out' : T) → WhereTold means held s drum (λ p. h p ≡ f p) → Typed means held stands cut f r s s' drum drum' out out' → Typed means held stands cut h r s s' drum drum' out out'
  typed_same r f h s s' drum drum' out out' same typed = record {
    ok = all r typed.ok;
    stopped = λ is. record {
      each = λ words st fits. let x = (typed.stopped is).each words st fits in (x.0, x.1, ap (λ (e : Effect). e.items) (same words st fits) ∙ x.2, x.3);
    };
    cutoff = λ is. record { each = λ words st fits. subst (λ (e : Effect). IsCut stands cut out out' e.items []) (sym (same words st fits)) ((typed.cutoff is).each words st fits) };
  }
    where
      all : {X : Type 0} (r : Result X Fault) → OnOk r (DidTyped means held stands cut f s s' drum drum' out out') → OnOk r (DidTyped means held stands cut h s s' drum drum' out out')
      all (Ok x) did = did_same f h s s' drum drum' out out' same did
      all (Err e) did = tt

  -- nothing failed
  pub typed_well : {X : Type 0} (x : X) (f : PlainState → Effect) (s s' : S) (drum drum' : D) (out out' : T) → DidTyped means held stands cut f s s' drum drum' out out' → Typed means held stands cut f (Ok x) s s' drum drum' out out'
  typed_well x f s s' drum drum' out out' did = record { ok = did; stopped = λ is. absurd (cc is); cutoff = λ is. absurd (cc is) }

  -- all stays in core behind what was typed
  pub core_then : (f : PlainState → Effect) (s0 s1 s2 : S) (l0 l1 l2 : ForkLists) (d0 d1 : D) (o0 o1 : T) → DidTyped means held stands cut f s0 s1 d0 d1 o0 o1 → StaysInCore means held s0 s1 l0 l1 d0 → StaysInCore means held s1 s2 l1 l2 d1
      → StaysInCore means held s0 s2 l0 l2 d0
  core_then f s0 s1 s2 l0 l1 l2 d0 d1 o0 o1 did first second frames d st fits core = let x = did.each d st fits in second frames x.0 x.1 x.2 (first frames d st fits core)

  -- a part of a character, as what was done and shown
  pub part_did : (d : Deed) (next : Option Deed) (s s' : S) (drum drum' : D) (out out' : T) → DidPart means held stands cut d next s s' drum drum' out out' → DidTyped means held stands cut (λ p. effect_of (deed p d)) s s' drum drum' out out'
  part_did d next s s' drum drum' out out' part = record { each = λ words st fits. let x = part.each words st fits in (x.0, x.1, x.2, x.3, x.4) }

  pub part_cut : (d : Deed) (s : S) (drum : D) (out out' : T) → CutPart means held stands cut d s drum out out' → CutTyped means held stands cut (λ p. effect_of (deed p d)) s drum out out'
  part_cut d s drum out out' part = record { each = part.each }

  -- the deeds from one on are that one and those behind it
  module _ (d : Deed) (left : ℕ) (some : left ≡ 0 → ⊥) where
    one_more : left ≡ suc (left - 1)
    one_more = omega (arith, some)

    pub deeds_so : (s : S) (drum : D) → WhereTold means held s drum (λ p. (g : PlainState → Effect) × (deeds left p d ≡ joined (effect_of (deed p d)) g))
    deeds_so s drum words st fits = let p = means.plain s words in (behind (left - 1) (deed p d).next, ap (λ n. deeds n p d) one_more ∙ deeds_are (left - 1) p d)

    pub part_so : (next : Option Deed) (s s' : S) (drum drum' : D) (out out' : T) → DidPart means held stands cut d next s s' drum drum' out out' → WhereTold means held s drum (λ p. deeds left p d ≡ joined (effect_of (deed p d)) (behind (left - 1) next))
    part_so next s s' drum drum' out out' part words st fits =
        let p = means.plain s words in
        ap (λ n. deeds n p d) one_more ∙ deeds_are (left - 1) p d ∙ ap (λ o. joined (effect_of (deed p d)) (behind (left - 1) o)) (sym (part.each words st fits).5)
