-- Steps that were given over what a drum told and tells, one part behind the other.
use Rattle.std.proofs.Common.{◌≡◌, ℕ, List, [], ◌++◌, Bool, Option, None, inl, append_assoc, refl, sym, ◌∙◌, ap, subst}
use Rattle.std.proofs.lemmas.List.{append-nil}
use Rattle.page_contracts.specs.DrumWords.{DrumWords}
use Rattle.page_waits.specs.Acts.{Quiet}
use Rattle.page_waits.specs.Systems.{SystemMeaning}
use Rattle.page_waits.specs.Waits.{ListsMeaning}
use Rattle.plain_model.specs.Run.{AreLegal, ShownFirst, items_of, state_after}
use Rattle.plain_model.proofs.Runs.{AreLegal-append, items_of-append, state_after-append}
use Rattle.script_texts.specs.Taker.{GoesOn}
use Rattle.script_texts.proofs.Takers.{goes_on_append}
use Rattle.script_texts.specs.declared.event.Event.{Event}
use Rattle.script_texts.specs.declared.event.Step.{Step}
use Rattle.paged_events.specs.Given.{Gives, Standing}
use Rattle.event_items.specs.Outcome.{CutOver, GaveBefore, judged_by}
use Rattle.event_items.proofs.Gave.{gave_append, gave_cut, gave_none}

module _ {S : Type 0} (means : SystemMeaning S) {D T : Type 0} (held : D → Option DrumWords) (stands cut : Standing T) (auto : Bool) where
  abbrev mark : Bool
  mark = judged_by means.store.flat auto

  pub over_none : (s : S) (drum : D) (out : T) → Gives means held stands cut auto s s drum drum out out []
  over_none s drum out = record { each = λ d st fits. (d, st, fits, gave_none stands mark out (means.plain s d)) }

  pub over_append : (s0 s1 s2 : S) (d0 d1 d2 : D) (o0 o1 o2 : T) (xs ys : List Step) → Gives means held stands cut auto s0 s1 d0 d1 o0 o1 xs → Gives means held stands cut auto s1 s2 d1 d2 o1 o2 ys
      → Gives means held stands cut auto s0 s2 d0 d2 o0 o2 (xs ++ ys)
  over_append s0 s1 s2 d0 d1 d2 o0 o1 o2 xs ys f g = record {
    each = λ d st fits.
        let x = f.each d st fits in
        let y = g.each x.0 x.1 x.2 in
        (y.0, y.1, y.2, gave_append stands mark o0 o1 o2 (means.plain s0 d) (means.plain s1 x.0) (means.plain s2 y.0) xs ys x.3 y.3);
  }

  -- the taker failed behind them
  pub over_cut : (s0 s1 : S) (d0 d1 : D) (o0 o1 o2 : T) (xs ys : List Step) → Gives means held stands cut auto s0 s1 d0 d1 o0 o1 xs → CutOver means.store.flat means.fits means.plain held stands cut s1 d1 o1 o2 auto ys
      → CutOver means.store.flat means.fits means.plain held stands cut s0 d0 o0 o2 auto (xs ++ ys)
  over_cut s0 s1 d0 d1 o0 o1 o2 xs ys f g = record {
    each = λ d st fits.
        let x = f.each d st fits in
        gave_cut stands cut mark o0 o1 o2 (means.plain s0 d) (means.plain s1 x.0) xs ys x.3 (g.each x.0 x.1 x.2);
  }

  -- the drum failed behind them
  pub over_before : (event : Event) (s0 s1 : S) (d0 d1 : D) (o0 o1 o2 : T) (xs ys : List Step) → Gives means held stands cut auto s0 s1 d0 d1 o0 o1 xs → GaveBefore means.store.flat means.fits means.plain held stands s1 d1 o1 o2 auto event ys
      → GaveBefore means.store.flat means.fits means.plain held stands s0 d0 o0 o2 auto event (xs ++ ys)
  over_before event s0 s1 d0 d1 o0 o1 o2 xs ys f g = record {
    each = λ d st fits.
        let x = f.each d st fits in
        let y = g.each x.0 x.1 x.2 in
        let old = means.plain s0 d in
        let mid = means.plain s1 x.0 in
        let same : mid ≡ state_after old xs = x.3.state in
        let legal : AreLegal mark (state_after old xs) ys = subst (λ s. AreLegal mark s ys) same y.legal in
        let later : state_after mid ys ≡ state_after old (xs ++ ys) = ap (λ s. state_after s ys) same ∙ sym (state_after-append old xs ys) in
        let items : items_of old xs ++ (items_of mid ys ++ y.shown) ≡ items_of old (xs ++ ys) ++ y.shown =
        ap (λ s. items_of old xs ++ (items_of s ys ++ y.shown)) same ∙ sym (append_assoc (items_of old xs) (items_of (state_after old xs) ys) y.shown) ∙ ap (λ is. is ++ y.shown) (sym (items_of-append old xs ys)) in
        record {
          shown = y.shown;
          legal = AreLegal-append mark old xs ys x.3.legal legal;
          first = subst (λ s. ShownFirst s event y.shown) later y.first;
          given = subst (λ is. GoesOn stands o0 o2 is (xs ++ ys)) items (goes_on_append stands o0 o1 o2 (items_of old xs) (items_of mid ys ++ y.shown) xs ys x.3.given y.given);
        };
  }

  -- and nothing was shown behind them
  pub so_far : (event : Event) (s0 s1 : S) (d0 d1 : D) (o0 o1 : T) (xs : List Step) → Gives means held stands cut auto s0 s1 d0 d1 o0 o1 xs → GaveBefore means.store.flat means.fits means.plain held stands s0 d0 o0 o1 auto event xs
  so_far event s0 s1 d0 d1 o0 o1 xs f = record {
    each = λ d st fits.
        let x = f.each d st fits in
        record {
          shown = [];
          legal = x.3.legal;
          first = inl refl;
          given = subst (λ is. GoesOn stands o0 o1 is xs) (sym (append-nil (items_of (means.plain s0 d) xs))) x.3.given;
        };
  }

  -- transfers ended behind them
  pub over_quiet : {L : Type 0} (lists : ListsMeaning L) (less : ℕ) (s0 s1 s2 : S) (l1 l2 : L) (d0 d1 d2 : D) (o0 o1 : T) (xs : List Step) → Gives means held stands cut auto s0 s1 d0 d1 o0 o1 xs → Quiet means lists held None None None less s1 s2 l1 l2 d1 d2
      → Gives means held stands cut auto s0 s2 d0 d2 o0 o1 xs
  over_quiet lists less s0 s1 s2 l1 l2 d0 d1 d2 o0 o1 xs f quiet = record {
    each = λ d st fits.
        let x = f.each d st fits in
        let q = quiet.each x.0 x.1 x.2 in
        (q.0, q.1, q.2.fits, record { legal = x.3.legal; state = q.2.plain ∙ x.3.state; given = x.3.given });
  }
