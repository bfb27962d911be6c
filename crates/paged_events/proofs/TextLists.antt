-- The lists behind what is typed: the deeds of a character, and the characters of a text.
use Rattle.std.proofs.Common.{◌≡◌, ℕ, suc, ◌+◌, ◌-◌, ◌<◌, ◌≤◌, List, [], ◌∷◌, false, Option, None, Some, is_some, drop, get_or, length, refl, sym, ap, subst, arith}
use Rattle.std.proofs.lemmas.List.{drop_more}
use Rattle.std.specs.FinMap as map
use Rattle.std.specs.Option.{option_map_or}
use Rattle.std.specs.Prelude.{MatchOption}
use Rattle.event_deeds.specs.Deeds.{DeedEffect, deed, most_deeds}
use Rattle.event_deeds.specs.declared.deed.Deed.{Deed}
use Rattle.event_deeds.specs.declared.deed.Deed.TheVariants.{Typed}
use Rattle.job_sched.specs.Schedules.{Schedule}
use Rattle.machine_names.specs.declared.names.Tty.{Tty}
use Rattle.page_contracts.specs.DrumWords.{DrumWords}
use Rattle.page_waits.proofs.Silence.{silent_nil}
use Rattle.page_waits.specs.Systems.{SystemMeaning}
use Rattle.page_waits.specs.Told.{TookDeed}
use Rattle.plain_model.specs.State.{PlainJob, PlainState}
use Rattle.plain_model.specs.TypeEvents.{typed_at}
use Rattle.plain_model.specs.Unit.{Effect}
use Rattle.paged_events.specs.Given.{Standing}
use Rattle.paged_events.specs.Turns.{TookDeeds, TookText, WhereTold}
use Rattle.paged_events.specs.Typing.{DidPart, DidTyped}
use Rattle.paged_events.proofs.Entries.{deed_between}
use Rattle.paged_events.proofs.NoMoves.{nothing_took}

-- ---- where the terminal has no job nothing moves

without_job : {E : Type 0} (act : PlainJob → E) (o : Option PlainJob) (e : E) → is_some o ≡ false → option_map_or act o e ≡ e
without_job act None e none = refl
without_job act (Some j) e none = absurd (cc none)

idle_deed : (s : PlainState) (t : Tty) (c : ℕ) → is_some (map.get s.jobs t.0) ≡ false → deed s (Typed t c) ≡ record { state = s; items = []; next = None }
unfolding deed
idle_deed s t c none = without_job _ (map.get s.jobs t.0) _ none

idle_typed : (s : PlainState) (t : Tty) (c : ℕ) → is_some (map.get s.jobs t.0) ≡ false → typed_at s t c ≡ record { state = s; items = [] }
idle_typed s t c none = without_job _ (map.get s.jobs t.0) _ none

pub nothing_typed : (s : PlainState) (t : Tty) (text : List ℕ) (l : Schedule) → is_some (map.get s.jobs t.0) ≡ false → TookText s t text l l
nothing_typed s t [] l none = refl
nothing_typed s t (c ∷ cs) l none = (
  l,
  (
    l,
    subst (λ (e : DeedEffect). TookDeed s.forks e.state.forks l l) (sym (idle_deed s t c none)) (nothing_took s.forks s.forks l l refl (silent_nil l)),
    subst (λ (e : DeedEffect). MatchOption e.next (l ≡ l) (λ next. TookDeeds (most_deeds - 1) e.state next l l)) (sym (idle_deed s t c none)) refl,
  ),
  subst (λ (e : Effect). TookText e.state t cs l l) (sym (idle_typed s t c none)) (nothing_typed s t cs l none),
)

-- ---- one part behind the other

module _ {S : Type 0} (means : SystemMeaning S) {D T : Type 0} (held : D → Option DrumWords) (stands cut : Standing T) (forked : (s : S) (d : DrumWords) → means.fits s d → (means.plain s d).forks ≡ (means.tree s).forks) where
  -- the deeds from one on are that one and those behind it
  module _ (d : Deed) (left : ℕ) (some : left ≡ 0 → ⊥) (next : Option Deed) (s s1 : S) (l l1 : Schedule) (d0 d1 : D) (o0 o1 : T) (part : DidPart means held stands cut d next s s1 d0 d1 o0 o1) (took : TookDeed (means.tree s).forks (means.tree s1).forks l l1) where
    pub deeds_took : (l2 : Schedule) → WhereTold means held s1 d1 (λ q. MatchOption next (l2 ≡ l1) (λ n. TookDeeds (left - 1) q n l1 l2)) → WhereTold means held s d0 (λ p. TookDeeds left p d l l2)
    deeds_took l2 rest words st fits =
        let x = part.each words st fits in
        let p = means.plain s words in
        let e = deed p d in
        let more : left ≡ suc (left - 1) = omega (arith, some) in
        subst (λ (n : ℕ). TookDeeds n p d l l2) (sym more) (
          l1,
          deed_between means held forked s s1 l l1 words x.0 e.state.forks fits x.2 (ap (λ (q : PlainState). q.forks) x.3) took,
          subst (λ (o : Option Deed). MatchOption o (l2 ≡ l1) (λ n. TookDeeds (left - 1) e.state n l1 l2)) x.5
              (subst (λ (q : PlainState). MatchOption next (l2 ≡ l1) (λ n. TookDeeds (left - 1) q n l1 l2)) x.3 (rest x.0 x.1 x.2)),
        )

  -- and the last characters of a text, so many, are the first of them and those behind it
  pub text_took : (t : Tty) (text : List ℕ) (left : ℕ) (s s1 : S) (l l1 l2 : Schedule) (d0 d1 : D) (o0 o1 : T) → (left ≡ 0 → ⊥) → left ≤ length text
      → DidTyped means held stands cut (λ p. typed_at p t (get_or text (length text - left) 0)) s s1 d0 d1 o0 o1
      → WhereTold means held s d0 (λ p. TookDeeds most_deeds p (Typed t (get_or text (length text - left) 0)) l l1)
      → WhereTold means held s1 d1 (λ p. TookText p t (drop (length text - (left - 1)) text) l1 l2)
      → WhereTold means held s d0 (λ p. TookText p t (drop (length text - left) text) l l2)
  text_took t text left s s1 l l1 l2 d0 d1 o0 o1 some few did first second words st fits =
      let x = did.each words st fits in
      let p = means.plain s words in
      let at : ℕ = length text - left in
      let code = get_or text at 0 in
      let low : at < length text = omega (arith, some, few) in
      let next : at + 1 ≡ length text - (left - 1) = omega (arith, some, few) in
      let rest : TookText (typed_at p t code).state t (drop (length text - (left - 1)) text) l1 l2 = subst (λ (q : PlainState). TookText q t (drop (length text - (left - 1)) text) l1 l2) x.3 (second x.0 x.1 x.2) in
      subst (λ (cs : List ℕ). TookText p t cs l l2) (sym (drop_more text at 0 low))
      (l1, first words st fits, subst (λ (n : ℕ). TookText (typed_at p t code).state t (drop n text) l1 l2) (sym next) rest)
