-- Entries of one event more pass no fork over for long, while they are calm.
use Rattle.std.proofs.Common.{◌≡◌, ℕ, List, [], ◌∷◌, ◌++◌, sym, ◌∙◌, ap, subst}
use Rattle.std.specs.Prelude.{⊤}
use Rattle.script_texts.specs.declared.event.Event.{Event}
use Rattle.script_texts.specs.declared.event.Event.TheVariants.{Login, TypeIn, File, Words, Poke, Start, Run, Tick, Evict, Drum, Auto, Examine, Forks, Page, Trace}
use Rattle.script_texts.specs.declared.event.Step.{Step}
use Rattle.script_texts.specs.Follows.{Follows, FollowsOne}
use Rattle.script_texts.proofs.Takers.{Follows-push}
use Rattle.page_waits.specs.Calm.{AreCalmlyFair, AreRoomy, IsCalmlyFair}
use Rattle.plain_model.specs.Run.{apply, state_after}
use Rattle.plain_model.specs.State.{PlainState}
use Rattle.plain_model.proofs.Runs.{state_after-append}

-- an event is no EVICT
abbrev pub IsNoEvict : Event → Type 0
IsNoEvict e = (n : ℕ) → e ≡ Evict n → ⊥

-- none of these is
abbrev pub NoneEvicts : List Event → Type 0
NoneEvicts [] = ⊤
NoneEvicts (e ∷ es) = IsNoEvict e × NoneEvicts es

pub none_evicts-split : (es : List Event) (e : Event) → NoneEvicts (es ++ e ∷ []) → NoneEvicts es × IsNoEvict e
none_evicts-split [] e none = (tt, none.0)
none_evicts-split (g ∷ es) e none = let rest = none_evicts-split es e none.1 in ((none.0, rest.0), rest.1)

module _ (frames : ℕ) where
  pub AreRoomy-append : (s : PlainState) (xs ys : List Step) → AreRoomy frames s xs → AreRoomy frames (state_after s xs) ys → AreRoomy frames s (xs ++ ys)
  AreRoomy-append s [] ys a b = b
  AreRoomy-append s (x ∷ xs) ys a b = (a.0, AreRoomy-append (apply s x).state xs ys a.1 b)

  pub AreRoomy-split : (s : PlainState) (xs ys : List Step) → AreRoomy frames s (xs ++ ys) → AreRoomy frames s xs × AreRoomy frames (state_after s xs) ys
  AreRoomy-split s [] ys all = (tt, all)
  AreRoomy-split s (x ∷ xs) ys all = let rest = AreRoomy-split (apply s x).state xs ys all.1 in ((all.0, rest.0), rest.1)

  -- what is owed of the entries of each event: nothing from the first EVICT on, or once the entries before it are not calm
  abbrev pub IsOwed : PlainState → (es : List Event) (xs : List Step) → Follows es xs → Type 0
  IsOwed s [] xs f = ⊤
  IsOwed s (e ∷ es) xs f = IsNoEvict e → IsCalmlyFair frames s f.0 × (AreRoomy frames s f.0 → IsOwed (state_after s f.0) es f.1 f.4)

  pub IsOwed-push : (s : PlainState) (es : List Event) (e : Event) (xs ys : List Step) (f : Follows es xs) (o : FollowsOne e ys) → IsOwed s es xs f
      → (NoneEvicts es → AreRoomy frames s xs → IsNoEvict e → IsCalmlyFair frames (state_after s xs) ys) → IsOwed s (es ++ e ∷ []) (xs ++ ys) (Follows-push es e xs ys f o)
  IsOwed-push s [] e xs ys f o before now = λ this. (subst (λ zs. IsCalmlyFair frames (state_after s zs) ys) f (now tt (subst (AreRoomy frames s) (sym f) tt) this), λ roomy. tt)
  IsOwed-push s (g ∷ es) e xs ys f o before now = λ that.
      let old = before that in
      let there : state_after s xs ≡ state_after (state_after s f.0) f.1 = ap (λ z. state_after s z) f.2 ∙ state_after-append s f.0 f.1 in (
        old.0,
        λ roomy. IsOwed-push (state_after s f.0) es e f.1 ys f.4 o (old.1 roomy)
            (λ none more this. subst (λ z. IsCalmlyFair frames z ys) there (now (that, none) (subst (AreRoomy frames s) (sym f.2) (AreRoomy-append s f.0 f.1 roomy more)) this)),
      )

  -- an event is an EVICT, or one of the others
  owed_first : (s : PlainState) (e : Event) (es : List Event) (xs : List Step) (f : Follows (e ∷ es) xs)
      → (IsNoEvict e → IsCalmlyFair frames s f.0 × (AreRoomy frames s f.0 → AreCalmlyFair frames (state_after s f.0) es f.1 f.4)) → AreCalmlyFair frames s (e ∷ es) xs f
  owed_first s (Login t user) es xs f owed = owed (λ n is. absurd (cc is))
  owed_first s (TypeIn t text) es xs f owed = owed (λ n is. absurd (cc is))
  owed_first s (File name) es xs f owed = owed (λ n is. absurd (cc is))
  owed_first s (Words name page at row) es xs f owed = owed (λ n is. absurd (cc is))
  owed_first s (Poke t a w) es xs f owed = owed (λ n is. absurd (cc is))
  owed_first s (Start t a) es xs f owed = owed (λ n is. absurd (cc is))
  owed_first s (Run k) es xs f owed = owed (λ n is. absurd (cc is))
  owed_first s Tick es xs f owed = owed (λ n is. absurd (cc is))
  owed_first s (Evict k) es xs f owed = tt
  owed_first s (Drum k) es xs f owed = owed (λ n is. absurd (cc is))
  owed_first s (Auto on) es xs f owed = owed (λ n is. absurd (cc is))
  owed_first s (Examine t serial a) es xs f owed = owed (λ n is. absurd (cc is))
  owed_first s (Forks t) es xs f owed = owed (λ n is. absurd (cc is))
  owed_first s (Page name page) es xs f owed = owed (λ n is. absurd (cc is))
  owed_first s (Trace on) es xs f owed = owed (λ n is. absurd (cc is))

  -- so they are as fair as is owed
  pub owed_all : (s : PlainState) (es : List Event) (xs : List Step) (f : Follows es xs) → IsOwed s es xs f → AreCalmlyFair frames s es xs f
  owed_all s [] xs f owed = tt
  owed_all s (e ∷ es) xs f owed = owed_first s e es xs f (λ this. let now = owed this in (now.0, λ roomy. owed_all (state_after s f.0) es f.1 f.4 (now.1 roomy)))
