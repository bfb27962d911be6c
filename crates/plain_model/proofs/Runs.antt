-- Runs and takers go on.
use Rattle.std.proofs.Common.{◌≡◌, List, [], ◌∷◌, ◌++◌, Bool, true, ◌||◌, refl, sym, ◌∙◌, ap, subst, append_assoc}
use Rattle.script_texts.specs.declared.event.Event.{Event}
use Rattle.script_texts.specs.declared.event.Step.{Step}
use Rattle.plain_model.specs.State.{PlainState}
use Rattle.plain_model.specs.Run.{apply, state_after, items_of, AreLegal, IsLegal}
use Rattle.script_texts.specs.Follows.{Follows, FollowsOne, auto_after, auto_behind}
use Rattle.script_texts.proofs.Takers.{Follows-push}

pub state_after-append : (s : PlainState) (xs ys : List Step) → state_after s (xs ++ ys) ≡ state_after (state_after s xs) ys
state_after-append s [] ys = refl
state_after-append s (x ∷ xs) ys = state_after-append (apply s x).state xs ys

pub items_of-append : (s : PlainState) (xs ys : List Step) → items_of s (xs ++ ys) ≡ items_of s xs ++ items_of (state_after s xs) ys
items_of-append s [] ys = refl
items_of-append s (x ∷ xs) ys = ap (λ l. (apply s x).items ++ l) (items_of-append (apply s x).state xs ys) ∙ sym (append_assoc (apply s x).items (items_of (apply s x).state xs) (items_of (state_after (apply s x).state xs) ys))

pub AreLegal-append : (auto : Bool) (s : PlainState) (xs ys : List Step) → AreLegal auto s xs → AreLegal auto (state_after s xs) ys → AreLegal auto s (xs ++ ys)
AreLegal-append auto s [] ys a b = b
AreLegal-append auto s (x ∷ xs) ys a b = (a.0, AreLegal-append auto (apply s x).state xs ys a.1 b)

pub IsLegal-push : (flat auto : Bool) (s : PlainState) (es : List Event) (e : Event) (xs ys : List Step) (f : Follows es xs) (o : FollowsOne e ys) → IsLegal flat auto s es xs f
    → AreLegal (flat || auto_behind auto es) (state_after s xs) ys → IsLegal flat auto s (es ++ e ∷ []) (xs ++ ys) (Follows-push es e xs ys f o)
IsLegal-push flat auto s [] e xs ys f o l a = (subst (λ zs. AreLegal (flat || auto) (state_after s zs) ys) f a, tt)
IsLegal-push flat auto s (g ∷ es) e xs ys f o l a =
    let there : state_after s xs ≡ state_after (state_after s f.0) f.1 = ap (λ z. state_after s z) f.2 ∙ state_after-append s f.0 f.1 in
    (l.0, IsLegal-push flat (auto_after auto g) (state_after s f.0) es e f.1 ys f.4 o l.1 (subst (λ z. AreLegal (flat || auto_behind (auto_after auto g) es) z ys) there a))

-- where all pages are in memory alone all entries are legal, whatever the AUTO mark
pub legal_flat : (auto : Bool) (s : PlainState) (es : List Event) (xs : List Step) (f : Follows es xs) → IsLegal true auto s es xs f → AreLegal true s xs
legal_flat auto s [] xs f l = subst (AreLegal true s) (sym f) tt
legal_flat auto s (e ∷ es) xs f l = subst (AreLegal true s) (sym f.2) (AreLegal-append true s f.0 f.1 l.0 (legal_flat (auto_after auto e) (state_after s f.0) es f.1 f.4 l.1))

-- and apart again
AreLegal-split : (auto : Bool) (s : PlainState) (xs ys : List Step) → AreLegal auto s (xs ++ ys) → AreLegal auto s xs × AreLegal auto (state_after s xs) ys
AreLegal-split auto s [] ys l = (tt, l)
AreLegal-split auto s (x ∷ xs) ys l = let rest = AreLegal-split auto (apply s x).state xs ys l.1 in ((l.0, rest.0), rest.1)

pub legal_apart : (auto : Bool) (s : PlainState) (es : List Event) (xs : List Step) (f : Follows es xs) → AreLegal true s xs → IsLegal true auto s es xs f
legal_apart auto s [] xs f l = tt
legal_apart auto s (e ∷ es) xs f l =
    let parts = AreLegal-split true s f.0 f.1 (subst (AreLegal true s) f.2 l) in
    (parts.0, legal_apart (auto_after auto e) (state_after s f.0) es f.1 f.4 parts.1)
