-- How many entries an event has.
use Rattle.std.proofs.Common.{◌≡◌, ℕ, ◌+◌, ◌≤◌, List, [], ◌∷◌, ◌++◌, length, Bool, ap, refl, arith}
use Rattle.script_texts.specs.declared.event.Event.{Event}
use Rattle.script_texts.specs.declared.event.Step.{Step}
use Rattle.script_texts.specs.declared.event.Step.TheVariants.{Outer}
use Rattle.script_texts.specs.Follows.{Shape, silent, turns, single, shape_of, AreOfShape, FollowsOne, Begins, Unfinished, auto_after, auto_behind}
use Rattle.script_texts.specs.Script.{turns_asked, turns_of, turns_in}

few_shape : (IsCount : ℕ → ℕ → Type 0) (own : List Step) → ((m n : ℕ) → IsCount m n → m ≤ n) → length own ≤ 1 → (shape : Shape) (ss : List Step) → AreOfShape IsCount own shape ss → length ss ≤ turns_asked shape + 1
few_shape IsCount own count one silent ss h = omega (arith, ap length h)
few_shape IsCount own count one (turns n) ss h = omega (arith, count (length ss) n h.0)
few_shape IsCount own count one single ss h = omega (arith, ap length h)

pub follows_few : (e : Event) (ss : List Step) → FollowsOne e ss → length ss ≤ turns_of e + 1
follows_few e ss h = few_shape (λ m n. m ≡ n) (Outer e ∷ []) (λ m n is. omega (arith, is)) (omega arith) (shape_of e) ss h

pub begins_few : (e : Event) (ss : List Step) → Begins e ss → length ss ≤ turns_of e + 1
begins_few e ss h = few_shape (λ m n. m ≤ n) (Outer e ∷ []) (λ m n is. is) (omega arith) (shape_of e) ss h

pub unfinished_few : (e : Event) (ss : List Step) → Unfinished e ss → length ss ≤ turns_of e + 1
unfinished_few e ss h = few_shape (λ m n. m ≤ n) [] (λ m n is. is) (omega arith) (shape_of e) ss h

-- one event more
pub turns_push : (es : List Event) (e : Event) → turns_in (es ++ e ∷ []) ≡ turns_in es + turns_of e
turns_push [] e = omega arith
turns_push (f ∷ es) e = omega (arith, turns_push es e)

pub auto_push : (auto : Bool) (es : List Event) (e : Event) → auto_behind auto (es ++ e ∷ []) ≡ auto_after (auto_behind auto es) e
auto_push auto [] e = refl
auto_push auto (f ∷ es) e = auto_push (auto_after auto f) es e
