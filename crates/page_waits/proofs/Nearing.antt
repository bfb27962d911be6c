-- A wait comes nearer to its end.
use Rattle.std.proofs.Common.{◌≡◌, ◌⊎◌, inl, inr, ℕ, suc, ◌+◌, ◌<◌, ◌≤◌, List, [], ◌∷◌, ◌++◌, length, Bool, true, false, not, ◌||◌, cond, Option, None, Some, refl, sym, ◌∙◌, ap, subst, arith}
use Rattle.std.specs.Prelude.{◌==◌}
use Rattle.std.specs.List.{list_any}
use Rattle.std.proofs.lemmas.Bool.Decides.{nat_tests}
use Rattle.page_homes.specs.declared.homes.Home.{Home}
use Rattle.page_contracts.specs.declared.answers.Need.{Need}
use Rattle.page_contracts.specs.declared.answers.Need.TheVariants.{Page, Frame}
use Rattle.page_contracts.specs.Stores.{Transfer, arrival, departure, arrives, need_of, without}
use Rattle.page_waits.specs.Waits.{woken}
use Rattle.page_waits.specs.Nearing.{NearsEnd, ahead_of, wait_left}

-- an arrival that is queued has fewer before it than are queued
pub ahead_few : (home : ℕ) (q : List Transfer) → list_any (arrives home) q ≡ true → ahead_of home q < length q
ahead_few home [] here = absurd (cc here)
ahead_few home (t ∷ q) here = by (arrives home t) refl here (ahead_few home q)
  where
    by : (b : Bool) → arrives home t ≡ b → (b || list_any (arrives home) q) ≡ true → (list_any (arrives home) q ≡ true → ahead_of home q < length q) → cond b 0 (suc (ahead_of home q)) < suc (length q)
    by true is some rest = omega arith
    by false is some rest = let before = rest some in omega (arith, before)

-- what is queued behind it takes it no farther off
pub ahead_behind : (home : ℕ) (q more : List Transfer) → list_any (arrives home) q ≡ true → ahead_of home (q ++ more) ≡ ahead_of home q
ahead_behind home [] more here = absurd (cc here)
ahead_behind home (t ∷ q) more here = by (arrives home t) here (ahead_behind home q more)
  where
    by : (b : Bool) → (b || list_any (arrives home) q) ≡ true → (list_any (arrives home) q ≡ true → ahead_of home (q ++ more) ≡ ahead_of home q) → cond b 0 (suc (ahead_of home (q ++ more))) ≡ cond b 0 (suc (ahead_of home q))
    by true some rest = refl
    by false some rest = ap suc (rest some)

-- nor does what else is taken from the queue
pub ahead_without : (gone : Transfer → Bool) (home : ℕ) (q : List Transfer) → ((t : Transfer) → arrives home t ≡ true → gone t ≡ false) → ahead_of home (without gone q) ≤ ahead_of home q
ahead_without gone home [] kept = omega arith
ahead_without gone home (t ∷ q) kept = by (gone t) (arrives home t) refl refl (ahead_without gone home q kept)
  where
    by : (g b : Bool) → gone t ≡ g → arrives home t ≡ b → ahead_of home (without gone q) ≤ ahead_of home q → ahead_of home (cond (not g) (t ∷ without gone q) (without gone q)) ≤ cond b 0 (suc (ahead_of home q))
    by true true goes is before = absurd (cc (sym goes ∙ kept t is))
    by true false goes is before = omega (arith, before)
    by false true goes is before = subst (λ c. cond c 0 (suc (ahead_of home (without gone q))) ≤ 0) (sym is) (omega arith)
    by false false goes is before = subst (λ c. cond c 0 (suc (ahead_of home (without gone q))) ≤ suc (ahead_of home q)) (sym is) (omega (arith, before))

-- it stays queued then
pub kept_without : (gone : Transfer → Bool) (home : ℕ) (q : List Transfer) → ((t : Transfer) → arrives home t ≡ true → gone t ≡ false) → list_any (arrives home) q ≡ true → list_any (arrives home) (without gone q) ≡ true
kept_without gone home [] kept here = here
kept_without gone home (t ∷ q) kept here = by (gone t) (arrives home t) refl refl here (kept_without gone home q kept)
  where
    by : (g b : Bool) → gone t ≡ g → arrives home t ≡ b → (b || list_any (arrives home) q) ≡ true → (list_any (arrives home) q ≡ true → list_any (arrives home) (without gone q) ≡ true)
        → list_any (arrives home) (cond (not g) (t ∷ without gone q) (without gone q)) ≡ true
    by true true goes is some rest = absurd (cc (sym goes ∙ kept t is))
    by true false goes is some rest = rest some
    by false true goes is some rest = ap (λ c. c || list_any (arrives home) (without gone q)) is
    by false false goes is some rest = ap (λ c. c || list_any (arrives home) (without gone q)) is ∙ rest some

-- the oldest transfer ends, and is told: a wait is over, or one fewer is before what it waits for
pub nears_ended : (t : Transfer) (q : List Transfer) (w : Option Need) → NearsEnd 1 (t ∷ q) q w (woken (need_of t) w)
nears_ended t q None = inl refl
nears_ended t q (Some Frame) = inl refl
nears_ended (departure h) q (Some (Page home)) = inr (refl, omega arith)
nears_ended (arrival h) q (Some (Page home)) = by (h == home.0) refl (home.0 == h) refl
  where
    by : (b : Bool) → (h == home.0) ≡ b → (c : Bool) → (home.0 == h) ≡ c
        → ((cond b None (Some (Page home)) ≡ None) ⊎ ((cond b None (Some (Page home)) ≡ Some (Page home)) × (wait_left q (cond b None (Some (Page home))) + 1 ≤ suc (cond c 0 (suc (ahead_of home.0 q))))))
    by true e c f = inl refl
    by false e true f = absurd (let same : home.0 ≡ h = grind (arith, nat_tests, f) in let no : true ≡ false = sym (grind (arith, nat_tests, same)) ∙ e in cc no)
    by false e false f = inr (refl, omega arith)

-- what is queued behind, or taken from the queue but for what is waited for, takes the end of a wait no farther off
pub nears_stays : (gone : Transfer → Bool) (q more : List Transfer) (w : Option Need) → ((home : Home) → w ≡ Some (Page home) → list_any (arrives home.0) q ≡ true)
    → ((home : Home) (t : Transfer) → w ≡ Some (Page home) → arrives home.0 t ≡ true → gone t ≡ false) → NearsEnd 0 q (without gone q ++ more) w w
nears_stays gone q more None queued kept = inl refl
nears_stays gone q more (Some Frame) queued kept = inr (refl, omega arith)
nears_stays gone q more (Some (Page home)) queued kept =
    let mine : (t : Transfer) → arrives home.0 t ≡ true → gone t ≡ false = λ t. kept home t refl in
    let there = kept_without gone home.0 q mine (queued home refl) in
    inr (refl, omega (arith, ahead_behind home.0 (without gone q) more there, ahead_without gone home.0 q mine))

pub nears_then : (n m : ℕ) (p q r : List Transfer) (u v w : Option Need) → NearsEnd n p q u v → NearsEnd m q r v w → NearsEnd (n + m) p r u w
nears_then n m p q r u v w (inl over) (inl later) = inl later
nears_then n m p q r u v w (inl over) (inr on) = inl (on.0 ∙ over)
nears_then n m p q r u v w (inr on) (inl later) = inl later
nears_then n m p q r u v w (inr on) (inr more) = inr (more.0 ∙ on.0, omega (arith, on.1, more.1))

pub nears_over : (n : ℕ) (q r : List Transfer) (v w : Option Need) → NearsEnd n q r v w → wait_left q v ≤ n → w ≡ None
nears_over n q r v w (inl over) few = over
nears_over n q r v None (inr on) few = refl
nears_over n q r v (Some Frame) (inr on) few = absurd (omega (arith, on.1, few))
nears_over n q r v (Some (Page home)) (inr on) few = absurd (omega (arith, on.1, few))
