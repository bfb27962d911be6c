-- How an order is threaded, and what a change of some places makes of it.
use Rattle.std.proofs.Common.{◌≡◌, ◌≢◌, ℕ, zero, suc, ◌⊎◌, inl, inr, List, [], ◌∷◌, ◌++◌, length, true, false, refl, sym, ◌∙◌, ap, subst}
use Rattle.frame_order.specs.FrameOrder.{stands_in, IsOnce, threaded}
use Rattle.frame_order.specs.Ring.{IsThread}
use Rattle.frame_order.proofs.Orders.{other_frame, not_first, not_behind, stands_first, stands_behind, front_absent, rest_absent}

pub length-threaded : (behind : ℕ → ℕ) (n f : ℕ) → length (threaded behind n f) ≡ n
length-threaded behind zero f = refl
length-threaded behind (suc n) f = ap suc (length-threaded behind n (behind f))

-- the places behind the first are those of the thread
pub threaded-thread : (before behind : ℕ → ℕ) (a b : ℕ) (xs : List ℕ) → IsThread before behind a xs b → threaded behind (length xs) (behind a) ≡ xs
unfolding IsThread
threaded-thread before behind a b [] is = refl
threaded-thread before behind a b (x ∷ xs) is =
    let next : behind a ≡ x = is.0 in
    ap (λ f. f ∷ threaded behind (length xs) (behind f)) next ∙ ap (λ (fs : List ℕ). x ∷ fs) (threaded-thread before behind x b xs is.2)

-- before the end stands the beginning, or one of those between
pub before_end : (before behind : ℕ → ℕ) (a b : ℕ) (xs : List ℕ) → IsThread before behind a xs b → stands_in (before b) (a ∷ xs) ≡ true
unfolding IsThread
before_end before behind a b [] is = subst (λ f. stands_in (before b) (f ∷ []) ≡ true) is.1 (stands_first (before b) [])
before_end before behind a b (x ∷ xs) is = stands_behind (before b) a (x ∷ xs) (before_end before behind x b xs is.2)

-- behind the beginning stands the end, or one of those between
pub behind_start : (before behind : ℕ → ℕ) (a b : ℕ) (xs : List ℕ) → IsThread before behind a xs b → (behind a ≡ b) ⊎ (stands_in (behind a) xs ≡ true)
unfolding IsThread
behind_start before behind a b [] is = inl is.0
behind_start before behind a b (x ∷ xs) is = inr (subst (λ f. stands_in f (x ∷ xs) ≡ true) (sym is.0) (stands_first x xs))

-- a thread is two, from its beginning to a place between and from there to its end
pub thread_parts : (before behind : ℕ → ℕ) (a b f : ℕ) (xs ys : List ℕ) → IsThread before behind a (xs ++ f ∷ ys) b
    → IsThread before behind a xs f × IsThread before behind f ys b
unfolding IsThread
thread_parts before behind a b f [] ys is = ((is.0, is.1), is.2)
thread_parts before behind a b f (x ∷ xs) ys is =
    let further = thread_parts before behind x b f xs ys is.2 in
    ((is.0, is.1, further.0), further.1)

-- a thread stays where its places do
pub thread_kept : (before behind before' behind' : ℕ → ℕ) (a b : ℕ) (xs : List ℕ)
    → ((f : ℕ) → stands_in f (a ∷ xs) ≡ true → behind' f ≡ behind f)
    → ((f : ℕ) → stands_in f xs ≡ true → before' f ≡ before f)
    → before' b ≡ before b
    → IsThread before behind a xs b → IsThread before' behind' a xs b
unfolding IsThread
thread_kept before behind before' behind' a b [] same_behind same_before same_end is =
    (same_behind a (stands_first a []) ∙ is.0, same_end ∙ is.1)
thread_kept before behind before' behind' a b (x ∷ xs) same_behind same_before same_end is = (
  same_behind a (stands_first a (x ∷ xs)) ∙ is.0,
  same_before x (stands_first x xs) ∙ is.1,
  thread_kept before behind before' behind' x b xs (λ f here. same_behind f (stands_behind f a (x ∷ xs) here)) (λ f here. same_before f (stands_behind f x xs here)) same_end is.2,
)

-- the places after a frame was taken out
pub record TakesOut (before behind before' behind' : ℕ → ℕ) (f : ℕ) : Type 0 where
  pub joined_behind : behind' (before f) ≡ behind f
  pub joined_before : before' (behind f) ≡ before f
  pub other_behind : (g : ℕ) → g ≢ before f → behind' g ≡ behind g
  pub other_before : (g : ℕ) → g ≢ behind f → before' g ≡ before g

pub thread_without : (before behind before' behind' : ℕ → ℕ) (a b f : ℕ) (xs ys : List ℕ)
    → TakesOut before behind before' behind' f
    → IsThread before behind a xs f → IsThread before behind f ys b
    → IsOnce (xs ++ ys) → stands_in a (xs ++ ys) ≡ false → stands_in b (xs ++ ys) ≡ false
    → IsThread before' behind' a (xs ++ ys) b
unfolding IsThread
thread_without before behind before' behind' a b f [] [] out left right once start end =
    let joined_behind = out.joined_behind in
    let joined_before = out.joined_before in
    (ap behind' (sym left.1) ∙ joined_behind ∙ right.0, ap before' (sym right.0) ∙ joined_before ∙ left.1)
thread_without before behind before' behind' a b f [] (y ∷ ys) out left right once start end =
    let at_start : before f ≡ a = left.1 in
    let next : behind f ≡ y = right.0 in
    let rest = thread_kept before behind before' behind' y b ys
    (λ g here. out.other_behind g (λ same. other_frame g a (y ∷ ys) here start (same ∙ at_start)))
    (λ g here. out.other_before g (λ same. other_frame g y ys here once.0 (same ∙ next)))
    (out.other_before b (λ same. not_first b y ys end (same ∙ next)))
    right.2 in
    (ap behind' (sym at_start) ∙ out.joined_behind ∙ next, ap before' (sym next) ∙ out.joined_before ∙ at_start, rest)
thread_without before behind before' behind' a b f (x ∷ xs) ys out left right once start end =
    let last = before_end before behind x f xs left.2 in
    let here : behind' a ≡ behind a = out.other_behind a (λ same. other_frame (before f) a (x ∷ xs) last (front_absent a (x ∷ xs) ys start) (sym same)) in
    let there : before' x ≡ before x = out.other_before x
    (λ same. elim (behind_start before behind f b ys right) [
      | inl at_end ↦ not_first b x (xs ++ ys) end (sym (same ∙ at_end))
      | inr between ↦ other_frame (behind f) x ys between (rest_absent x xs ys once.0) (sym same)
    ]) in
    let further = thread_without before behind before' behind' x b f xs ys out left.2 right once.1 once.0 (not_behind b x (xs ++ ys) end) in
    (here ∙ left.0, there ∙ left.1, further)

-- the places after a frame was put before the end
pub record PutsLast (before behind before' behind' : ℕ → ℕ) (f b : ℕ) : Type 0 where
  pub last_behind : behind' (before b) ≡ f
  pub behind_end : behind' f ≡ b
  pub end_before : before' b ≡ f
  pub before_last : before' f ≡ before b
  pub other_behind : (g : ℕ) → g ≢ before b → g ≢ f → behind' g ≡ behind g
  pub other_before : (g : ℕ) → g ≢ b → g ≢ f → before' g ≡ before g

pub thread_push : (before behind before' behind' : ℕ → ℕ) (a b f : ℕ) (xs : List ℕ)
    → PutsLast before behind before' behind' f b
    → IsThread before behind a xs b
    → a ≢ f → stands_in f xs ≡ false → IsOnce xs → stands_in a xs ≡ false → stands_in b xs ≡ false
    → IsThread before' behind' a (xs ++ f ∷ []) b
unfolding IsThread
thread_push before behind before' behind' a b f [] last is other absent once start end =
    (ap behind' (sym is.1) ∙ last.last_behind, last.before_last ∙ is.1, (last.behind_end, last.end_before))
thread_push before behind before' behind' a b f (x ∷ xs) last is other absent once start end =
    let at_end = before_end before behind x b xs is.2 in
    let here : behind' a ≡ behind a = last.other_behind a (λ same. other_frame (before b) a (x ∷ xs) at_end start (sym same)) other in
    let there : before' x ≡ before x = last.other_before x (λ same. not_first b x xs end (sym same)) (λ same. not_first f x xs absent (sym same)) in
    let further = thread_push before behind before' behind' x b f xs last is.2 (λ same. not_first f x xs absent (sym same)) (not_behind f x xs absent) once.1 once.0 (not_behind b x xs end) in
    (here ∙ is.0, there ∙ is.1, further)
