-- Lists of transfers, by frame and by home.
use Rattle.std.proofs.Common.{◌≡◌, ◌≢◌, ℕ, ◌+◌, inl, inr, List, [], ◌∷◌, ◌++◌, map, count_by, Option, None, Some, is_some, Bool, true, false, not, cond, ◌||◌, refl, sym, ◌∙◌, ap, subst, zero-add}
use Rattle.std.specs.List.{filter, list_any}
use Rattle.std.proofs.lemmas.Bool.{cases_eq, true≢false, eq-eqb, ne_eqb, false_from_ne_true}
use Rattle.std.proofs.lemmas.List.Sums.{sum_by-cons}
use Rattle.frame_order.specs.FrameOrder.{IsOnce, stands_in}
use Rattle.page_contracts.specs.Stores as meaning
use Rattle.drum_queue.specs.declared.transfer.Transfer.{Transfer}
use Rattle.drum_queue.specs.declared.transfer.Transfer.TheVariants.{Read, Write}
use Rattle.drum_queue.specs.Transfers.{frame_of, is_of, transfer_of, without}
use Rattle.page_residence.specs.Resident.{Seats, home_at, home_of, meant, IsSingle}
use Rattle.page_residence.proofs.Agreeing.{AreBound}

pub is_own : (f : ℕ) (t : Transfer) → f ≡ frame_of t → is_of f t ≡ true
is_own f t e = eq-eqb f (frame_of t) e

pub is_other : (f : ℕ) (t : Transfer) → f ≢ frame_of t → is_of f t ≡ false
is_other f t ne = ne_eqb f (frame_of t) ne

-- the first transfer of a list is of the frame, or is not
abbrev head_found : Bool → Transfer → ℕ → List Transfer → Option Transfer
head_found b t f ts = cond b (Some t) (transfer_of f ts)

abbrev head_kept : Bool → Transfer → ℕ → List Transfer → List Transfer
head_kept b t f ts = cond (not b) (t ∷ without f ts) (without f ts)

-- once a frame's transfer is taken away it has none
pub without_own : (f : ℕ) (q : List Transfer) → transfer_of f (without f q) ≡ None
without_own f [] = refl
without_own f (t ∷ ts) = at (is_of f t) refl (without_own f ts)
  where
    at : (b : Bool) → is_of f t ≡ b → transfer_of f (without f ts) ≡ None → transfer_of f (head_kept b t f ts) ≡ None
    at true is rest = rest
    at false is rest = ap (λ (c : Bool). head_found c t f (without f ts)) is ∙ rest

-- and other frames keep theirs
pub without_other : (f g : ℕ) (q : List Transfer) → g ≢ f → transfer_of g (without f q) ≡ transfer_of g q
without_other f g [] ne = refl
without_other f g (t ∷ ts) ne = elim (cases_eq f (frame_of t)) [
  | inl e ↦
      ap (λ (c : Bool). transfer_of g (head_kept c t f ts)) (is_own f t e) ∙ without_other f g ts ne
      ∙ sym (ap (λ (c : Bool). head_found c t g ts) (is_other g t (λ same. ne (same ∙ sym e))))
  | inr other ↦
      ap (λ (c : Bool). transfer_of g (head_kept c t f ts)) (is_other f t other)
      ∙ ap (λ (o : Option Transfer). cond (is_of g t) (Some t) o) (without_other f g ts ne)
]

pub pushed_own : (f : ℕ) (q : List Transfer) (t : Transfer) → f ≡ frame_of t → transfer_of f q ≡ None → transfer_of f (q ++ t ∷ []) ≡ Some t
pushed_own f [] t e none = ap (λ (c : Bool). head_found c t f []) (is_own f t e)
pushed_own f (u ∷ us) t e none = at (is_of f u) none (pushed_own f us t e)
  where
    at : (b : Bool) → head_found b u f us ≡ None → (transfer_of f us ≡ None → transfer_of f (us ++ t ∷ []) ≡ Some t) → cond b (Some u) (transfer_of f (us ++ t ∷ [])) ≡ Some t
    at true is rest = absurd cc
    at false is rest = rest is

pub pushed_other : (g : ℕ) (q : List Transfer) (t : Transfer) → g ≢ frame_of t → transfer_of g (q ++ t ∷ []) ≡ transfer_of g q
pushed_other g [] t ne = ap (λ (c : Bool). head_found c t g []) (is_other g t ne)
pushed_other g (u ∷ us) t ne = ap (λ (o : Option Transfer). cond (is_of g u) (Some u) o) (pushed_other g us t ne)

-- a frame that stands in no order has no transfer
pub none_once : (f : ℕ) (q : List Transfer) → stands_in f (map frame_of q) ≡ false → transfer_of f q ≡ None
none_once f [] absent = refl
none_once f (t ∷ ts) absent = at (is_of f t) absent (none_once f ts)
  where
    at : (b : Bool) → (b || stands_in f (map frame_of ts)) ≡ false → (stands_in f (map frame_of ts) ≡ false → transfer_of f ts ≡ None) → head_found b t f ts ≡ None
    at true is rest = absurd (true≢false is)
    at false is rest = rest is

once_none : (f : ℕ) (q : List Transfer) → transfer_of f q ≡ None → stands_in f (map frame_of q) ≡ false
once_none f [] none = refl
once_none f (t ∷ ts) none = at (is_of f t) none (once_none f ts)
  where
    at : (b : Bool) → head_found b t f ts ≡ None → (transfer_of f ts ≡ None → stands_in f (map frame_of ts) ≡ false) → (b || stands_in f (map frame_of ts)) ≡ false
    at true is rest = absurd cc
    at false is rest = rest is

pub idle_kept : (f : ℕ) (q : List Transfer) → transfer_of f q ≡ None → without f q ≡ q
idle_kept f [] none = refl
idle_kept f (t ∷ ts) none = at (is_of f t) none (idle_kept f ts)
  where
    at : (b : Bool) → head_found b t f ts ≡ None → (transfer_of f ts ≡ None → without f ts ≡ ts) → head_kept b t f ts ≡ t ∷ ts
    at true is rest = absurd cc
    at false is rest = ap (λ (us : List Transfer). t ∷ us) (rest is)

stands_without : (f g : ℕ) (q : List Transfer) → stands_in g (map frame_of q) ≡ false → stands_in g (map frame_of (without f q)) ≡ false
stands_without f g [] absent = refl
stands_without f g (t ∷ ts) absent = at (is_of f t) (is_of g t) refl absent (stands_without f g ts)
  where
    at : (b c : Bool) → is_of g t ≡ c → (c || stands_in g (map frame_of ts)) ≡ false
        → (stands_in g (map frame_of ts) ≡ false → stands_in g (map frame_of (without f ts)) ≡ false) → stands_in g (map frame_of (head_kept b t f ts)) ≡ false
    at b true own is rest = absurd (true≢false is)
    at true false own is rest = rest is
    at false false own is rest = ap (λ (c : Bool). c || stands_in g (map frame_of (without f ts))) own ∙ rest is

pub once_without : (f : ℕ) (q : List Transfer) → IsOnce (map frame_of q) → IsOnce (map frame_of (without f q))
once_without f [] once = tt
once_without f (t ∷ ts) once = at (is_of f t) (once_without f ts once.1)
  where
    at : (b : Bool) → IsOnce (map frame_of (without f ts)) → IsOnce (map frame_of (head_kept b t f ts))
    at true rest = rest
    at false rest = (stands_without f (frame_of t) ts once.0, rest)

pub bound_without : (seats : Seats) (f : ℕ) (q : List Transfer) → AreBound seats q → AreBound seats (without f q)
bound_without seats f [] bound = tt
bound_without seats f (t ∷ ts) bound = at (is_of f t) (bound_without seats f ts bound.1)
  where
    at : (b : Bool) → AreBound seats (without f ts) → AreBound seats (head_kept b t f ts)
    at true rest = rest
    at false rest = (bound.0, rest)

stands_pushed : (g : ℕ) (q : List Transfer) (t : Transfer) → stands_in g (map frame_of q) ≡ false → g ≢ frame_of t → stands_in g (map frame_of (q ++ t ∷ [])) ≡ false
stands_pushed g q t absent ne = once_none g (q ++ t ∷ []) (pushed_other g q t ne ∙ none_once g q absent)

pub once_pushed : (q : List Transfer) (t : Transfer) → IsOnce (map frame_of q) → transfer_of (frame_of t) q ≡ None → IsOnce (map frame_of (q ++ t ∷ []))
once_pushed [] t once none = (refl, tt)
once_pushed (u ∷ us) t once none =
    let apart : frame_of u ≢ frame_of t = λ e. (let no : Some u ≡ None = ap (λ (c : Bool). head_found c u (frame_of t) us) (sym (is_own (frame_of t) u (sym e))) ∙ none in let r : ⊥ = absurd cc in r) in
    let rest : transfer_of (frame_of t) us ≡ None = ap (λ (c : Bool). head_found c u (frame_of t) us) (sym (is_other (frame_of t) u (λ e. apart (sym e)))) ∙ none in
    (stands_pushed (frame_of u) us t once.0 apart, once_pushed us t once.1 rest)

pub bound_pushed : (seats : Seats) (q : List Transfer) (t : Transfer) → AreBound seats q → home_at seats (frame_of t) ≡ Some (home_of t) → AreBound seats (q ++ t ∷ [])
bound_pushed seats [] t bound is = (is, tt)
bound_pushed seats (u ∷ us) t bound is = (bound.0, bound_pushed seats us t bound.1 is)

-- the oldest transfer is that of its frame, and what is left once it has ended is the list without it
pub first_own : (t : Transfer) (ts : List Transfer) → transfer_of (frame_of t) (t ∷ ts) ≡ Some t
first_own t ts = ap (λ (c : Bool). head_found c t (frame_of t) ts) (is_own (frame_of t) t refl)

pub first_ends : (t : Transfer) (ts : List Transfer) → IsOnce (map frame_of (t ∷ ts)) → ts ≡ without (frame_of t) (t ∷ ts)
first_ends t ts once =
    sym (ap (λ (c : Bool). head_kept c t (frame_of t) ts) (is_own (frame_of t) t refl) ∙ idle_kept (frame_of t) ts (none_once (frame_of t) ts once.0))

-- a transfer of a frame is that of its home
pub bound_at : (seats : Seats) (f : ℕ) (q : List Transfer) (t : Transfer) → AreBound seats q → transfer_of f q ≡ Some t → (f ≡ frame_of t) × (home_at seats f ≡ Some (home_of t))
bound_at seats f [] t bound is = absurd cc
bound_at seats f (u ∷ us) t bound is = elim (cases_eq f (frame_of u)) [
  | inl e ↦
      let two : Some u ≡ Some t = ap (λ (c : Bool). head_found c u f us) (sym (is_own f u e)) ∙ is in
      let same : u ≡ t = cc in
      (e ∙ ap frame_of same, ap (home_at seats) e ∙ bound.0 ∙ ap (λ (v : Transfer). Some (home_of v)) same)
  | inr other ↦ bound_at seats f us t bound.1 (ap (λ (c : Bool). head_found c u f us) (sym (is_other f u other)) ∙ is)
]

-- the seats change, but not the homes of frames with a transfer
pub bound_same : (seats seats' : Seats) (q : List Transfer) → ((f : ℕ) → is_some (transfer_of f q) ≡ true → home_at seats' f ≡ home_at seats f) → AreBound seats q → AreBound seats' q
bound_same seats seats' [] same bound = tt
bound_same seats seats' (t ∷ ts) same bound = (
  same (frame_of t) (ap is_some (first_own t ts)) ∙ bound.0,
  bound_same seats seats' ts (λ f some. same f (at f (is_of f t) some)) bound.1,
)
  where
    at : (f : ℕ) (b : Bool) → is_some (transfer_of f ts) ≡ true → is_some (head_found b t f ts) ≡ true
    at f true some = refl
    at f false some = some

-- none of these transfers is of a home
abbrev pub AreElse : ℕ → List Transfer → Type 0
AreElse h [] = Unit {0}
AreElse h (t ∷ ts) = (h ≢ home_of t) × AreElse h ts

-- a home without a frame has no transfer
pub else_unframed : (seats : Seats) (h : ℕ) (q : List Transfer) → AreBound seats q → ((f : ℕ) → home_at seats f ≡ Some h → ⊥) → AreElse h q
else_unframed seats h [] bound none = tt
else_unframed seats h (t ∷ ts) bound none = (λ e. none (frame_of t) (bound.0 ∙ ap Some (sym e)), else_unframed seats h ts bound.1 none)

-- nor has one whose frame has none
pub else_idle : (seats : Seats) (f h : ℕ) (q : List Transfer) → AreBound seats q → IsSingle seats → home_at seats f ≡ Some h → transfer_of f q ≡ None → AreElse h q
else_idle seats f h [] bound single at idle = tt
else_idle seats f h (t ∷ ts) bound single at idle = elim (cases_eq f (frame_of t)) [
  | inl e ↦ let no : Some t ≡ None = ap (λ (c : Bool). head_found c t f ts) (sym (is_own f t e)) ∙ idle in absurd cc
  | inr other ↦ (
    λ e. other (single f (frame_of t) h at (bound.0 ∙ ap Some (sym e))),
    else_idle seats f h ts bound.1 single at (ap (λ (c : Bool). head_found c t f ts) (sym (is_other f t other)) ∙ idle),
  )
]

-- What a test of the transfers of one home finds among all of them: at most one, that of the home's frame.
pub record IsPicked (p : meaning.Transfer → Bool) (q : List Transfer) (picks : Bool) (one : List meaning.Transfer) (rest : List Transfer) : Type 0 where
  pub any : list_any p (map meant q) ≡ picks
  pub those : filter p (map meant q) ≡ cond picks one []
  pub others : meaning.without p (map meant q) ≡ map meant (cond picks rest q)
  pub count : count_by p (map meant q) ≡ cond picks 1 0

meant_home : (t : Transfer) → meaning.home_of (meant t) ≡ home_of t
meant_home (Read f h) = refl
meant_home (Write f h) = refl

module _ (h : ℕ) (p : meaning.Transfer → Bool) (about : (x : meaning.Transfer) → p x ≡ true → h ≡ meaning.home_of x) where
  fails : (t : Transfer) → h ≢ home_of t → p (meant t) ≡ false
  fails t ne = false_from_ne_true (p (meant t)) (λ is. ne (about (meant t) is ∙ meant_home t))

  picked_more : (t : Transfer) (ts rest : List Transfer) (picks : Bool) (one : List meaning.Transfer) → p (meant t) ≡ false → IsPicked p ts picks one rest → IsPicked p (t ∷ ts) picks one (t ∷ rest)
  picked_more t ts rest picks one not_it is = record {
    any = ap (λ (b : Bool). b || list_any p (map meant ts)) not_it ∙ is.any;
    those = ap (λ (b : Bool). cond b (meant t ∷ filter p (map meant ts)) (filter p (map meant ts))) not_it ∙ is.those;
    others = ap (λ (b : Bool). cond (not b) (meant t ∷ meaning.without p (map meant ts)) (meaning.without p (map meant ts))) not_it
        ∙ ap (λ (xs : List meaning.Transfer). meant t ∷ xs) is.others ∙ at picks;
    count = sum_by-cons (λ x. cond (p x) 1 0) (meant t) (map meant ts) ∙ ap (λ (b : Bool). cond b 1 0 + count_by p (map meant ts)) not_it ∙ zero-add (count_by p (map meant ts)) ∙ is.count;
  }
    where
      at : (b : Bool) → meant t ∷ map meant (cond b rest ts) ≡ map meant (cond b (t ∷ rest) (t ∷ ts))
      at true = refl
      at false = refl

  -- nothing of a home that has no transfer
  pub picked_none : (q rest : List Transfer) (one : List meaning.Transfer) → AreElse h q → IsPicked p q false one rest
  picked_none [] rest one els = record { any = refl; those = refl; others = refl; count = refl }
  picked_none (t ∷ ts) rest one els =
      let more = picked_more t ts rest false one (fails t els.0) (picked_none ts rest one els.1) in
      record { any = more.any; those = more.those; others = more.others; count = more.count }

  pub picked_at : (seats : Seats) (f : ℕ) (q : List Transfer) → AreBound seats q → IsSingle seats → IsOnce (map frame_of q) → home_at seats f ≡ Some h
      → (t : Transfer) → transfer_of f q ≡ Some t → IsPicked p q (p (meant t)) (meant t ∷ []) (without f q)
  picked_at seats f [] bound single once at t is = absurd cc
  picked_at seats f (u ∷ us) bound single once at t is = elim (cases_eq f (frame_of u)) [
    | inl e ↦
        let two : Some u ≡ Some t = ap (λ (c : Bool). head_found c u f us) (sym (is_own f u e)) ∙ is in
        let same : u ≡ t = cc in
        let idle : transfer_of f us ≡ None = none_once f us (ap (λ (g : ℕ). stands_in g (map frame_of us)) e ∙ once.0) in
        let rest = picked_none us us (meant t ∷ []) (else_idle seats f h us bound.1 single at idle) in
        let gone : without f (u ∷ us) ≡ us = ap (λ (c : Bool). head_kept c u f us) (is_own f u e) ∙ idle_kept f us idle in
        subst (λ (v : Transfer). IsPicked p (v ∷ us) (p (meant t)) (meant t ∷ []) (without f (u ∷ us))) (sym same)
        (subst (λ (r : List Transfer). IsPicked p (t ∷ us) (p (meant t)) (meant t ∷ []) r) (sym gone) (own t us (p (meant t)) refl rest))
    | inr other ↦
        let ne : h ≢ home_of u = λ e. other (single f (frame_of u) h at (bound.0 ∙ ap Some (sym e))) in
        let more = picked_at seats f us bound.1 single once.1 at t (ap (λ (c : Bool). head_found c u f us) (sym (is_other f u other)) ∙ is) in
        let kept : without f (u ∷ us) ≡ u ∷ without f us = ap (λ (c : Bool). head_kept c u f us) (is_other f u other) in
        subst (λ (r : List Transfer). IsPicked p (u ∷ us) (p (meant t)) (meant t ∷ []) r) (sym kept) (picked_more u us (without f us) (p (meant t)) (meant t ∷ []) (fails u ne) more)
  ]
    where
      own : (t : Transfer) (us : List Transfer) (b : Bool) → p (meant t) ≡ b → IsPicked p us false (meant t ∷ []) us → IsPicked p (t ∷ us) b (meant t ∷ []) us
      own t us true is rest = record {
        any = ap (λ (c : Bool). c || list_any p (map meant us)) is;
        those = ap (λ (c : Bool). cond c (meant t ∷ filter p (map meant us)) (filter p (map meant us))) is ∙ ap (λ (xs : List meaning.Transfer). meant t ∷ xs) rest.those;
        others = ap (λ (c : Bool). cond (not c) (meant t ∷ meaning.without p (map meant us)) (meaning.without p (map meant us))) is ∙ rest.others;
        count = sum_by-cons (λ x. cond (p x) 1 0) (meant t) (map meant us) ∙ ap (λ (c : Bool). cond c 1 0 + count_by p (map meant us)) is ∙ ap (λ (n : ℕ). 1 + n) rest.count;
      }
      own t us false is rest = record {
        any = ap (λ (c : Bool). c || list_any p (map meant us)) is ∙ rest.any;
        those = ap (λ (c : Bool). cond c (meant t ∷ filter p (map meant us)) (filter p (map meant us))) is ∙ rest.those;
        others = ap (λ (c : Bool). cond (not c) (meant t ∷ meaning.without p (map meant us)) (meaning.without p (map meant us))) is ∙ ap (λ (xs : List meaning.Transfer). meant t ∷ xs) rest.others;
        count = sum_by-cons (λ x. cond (p x) 1 0) (meant t) (map meant us) ∙ ap (λ (c : Bool). cond c 1 0 + count_by p (map meant us)) is ∙ zero-add (count_by p (map meant us)) ∙ rest.count;
      }
