-- The ages that frames are known to have reached.
use Rattle.std.proofs.Common.{◌≡◌, ◌≢◌, ℕ, zero, suc, ◌^◌, ◌<◌, ◌≤◌, inl, inr, List, length, Option, None, Some, Bool, true, false, cond, replicate, refl, sym, ◌∙◌, ap, subst, arith, get_or, set}
use Rattle.std.specs.Prelude.{nat_le}
use Rattle.std.proofs.lemmas.Bool.{cases_eq, cases_lt}
use Rattle.std.proofs.lemmas.List.{get_or-set_same, get_or-set_other, get_or_past, length-set, length-replicate}
use Rattle.tournament.specs.Keys.{AreAbsent, IsLeast, goes_first, key_of}
use Rattle.frame_table.specs.declared.tenant.Tenant.{Tenant}
use Rattle.frame_table.specs.Core.{Core, IsCore, LAST_USE, can_go, seat_of}
use Rattle.frame_table.specs.Reached.{AreReached, HasReached}
use Rattle.frame_table.specs.Seats.{leaving}
use Rattle.frame_table.specs.Victims.{HasLeastBelow}

abbrev leaver : List (Option Tenant) → ℕ → Option ℕ
leaver seats f = leaving (get_or seats f None)

pub same_goes : (o : Option ℕ) → goes_first o o ≡ true
same_goes None = refl
same_goes (Some a) = let le : nat_le a a ≡ true = grind arith in le

-- a key goes before an age exactly where it is one, and no greater
no_greater : (o : Option ℕ) (age : ℕ) → goes_first o (Some age) ≡ true → (key : ℕ) × (o ≡ Some key) × (key ≤ age)
no_greater None age is = absurd (cc is)
no_greater (Some key) age is = let test : nat_le key age ≡ true = is in (key, refl, let le : key ≤ age = grind (arith, test) in le)

at_most : (key age : ℕ) → key ≤ age → nat_le key age ≡ true
at_most key age is = grind (arith, is)

-- what goes before an age goes before each later one
pub goes_later : (o : Option ℕ) (age later : ℕ) → goes_first o (Some age) ≡ true → age ≤ later → goes_first o (Some later) ≡ true
goes_later o age later is more =
    let was = no_greater o age is in
    ap (λ k. goes_first k (Some later)) was.1 ∙ at_most was.0 later (omega (arith, was.2))

module _ (keys : List (Option ℕ)) (seats : List (Option Tenant)) (known : AreReached keys seats) where
  -- no frame may give up its page where no age is known
  pub none_reached : AreAbsent keys → (f : ℕ) → leaver seats f ≡ None
  none_reached none f = at (leaver seats f) refl
    where
      at : (o : Option ℕ) → leaver seats f ≡ o → o ≡ None
      at None is = refl
      at (Some age) is =
          let was = no_greater (key_of keys f) age (ap (goes_first (key_of keys f)) (sym is) ∙ known.each f) in
          absurd (cc (was.1, none f))

  -- the frame that has the least age that is known goes first, if that is its age
  pub first_is : (f : ℕ) → IsLeast keys f → key_of keys f ≡ leaver seats f → (age : ℕ) × HasLeastBelow seats (length seats) f age
  first_is f least same =
      let key : ℕ = least.key in
      let has : leaver seats f ≡ Some key = sym same ∙ least.has in
      let was : (g age : ℕ) → leaver seats g ≡ Some age → (k : ℕ) × (key_of keys g ≡ Some k) × (k ≤ age) =
      λ g age is. no_greater (key_of keys g) age (ap (goes_first (key_of keys g)) (sym is) ∙ known.each g) in (
        key,
        record {
          below = elim (cases_lt f (length seats)) [
            | inl below ↦ below
            | inr past ↦ let no : None ≡ Some key = sym (ap leaving (get_or_past seats f None past)) ∙ has in absurd (cc no)
          ];
          has = has;
          oldest = λ g age below is. let one = was g age is in omega (arith, least.least g one.0 one.1, one.2);
          first = λ g below is.
              let one = was g key is in
              let equal : one.0 ≡ key = omega (arith, least.least g one.0 one.1, one.2) in
              least.first g (one.1 ∙ ap (λ (k : ℕ). let o : Option ℕ = Some k in o) equal);
        },
      )

  -- the age of a frame is noted as it is
  pub reached_noted : (f : ℕ) (age : Option ℕ) → age ≡ leaver seats f → AreReached (set keys f age) seats
  reached_noted f age is = record {
    size = length-set keys f age ∙ known.size;
    each = λ g. elim (cases_eq g f) [
      | inl e ↦ elim (cases_lt f (length keys)) [
        | inl below ↦
            subst (λ (h : ℕ). HasReached (set keys f age) seats h) (sym e)
            (ap (λ (k : Option ℕ). goes_first k (leaver seats f)) (get_or-set_same keys f age None below ∙ is) ∙ same_goes (leaver seats f))
        | inr past ↦
            subst (λ (h : ℕ). HasReached (set keys f age) seats h) (sym e)
            (ap (goes_first (key_of (set keys f age) f)) (ap leaving (get_or_past seats f None (omega (arith, past, known.size)))))
      ]
      | inr other ↦ ap (λ (k : Option ℕ). goes_first k (leaver seats g)) (get_or-set_other keys f g age None other) ∙ known.each g
    ];
  }

  -- where one seat changes, the age of another frame is known as before
  pub reached_beside : (f : ℕ) (seat : Option Tenant) (g : ℕ) → g ≢ f → HasReached keys (set seats f seat) g
  reached_beside f seat g other = ap (λ (s : Option Tenant). goes_first (key_of keys g) (leaving s)) (get_or-set_other seats f g seat None other) ∙ known.each g

  -- one seat changes, and what is known of its age stays so
  pub reached_set : (f : ℕ) (seat : Option Tenant) → goes_first (key_of keys f) (leaving seat) ≡ true → AreReached keys (set seats f seat)
  reached_set f seat is = record {
    size = known.size ∙ sym (length-set seats f seat);
    each = λ g. elim (cases_eq g f) [
      | inl e ↦ elim (cases_lt f (length seats)) [
        | inl below ↦
            subst (λ (h : ℕ). HasReached keys (set seats f seat) h) (sym e)
            (ap (λ (s : Option Tenant). goes_first (key_of keys f) (leaving s)) (get_or-set_same seats f seat None below) ∙ is)
        | inr past ↦
            subst (λ (h : ℕ). HasReached keys (set seats f seat) h) (sym e)
            (ap (λ (s : Option Tenant). goes_first (key_of keys f) (leaving s)) (get_or_past (set seats f seat) f None (omega (arith, past, length-set seats f seat))))
      ]
      | inr other ↦ reached_beside f seat g other
    ];
  }

  later_leaves : (key : Option ℕ) (may : Bool) (age later : ℕ) → age ≤ later → goes_first key (cond may (Some age) None) ≡ true → goes_first key (cond may (Some later) None) ≡ true
  later_leaves key true age later more is = goes_later key age later is more
  later_leaves key false age later more is = is

  -- a frame is used
  pub reached_used : (f : ℕ) (t : Tenant) (uses : ℕ) → get_or seats f None ≡ Some t → t.age ≤ uses → AreReached keys (set seats f (Some (record t { age = uses })))
  reached_used f t uses at more =
      reached_set f (Some (record t { age = uses }))
      (later_leaves (key_of keys f) (can_go t) t.age uses more (ap (λ (s : Option Tenant). goes_first (key_of keys f) (leaving s)) (sym at) ∙ known.each f))

-- the last use of a frame has no greater number than the next use
pub used_before : (c : Core) (f : ℕ) (t : Tenant) → IsCore c → seat_of c f ≡ Some t → t.age < 2 ^ 64 → t.age ≤ c.uses
used_before c f t is at small = elim (cases_lt c.uses LAST_USE) [
  | inl before ↦ omega (arith, is.aged f t at before)
  | inr last ↦ omega arith
]

-- nothing is known of frames that are free
pub reached_none : (n : ℕ) → AreReached (replicate n None) (replicate n None)
reached_none n = record {
  size = length-replicate {A = Option ℕ} n None ∙ sym (length-replicate {A = Option Tenant} n None);
  each = λ f. ap (λ (s : Option Tenant). goes_first (key_of (replicate n None) f) (leaving s)) (none_at n f);
}
  where
    none_at : (n f : ℕ) → get_or (replicate {A = Option Tenant} n None) f None ≡ None
    none_at zero f = refl
    none_at (suc n) zero = refl
    none_at (suc n) (suc f) = none_at n f
