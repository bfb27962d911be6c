-- The frame whose page goes next.
use Rattle.std.proofs.Common.{◌≡◌, ℕ, zero, suc, ◌+◌, ◌≤◌, [], ◌∷◌, Option, None, Some, MatchOption, Bool, true, false, cond, refl, sym, ◌∙◌, ap, subst, arith}
use Rattle.std.specs.Prelude.{nat_le}
use Rattle.std.specs.Option.{option_map, option_map_or}
use Rattle.std.proofs.lemmas.Bool.{false≢true, leb-true, leb-false}
use Rattle.page_homes.specs.declared.homes.FrameId.{FrameId}
use Rattle.frame_table.specs.declared.tenant.Tenant.{Tenant}
use Rattle.frame_table.specs.Core.{Core, IsVictim, can_go, can_leave, age_of}
use Rattle.frame_table.specs.Seats.{leaving}
use Rattle.page_residence.specs.Resident.{Seats, seat, age_in}
use Rattle.page_residence.specs.Victims.{earlier, least_from, victim_of}

-- a frame has the least age, and is the first that has it
pub record IsFirstLeast (n : ℕ) (seats : Seats) (m age : ℕ) : Type 0 where
  pub index : ℕ
  pub is : m ≡ n + index
  pub has : leaving (seat seats index) ≡ Some age
  pub least : (k b : ℕ) → leaving (seat seats k) ≡ Some b → age ≤ b
  pub first : (k : ℕ) → leaving (seat seats k) ≡ Some age → index ≤ k

abbrev IsLeastOf : ℕ → Seats → Option (ℕ × ℕ) → Type 0
IsLeastOf n seats None = (k : ℕ) → leaving (seat seats k) ≡ None
IsLeastOf n seats (Some best) = IsFirstLeast n seats best.0 best.1

none_more : (s : Option Tenant) (seats : Seats) → leaving s ≡ None → ((k : ℕ) → leaving (seat seats k) ≡ None) → (k : ℕ) → leaving (seat (s ∷ seats) k) ≡ None
none_more s seats own rest zero = own
none_more s seats own rest (suc k) = rest k

more : (n : ℕ) (s : Option Tenant) (seats : Seats) (own : Option ℕ) (best : Option (ℕ × ℕ)) → leaving s ≡ own → IsLeastOf (suc n) seats best → IsLeastOf n (s ∷ seats) (earlier n own best)
more n s seats None None own rest = none_more s seats own rest
more n s seats None (Some best) own rest = record {
  index = suc rest.index;
  is = omega (arith, rest.is);
  has = rest.has;
  least = λ k b at. by_place k b at;
  first = λ k at. first k at;
}
  where
    by_place : (k b : ℕ) → leaving (seat (s ∷ seats) k) ≡ Some b → best.1 ≤ b
    by_place zero b at = let no : None ≡ Some b = sym own ∙ at in absurd cc
    by_place (suc k) b at = rest.least k b at

    first : (k : ℕ) → leaving (seat (s ∷ seats) k) ≡ Some best.1 → suc rest.index ≤ k
    first zero at = let no : None ≡ Some best.1 = sym own ∙ at in absurd cc
    first (suc k) at = let l = rest.first k at in omega (arith, l)
more n s seats (Some age) None own rest = record {
  index = 0;
  is = omega arith;
  has = own;
  least = λ k b at. by_place k b at;
  first = λ k at. omega arith;
}
  where
    by_place : (k b : ℕ) → leaving (seat (s ∷ seats) k) ≡ Some b → age ≤ b
    by_place zero b at = let two : Some age ≡ Some b = sym own ∙ at in let e : age ≡ b = cc in omega (arith, e)
    by_place (suc k) b at = let no : None ≡ Some b = sym (rest k) ∙ at in absurd cc
more n s seats (Some age) (Some best) own rest = at (nat_le age best.1) refl
  where
    at : (b : Bool) → nat_le age best.1 ≡ b → IsLeastOf n (s ∷ seats) (cond b (Some (n, age)) (Some best))
    at true le = record {
      index = 0;
      is = omega arith;
      has = own;
      least = λ k b is. by_place k b is;
      first = λ k is. omega arith;
    }
      where
        by_place : (k b : ℕ) → leaving (seat (s ∷ seats) k) ≡ Some b → age ≤ b
        by_place zero b is = let two : Some age ≡ Some b = sym own ∙ is in let e : age ≡ b = cc in omega (arith, e)
        by_place (suc k) b is = let l = rest.least k b is in let m = leb-true age best.1 le in omega (arith, l, m)
    at false le = record {
      index = suc rest.index;
      is = omega (arith, rest.is);
      has = rest.has;
      least = λ k b is. by_place k b is;
      first = λ k is. first k is;
    }
      where
        by_place : (k b : ℕ) → leaving (seat (s ∷ seats) k) ≡ Some b → best.1 ≤ b
        by_place zero b is = let two : Some age ≡ Some b = sym own ∙ is in let e : age ≡ b = cc in let m = leb-false age best.1 le in omega (arith, e, m)
        by_place (suc k) b is = rest.least k b is

        first : (k : ℕ) → leaving (seat (s ∷ seats) k) ≡ Some best.1 → suc rest.index ≤ k
        first zero is = let two : Some age ≡ Some best.1 = sym own ∙ is in let e : age ≡ best.1 = cc in let m = leb-false age best.1 le in absurd (omega (arith, e, m))
        first (suc k) is = let l = rest.first k is in omega (arith, l)

least_is : (n : ℕ) (seats : Seats) → IsLeastOf n seats (least_from n seats)
unfolding least_from
least_is n [] = λ k. refl
least_is n (s ∷ seats) = more n s seats (leaving s) (least_from (suc n) seats) refl (least_is (suc n) seats)

-- a frame's page may leave it where it has an age to go by
pub leaves_at : (o : Option Tenant) → option_map_or can_go o false ≡ true → leaving o ≡ Some (option_map_or (λ t. t.age) o 0)
leaves_at None may = absurd (false≢true may)
leaves_at (Some t) may = ap (λ (b : Bool). cond b (Some t.age) None) may

pub stays_at : (o : Option Tenant) → option_map_or can_go o false ≡ false → leaving o ≡ None
stays_at None may = refl
stays_at (Some t) may = ap (λ (b : Bool). cond b (Some t.age) None) may

pub goes_at : (o : Option Tenant) (age : ℕ) → leaving o ≡ Some age → (option_map_or can_go o false ≡ true) × (option_map_or (λ t. t.age) o 0 ≡ age)
goes_at None age is = absurd (cc is)
goes_at (Some t) age is = at (can_go t) is
  where
    at : (b : Bool) → cond b (Some t.age) None ≡ Some age → (b ≡ true) × (t.age ≡ age)
    at true is = (refl, let e : t.age ≡ age = cc in e)
    at false is = absurd (cc is)

abbrev VictimCases : Seats → Option (ℕ × ℕ) → Type 0
VictimCases seats o = IsLeastOf 0 seats o

none_best : (c : Core) (o : Option (ℕ × ℕ)) → IsLeastOf 0 c.seats o → ((f : ℕ) → can_leave c f ≡ false) → option_map (λ (best : ℕ × ℕ). best.0) o ≡ None
none_best c None is none = refl
none_best c (Some best) is none = absurd (false≢true (sym (none is.index) ∙ (goes_at (seat c.seats is.index) best.1 is.has).0))

same_best : (c : Core) (f : ℕ) (o : Option (ℕ × ℕ)) → IsLeastOf 0 c.seats o → IsVictim c f → option_map (λ (best : ℕ × ℕ). best.0) o ≡ Some f
same_best c f None is v = let no : None ≡ Some (age_of c f) = sym (is f) ∙ leaves_at (seat c.seats f) v.leaves in absurd cc
same_best c f (Some best) is v =
    let own = goes_at (seat c.seats is.index) best.1 is.has in
    let here = leaves_at (seat c.seats f) v.leaves in
    let below = is.least f (age_of c f) here in
    let above = v.oldest is.index own.0 in
    let ages : age_of c f ≡ best.1 = omega (arith, below, above, own.1) in
    let one = is.first f (here ∙ ap (λ (n : ℕ). let o : Option ℕ = Some n in o) ages) in
    let two = v.least is.index own.0 (own.1 ∙ sym ages) in
    let same : best.0 ≡ f = omega (arith, one, two, is.is) in
    ap (λ (n : ℕ). let o : Option ℕ = Some n in o) same

-- the victim that is found is the one that is meant
pub victim_found : (c : Core) (o : Option FrameId) → MatchOption o ((f : ℕ) → can_leave c f ≡ false) (λ f. IsVictim c f.0) → MatchOption o (victim_of c.seats ≡ None) (λ f. victim_of c.seats ≡ Some f.0)
victim_found c None none = none_best c (least_from 0 c.seats) (least_is 0 c.seats) none
victim_found c (Some f) v = same_best c f.0 (least_from 0 c.seats) (least_is 0 c.seats) v

best_goes : (seats : Seats) (f : ℕ) (o : Option (ℕ × ℕ)) → IsLeastOf 0 seats o → option_map (λ (best : ℕ × ℕ). best.0) o ≡ Some f → option_map_or can_go (seat seats f) false ≡ true
best_goes seats f None is e = absurd cc
best_goes seats f (Some best) is e =
    let same : best.0 ≡ f = cc in
    let at : is.index ≡ f = omega (arith, same, is.is) in
    subst (λ (n : ℕ). option_map_or can_go (seat seats n) false ≡ true) at (goes_at (seat seats is.index) best.1 is.has).0

best_none : (seats : Seats) (o : Option (ℕ × ℕ)) → IsLeastOf 0 seats o → option_map (λ (best : ℕ × ℕ). best.0) o ≡ None → (f : ℕ) → leaving (seat seats f) ≡ None
best_none seats None is e f = is f
best_none seats (Some best) is e f = absurd cc

-- its page may leave it
pub victim_goes : (seats : Seats) (f : ℕ) → victim_of seats ≡ Some f → option_map_or can_go (seat seats f) false ≡ true
victim_goes seats f e = best_goes seats f (least_from 0 seats) (least_is 0 seats) e

-- and without one no page may
pub none_goes : (seats : Seats) → victim_of seats ≡ None → (f : ℕ) → leaving (seat seats f) ≡ None
none_goes seats e f = best_none seats (least_from 0 seats) (least_is 0 seats) e f

best_least : (seats : Seats) (f : ℕ) (o : Option (ℕ × ℕ)) → IsLeastOf 0 seats o → option_map (λ (best : ℕ × ℕ). best.0) o ≡ Some f → (g : ℕ) → option_map_or can_go (seat seats g) false ≡ true
    → age_in (seat seats f) ≤ age_in (seat seats g)
best_least seats f None is e g may = absurd cc
best_least seats f (Some best) is e g may =
    let same : best.0 ≡ f = cc in
    let at : is.index ≡ f = omega (arith, same, is.is) in
    let own = (goes_at (seat seats is.index) best.1 is.has).1 in
    let least = is.least g (age_in (seat seats g)) (leaves_at (seat seats g) may) in
    subst (λ (n : ℕ). age_in (seat seats n) ≤ age_in (seat seats g)) at (omega (arith, own, least))

best_first : (seats : Seats) (f : ℕ) (o : Option (ℕ × ℕ)) → IsLeastOf 0 seats o → option_map (λ (best : ℕ × ℕ). best.0) o ≡ Some f → (g : ℕ) → option_map_or can_go (seat seats g) false ≡ true
    → age_in (seat seats g) ≡ age_in (seat seats f) → f ≤ g
best_first seats f None is e g may age = absurd cc
best_first seats f (Some best) is e g may age =
    let same : best.0 ≡ f = cc in
    let at : is.index ≡ f = omega (arith, same, is.is) in
    let own = (goes_at (seat seats is.index) best.1 is.has).1 in
    let there : age_in (seat seats g) ≡ best.1 = age ∙ ap (λ (n : ℕ). age_in (seat seats n)) (sym at) ∙ own in
    let first = is.first g (leaves_at (seat seats g) may ∙ ap (λ (n : ℕ). let o : Option ℕ = Some n in o) there) in
    omega (arith, first, at)

-- it is the oldest of those whose page may leave them, and of equals the first
pub victim_least : (seats : Seats) (f g : ℕ) → victim_of seats ≡ Some f → option_map_or can_go (seat seats g) false ≡ true → age_in (seat seats f) ≤ age_in (seat seats g)
victim_least seats f g e may = best_least seats f (least_from 0 seats) (least_is 0 seats) e g may

pub victim_first : (seats : Seats) (f g : ℕ) → victim_of seats ≡ Some f → option_map_or can_go (seat seats g) false ≡ true → age_in (seat seats g) ≡ age_in (seat seats f) → f ≤ g
victim_first seats f g e may age = best_first seats f (least_from 0 seats) (least_is 0 seats) e g may age
