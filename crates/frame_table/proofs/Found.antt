-- Which frame is the least free one, and which one goes next.
use Rattle.std.proofs.Common.{◌≡◌, ℕ, ◌<◌, ◌≤◌, inl, inr, List, length, Option, None, Some, is_some, Bool, true, false, cond, refl, sym, ◌∙◌, ap, arith, get_or}
use Rattle.std.specs.Ordering.{nat_cmp}
use Rattle.std.specs.FinMap as map
use Rattle.std.specs.Option.{option_map_or}
use Rattle.std.proofs.lemmas.Bool.{cases_lt, false≢true}
use Rattle.std.proofs.lemmas.List.{get_or_past}
use Rattle.number_set.specs.Numbers.{AreAllThere, IsLeastAbsent, Numbers}
use Rattle.page_homes.specs.declared.homes.FrameId.{FrameId}
use Rattle.frame_table.specs.declared.tenant.Tenant.{Tenant}
use Rattle.frame_table.specs.Core.{AreAllTaken, Core, IsLeastFree, IsVictim, age_of, can_go, can_leave, seat_of}
use Rattle.frame_table.specs.Seats.{AreKept, leaving}
use Rattle.frame_table.specs.Victims.{GoesFirst}

empty_is : (o : Option Tenant) → is_some o ≡ false → o ≡ None
empty_is None e = refl
empty_is (Some t) e = absurd (cc e)

-- no number is left where all frames are taken
pub all_taken : (c : Core) (taken : Numbers) (homes : map.FinMap nat_cmp FrameId) (free : ℕ) → AreKept c taken homes free → AreAllThere taken 0 → AreAllTaken c
all_taken c taken homes free is all f below = sym (is.occupied f) ∙ all f (omega arith) (omega (arith, is.bound))

-- the least number that isn't taken is that of the least free frame
pub least_free : (c : Core) (taken : Numbers) (homes : map.FinMap nat_cmp FrameId) (free f : ℕ) → AreKept c taken homes free → IsLeastAbsent taken 0 f → IsLeastFree c f
least_free c taken homes free f is least = record {
  below = omega (arith, least.below, is.bound);
  free = empty_is (seat_of c f) (sym (is.occupied f) ∙ least.absent);
  taken = λ k lower. sym (is.occupied k) ∙ least.there k (omega arith) lower;
}

-- a frame that has no age to go by stays
stays : (o : Option Tenant) → leaving o ≡ None → option_map_or can_go o false ≡ false
stays None is = refl
stays (Some t) is = at (can_go t) is
  where
    at : (b : Bool) → cond b (Some t.age) None ≡ None → b ≡ false
    at true is = absurd (cc is)
    at false is = refl

-- one that has an age to go by may leave, and the age is its own
goes : (o : Option Tenant) (age : ℕ) → leaving o ≡ Some age → (option_map_or can_go o false ≡ true) × (option_map_or (λ t. t.age) o 0 ≡ age)
goes None age is = absurd (cc is)
goes (Some t) age is = at (can_go t) is
  where
    at : (b : Bool) → cond b (Some t.age) None ≡ Some age → (b ≡ true) × (t.age ≡ age)
    at true is = (refl, cc)
    at false is = absurd (cc is)

leaves : (o : Option Tenant) → option_map_or can_go o false ≡ true → leaving o ≡ Some (option_map_or (λ t. t.age) o 0)
leaves None is = absurd (false≢true is)
leaves (Some t) is = ap (λ (b : Bool). cond b (Some t.age) None) is

past_stays : (seats : List (Option Tenant)) (f : ℕ) → length seats ≤ f → option_map_or can_go (get_or seats f None) false ≡ false
past_stays seats f past = ap (λ (o : Option Tenant). option_map_or can_go o false) (get_or_past seats f None past)

module _ (c : Core) where
  pub none_leave : GoesFirst c.seats None → (f : ℕ) → can_leave c f ≡ false
  none_leave none f = elim (cases_lt f (length c.seats)) [
    | inl below ↦ stays (seat_of c f) (none f below)
    | inr past ↦ past_stays c.seats f past
  ]

  may_below : (g : ℕ) → can_leave c g ≡ true → g < length c.seats
  may_below g may = elim (cases_lt g (length c.seats)) [
    | inl below ↦ below
    | inr past ↦ absurd (false≢true (sym (past_stays c.seats g past) ∙ may))
  ]

  pub victim_is : (f : FrameId) → GoesFirst c.seats (Some f) → IsVictim c f.0
  victim_is f first =
      let least = first.1 in
      let own = goes (seat_of c f.0) first.0 least.has in
      record {
        leaves = own.0;
        oldest = λ g may. omega (arith, own.1, least.oldest g (age_of c g) (may_below g may) (leaves (seat_of c g) may));
        least = λ g may same. least.first g (may_below g may) (leaves (seat_of c g) may ∙ ap (λ (n : ℕ). let o : Option ℕ = Some n in o) (same ∙ own.1));
      }
