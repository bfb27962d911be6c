-- What a machine uses of the outside, one call behind another.
use Rattle.std.proofs.Common.{◌≡◌, ℕ, ◌≤◌, refl, ◌∙◌, ap, arith}
use Rattle.std.specs.Prelude.{Result, Ok, Err, OnErr}
use Rattle.outside.specs.Faults.{Rose}
use Rattle.script_texts.specs.Taker.{StaysOnward}
use Rattle.script_texts.proofs.Takers.{onward_nil, onward_then}
use Rattle.paged_events.specs.Outside.{GoesOnOutside, UsesOutside}
use Rattle.paged_events.specs.declared.fault.Fault.{Fault}
use Rattle.paged_events.specs.declared.fault.Fault.TheVariants.{Drum, Taker}

-- a result that failed so
abbrev pub failed : (X : Type 0) → Fault → Result X Fault
failed X a = Err a

-- an error of one result is that of another
fault_in : {X : Type 0} → Fault → Result X Fault → Fault
fault_in a (Ok x) = a
fault_in a (Err e) = e

pub other_err : {X Y : Type 0} (a b : Fault) → failed X a ≡ failed X b → failed Y a ≡ failed Y b
unfolding fault_in
other_err a b is = ap Err (ap (fault_in a) is)

module _ {T D : Type 0} (goes_on : T → T → Type 0) (missed : T → ℕ) (faults reads writes size : D → ℕ) where
  pub outside_nil : (o : T) (d : D) → GoesOnOutside goes_on missed faults reads writes size o o d d
  outside_nil o d = record { taker_later = omega arith; onward = onward_nil goes_on o; drum_stays = record { faults_later = omega arith; reads_later = omega arith; writes_later = omega arith; same_size = refl } }

  pub outside_then : (a b c : T) (d e f : D) → GoesOnOutside goes_on missed faults reads writes size a b d e → GoesOnOutside goes_on missed faults reads writes size b c e f → GoesOnOutside goes_on missed faults reads writes size a c d f
  outside_then a b c d e f x y = record {
    taker_later = omega (arith, x.taker_later, y.taker_later);
    onward = onward_then goes_on a b c x.onward y.onward;
    drum_stays = record {
      faults_later = omega (arith, x.drum_stays.faults_later, y.drum_stays.faults_later);
      reads_later = omega (arith, x.drum_stays.reads_later, y.drum_stays.reads_later);
      writes_later = omega (arith, x.drum_stays.writes_later, y.drum_stays.writes_later);
      same_size = y.drum_stays.same_size ∙ x.drum_stays.same_size;
    };
  }

  -- the drum alone was used
  pub outside_drum : (o : T) (d e : D) → faults d ≤ faults e → reads d ≤ reads e → writes d ≤ writes e → size e ≡ size d → GoesOnOutside goes_on missed faults reads writes size o o d e
  outside_drum o d e a b c s = record { taker_later = omega arith; onward = onward_nil goes_on o; drum_stays = record { faults_later = a; reads_later = b; writes_later = c; same_size = s } }

  -- the taker alone was used
  pub outside_taker : (o p : T) (d : D) → missed o ≤ missed p → StaysOnward goes_on o p → GoesOnOutside goes_on missed faults reads writes size o p d d
  outside_taker o p d a s = record { taker_later = a; onward = s; drum_stays = record { faults_later = omega arith; reads_later = omega arith; writes_later = omega arith; same_size = refl } }

  -- nothing failed, or one of them
  pub uses_well : {X : Type 0} (x : X) (o p : T) (d e : D) → GoesOnOutside goes_on missed faults reads writes size o p d e → UsesOutside goes_on missed faults reads writes size {X = X} (Ok x) o p d e
  uses_well x o p d e later = record { later = later; taker_rose = λ h. absurd (cc h); drum_rose = λ h. absurd (cc h) }

  pub uses_taker : {X : Type 0} (o p : T) (d e : D) → GoesOnOutside goes_on missed faults reads writes size o p d e → Rose (missed o) (missed p) → UsesOutside goes_on missed faults reads writes size {X = X} (Err Taker) o p d e
  uses_taker o p d e later rose = record { later = later; taker_rose = λ h. rose; drum_rose = λ h. absurd (cc h) }

  pub uses_drum : {X : Type 0} (o p : T) (d e : D) → GoesOnOutside goes_on missed faults reads writes size o p d e → Rose (faults d) (faults e) → UsesOutside goes_on missed faults reads writes size {X = X} (Err Drum) o p d e
  uses_drum o p d e later rose = record { later = later; taker_rose = λ h. absurd (cc h); drum_rose = λ h. rose }

  -- what follows uses it so
  pub uses_then : {X : Type 0} (r : Result X Fault) (a b c : T) (d e f : D) → GoesOnOutside goes_on missed faults reads writes size a b d e → UsesOutside goes_on missed faults reads writes size r b c e f
      → UsesOutside goes_on missed faults reads writes size r a c d f
  uses_then r a b c d e f x y = record {
    later = outside_then a b c d e f x y.later;
    taker_rose = λ h. let rose = y.taker_rose h in omega (arith, rose, x.taker_later);
    drum_rose = λ h. let rose = y.drum_rose h in omega (arith, rose, x.drum_stays.faults_later);
  }

  -- a failure of one call is that of another
  pub uses_failed : {X Y : Type 0} (fault : Fault) (o p : T) (d e : D) → UsesOutside goes_on missed faults reads writes size {X = X} (Err fault) o p d e → UsesOutside goes_on missed faults reads writes size {X = Y} (Err fault) o p d e
  uses_failed fault o p d e f = record { later = f.later; taker_rose = λ is. f.taker_rose (other_err fault Taker is); drum_rose = λ is. f.drum_rose (other_err fault Drum is) }

  -- transfers that ended use the drum alone
  pub transfers_used : (r : Result ℕ Fault) (o : T) (d e : D) → faults d ≤ faults e → reads d ≤ reads e → writes d ≤ writes e → size e ≡ size d → OnErr r (Rose (faults d) (faults e)) → (r ≡ Err Taker → ⊥) → UsesOutside goes_on missed faults reads writes size r o o d e
  transfers_used (Ok k) o d e a b c s rose fails = uses_well k o o d e (outside_drum o d e a b c s)
  transfers_used (Err Drum) o d e a b c s rose fails = uses_drum o o d e (outside_drum o d e a b c s) rose
  transfers_used (Err Taker) o d e a b c s rose fails = absurd (fails refl)
