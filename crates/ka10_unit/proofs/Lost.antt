-- What units lose of what is queued and held, and what they need first.
use Rattle.std.proofs.Common.{◌≡◌, ◌<◌, ◌≤◌, ◌+◌, ◌-◌, ◌*◌, ℕ, [], length, arith}
use Rattle.machine_names.specs.declared.names.Kind.{Kind}
use Rattle.machine_names.specs.declared.names.Kind.TheVariants.{Read, Write, Execute}
use Rattle.page_contracts.specs.Stores.{StoreMeaning}
use Rattle.page_contracts.proofs.Losing.{needed_more}
use Rattle.page_gather.specs.Gathering.{most_made}
use Rattle.ka10_unit.specs.declared.taken.Stop.{Stop}
use Rattle.ka10_unit.specs.declared.taken.Taken.{Taken}
use Rattle.ka10_unit.specs.Gathers.{weight}
use Rattle.ka10_unit.specs.declared.taken.Stop.TheVariants as stop
use Rattle.ka10_unit.specs.Planning.{PlanNeeds, stopped_by}
use Rattle.ka10_unit.specs.Taking.{StopNeeds, frames_for, most_pages, most_frames}

-- a reference is worth one page or two
pub few_made : (kind : Kind) → (1 ≤ most_made kind) × (most_made kind ≤ 2)
few_made Read = (omega arith, omega arith)
few_made Write = (omega arith, omega arith)
few_made Execute = (omega arith, omega arith)

-- where references are left, another of a kind is worth no more than they
pub enough_left : (kind : Kind) (t : Taken) → length t.refs.items < 16 → weight t.gather + most_made kind ≤ most_pages kind t
enough_left Read t few = omega (arith, few)
enough_left Write t few = omega (arith, few)
enough_left Execute t few = omega (arith, few)

-- with which they come to no more in all
pub no_more_left : (kind : Kind) (w v n m : ℕ) → n < 16 → m ≡ n + 1 → v ≤ w + most_made kind → v + most_made kind * (16 - m) ≤ w + most_made kind * (16 - n)
no_more_left Read w v n m few longer more = omega (arith, few, longer, more)
no_more_left Write w v n m few longer more = omega (arith, few, longer, more)
no_more_left Execute w v n m few longer more = omega (arith, few, longer, more)

-- and where nothing is taken yet
pub none_left : (kind : Kind) (t : Taken) → t.gather.references ≡ [] → t.gather.homes ≡ 0 → t.refs.items ≡ [] → most_pages kind t ≤ frames_for kind
none_left kind t gather unmade refs = rw (gather, unmade, refs) (by kind)
  where
    by : (k : Kind) → 0 + most_made k * 16 ≤ frames_for k
    by Read = omega arith
    by Write = omega arith
    by Execute = omega arith

module _ {P : Type 0} (store : StoreMeaning P) (p : P) where
  pub stop_more : (least most : ℕ) (x : Stop) → least ≤ most → StopNeeds store least p x → StopNeeds store most p x
  stop_more least most (stop.Trap channel) less h = tt
  stop_more least most (stop.Need n) less h = needed_more store least most p n less h

  -- a plan that stops needs what the stop does
  pub stop_plan : (x : Stop) → StopNeeds store most_frames p x → PlanNeeds store p (stopped_by x)
  stop_plan (stop.Trap channel) h = tt
  stop_plan (stop.Need n) h = h
