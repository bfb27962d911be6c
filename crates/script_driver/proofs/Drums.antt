-- A drum over several events.
use Rattle.std.proofs.Common.{ℕ, refl, ◌∙◌, arith}
use Rattle.event_items.specs.Outcome.{DrumStays}

module _ {D : Type 0} (faults reads writes size : D → ℕ) where
  -- one that is not asked
  pub drum_still : (d : D) → DrumStays faults reads writes size d d
  drum_still d = record { faults_later = omega arith; reads_later = omega arith; writes_later = omega arith; same_size = refl }

  -- one that was asked before
  pub drum_on : {d e f : D} → DrumStays faults reads writes size d e → DrumStays faults reads writes size e f → DrumStays faults reads writes size d f
  drum_on first then = record {
    faults_later = omega (arith, first.faults_later, then.faults_later);
    reads_later = omega (arith, first.reads_later, then.reads_later);
    writes_later = omega (arith, first.writes_later, then.writes_later);
    same_size = then.same_size ∙ first.same_size;
  }
