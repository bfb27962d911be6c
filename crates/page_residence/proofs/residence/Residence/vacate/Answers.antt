use Rattle.page_residence.proofs.Agreeing.{agrees, resides}
use Rattle.page_residence.proofs.Steps.{resident_freed}
use Rattle.page_residence.proofs.Numbered.{free_aged}
use Rattle.page_residence.proofs.Seating.{home_below}
use Rattle.page_residence.proofs.residence.Residence.vacate.Goals as goal

pub invariant_of-self : goal.invariant_of-self
invariant_of-self c =
    let s = c.args.self.now in
    record {
      resident = rw (c.free.ensures, c.cancel-transfer.ensures.gone)
          (resides _ _ (resident_freed s.frames s.queue c.args.f.0 c.args.home.0 (agrees s.frames s.queue s.resident) c.requires.given));
      aged = rw c.free.ensures (free_aged s.frames c.args.f.0 (home_below s.frames.seats c.args.f.0 c.args.home.0 c.requires.given) s.aged);
    }
