use Rattle.page_residence.proofs.Agreeing.{agrees, resides}
use Rattle.page_residence.proofs.Steps.{oldest_home, resident_departed}
use Rattle.page_residence.proofs.Seating.{home_below}
use Rattle.drum_queue.specs.declared.transfer.Transfer.TheVariants.{Write}
use Rattle.page_residence.proofs.Numbered.{free_aged}
use Rattle.page_residence.proofs.residence.Residence.leave.Goals as goal

pub invariant_of-self : goal.invariant_of-self
invariant_of-self c =
    let s = c.args.self.now in
    record {
      resident = rw (c.free.ensures, c.finish.ensures)
          (resides _ _ (resident_departed s.frames s.queue c.args.f c.args.home (agrees s.frames s.queue s.resident) c.requires.oldest));
      aged = rw c.free.ensures (free_aged s.frames c.args.f.0 (home_below s.frames.seats c.args.f.0 c.args.home.0 (oldest_home s.frames s.queue (Write c.args.f c.args.home) (agrees s.frames s.queue s.resident) c.requires.oldest)) s.aged);
    }
