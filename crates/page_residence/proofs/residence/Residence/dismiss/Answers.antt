use Rattle.std.proofs.Common.{true, refl}
use Rattle.page_residence.proofs.Agreeing.{agrees, resides}
use Rattle.page_residence.proofs.Steps.{resident_dismissed}
use Rattle.page_residence.proofs.Seating.{home_below}
use Rattle.page_residence.proofs.Renewing.{marked_ages}
use Rattle.page_residence.proofs.Numbered.{tenant_aged}
use Rattle.page_residence.proofs.residence.Residence.dismiss.Goals as goal

pub invariant_of-self : goal.invariant_of-self
invariant_of-self c =
    let s = c.args.self.now in
    record {
      resident = rw (c.set_transfer.ensures, c.start_write.ensures)
          (resides _ _ (resident_dismissed s.frames s.queue c.args.f c.args.home (agrees s.frames s.queue s.resident) c.requires.given c.requires.still));
      aged = rw c.set_transfer.ensures (tenant_aged s.frames c.args.f.0 (λ t. record t { in_transfer = true }) (home_below s.frames.seats c.args.f.0 c.args.home.0 c.requires.given) (λ t. refl) s.aged);
    }

pub returns-clause-ages : goal.returns-clause-ages
returns-clause-ages c =
    let s = c.args.self.now in
    rw c.set_transfer.ensures (marked_ages s.frames c.args.f.0 true (home_below s.frames.seats c.args.f.0 c.args.home.0 c.requires.given))
