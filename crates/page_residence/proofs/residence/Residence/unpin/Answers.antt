use Rattle.std.proofs.Common.{◌-◌, refl}
use Rattle.frame_table.specs.declared.tenant.Tenant.{Tenant}
use Rattle.page_residence.specs.Resident.{seat}
use Rattle.page_residence.proofs.Agreeing.{agrees, resides}
use Rattle.page_residence.proofs.Steps.{resident_tenant, taken_home, pinned_some}
use Rattle.page_residence.proofs.Seating.{home_below}
use Rattle.page_residence.proofs.Numbered.{tenant_aged}
use Rattle.page_residence.proofs.residence.Residence.unpin.Goals as goal

pub invariant_of-self : goal.invariant_of-self
invariant_of-self c =
    let s = c.args.self.now in
    let own = taken_home s.frames.seats c.args.f.0 (pinned_some (seat s.frames.seats c.args.f.0) c.requires) in
    record {
      resident = rw c.unpin.ensures
          (resides _ _ (resident_tenant s.frames s.queue c.args.f.0 s.frames.uses (λ (t : Tenant). record t { pins = t.pins - 1 }) (agrees s.frames s.queue s.resident)
          (home_below s.frames.seats c.args.f.0 own.0 own.1) (λ t. refl) (λ t. refl) (λ t. refl)));
      aged = rw c.unpin.ensures (tenant_aged s.frames c.args.f.0 (λ (t : Tenant). record t { pins = t.pins - 1 }) (home_below s.frames.seats c.args.f.0 own.0 own.1) (λ t. refl) s.aged);
    }
