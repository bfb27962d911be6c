use Rattle.page_residence.proofs.Agreeing.{agrees, resides}
use Rattle.page_residence.proofs.Steps.{resident_used, used_stays}
use Rattle.page_residence.proofs.Renewing.{used_renews}
use Rattle.page_residence.proofs.Numbered.{used_aged}
use Rattle.page_residence.proofs.residence.Residence.touch.Goals as goal

pub invariant_of-self : goal.invariant_of-self
invariant_of-self c =
    let s = c.args.self.now in
    record { resident = rw c.touch_age.ensures.used (resides _ _ (resident_used s.frames s.queue c.args.f.0 (agrees s.frames s.queue s.resident) c.requires)); aged = rw c.touch_age.ensures.used (used_aged s.frames c.args.f.0 c.touch_age.ensures.whole s.aged) }

pub returns-clause-seats : goal.returns-clause-seats
returns-clause-seats c = rw c.touch_age.ensures.used (used_stays c.args.self.now.frames c.args.f.0 c.requires)

pub returns-clause-renews : goal.returns-clause-renews
returns-clause-renews c = rw c.touch_age.ensures.used (used_renews c.args.self.now.frames c.args.f.0 c.touch_age.ensures.whole)
