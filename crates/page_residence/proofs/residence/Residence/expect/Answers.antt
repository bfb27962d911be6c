use Rattle.std.proofs.Common.{◌≡◌, ◌<◌, ℕ, Some, is_some, length, true, refl, subst, arith, rules}
use Rattle.std.proofs.lemmas.List.{length-set}
use Rattle.page_homes.specs.declared.homes.Home.{Home}
use Rattle.frame_table.specs.Core.{Core, new_tenant, with_page}
use Rattle.page_residence.specs.Resident.{IsGivenTo, seat}
use Rattle.page_residence.proofs.Agreeing.{agrees, resides}
use Rattle.page_residence.proofs.Finding.{away_is, none_vacant}
use Rattle.page_residence.proofs.Steps.{resident_expected, given_expected}
use Rattle.page_residence.proofs.Numbered.{page_aged, tenant_aged}
use Rattle.page_residence.proofs.residence.Residence.expect.Goals as goal

given_long : (d : Core) (f : ℕ) (h : Home) → f < length d.seats → f < length (with_page d f h).seats
given_long d f h below = (let long = length-set d.seats f (Some (new_tenant h d.uses)) in omega (arith, below, long))

pub assign-requires-clause-away : goal.assign-requires-clause-away
assign-requires-clause-away c = away_is c.args.self.now.frames c.args.home c.requires.away

pub returns-in_default-clause-none : goal.returns-in_default-clause-none
returns-in_default-clause-none c none =
    let seats = c.args.self.now.frames.seats in
    none_vacant seats (λ f below. let all : is_some (seat seats f) ≡ true = search (rules, c.in_default.ensures.frame f below) in all)

pub invariant_of-self-2 : goal.invariant_of-self-2
invariant_of-self-2 c =
    let s = c.args.self.now in
    record {
      resident = rw (c.set_transfer.ensures, c.start_read.ensures, c.in-Some.ensures.assigned)
          (resides _ _ (resident_expected s.frames s.queue c.in-Some.f c.args.home (agrees s.frames s.queue s.resident) c.in-Some.ensures.frame.below c.in-Some.ensures.frame.free
          (away_is s.frames c.args.home c.requires.away)));
      aged = rw (c.set_transfer.ensures, c.in-Some.ensures.assigned)
          (tenant_aged _ c.in-Some.f.0 (λ t. record t { in_transfer = true }) (given_long s.frames c.in-Some.f.0 c.args.home c.in-Some.ensures.frame.below) (λ t. refl) (page_aged s.frames c.in-Some.f.0 c.args.home c.in-Some.ensures.whole c.in-Some.ensures.frame.below s.aged));
    }

pub returns-clause-given : goal.returns-clause-given
returns-clause-given c f is =
    let s = c.args.self.now in
    let same : c.in-Some.f.0 ≡ f = cc in
    subst (λ (g : ℕ). IsGivenTo c.args.home.0 g s.frames.seats c.set_transfer.new.self.seats) same
    (rw (c.set_transfer.ensures, c.in-Some.ensures.assigned) (given_expected s.frames c.in-Some.f.0 c.args.home c.in-Some.ensures.frame))
