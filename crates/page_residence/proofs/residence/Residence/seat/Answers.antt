use Rattle.std.proofs.Common.{◌≡◌, is_some, true, arith, rules}
use Rattle.page_residence.specs.Resident.{seat}
use Rattle.page_residence.proofs.Agreeing.{agrees, resides}
use Rattle.page_residence.proofs.Finding.{away_is, none_vacant}
use Rattle.page_residence.proofs.Steps.{given_seated, resident_seated}
use Rattle.page_residence.proofs.Renewing.{given_renews}
use Rattle.page_residence.proofs.Numbered.{page_aged, words_aged}
use Rattle.page_residence.proofs.residence.Residence.seat.Goals as goal

pub assign-requires-clause-away : goal.assign-requires-clause-away
assign-requires-clause-away c = away_is c.args.self.now.frames c.args.home c.requires.away

pub invariant_of-self : goal.invariant_of-self
invariant_of-self c =
    let s = c.args.self.now in
    record {
      resident = rw (c.fill.ensures, c.in-Some.ensures.assigned)
          (resides _ _ (resident_seated s.frames s.queue c.in-Some.f.0 c.args.home c.args.words.now (agrees s.frames s.queue s.resident) c.in-Some.ensures.frame.below c.in-Some.ensures.frame.free
          (away_is s.frames c.args.home c.requires.away) c.requires.page));
      aged = rw (c.fill.ensures, c.in-Some.ensures.assigned) (words_aged _ c.in-Some.f.0 c.args.words.now (page_aged s.frames c.in-Some.f.0 c.args.home c.in-Some.ensures.whole c.in-Some.ensures.frame.below s.aged));
    }

pub unreachable-requires : goal.unreachable-requires
unreachable-requires c =
    let seats = c.args.self.now.frames.seats in
    let none = none_vacant seats (λ f below. let all : is_some (seat seats f) ≡ true = search (rules, c.in-None.ensures.frame f below) in all) in
    absurd (omega (arith, none, c.requires.spare))

pub returns-clause-renews : goal.returns-clause-renews
returns-clause-renews c =
    let s = c.args.self.now in
    rw (c.fill.ensures, c.in-Some.ensures.assigned) (given_renews s.frames c.in-Some.f.0 c.args.home c.in-Some.ensures.whole c.in-Some.ensures.frame.below)

pub returns-clause-given : goal.returns-clause-given
returns-clause-given c =
    rw (c.fill.ensures, c.in-Some.ensures.assigned) (given_seated c.args.self.now.frames c.in-Some.f.0 c.args.home c.args.words.now c.in-Some.ensures.frame)
