use Rattle.std.proofs.Common.{sym, ◌∙◌}
use Rattle.page_residence.proofs.Seating.{frame_has, home_below}
use Rattle.page_residence.proofs.Finding.{found_none, found_reading, found_there}
use Rattle.page_residence.proofs.residence.Residence.find.Goals as goal

pub is_reading-requires : goal.is_reading-requires
is_reading-requires c =
    let seats = c.args.self.now.frames.seats in
    home_below seats c.in-Some.f.0 c.args.home.0 (frame_has seats c.args.home.0 c.in-Some.f.0 c.in-Some.ensures)

pub returns-then-is_reading : goal.returns-then-is_reading
returns-then-is_reading c =
    found_reading c.args.self.now.frames.seats c.args.self.now.queue.queued c.args.home.0 c.in-Some.f.0 c.in-Some.ensures (sym c.is_reading.ensures ∙ c.if-is_reading.true)

pub returns-else-is_reading : goal.returns-else-is_reading
returns-else-is_reading c =
    found_there c.args.self.now.frames.seats c.args.self.now.queue.queued c.args.home.0 c.in-Some.f.0 c.in-Some.ensures (sym c.is_reading.ensures ∙ c.if-is_reading.false)

pub returns-in-None : goal.returns-in-None
returns-in-None c = found_none c.args.self.now.frames.seats c.args.self.now.queue.queued c.args.home.0 c.in-None.ensures
