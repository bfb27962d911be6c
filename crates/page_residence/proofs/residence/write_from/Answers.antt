use Rattle.std.proofs.Common.{rules}
use Rattle.page_residence.proofs.Steps.{held_back}
use Rattle.page_residence.proofs.residence.write_from.Goals as goal

pub returns-clause-frames : goal.returns-clause-frames
returns-clause-frames g c = rw (c.release.ensures, c.hold-hold.ensures.held, c.hold-hold.ensures.frame) (held_back c.args.frames.now c.args.f.0 (search rules))
