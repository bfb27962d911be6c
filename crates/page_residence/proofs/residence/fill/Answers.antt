use Rattle.std.proofs.Common.{rules}
use Rattle.page_residence.proofs.Steps.{held_changed}
use Rattle.page_residence.proofs.residence.fill.Goals as goal

pub returns : goal.returns
returns c = rw (c.release.ensures, c.hold-hold.ensures.held, c.hold-hold.ensures.frame) (held_changed c.args.frames.now c.args.f.0 c.args.words.now (search rules))
