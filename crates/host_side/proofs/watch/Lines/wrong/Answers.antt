use Rattle.std.proofs.Common.{refl}
use Rattle.host_side.proofs.Turns.{turns_wrong}
use Rattle.host_side.proofs.watch.Lines.wrong.Goals as goal

pub returns-in-One : goal.returns-in-One
returns-in-One c = turns_wrong c.args.line.now c.in-One.event c.wrong_event.result (c.in-One.ensures.one c.in-One.event refl).0 c.wrong_event.ensures
