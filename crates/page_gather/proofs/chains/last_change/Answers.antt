use Rattle.std.proofs.Common.{None, false}
use Rattle.page_gather.specs.declared.change.Change.{Change}
use Rattle.page_gather.proofs.Changing.{last_more}
use Rattle.page_gather.proofs.chains.last_change.Goals as goal

-- what is read behind the end of a list
abbrev none : Change
none = record { slot = record { fork = record { tty = record { 0 = 0 }; serial = 0 }; page = 0 }; access = record { r = false; w = false; x = false; c = false }; source = None; old = None }

pub loop-change-preserved : goal.loop-change-preserved
loop-change-preserved c = record { last = last_more c.args.changes.now c.loop-change.change-index none c.args.slot c.loop-change.last _ c.loop-change-test.true c.later_change-last.ensures c.loop-change.invariant.last }
