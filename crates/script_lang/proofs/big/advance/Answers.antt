use Rattle.std.proofs.Common.{refl}
use Rattle.script_lang.proofs.Moves.{over, tick_moves}
use Rattle.script_lang.proofs.big.advance.Goals as goal

pub returns-in-Login : goal.returns-in-Login
returns-in-Login c = rw c.in-Login.is (c.login.ensures c.args.draws.now.last)

pub returns-in-MakeFile : goal.returns-in-MakeFile
returns-in-MakeFile c = rw c.in-MakeFile.is (c.make_file.ensures c.args.draws.now.last)

pub returns-in-Fill : goal.returns-in-Fill
returns-in-Fill c = rw c.in-Fill.is (c.fill.ensures c.args.draws.now.last)

pub returns-in-Run : goal.returns-in-Run
returns-in-Run c = rw c.in-Run.is (c.run.ensures c.args.draws.now.last)

pub returns-in-Tick : goal.returns-in-Tick
returns-in-Tick c = rw c.in-Tick.is (tick_moves c.args.draws.now.last)

pub returns-in-Show : goal.returns-in-Show
returns-in-Show c = rw c.in-Show.is (c.show.ensures c.args.draws.now.last)

pub returns-in-Over : goal.returns-in-Over
returns-in-Over c = rw c.in-Over.is (over c.args.draws.now.last, refl)
