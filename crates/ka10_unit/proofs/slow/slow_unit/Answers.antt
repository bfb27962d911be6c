use Rattle.std.proofs.Common.{refl, arith}
use Rattle.plain_units.specs.Steps.{begun}
use Rattle.plain_units.specs.Instructions.{instruction}
use Rattle.ka10_unit.specs.Gathers.{framed}
use Rattle.ka10_unit.proofs.Carried.{grows_none, grows_within}
use Rattle.ka10_unit.proofs.Plainly.{plain_of}
use Rattle.ka10_unit.proofs.slow.slow_unit.Goals as goal

pub returns-in-Some : goal.returns-in-Some
returns-in-Some g c = record {
  told = λ d fits. (fits, plain_of c.args.fork (framed g.P.Pages.means c.args.pages.now d) (instruction c.args.regs.now) (begun (g.P.Pages.means.plain c.args.pages.now d) c.args.regs.now.ac) _ (c.in-Some.ensures.told d fits));
  over = λ d fits. c.in-Some.ensures.told d fits;
  stopped = (refl, refl);
  core = λ flat. tt;
  needs = tt;
  grows = grows_within g.P.Pages.means c.args.fork.tty 0 128 _ _ (omega arith) (grows_none g.P.Pages.means c.args.fork.tty _);
  pc = c.requires.pc;
  number = c.in-Some.ensures.below;
  accumulators = refl;
}
