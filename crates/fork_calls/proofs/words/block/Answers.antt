use Rattle.std.proofs.Common.{subst}
use Rattle.machine_names.specs.declared.names.ForkName.{ForkName}
use Rattle.ka10_unit.specs.Carrying.{Grows}
use Rattle.ka10_unit.specs.Gathers.{framed}
use Rattle.job_forks.proofs.CallLeaving.{none_grown}
use Rattle.fork_calls.proofs.TurnBlocks.{took_goes, took_stops}
use Rattle.fork_calls.proofs.words.block.Goals as goal

pub returns-in-Err-clause-told : goal.returns-in-Err-clause-told
returns-in-Err-clause-told g c d fits = (fits, took_stops c.args.who (framed g.P.Pages.means c.args.pages.now d) c.args.regs.now c.args.at c.args.kind c.refer_block.new.taken c.in-Err.stop (g.P.Pages.means.plain c.args.pages.now d) (c.in-Err.ensures.told d fits))

pub returns-in-Ok-clause-opens : goal.returns-in-Ok-clause-opens
returns-in-Ok-clause-opens g c d words fits is kind =
    let took = c.in-Ok.ensures.told d fits in
    c.make_block.ensures.opens d c.args.who c.args.at 16 fits took.stands (took.open_at words is kind)

pub returns-in-Ok-clause-told : goal.returns-in-Ok-clause-told
returns-in-Ok-clause-told g c d fits =
    let took = c.in-Ok.ensures.told d fits in (
      c.make_block.ensures.fits d fits,
      took_goes c.args.who (framed g.P.Pages.means c.args.pages.now d) c.args.regs.now c.args.at c.args.kind c.refer_block.new.taken c.in-Ok.words _ (c.make_block.ensures.told d c.args.who fits took.stands) c.in-Ok.ensures.kept took,
    )

pub returns-in-Err-clause-grows : goal.returns-in-Err-clause-grows
returns-in-Err-clause-grows g c = none_grown g.P.Pages.means c.args.who.tty c.args.pages.now

pub returns-in-Ok-clause-grows : goal.returns-in-Ok-clause-grows
returns-in-Ok-clause-grows g c = subst (λ (f : ForkName). Grows g.P.Pages.means f.tty 128 c.args.pages.now c.make_block.new.pages) c.in-Ok.ensures.fork c.make_block.ensures.grows

pub make_block-requires-clause-serves : goal.make_block-requires-clause-serves
make_block-requires-clause-serves g c = rw c.in-Ok.ensures.fork c.requires.serves

pub make_block-requires-clause-serial : goal.make_block-requires-clause-serial
make_block-requires-clause-serial g c = rw c.in-Ok.ensures.fork c.requires.serial
