use Rattle.job_forks.specs.Asking.{asked}
use Rattle.fork_calls.proofs.table.first.Goals as goal

pub returns-in-106-clause-fits : goal.returns-in-106-clause-fits
returns-in-106-clause-fits c = c.cfork.ensures.fits c.args.regs.now

pub returns-in-107-clause-fits : goal.returns-in-107-clause-fits
returns-in-107-clause-fits c = c.given.ensures.fits (asked c.args.who c.args.regs.now c.args.tree.now) c.kfork.ensures.fits

pub returns-in-108-clause-fits : goal.returns-in-108-clause-fits
returns-in-108-clause-fits c = c.given-in-108.ensures.fits (asked c.args.who c.args.regs.now c.args.tree.now) c.ffork.ensures.fits

pub returns-in-109-clause-fits : goal.returns-in-109-clause-fits
returns-in-109-clause-fits c = c.given-in-109.ensures.fits (asked c.args.who c.args.regs.now c.args.tree.now) c.rfork.ensures.fits

pub returns-in-110-clause-fits : goal.returns-in-110-clause-fits
returns-in-110-clause-fits c = c.given-in-110.ensures.fits (asked c.args.who c.args.regs.now c.args.tree.now) c.rfsts.ensures.fits

pub returns-in-111-clause-fits : goal.returns-in-111-clause-fits
returns-in-111-clause-fits c = c.given-in-111.ensures.fits (asked c.args.who c.args.regs.now c.args.tree.now) c.sfork.ensures.fits

pub returns-in-112-clause-fits : goal.returns-in-112-clause-fits
returns-in-112-clause-fits c = c.given-in-112.ensures.fits (asked c.args.who c.args.regs.now c.args.tree.now) c.sfacs.ensures.fits

pub returns-in-113-clause-fits : goal.returns-in-113-clause-fits
returns-in-113-clause-fits c = c.given-in-113.ensures.fits (asked c.args.who c.args.regs.now c.args.tree.now) c.rfacs.ensures.fits

pub returns-in-114-clause-fits : goal.returns-in-114-clause-fits
returns-in-114-clause-fits c = c.given-in-114.ensures.fits (asked c.args.who c.args.regs.now c.args.tree.now) c.hfork.ensures.fits

pub returns-in-115-clause-fits : goal.returns-in-115-clause-fits
returns-in-115-clause-fits c = c.given-in-115.ensures.fits (asked c.args.who c.args.regs.now c.args.tree.now) c.wfork.ensures.fits

pub returns-in-106-clause-makes : goal.returns-in-106-clause-makes
returns-in-106-clause-makes c is = c.cfork.ensures.makes
