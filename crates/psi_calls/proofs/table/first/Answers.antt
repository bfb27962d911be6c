use Rattle.psi_calls.proofs.table.first.Goals as goal

pub returns-in-85-clause-fits : goal.returns-in-85-clause-fits
returns-in-85-clause-fits c = c.given.ensures.fits c.args.tree.now.forks c.args.who c.sir.ensures.fits

pub returns-in-86-clause-fits : goal.returns-in-86-clause-fits
returns-in-86-clause-fits c = c.given-in-86.ensures.fits c.args.tree.now.forks c.args.who c.eir.ensures.fits

pub returns-in-88-clause-fits : goal.returns-in-88-clause-fits
returns-in-88-clause-fits c = c.given-in-88.ensures.fits c.args.tree.now.forks c.args.who c.dir.ensures.fits

pub returns-in-89-clause-fits : goal.returns-in-89-clause-fits
returns-in-89-clause-fits c = c.given-in-89.ensures.fits c.args.tree.now.forks c.args.who c.aic.ensures.fits

pub returns-in-91-clause-fits : goal.returns-in-91-clause-fits
returns-in-91-clause-fits c = c.given-in-91.ensures.fits c.args.tree.now.forks c.args.who c.dic.ensures.fits

pub returns-in-90-clause-fits : goal.returns-in-90-clause-fits
returns-in-90-clause-fits c = c.given-in-90.ensures.fits c.args.tree.now.forks c.args.who c.iic.ensures.fits

pub returns-in-95-clause-fits : goal.returns-in-95-clause-fits
returns-in-95-clause-fits c = c.given-in-95.ensures.fits c.args.tree.now.forks c.args.who (c.ati.ensures.fits c.args.tree.now.forks)

pub returns-in-96-clause-fits : goal.returns-in-96-clause-fits
returns-in-96-clause-fits c = c.given-in-96.ensures.fits c.args.tree.now.forks c.args.who (c.dti.ensures.fits c.args.tree.now.forks)
