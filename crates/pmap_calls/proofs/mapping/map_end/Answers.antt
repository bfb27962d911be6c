use Rattle.call_turns.specs.declared.turn.Grant.TheVariants as grant
use Rattle.pmap_calls.proofs.mapping.map_end.Goals as goal

pub returns-clause-there : goal.returns-clause-there
returns-clause-there c = c.maps.ensures.fits grant.Nothing (c.requires.to, c.requires.page)

pub returns-clause-made : goal.returns-clause-made
returns-clause-made c = c.maps.ensures.fits (grant.Fill c.args.jfn.file c.args.page) (c.requires.to, c.requires.page)
