use Rattle.call_turns.specs.declared.turn.Grant.TheVariants as grant
use Rattle.pmap_calls.proofs.mapping.drop_end.Goals as goal

pub returns-clause-fits : goal.returns-clause-fits
returns-clause-fits c = c.maps.ensures.fits grant.Nothing c.requires.page
