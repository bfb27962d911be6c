use Rattle.std.proofs.Common.{refl}
use Rattle.call_turns.specs.declared.turn.Grant.TheVariants as grant
use Rattle.pmap_calls.proofs.mapping.put_end.Goals as goal

pub returns-clause-fits : goal.returns-clause-fits
returns-clause-fits c = c.maps.ensures.fits (grant.Read c.args.from) (refl, c.requires.page)
