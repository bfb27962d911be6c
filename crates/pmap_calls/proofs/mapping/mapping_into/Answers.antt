use Rattle.std.proofs.Common.{subst}
use Rattle.call_turns.specs.declared.turn.Grant.TheVariants as grant
use Rattle.pmap_calls.specs.Asking.{IsPlaceIn}
use Rattle.pmap_calls.proofs.mapping.mapping_into.Goals as goal

pub returns-in-Fork-to-clause-fits : goal.returns-in-Fork-to-clause-fits
returns-in-Fork-to-clause-fits c =
    c.maps.ensures.fits grant.Nothing ((subst (IsPlaceIn c.args.tables.now) c.in-Fork-to.is c.requires.to).0, subst (IsPlaceIn c.args.tables.now) c.in-Fork.is c.requires.from)
