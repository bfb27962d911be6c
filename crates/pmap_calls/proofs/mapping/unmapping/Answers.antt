use Rattle.std.proofs.Common.{sym, subst, ◌∙◌}
use Rattle.call_turns.specs.declared.turn.Grant.TheVariants as grant
use Rattle.pmap_calls.specs.Asking.{IsPlaceIn}
use Rattle.pmap_calls.proofs.Steps.{drops_so, drops_refused}
use Rattle.pmap_calls.proofs.mapping.unmapping.Goals as goal

pub returns-in-Fork-clause-fits : goal.returns-in-Fork-clause-fits
returns-in-Fork-clause-fits c = c.maps.ensures.fits grant.Nothing (subst (IsPlaceIn c.args.tables.now) c.in-Fork.is c.requires.place).0

pub returns-then-is_written-clause-turn : goal.returns-then-is_written-clause-turn
returns-then-is_written-clause-turn c who tree =
    let tables = c.args.tables.now in
    drops_so tables who tree c.args.regs.now c.in-File.jfn c.in-File.page c.args.place c.in-File.is c.drop_end.result (c.drop_end.ensures.end who tree) (sym (c.is_written.ensures tables.dir) ∙ c.if-is_written.true)

pub returns-else-is_written-clause-turn : goal.returns-else-is_written-clause-turn
returns-else-is_written-clause-turn c who tree =
    let tables = c.args.tables.now in
    drops_refused tables who tree c.args.regs.now c.in-File.jfn c.in-File.page c.args.place c.in-File.is (sym (c.is_written.ensures tables.dir) ∙ c.if-is_written.false)
