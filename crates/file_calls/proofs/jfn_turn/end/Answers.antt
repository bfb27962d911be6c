use Rattle.std.proofs.Common.{subst}
use Rattle.call_turns.specs.Turns.{FitsEnd}
use Rattle.ka10_unit.proofs.Carried.{grows_none}
use Rattle.file_calls.specs.Changing.{IsSound}
use Rattle.file_calls.proofs.Turns.{ends_done, ends_none}
use Rattle.file_calls.proofs.jfn_turn.end.Goals as goal

pub returns-in-Done-clause-told : goal.returns-in-Done-clause-told
returns-in-Done-clause-told g c = ends_done g.P.Pages.means c.args.pages.now c.change.new.pages c.args.tables.now c.change.new.tables c.args.ending _ _ _ _ c.in-Done.is c.change.ensures.told c.change.ensures.dir

pub returns-in_default-clause-told : goal.returns-in_default-clause-told
returns-in_default-clause-told g c = ends_none g.P.Pages.means c.args.pages.now c.args.tables.now c.args.ending c.in_default.not-Done

pub returns-in_default-clause-grows : goal.returns-in_default-clause-grows
returns-in_default-clause-grows g c = grows_none g.P.Pages.means c.args.who.tty c.args.pages.now

pub returns-in-Done-clause-others : goal.returns-in-Done-clause-others
returns-in-Done-clause-others g c = c.change.ensures.others c.args.who.tty (subst (FitsEnd (IsSound c.args.tables.now c.args.who.tty)) c.in-Done.is c.requires.fits).0.1

pub returns-in-Done-clause-grows : goal.returns-in-Done-clause-grows
returns-in-Done-clause-grows g c = c.change.ensures.grows c.args.who.tty
