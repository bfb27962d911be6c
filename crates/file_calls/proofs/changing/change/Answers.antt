use Rattle.std.proofs.Common.{sym, subst}
use Rattle.ka10_unit.proofs.Carried.{grows_none}
use Rattle.file_calls.specs.Changing.{ChangesAll}
use Rattle.file_calls.proofs.changing.change.Goals as goal

pub returns-in-Take-clause-grows : goal.returns-in-Take-clause-grows
returns-in-Take-clause-grows g c t = grows_none g.P.Pages.means t c.args.pages.now

pub returns-in-Make-clause-grows : goal.returns-in-Make-clause-grows
returns-in-Make-clause-grows g c t = grows_none g.P.Pages.means t c.args.pages.now

pub returns-in-Open-clause-grows : goal.returns-in-Open-clause-grows
returns-in-Open-clause-grows g c t = grows_none g.P.Pages.means t c.args.pages.now

pub returns-in-Release-clause-grows : goal.returns-in-Release-clause-grows
returns-in-Release-clause-grows g c t = grows_none g.P.Pages.means t c.args.pages.now

pub returns-in-Delete-clause-told : goal.returns-in-Delete-clause-told
returns-in-Delete-clause-told g c = subst (ChangesAll g.P.Pages.means c.args.pages.now c.delete.new.pages c.args.tables.now c.delete.new.tables) (sym c.in-Delete.is) c.delete.ensures.told
