use Rattle.std.proofs.Common.{◌≡◌, subst}
use Rattle.plain_pages.specs.declared.map.MapEntry.{MapEntry}
use Rattle.plain_pages.specs.declared.map.MapEntry.TheVariants.{Follows}
use Rattle.page_contracts.specs.declared.answers.Seen.TheVariants.{Is}
use Rattle.page_contracts.specs.Pages.{FollowsPage}
use Rattle.call_turns.proofs.Looks.{is_entry, missing_entry, absent_map}
use Rattle.call_turns.proofs.asking.entry_of.Goals as goal

pub returns-in-Is-clause-told : goal.returns-in-Is-clause-told
returns-in-Is-clause-told g c d f = is_entry (g.P.Pages.means.plain c.args.pages.now d) (g.P.Pages.means.scene c.args.pages.now) c.args.slot c.in-Is.entry (c.in-Is.ensures.told d f)

pub returns-in-Is-clause-page : goal.returns-in-Is-clause-page
returns-in-Is-clause-page g c serial page a e =
    let is : c.in-Is.entry ≡ Follows serial page a = cc e in
    let Holds : MapEntry → Type 0 = λ x. FollowsPage (Is x) in
    subst Holds is c.in-Is.ensures.follows

pub returns-in-Missing-clause-told : goal.returns-in-Missing-clause-told
returns-in-Missing-clause-told g c d f = missing_entry (g.P.Pages.means.plain c.args.pages.now d) (g.P.Pages.means.scene c.args.pages.now) c.args.slot (c.in-Missing.ensures.told d f)

pub returns-in-Absent-clause-told : goal.returns-in-Absent-clause-told
returns-in-Absent-clause-told g c d f = absent_map (g.P.Pages.means.plain c.args.pages.now d) (g.P.Pages.means.scene c.args.pages.now) c.args.slot c.in-Absent.home (c.in-Absent.ensures.told d f)
