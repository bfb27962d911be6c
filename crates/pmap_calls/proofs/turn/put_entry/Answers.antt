use Rattle.pmap_calls.proofs.Changes.{absent_not, missing_stays}
use Rattle.ka10_spots.proofs.Stored.{lost_none}
use Rattle.pmap_calls.proofs.turn.put_entry.Goals as goal

pub returns-in-Missing-clause-told : goal.returns-in-Missing-clause-told
returns-in-Missing-clause-told g c d f none = (f, missing_stays (g.P.Pages.means.plain c.args.pages.now d) (g.P.Pages.means.scene c.args.pages.now) c.args.slot c.args.new (c.in-Missing.ensures.told d f))

pub returns-in-Missing-clause-loses : goal.returns-in-Missing-clause-loses
returns-in-Missing-clause-loses g c = lost_none g.P.Pages.means c.args.pages.now

pub returns-in-Absent-clause-told : goal.returns-in-Absent-clause-told
returns-in-Absent-clause-told g c d f none =
    absurd (absent_not (g.P.Pages.means.plain c.args.pages.now d) (g.P.Pages.means.scene c.args.pages.now) c.args.slot c.in-Absent.field-0 (c.in-Absent.ensures.told d f) none)

pub returns-in-Absent-clause-loses : goal.returns-in-Absent-clause-loses
returns-in-Absent-clause-loses g c = lost_none g.P.Pages.means c.args.pages.now
