use Rattle.std.proofs.Common.{◌∙◌, subst, sym}
use Rattle.page_gather.proofs.Lookups.{met_missing, met_absent, met_entry, met_changed}
use Rattle.page_gather.specs.Stepped.{StepNeeds}
use Rattle.page_gather.proofs.Needing.{entry_needs}
use Rattle.page_gather.proofs.chains.step_at.Goals as goal

pub returns-in-Missing-clause-told : goal.returns-in-Missing-clause-told
returns-in-Missing-clause-told g c d q owner homes fits h = met_missing _ q owner c.args.changes.now homes h (g.P.Pages.means.scene c.args.pages.now) c.args.slot (c.in-Missing.ensures.told d fits)

pub returns-in-Absent-clause-told : goal.returns-in-Absent-clause-told
returns-in-Absent-clause-told g c d q owner homes fits h = met_absent _ q owner c.args.changes.now homes h (g.P.Pages.means.scene c.args.pages.now) c.args.slot c.in-Absent.home (c.in-Absent.ensures.told d fits)

pub returns-in-None-clause-told : goal.returns-in-None-clause-told
returns-in-None-clause-told g c d q owner homes fits h = c.step_of.ensures ∙ met_entry _ q owner c.args.changes.now homes h (g.P.Pages.means.scene c.args.pages.now) c.args.slot c.in-Is.entry (c.in-Is.ensures.told d fits) c.in-None.ensures

pub returns-in-Some-clause-told : goal.returns-in-Some-clause-told
returns-in-Some-clause-told g c d q owner homes fits h = met_changed _ q owner c.args.changes.now homes h (g.P.Pages.means.scene c.args.pages.now) c.args.slot c.in-Is.entry c.in-Some.change (c.in-Is.ensures.told d fits) c.in-Some.ensures

pub returns-in-None-clause-needs : goal.returns-in-None-clause-needs
returns-in-None-clause-needs g c = subst (StepNeeds g.P.Pages.means.store c.args.pages.now) (sym c.step_of.ensures) (entry_needs g.P.Pages.means.store c.args.pages.now _)
