use Rattle.std.proofs.Common.{ap, ◌∙◌}
use Rattle.script_texts.specs.declared.status.ForkStatus.TheVariants.{Forced}
use Rattle.plain_model.specs.declared.interrupt.Inspected.TheVariants.{Forces}
use Rattle.plain_model.specs.Forks.{with_status}
use Rattle.plain_model.specs.Unit.{Effect}
use Rattle.plain_laws.proofs.InterruptUnits.{unit_found}
use Rattle.plain_laws.proofs.UnitForks.{ended_pages}
use Rattle.plain_laws.proofs.interrupt_laws.forced_forks_make_no_page.Goals as goal

pub returns : goal.returns
returns c = λ s f channel there on is. ap (λ (e : Effect). e.state.pages) (unit_found s f there (Forces channel) on is) ∙ ended_pages s (with_status f (Forced channel)) (Forced channel)
