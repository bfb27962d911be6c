use Rattle.page_study.proofs.Rows.{another, fetches}
use Rattle.page_study.proofs.laws.worked_traces.Goals as goal

pub returns-clause-fetches : goal.returns-clause-fetches
returns-clause-fetches c = fetches

pub returns-clause-smallest : goal.returns-clause-smallest
returns-clause-smallest c = (another.0, another.1)

pub returns-clause-larger : goal.returns-clause-larger
returns-clause-larger c = (another.2, another.3, another.4, another.5)
