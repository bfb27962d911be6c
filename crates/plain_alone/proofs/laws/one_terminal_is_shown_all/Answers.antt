use Rattle.plain_model.specs.Run.{items_of}
use Rattle.plain_model.specs.State.{opening}
use Rattle.plain_laws.specs.Whole.{IsWhole}
use Rattle.plain_alone.proofs.EntriesLeave.{run_shown}
use Rattle.plain_alone.proofs.ShownAt.{all_shown, none_shown}
use Rattle.plain_alone.proofs.WholeStates.{whole_states}
use Rattle.plain_alone.proofs.laws.one_terminal_is_shown_all.Goals as goal

pub returns-clause-there : goal.returns-clause-there
returns-clause-there c t limit entries fits own = all_shown t (items_of (opening limit) entries) (run_shown IsWhole whole_states entries (opening limit) (whole_states.opens limit) t fits own)

pub returns-clause-elsewhere : goal.returns-clause-elsewhere
returns-clause-elsewhere c t u limit entries other fits own = none_shown t u other (items_of (opening limit) entries) (run_shown IsWhole whole_states entries (opening limit) (whole_states.opens limit) t fits own)
