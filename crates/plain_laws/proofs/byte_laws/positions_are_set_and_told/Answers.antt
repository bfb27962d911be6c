use Rattle.plain_laws.proofs.ByteBack.{end_fits}
use Rattle.plain_laws.proofs.ByteTurns.{rfptr_so, sfptr_end, sfptr_so, sizef_so}
use Rattle.plain_laws.proofs.byte_laws.positions_are_set_and_told.Goals as goal

pub returns-clause-set : goal.returns-clause-set
returns-clause-set c = λ s f j lives held ready other room. sfptr_so s f lives j held ready other room

pub returns-clause-end : goal.returns-clause-end
returns-clause-end c = λ s f j w lives held ready ones. sfptr_end s f lives j held ready ones (end_fits s w.machine f j held)

pub returns-clause-told : goal.returns-clause-told
returns-clause-told c = λ s f j lives held ready. rfptr_so s f lives j held ready

pub returns-clause-size : goal.returns-clause-size
returns-clause-size c = λ s f j g lives held is. sizef_so s f lives j held g is
