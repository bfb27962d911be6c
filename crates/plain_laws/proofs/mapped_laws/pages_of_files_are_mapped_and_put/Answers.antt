use Rattle.plain_laws.proofs.PmapTurns.{made_so, mapped_so, put_so, unmapped_so}
use Rattle.plain_laws.proofs.mapped_laws.pages_of_files_are_mapped_and_put.Goals as goal

pub returns-clause-mapped : goal.returns-clause-mapped
returns-clause-mapped c = λ s f j page to lives goes names fits there. mapped_so s f lives goes j page to names fits there

pub returns-clause-made : goal.returns-clause-made
returns-clause-made c = λ s f j page to q lives goes names fits none written g. made_so s f lives goes j page to names fits none written q g

pub returns-clause-put : goal.returns-clause-put
returns-clause-put c = λ s f j page from lives goes names written there reads. put_so s f lives goes j page from names written there reads

pub returns-clause-unmapped : goal.returns-clause-unmapped
returns-clause-unmapped c = λ s f to lives goes names. unmapped_so s f lives goes to names
