use Rattle.texts.proofs.RecordApart.{one_list, one_record}
use Rattle.texts.proofs.laws.records_apart.Goals as goal

pub returns-clause-record : goal.returns-clause-record
returns-clause-record c ss ts reads writes reads' writes' p q same = one_record ss ts reads writes reads' writes' p q same

pub returns-clause-entries : goal.returns-clause-entries
returns-clause-entries c text ss ts p q = one_list text ss ts p q
