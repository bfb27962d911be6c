use Rattle.plain_pages.specs.References.{in_map}
use Rattle.std.specs.Cmp.{nat_cmp_total}
use Rattle.plain_laws.proofs.ReadsOn.{reference_reads}
use Rattle.plain_laws.proofs.Stored.{stored_read, stored_other}
use Rattle.plain_laws.proofs.laws.references_change_no_word.Goals as goal

pub returns-clause-read : goal.returns-clause-read
returns-clause-read c = λ p q owner s kind w own g. reference_reads nat_cmp_total owner own p q w s kind g

pub returns-clause-put : goal.returns-clause-put
returns-clause-put c = λ p at s offset word n is there. stored_read p (in_map at) offset word (in_map s) n is there

pub returns-clause-others : goal.returns-clause-others
returns-clause-others c = λ p at s offset word apart. stored_other p (in_map at) offset word (in_map s) apart
