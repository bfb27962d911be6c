use Rattle.asm_core.proofs.Named.{each_means, named_rows}
use Rattle.asm_core.proofs.laws.rows_have_names.Goals as goal

pub returns-clause-each : goal.returns-clause-each
returns-clause-each c = each_means

pub returns-clause-rows : goal.returns-clause-rows
returns-clause-rows c = named_rows
