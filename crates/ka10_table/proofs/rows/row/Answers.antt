use Rattle.std.proofs.Common.{subst, sym}
use Rattle.ka10_table.specs.declared.families.TableRow.{TableRow}
use Rattle.ka10_table.specs.Rows.{IsInLine}
use Rattle.ka10_table.proofs.Listed.{table_at, row_in_line}
use Rattle.ka10_table.proofs.rows.row.Goals as goal

pub returns-clause-row : goal.returns-clause-row
returns-clause-row c = table_at c.args.op _ c.requires

pub returns-clause-line : goal.returns-clause-line
returns-clause-line c = subst (λ (r : TableRow). IsInLine c.args.op r) (sym (table_at c.args.op _ c.requires)) (row_in_line c.args.op c.requires)
