use Rattle.std.proofs.Common.{rules}
use Rattle.plain_pages.specs.PlainPages.{first_serials}
use Rattle.flat_tables.proofs.page_serials.PageSerials.first.Goals as goal

pub returns-clause-terminals : goal.returns-clause-terminals
unfolding first_serials
returns-clause-terminals c = search rules
