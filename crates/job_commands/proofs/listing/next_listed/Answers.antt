use Rattle.job_commands.proofs.NextLines.{line_there, lines_next}
use Rattle.job_commands.proofs.listing.next_listed.Goals as goal

pub returns-clause-lines : goal.returns-clause-lines
returns-clause-lines c = lines_next c.args.tables.now c.args.user.now c.args.after c.requires c.list.result c.list.ensures.next

pub returns-clause-line : goal.returns-clause-line
returns-clause-line c = line_there c.args.tables.now c.args.user.now c.args.after c.requires c.list.result c.list.ensures.next
