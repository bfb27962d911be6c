use Rattle.std.proofs.Common.{sym, ◌∙◌}
use Rattle.pmap_calls.proofs.Steps.{reads_refused, reads_so}
use Rattle.pmap_calls.proofs.mapping.into_file.Goals as goal

pub returns-then-is_written-clause-turn : goal.returns-then-is_written-clause-turn
returns-then-is_written-clause-turn c who tree =
    let tables = c.args.tables.now in
    reads_so tables who tree c.args.regs.now c.args.jfn c.requires.known c.args.page c.args.from c.put_end.result (c.put_end.ensures.end who tree) (sym (c.is_written.ensures tables.dir) ∙ c.if-is_written.true)

pub returns-else-is_written-clause-turn : goal.returns-else-is_written-clause-turn
returns-else-is_written-clause-turn c who tree =
    let tables = c.args.tables.now in
    reads_refused tables who tree c.args.regs.now c.args.jfn c.requires.known c.args.page c.args.from (sym (c.is_written.ensures tables.dir) ∙ c.if-is_written.false)
