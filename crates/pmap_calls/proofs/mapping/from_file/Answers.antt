use Rattle.std.proofs.Common.{sym, ap, ◌∙◌}
use Rattle.plain_files.specs.NamedFiles.{open_file}
use Rattle.plain_model.specs.MapCalls.{allows}
use Rattle.plain_model.specs.AccessWords.{access_in}
use Rattle.pmap_calls.proofs.Steps.{fills, has_to_be, refuses}
use Rattle.pmap_calls.proofs.mapping.from_file.Goals as goal

pub returns-then-not-allows-clause-turn : goal.returns-then-not-allows-clause-turn
returns-then-not-allows-clause-turn c who tree =
    let tables = c.args.tables.now in
    refuses tables who tree c.args.regs.now c.args.jfn c.requires.known c.args.page c.args.to
    (sym (c.allows.ensures tables.dir ∙ ap (allows (open_file tables.dir c.args.jfn)) (c.access_in.ensures ∙ ap access_in c.accumulator.ensures)) ∙ c.if-not-allows.true)

pub returns-then-is_written-clause-turn : goal.returns-then-is_written-clause-turn
returns-then-is_written-clause-turn c who tree =
    let tables = c.args.tables.now in
    fills tables who tree c.args.regs.now c.args.jfn c.requires.known c.args.page c.args.to
    (sym (c.allows.ensures tables.dir ∙ ap (allows (open_file tables.dir c.args.jfn)) (c.access_in.ensures ∙ ap access_in c.accumulator.ensures)) ∙ c.if-not-allows.false) c.map_end-end.result (c.map_end-end.ensures.end who tree)
    (sym (c.is_written.ensures tables.dir) ∙ c.if-is_written.true)

pub returns-else-is_written-clause-turn : goal.returns-else-is_written-clause-turn
returns-else-is_written-clause-turn c who tree =
    let tables = c.args.tables.now in
    has_to_be tables who tree c.args.regs.now c.args.jfn c.requires.known c.args.page c.args.to
    (sym (c.allows.ensures tables.dir ∙ ap (allows (open_file tables.dir c.args.jfn)) (c.access_in.ensures ∙ ap access_in c.accumulator.ensures)) ∙ c.if-not-allows.false) c.map_end-end.result (c.map_end-end.ensures.end who tree)
    (sym (c.is_written.ensures tables.dir) ∙ c.if-is_written.false)
