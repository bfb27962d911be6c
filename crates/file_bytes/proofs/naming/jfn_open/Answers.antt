use Rattle.std.proofs.Common.{sym, ◌∙◌}
use Rattle.plain_files.specs.NamedFiles.{open_file}
use Rattle.file_bytes.specs.Asking.{asked, is_so}
use Rattle.file_bytes.proofs.Named.{closed, missing, opened}
use Rattle.file_bytes.proofs.naming.jfn_open.Goals as goal

pub returns-then-is_so-clause-held : goal.returns-then-is_so-clause-held
returns-then-is_so-clause-held c input pages =
    let dir = c.args.tables.now.dir in
    opened (is_so c.args.way) (asked c.args.who c.args.regs.now c.args.tables.now input pages) (open_file dir c.in-Ok.jfn) (c.in-Ok.ensures.held input pages) (sym (c.is_so.ensures dir) ∙ c.if-is_so.true)

pub returns-else-is_so-clause-held : goal.returns-else-is_so-clause-held
returns-else-is_so-clause-held c input pages =
    let dir = c.args.tables.now.dir in
    closed (is_so c.args.way) (asked c.args.who c.args.regs.now c.args.tables.now input pages) (open_file dir c.in-Ok.jfn) (c.in-Ok.ensures.held input pages) (sym (c.is_so.ensures dir) ∙ c.if-is_so.false)

pub returns-in-Err-clause-held : goal.returns-in-Err-clause-held
returns-in-Err-clause-held c input pages = missing (is_so c.args.way) (asked c.args.who c.args.regs.now c.args.tables.now input pages) c.in-Err.code (c.in-Err.ensures.held input pages)
