use Rattle.std.proofs.Common.{sym, ◌∙◌, ap}
use Rattle.file_calls.specs.Asking.{asked_of}
use Rattle.file_calls.proofs.Taking.{no_name, with_name}
use Rattle.file_calls.proofs.naming.named.Goals as goal

pub returns-in-None-clause-turn : goal.returns-in-None-clause-turn
returns-in-None-clause-turn c p =
    let a = asked_of c.args.who c.args.regs.now c.args.user.now c.args.tables.now in
    ap (with_name c.args.tables.now a p) (sym c.in-None.ensures.named) ∙ no_name c.args.tables.now a p
