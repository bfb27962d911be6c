use Rattle.std.proofs.Common.{◌∙◌, arith}
use Rattle.share_table.proofs.Slabs.{len_is}
use Rattle.share_table.proofs.shares.ShareTable.len.Goals as goal

pub overflow_cast-result : goal.overflow_cast-result
overflow_cast-result c =
    let small = (len_is c.self.inside.room c.self.inside.pages c.args.self.now c.self.invariant c.self.view_is).1 in
    let is = c.len.ensures in
    omega arith

pub returns : goal.returns
returns c = c.len.ensures ∙ (len_is c.self.inside.room c.self.inside.pages c.args.self.now c.self.invariant c.self.view_is).0
