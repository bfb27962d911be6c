use Rattle.std.proofs.Common.{sym, ap, ◌∙◌, is_some}
use Rattle.share_table.proofs.Slabs.{page_is, gone, left_last}
use Rattle.share_table.proofs.shares.ShareTable.leave.Goals as goal

pub remove-requires : goal.remove-requires
remove-requires c = ap is_some (sym (page_is c.self.inside.room c.self.inside.pages c.args.self.now c.args.s.0 c.self.view_is) ∙ c.page-page.ensures.is)

pub invariant_of-self : goal.invariant_of-self
invariant_of-self c =
    (gone c.self.inside.room c.self.inside.pages c.remove.new.self c.args.self.now c.args.s.0 c.self.invariant c.self.view_is c.remove.ensures.updates c.remove.ensures.capacity).roomy

pub returns-then-page-eq1-clause-left : goal.returns-then-page-eq1-clause-left
returns-then-page-eq1-clause-left c =
    (gone c.self.inside.room c.self.inside.pages c.remove.new.self c.args.self.now c.args.s.0 c.self.invariant c.self.view_is c.remove.ensures.updates c.remove.ensures.capacity).view
    ∙ sym (left_last c.args.self.now c.args.s.0 c.page-page.result c.page-page.ensures.is c.if-page-eq1.true)
