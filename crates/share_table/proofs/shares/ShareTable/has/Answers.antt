use Rattle.std.proofs.Common.{sym, ap, ◌∙◌, is_some}
use Rattle.share_table.proofs.Slabs.{page_is, copied_some}
use Rattle.share_table.proofs.shares.ShareTable.has.Goals as goal

pub returns : goal.returns
returns c =
    c.is_some.ensures ∙ copied_some c.get.result
    ∙ ap is_some (c.get.ensures ∙ sym (page_is c.self.inside.room c.self.inside.pages c.args.self.now c.args.s.0 c.self.view_is))
