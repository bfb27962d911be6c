use Rattle.std.proofs.Common.{◌≡◌, None, sym, ap, ◌∙◌}
use Rattle.std.specs.Option.{option_copied}
use Rattle.share_table.proofs.Slabs.{page_is, named_at}
use Rattle.slab.specs.Slab.{get}
use Rattle.share_table.proofs.shares.ShareTable.page.Goals as goal

pub unreachable-requires : goal.unreachable-requires
unreachable-requires c =
    let none : None ≡ get c.self.inside.pages c.args.s.0 = ap option_copied (sym c.in-None.is) ∙ c.get.ensures in
    let some = rw (page_is c.self.inside.room c.self.inside.pages c.args.self.now c.args.s.0 c.self.view_is, ← none) at c.requires in
    absurd cc

pub returns-clause-is : goal.returns-clause-is
returns-clause-is c =
    page_is c.self.inside.room c.self.inside.pages c.args.self.now c.args.s.0 c.self.view_is ∙ sym c.get.ensures ∙ ap option_copied c.in-Some.is

pub returns-clause-named : goal.returns-clause-named
returns-clause-named c =
    named_at c.self.inside.room c.self.inside.pages c.args.s.0 c.in-Some.page.now c.self.invariant (sym c.get.ensures ∙ ap option_copied c.in-Some.is)
