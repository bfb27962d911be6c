use Rattle.std.proofs.Common.{◌≡◌, Some, None, sym, ap, ◌∙◌}
use Rattle.std.specs.Option.{option_copied_mut}
use Rattle.share_table.proofs.Slabs.{page_is, counted_again}
use Rattle.slab.specs.Slab.{get}
use Rattle.share_table.proofs.shares.ShareTable.set_count.Goals as goal

pub unreachable-requires : goal.unreachable-requires
unreachable-requires c =
    let none : None ≡ get c.self.inside.pages c.args.s.0 = ap option_copied_mut (sym c.in-None.is) ∙ c.get_mut.ensures.value in
    let both : None ≡ Some c.args.page = none ∙ sym (page_is c.self.inside.room c.self.inside.pages c.args.self.now c.args.s.0 c.self.view_is) ∙ c.requires.is in
    absurd cc

pub invariant_of-self : goal.invariant_of-self
invariant_of-self c =
    (counted_again c.self.inside.room c.self.inside.pages c.args.self.now c.args.s.0 c.args.count c.args.page c.in-Some.page.now
    c.self.invariant c.self.view_is c.requires.is (sym c.get_mut.ensures.value ∙ ap option_copied_mut c.in-Some.is) c.requires.named).roomy

pub returns : goal.returns
returns c =
    (counted_again c.self.inside.room c.self.inside.pages c.args.self.now c.args.s.0 c.args.count c.args.page c.in-Some.page.now
    c.self.invariant c.self.view_is c.requires.is (sym c.get_mut.ensures.value ∙ ap option_copied_mut c.in-Some.is) c.requires.named).view
