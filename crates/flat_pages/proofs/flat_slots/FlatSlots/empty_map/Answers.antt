use Rattle.std.proofs.Common.{◌≡◌, ℕ, ◌∙◌, ap, subst, arith, is_some, Option}
use Rattle.machine_names.specs.declared.names.ForkName.{ForkName}
use Rattle.flat_pages.specs.Emptying.{EmptiesMap}
use Rattle.flat_pages.proofs.EmptyMaps.{empties_none, empties_more, page_there}
use Rattle.flat_pages.proofs.flat_slots.FlatSlots.empty_map.Goals as goal

pub loop-page-init : goal.loop-page-init
loop-page-init g c = empties_none g.S.Store.means c.args.map c.args.self.now.store c.args.self.now.tables c.args.self.now.told

pub set_unnamed-requires-clause-there : goal.set_unnamed-requires-clause-there
set_unnamed-requires-clause-there g c =
    page_there c.loop-page.self.tables.maps.held.items c.loop-page.self.agree.held c.args.map c.loop-page.page (ap (λ (o : Option ForkName). is_some o) (c.loop-page.invariant.forks c.args.map) ∙ c.requires.lives) c.loop-page-test.true

pub set_unnamed-requires-clause-lives : goal.set_unnamed-requires-clause-lives
set_unnamed-requires-clause-lives g c = ap (λ (o : Option ForkName). is_some o) (c.loop-page.invariant.forks c.args.map) ∙ c.requires.lives

pub loop-page-preserved : goal.loop-page-preserved
loop-page-preserved g c =
    let there = page_there c.loop-page.self.tables.maps.held.items c.loop-page.self.agree.held c.args.map c.loop-page.page (ap (λ (o : Option ForkName). is_some o) (c.loop-page.invariant.forks c.args.map) ∙ c.requires.lives) c.loop-page-test.true in
    empties_more g.S.Store.means c.args.map c.args.self.now.store c.loop-page.self.store c.set_unnamed.new.self.store c.args.self.now.tables c.loop-page.self.tables c.set_unnamed.new.self.tables c.loop-page.page
    c.loop-page.self.agree c.loop-page.self.told c.loop-page.invariant there c.set_unnamed.ensures

pub returns : goal.returns
returns g c =
    let all : c.loop-page.page ≡ 512 = omega (arith, c.loop-page-test.false, c.loop-page.auto.page-end) in
    subst (λ (n : ℕ). EmptiesMap g.S.Store.means c.args.self.now.store c.loop-page.self.store c.args.self.now.tables c.loop-page.self.tables c.args.map n) all c.loop-page.invariant
