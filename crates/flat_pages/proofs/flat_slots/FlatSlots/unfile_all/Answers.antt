use Rattle.std.proofs.Common.{◌≡◌, ℕ, subst, arith}
use Rattle.flat_pages.specs.FileSteps.{EmptiesFile}
use Rattle.flat_pages.proofs.FileEnds.{empties_none, empties_more}
use Rattle.flat_pages.proofs.flat_slots.FlatSlots.unfile_all.Goals as goal

pub loop-page-init : goal.loop-page-init
loop-page-init g c = empties_none g.S.Store.means c.args.file.0 c.args.self.now.store c.args.self.now.tables c.args.self.now.told

pub loop-page-preserved : goal.loop-page-preserved
loop-page-preserved g c =
    empties_more g.S.Store.means c.args.file.0 c.args.self.now.store c.loop-page.self.store c.unfile.new.self.store c.args.self.now.tables c.loop-page.self.tables c.unfile.new.self.tables c.loop-page.page
    c.loop-page.self.told c.loop-page.invariant c.unfile.ensures

pub returns : goal.returns
returns g c =
    let all : c.loop-page.page ≡ 512 = omega (arith, c.loop-page-test.false, c.loop-page.auto.page-end) in
    subst (λ (n : ℕ). EmptiesFile g.S.Store.means c.args.self.now.store c.loop-page.self.store c.args.self.now.tables c.loop-page.self.tables c.args.file.0 n) all c.loop-page.invariant
