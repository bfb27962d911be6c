use Rattle.std.proofs.Common.{◌≡◌, ℕ, subst, arith}
use Rattle.paged_tables.specs.FiledSteps.{EmptiesFiled}
use Rattle.paged_tables.specs.PagedTables.{beside_of}
use Rattle.paged_tables.proofs.FilingEnds.{empties_more, empties_none}
use Rattle.slot_paged.proofs.slot_paged.SlotPaged.drop_file.Goals as goal

pub loop-page-init : goal.loop-page-init
loop-page-init g c = (let s = c.args.self.now in empties_none g.S.Store.means c.args.file.0 s.store (beside_of s.tables) s.kept (g.met.S.Store.sound s.store))

pub loop-page-preserved : goal.loop-page-preserved
loop-page-preserved g c =
    let s = c.args.self.now in
    let mid = c.loop-page.self in
    let new = c.unfile.new.self in
    empties_more g.S.Store.means c.args.file.0 s.store mid.store new.store (beside_of s.tables) (beside_of mid.tables) (beside_of new.tables) c.loop-page.page mid.kept (g.met.S.Store.sound mid.store) c.loop-page.invariant c.unfile.ensures

pub returns : goal.returns
returns g c =
    let s = c.args.self.now in
    let all : c.loop-page.page ≡ 512 = omega (arith, c.loop-page-test.false, c.loop-page.auto.page-end) in
    subst (λ (n : ℕ). EmptiesFiled g.S.Store.means s.store c.loop-page.self.store (beside_of s.tables) (beside_of c.loop-page.self.tables) c.args.file.0 n) all c.loop-page.invariant
