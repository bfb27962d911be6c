use Rattle.std.proofs.Common.{rules, ◌≡◌, ℕ, refl, subst, arith}
use Rattle.pager_walk.specs.declared.paged_entry.PagedEntry.TheVariants as paged
use Rattle.paged_tables.specs.EndedForks.{EmptiesFork}
use Rattle.paged_tables.specs.FreedEntries.{FreesEntries}
use Rattle.paged_tables.specs.PagedTables.{beside_of}
use Rattle.paged_tables.proofs.EmptiedForks.{empties_more, empties_none, near_later, numbered_lives}
use Rattle.paged_tables.proofs.EntriesFreed.{frees_more, frees_none}
use Rattle.slot_paged.proofs.EmptyEntries.{empties_empty, frees_empty}
use Rattle.slot_paged.proofs.slot_paged.SlotPaged.empty_map.Goals as goal

pub loop-page-init : goal.loop-page-init
loop-page-init g c =
    let s = c.args.self.now in
    let b = beside_of s.tables in
    let n = numbered_lives b c.args.fork c.requires.lives in (
      empties_none g.S.Store.means s.store b c.args.fork s.kept (g.met.S.Store.sound s.store).pages,
      frees_none g.S.Store.means s.store b c.args.fork n.0 n.1,
    )

pub set_unnamed-requires-clause-page : goal.set_unnamed-requires-clause-page
set_unnamed-requires-clause-page g c = c.loop-page-test.true

pub set_unnamed-requires-clause-near : goal.set_unnamed-requires-clause-near
set_unnamed-requires-clause-near g c =
    let s = c.args.self.now in
    (near_later g.S.Store.means s.store c.loop-page.self.store (beside_of s.tables) (beside_of c.loop-page.self.tables) c.args.fork c.loop-page.page c.loop-page.self.kept c.loop-page.invariant.0 c.requires.lives c.requires.near).1

pub loop-page-preserved : goal.loop-page-preserved
loop-page-preserved g c =
    let s = c.args.self.now in
    let b = beside_of s.tables in
    let mid = c.loop-page.self in
    let new = c.set_unnamed.new.self in
    let store = g.S.Store.means in
    let so_far = c.loop-page.invariant in
    let near = near_later store s.store mid.store b (beside_of mid.tables) c.args.fork c.loop-page.page mid.kept so_far.0 c.requires.lives c.requires.near in (
      empties_more store s.store mid.store new.store b (beside_of mid.tables) (beside_of new.tables) c.args.fork c.loop-page.page mid.kept (g.met.S.Store.sound mid.store).pages c.loop-page-test.true near.0.0 near.0.1 near.1 so_far.0 (c.set_unnamed.ensures.sets paged.Empty refl),
      frees_more store s.store mid.store new.store b (beside_of mid.tables) (beside_of new.tables) c.args.fork c.loop-page.page so_far.0.maps so_far.1 c.set_unnamed.ensures.frees,
    )

pub loop-page-preserved-then-is_empty : goal.loop-page-preserved-then-is_empty
loop-page-preserved-then-is_empty g c =
    let s = c.args.self.now in
    let b = beside_of s.tables in
    let mid = c.loop-page.self in
    let store = g.S.Store.means in
    let so_far = c.loop-page.invariant in
    let near = near_later store s.store mid.store b (beside_of mid.tables) c.args.fork c.loop-page.page mid.kept so_far.0 c.requires.lives c.requires.near in (
      empties_empty store s.store mid.store b (beside_of mid.tables) c.args.fork c.loop-page.page mid.kept (g.met.S.Store.sound mid.store).pages c.loop-page-test.true near.0.0 near.0.1 near.1 so_far.0 (c.is_empty.ensures (search rules)),
      frees_empty store s.store mid.store b (beside_of mid.tables) c.args.fork c.loop-page.page so_far.1,
    )

pub returns-clause-empties : goal.returns-clause-empties
returns-clause-empties g c =
    let s = c.args.self.now in
    let all : c.loop-page.page ≡ 512 = omega (arith, c.loop-page-test.false, c.loop-page.auto.page-end) in
    subst (λ (n : ℕ). EmptiesFork g.S.Store.means s.store c.loop-page.self.store (beside_of s.tables) (beside_of c.loop-page.self.tables) c.args.fork n) all c.loop-page.invariant.0

pub returns-clause-frees : goal.returns-clause-frees
returns-clause-frees g c =
    let s = c.args.self.now in
    let all : c.loop-page.page ≡ 512 = omega (arith, c.loop-page-test.false, c.loop-page.auto.page-end) in
    subst (λ (n : ℕ). FreesEntries g.S.Store.means s.store c.loop-page.self.store (beside_of s.tables) (beside_of c.loop-page.self.tables) c.args.fork n) all c.loop-page.invariant.1
