use Rattle.std.proofs.Common.{◌≡◌, ◌-◌, List, sym, ap, subst, arith}
use Rattle.page_contracts.specs.Stores.{HomePlace}
use Rattle.pager_walk.specs.PagedMaps.{Tables}
use Rattle.paged_tables.specs.EndedForks.{fork_gone}
use Rattle.paged_tables.specs.PagedTables.{AreKept, Beside, beside_of}
use Rattle.paged_tables.proofs.ForksEnded.{ended_kept, one_fewer}
use Rattle.slot_paged.proofs.slot_paged.SlotPaged.end_map.Goals as goal

pub overflow_sub-self : goal.overflow_sub-self
overflow_sub-self g c =
    let s = c.args.self.now in
    let o = one_fewer (beside_of s.tables) (g.S.Store.means.homes s.store) s.kept c.args.number c.args.fork c.requires.number in omega (arith, o)

pub invariant_of-self : goal.invariant_of-self
invariant_of-self g c =
    let s = c.args.self.now in
    let b = beside_of s.tables in
    let k = c.args.number in
    let homes = g.S.Store.means.homes c.end.new.store in
    let same : beside_of (record s.tables { tables = c.end.new.tables; living = s.tables.living - 1 }) ≡ fork_gone b k = ap (λ (t : Tables). record b { tables = t; living = b.living - 1 }) c.end.ensures.tables in
    record { kept = subst (λ (y : Beside). AreKept y homes) (sym same) (subst (λ (ps : List HomePlace). AreKept (fork_gone b k) ps) (sym c.end.ensures.freed.homes) (ended_kept b (g.S.Store.means.homes s.store) s.kept k c.args.fork c.requires.number)) }
