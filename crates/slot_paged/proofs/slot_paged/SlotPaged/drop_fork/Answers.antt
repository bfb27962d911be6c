use Rattle.std.proofs.Common.{◌≡◌, ℕ, Some, sym, ◌∙◌, ap, subst}
use Rattle.page_contracts.specs.Stores.{IsFreed}
use Rattle.pager_walk.specs.MapPages.{root_at}
use Rattle.paged_tables.specs.EndedForks.{fork_gone}
use Rattle.paged_tables.specs.PagedTables.{beside_of}
use Rattle.slot_paged.proofs.slot_paged.SlotPaged.drop_fork.Goals as goal

pub returns : goal.returns
returns g c =
    let mid = c.empty_map.new.self in
    let e = c.empty_map.ensures in
    let z : Some e.frees.number ≡ Some c.in-Some.number = sym e.frees.numbered ∙ sym c.map_of.ensures ∙ c.in-Some.is in
    let same : c.in-Some.number ≡ e.frees.number = sym (cc z) in
    record {
      mid = mid.store;
      between = beside_of mid.tables;
      kept = mid.kept;
      empties = e.empties;
      frees = e.frees;
      freed = subst (λ (h : ℕ). IsFreed g.S.Store.means h mid.store c.end_map.new.self.store) (λ i. (root_at (e.empties.maps i) (same i)).0) c.end_map.ensures.freed;
      beside = c.end_map.ensures.beside ∙ ap (fork_gone (beside_of mid.tables)) same;
    }
