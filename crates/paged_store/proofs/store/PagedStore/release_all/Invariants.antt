use Rattle.std.proofs.Common.{◌≡◌, ◌<◌, ◌≤◌, ℕ, length}
use Rattle.page_contracts.specs.declared.store.TheConstants.{MOST_HOLDERS}
use Rattle.paged_store.specs.HeldHomes.{held_by}
use Rattle.paged_store.specs.StoreSteps.{IsAtRest, all_but}
use Rattle.paged_store.proofs.store.PagedStore.release_all.Given as goal

abbrev pub invariant-loop-holder : goal.invariant-loop-holder
invariant-loop-holder l = record {
  rests : IsAtRest l.initial.self l.self;
  queue : l.self.core.queue ≡ l.initial.self.core.queue;
  untold : l.self.untold ≡ l.initial.self.untold;
  room : length l.self.holders ≡ MOST_HOLDERS;
  done : (k : ℕ) → k < l.holder → held_by l.self.holders k ≡ all_but l.home.0 (held_by l.initial.self.holders k);
  left : (k : ℕ) → l.holder ≤ k → held_by l.self.holders k ≡ held_by l.initial.self.holders k;
}
