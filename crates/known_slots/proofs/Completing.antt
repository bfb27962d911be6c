-- A transfer that ends in the store ends for what has the store.
use Rattle.std.proofs.Common.{◌≡◌, ℕ}
use Rattle.page_contracts.specs.Stores.{Completes, Ends, StaysThere, StoreMeaning}
use Rattle.page_contracts.specs.declared.answers.Need.{Need}
use Rattle.page_contracts.specs.declared.store.Completed.{Completed}
use Rattle.page_contracts.specs.declared.store.Completed.TheVariants.{Nothing}
use Rattle.flat_pages.specs.SlotMeaning.{within}

module _ {P S : Type 0} (store : StoreMeaning S) (part : P → S) where
  ends_within : (need : Need) (p q : P) → Ends store need (part p) (part q) → Ends (within store part) need p q
  ends_within need p q e = record { transfer = e.transfer; oldest = e.oldest; told = e.told; moved = e.moved; taken = e.taken; homes = e.homes; frames = e.frames; spare = e.spare; untold = e.untold; holds = e.holds; members = e.members; found = e.found; tenants = e.tenants; came = e.came; went = e.went }

  stays_within : (p q : P) → StaysThere store (part p) (part q) → StaysThere (within store part) p q
  stays_within p q s = record { homes = s.homes; framed = record { frames = s.framed.frames; spare = s.framed.spare; found = s.framed.found; tenant = s.framed.tenant; members = s.framed.members }; ages = s.ages; uses = s.uses }

-- where nothing ends nothing changes
pub completed_within : {P S D : Type 0} (store : StoreMeaning S) (part : P → S) (faults reads writes pages : D → ℕ) (result : Completed) (p q : P) (drum drum' : D) → (result ≡ Nothing → part q ≡ part p → q ≡ p)
    → Completes store faults reads writes pages result (part p) (part q) drum drum' → Completes (within store part) faults reads writes pages result p q drum drum'
completed_within store part faults reads writes pages result p q drum drum' back c = record {
  nothing = c.nothing;
  same = λ is. (let s = c.same is in (back is s.0, s.1));
  done = λ need is. ends_within store part need p q (c.done need is);
  cause = c.cause;
  later = c.later;
  read = c.read;
  wrote = c.wrote;
  reads_later = c.reads_later;
  writes_later = c.writes_later;
  failed = λ is. (let s = c.failed is in record { there = stays_within store part p q s.there; queued = record { queue = s.queued.queue; untold = s.queued.untold }; holds = s.holds });
  uncounted = c.uncounted;
  size = c.size;
}
