-- What is true of a store is true of what has it in it.
use Rattle.std.proofs.Common.{◌≡◌, ℕ}
use Rattle.page_contracts.specs.declared.answers.Need.{Need}
use Rattle.page_contracts.specs.declared.answers.Need.TheVariants.{Frame, Page}
use Rattle.page_contracts.specs.declared.store.Completed.{Completed}
use Rattle.page_contracts.specs.Stores.{CanFetch, CanKeep, Completes, Ends, Evicts, IsFetched, IsNeeded, Keeps, LetsGo, StaysFramed, StaysPlanned, StaysQueued, StaysStored, StaysThere, StoreMeaning, Tells}
use Rattle.std.specs.Prelude.{Option}
use Rattle.paged_system.specs.Over.{over}
use Rattle.paged_system.specs.OverSound.{leaves, leaves_over}

module _ {S P : Type 0} (part : S → P) (means : StoreMeaning P) (old new : S) where
  framed : StaysFramed means (part old) (part new) → StaysFramed (over part means) old new
  framed f = record { frames = f.frames; spare = f.spare; found = f.found; tenant = f.tenant; members = f.members }

  there : StaysThere means (part old) (part new) → StaysThere (over part means) old new
  there s = record { homes = s.homes; framed = framed s.framed; ages = s.ages; uses = s.uses }

  queued_stay : StaysQueued means (part old) (part new) → StaysQueued (over part means) old new
  queued_stay q = record { queue = q.queue; untold = q.untold }

  stored : StaysStored means (part old) (part new) → StaysStored (over part means) old new
  stored s = record { there = there s.there; queued = queued_stay s.queued; holds = s.holds }

  pub planned : StaysPlanned means (part old) (part new) → StaysPlanned (over part means) old new
  planned p = record { homes = p.homes; frames = p.frames; spare = p.spare; members = p.members; queued = queued_stay p.queued; holds = p.holds; ages = p.ages }

  pub can_fetch : (need : Need) → CanFetch (over part means) old need → CanFetch means (part old) need
  can_fetch (Page home) c = c
  can_fetch Frame c = c

  pub fetched : (need : Need) → IsFetched means need (part old) (part new) → IsFetched (over part means) need old new
  fetched need f = record {
    homes = f.homes;
    queue = f.queue;
    frames = f.frames;
    spare = f.spare;
    untold = f.untold;
    holds = f.holds;
    found = f.found;
    tenant = f.tenant;
    members = f.members;
    ages = f.ages;
    uses = f.uses;
  }

  ended : (need : Need) → Ends means need (part old) (part new) → Ends (over part means) need old new
  ended need e = record {
    transfer = e.transfer;
    oldest = e.oldest;
    told = e.told;
    moved = e.moved;
    taken = e.taken;
    homes = e.homes;
    frames = e.frames;
    spare = e.spare;
    untold = e.untold;
    holds = e.holds;
    members = e.members;
    found = e.found;
    tenants = e.tenants;
    came = e.came;
    went = e.went;
  }

  pub tells : (told : Option Need) → Tells means told (part old) (part new) → Tells (over part means) told old new
  tells told t = record { untold = t.untold; last = t.last; stays = there t.stays; queue = t.queue; holds = t.holds }

  pub evicts : (frame : ℕ) → Evicts means frame (part old) (part new) → Evicts (over part means) frame old new
  evicts frame e = record {
    leaves = λ home can. e.leaves home (leaves part means old frame home can);
    none = λ no. e.none (λ home can. no home (leaves_over part means old frame home can));
    stays = there e.stays;
    untold = e.untold;
    holds = e.holds;
  }

  pub can_keep : (holder home : ℕ) → CanKeep (over part means) old holder home → CanKeep means (part old) holder home
  can_keep holder home c = record { here = c.here; still = c.still; member = c.member }

  pub keeps : (holder home : ℕ) → Keeps means holder home (part old) (part new) → Keeps (over part means) holder home old new
  keeps holder home k = record { holds = k.holds; stays = there k.stays; queued = queued_stay k.queued }

  pub lets_go : (holder : ℕ) → LetsGo means holder (part old) (part new) → LetsGo (over part means) holder old new
  lets_go holder l = record { holds = l.holds; stays = there l.stays; queued = queued_stay l.queued }

  pub needed : (most : ℕ) (need : Need) → IsNeeded means most (part new) need → IsNeeded (over part means) most new need
  needed most (Page home) n = n
  needed most Frame n = n

  module _ {D : Type 0} (faults reads writes pages : D → ℕ) (drum drum' : D) where
    pub completes : (result : Completed) → ((part new ≡ part old) → new ≡ old) → Completes means faults reads writes pages result (part old) (part new) drum drum'
        → Completes (over part means) faults reads writes pages result old new drum drum'
    completes result whole c = record {
      nothing = c.nothing;
      same = λ is. (let s = c.same is in (whole s.0, s.1));
      done = λ need is. ended need (c.done need is);
      cause = c.cause;
      later = c.later;
      read = c.read;
      wrote = c.wrote;
      reads_later = c.reads_later;
      writes_later = c.writes_later;
      failed = λ is. stored (c.failed is);
      uncounted = c.uncounted;
      size = c.size;
    }
