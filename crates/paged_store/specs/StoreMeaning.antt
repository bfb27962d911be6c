-- What the clauses of stores say of one on frames and a drum.
use Rattle.std.specs.Prelude.{List, map, length, false, count_by, is_none}
use Rattle.page_contracts.specs.Stores.{StoreMeaning, HomePlace}
use Rattle.paged_store.specs.declared.store.PagedStore.{PagedStore}
use Rattle.paged_store.specs.HeldHomes.{held_by}
use Rattle.page_residence.specs.Victims.{victim_of}
use Rattle.page_contracts.specs.Stores.{members_of}
use Rattle.page_residence.specs.Resident.{age_at, found_at, framed, meant, places, tenant_at}

-- where the page of each home is
abbrev pub homes_of : PagedStore → List HomePlace
homes_of s = places s.homes (framed s.core.frames.seats s.core.frames.words s.core.queue.queued)

abbrev pub paged_meaning : StoreMeaning PagedStore
paged_meaning = record {
  homes = homes_of;
  frames = λ s. length s.core.frames.seats;
  spare = λ s. count_by is_none s.core.frames.seats;
  queue = λ s. map meant s.core.queue.queued;
  untold = λ s. s.untold.needs;
  holds = λ s holder. held_by s.holders holder;
  tenant = λ s. tenant_at s.core.frames.seats s.core.queue.queued;
  victim = λ s. victim_of s.core.frames.seats;
  age = λ s. age_at s.core.frames.seats s.core.queue.queued;
  uses = λ s. s.core.frames.uses;
  found = λ s. found_at s.core.frames.seats s.core.queue.queued;
  members = λ s. members_of (length s.core.frames.seats);
  flat = false;
}
