-- What is asked for is queued, or what has to leave.
use Rattle.std.proofs.Common.{◌≡◌, ◌⊎◌, inl, ℕ, ◌+◌, List, [], ◌∷◌, ◌++◌, length, map, count_by, Option, None, Some, is_some, true, refl, sym, ◌∙◌, ap, subst, add-zero}
use Rattle.std.specs.Prelude.{is_none}
use Rattle.std.specs.Option.{option_map_or}
use Rattle.std.proofs.lemmas.List.{append-nil}
use Rattle.page_contracts.specs.declared.answers.Need.{Need}
use Rattle.page_contracts.specs.Stores.{next_use, IsFetched, Meeting, joins, begins, waits, meeting, frames_begun, queued, departure_of}
use Rattle.page_contracts.specs.Stores as meaning
use Rattle.drum_queue.specs.Transfers.{transfer_of}
use Rattle.paged_store.specs.declared.store.PagedStore.{PagedStore}
use Rattle.page_residence.specs.declared.residence.Residence.{Residence}
use Rattle.paged_store.specs.HeldHomes.{held_by}
use Rattle.page_residence.specs.Victims.{victim_of}
use Rattle.page_contracts.specs.Stores.{members_of}
use Rattle.page_residence.specs.Resident.{AgesStay, meant, reads}
use Rattle.page_residence.proofs.Aging.{tenant_shown}
use Rattle.page_residence.proofs.Leaving.{victim_goes}
use Rattle.paged_store.specs.StoreSound.{goes_may}
use Rattle.paged_store.specs.StoreMeaning.{homes_of, paged_meaning}
use Rattle.paged_store.specs.StoreSteps.{IsAtRest, SeatsRest, departing}
use Rattle.paged_store.proofs.Resting.{rest_homes, rest_found, stays_there}

-- what is to leave has its words
pub departing_is : (s : PagedStore) (o : Option ℕ) → victim_of s.core.frames.seats ≡ o → departing s.core.frames.seats o ≡ departure_of paged_meaning s o
departing_is s None is = refl
departing_is s (Some f) is =
    let may = (goes_may s f (victim_goes s.core.frames.seats f is)).1 in
    ap (λ (o : Option ℕ). option_map_or (λ (home : ℕ). meaning.departure home ∷ []) o []) (sym (tenant_shown s.core.frames.seats s.core.queue.queued f (ap reads may.idle)))

pub fetched_at : (old new : PagedStore) (need : Need) (m : Meeting) → meeting (map meant old.core.queue.queued) (count_by is_none old.core.frames.seats) need ≡ m → homes_of new ≡ homes_of old
    → map meant new.core.queue.queued ≡ map meant old.core.queue.queued ++ queued paged_meaning old m → count_by is_none new.core.frames.seats + frames_begun m ≡ count_by is_none old.core.frames.seats
    → new.untold.needs ≡ old.untold.needs → new.holders ≡ old.holders → paged_meaning.found new ≡ paged_meaning.found old → length new.core.frames.seats ≡ length old.core.frames.seats
    → ((frame : ℕ) → is_some (paged_meaning.tenant old frame) ≡ true → paged_meaning.age new frame ≡ paged_meaning.age old frame) → paged_meaning.tenant new ≡ paged_meaning.tenant old
    → (new.core.frames.uses ≡ old.core.frames.uses) ⊎ (new.core.frames.uses ≡ next_use old.core.frames.uses) → IsFetched paged_meaning need old new
fetched_at old new need m is homes queue spare untold holders found size ages tenants uses = record {
  homes = homes;
  queue = queue ∙ ap (λ (k : Meeting). map meant old.core.queue.queued ++ queued paged_meaning old k) (sym is);
  spare = ap (λ (k : Meeting). count_by is_none new.core.frames.seats + frames_begun k) is ∙ spare;
  untold = untold;
  holds = ap (λ (hs : List (List ℕ)). let f : ℕ → List ℕ = λ k. held_by hs k in f) holders;
  found = found;
  frames = size;
  tenant = tenants;
  members = ap members_of size;
  ages = ages;
  uses = uses;
}

-- nothing is done where the read is queued already
pub fetched_same : (s : PagedStore) (need : Need) (h : ℕ) → meeting (map meant s.core.queue.queued) (count_by is_none s.core.frames.seats) need ≡ joins h → IsFetched paged_meaning need s s
fetched_same s need h is = fetched_at s s need (joins h) is refl (sym (append-nil (map meant s.core.queue.queued))) (add-zero (count_by is_none s.core.frames.seats)) refl refl refl refl (λ frame some. refl) refl (inl refl)

-- a step at rest from frames that are as they were
pub rest_moved : (s new : PagedStore) (o : Residence) → o ≡ s.core → SeatsRest o.frames.seats new.core.frames.seats → AgesStay o.frames.seats new.core.frames.seats → new.core.frames.uses ≡ o.frames.uses → new.core.frames.words ≡ o.frames.words
    → ((f : ℕ) → reads (transfer_of f new.core.queue.queued) ≡ reads (transfer_of f o.queue.queued)) → new.homes ≡ s.homes → IsAtRest s new
rest_moved s new o same seats ages uses words read homes = record {
  seats = subst (λ (x : Residence). SeatsRest x.frames.seats new.core.frames.seats) same seats;
  ages = subst (λ (x : Residence). AgesStay x.frames.seats new.core.frames.seats) same ages;
  uses = uses ∙ ap (λ (x : Residence). x.frames.uses) same;
  words = words ∙ ap (λ (x : Residence). x.frames.words) same;
  reads_stay = λ f. read f ∙ ap (λ (x : Residence). reads (transfer_of f x.queue.queued)) same;
  homes = homes;
}

-- a page has to leave its frame first
pub fetched_waits : (s new : PagedStore) (need : Need) → meeting (map meant s.core.queue.queued) (count_by is_none s.core.frames.seats) need ≡ waits → IsAtRest s new
    → map meant new.core.queue.queued ≡ map meant s.core.queue.queued ++ departing s.core.frames.seats (victim_of s.core.frames.seats) → new.untold.needs ≡ s.untold.needs → new.holders ≡ s.holders
    → IsFetched paged_meaning need s new
fetched_waits s new need is rest queue untold holders =
    fetched_at s new need waits is (rest_homes s new rest) (queue ∙ ap (λ (ts : List meaning.Transfer). map meant s.core.queue.queued ++ ts) (departing_is s (victim_of s.core.frames.seats) refl))
    (add-zero (count_by is_none new.core.frames.seats) ∙ rest.seats.spare) untold holders (rest_found s new rest) rest.seats.size
    (λ frame some. ap (λ (age : ℕ → ℕ). age frame) (stays_there s new rest).ages) (stays_there s new rest).framed.tenant (inl rest.uses)
