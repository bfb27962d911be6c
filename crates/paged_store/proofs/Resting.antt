-- What a step at rest means: no page comes into a frame or leaves one.
use Rattle.std.proofs.Common.{◌≡◌, ℕ, List, [], ◌∷◌, ◌++◌, inl, inr, length, map, count_by, None, Bool, true, false, cond, refl, sym, ◌∙◌, ap}
use Rattle.std.specs.Prelude.{is_none}
use Rattle.std.proofs.Math.Path.{fun_ext}
use Rattle.std.proofs.lemmas.Bool.{cases_eq}
use Rattle.page_homes.specs.declared.homes.Home.{Home}
use Rattle.page_homes.specs.declared.homes.FrameId.{FrameId}
use Rattle.page_contracts.specs.Stores.{StaysThere, StaysFramed, StaysStored}
use Rattle.drum_queue.specs.declared.transfer.Transfer.{Transfer}
use Rattle.drum_queue.specs.declared.transfer.Transfer.TheVariants.{Write}
use Rattle.drum_queue.specs.Transfers.{Transfers, transfer_of, without, writes}
use Rattle.page_residence.proofs.Queues.{without_own, without_other, pushed_own, pushed_other}
use Rattle.paged_store.specs.StoreSound.{writes_only}
use Rattle.paged_store.specs.declared.store.PagedStore.{PagedStore}
use Rattle.page_contracts.specs.Stores.{members_of}
use Rattle.page_residence.specs.Resident.{Seats, age_at, found_at, framed, meant, places, reads, tenant_at, SeatsStay}
use Rattle.paged_store.specs.UntoldNeeds.{Needs}
use Rattle.paged_store.specs.HeldHomes.{held_by}
use Rattle.page_residence.proofs.Placing.{framed_alike, found_alike, places_same}
use Rattle.paged_store.specs.StoreMeaning.{paged_meaning, homes_of}
use Rattle.paged_store.specs.StoreSteps.{IsAtRest, IsInPlace, SeatsRest}
use Rattle.page_residence.proofs.Renewing.{ages_alike, tenants_alike}

pub in_place : (old new : PagedStore) → IsAtRest old new → IsInPlace old new
in_place old new rest = record { seats = rest.seats; words = rest.words; reads_stay = rest.reads_stay; homes = rest.homes }

pub place_homes : (old new : PagedStore) → IsInPlace old new → homes_of new ≡ homes_of old
place_homes old new rest =
    ap (λ (flags : List Bool). places flags (framed new.core.frames.seats new.core.frames.words new.core.queue.queued)) rest.homes
    ∙ ap (λ (ws : List (List ℕ)). places old.homes (framed new.core.frames.seats ws new.core.queue.queued)) rest.words
    ∙ places_same old.homes (framed new.core.frames.seats old.core.frames.words new.core.queue.queued) (framed old.core.frames.seats old.core.frames.words old.core.queue.queued)
    (λ h. framed_alike old.core.frames.seats new.core.frames.seats old.core.frames.words old.core.queue.queued new.core.queue.queued h old.core.resident.single rest.seats.homes rest.reads_stay)

pub rest_homes : (old new : PagedStore) → IsAtRest old new → homes_of new ≡ homes_of old
rest_homes old new rest = place_homes old new (in_place old new rest)

pub rest_found : (old new : PagedStore) → IsAtRest old new → paged_meaning.found new ≡ paged_meaning.found old
rest_found old new rest = fun_ext (λ h. found_alike old.core.frames.seats new.core.frames.seats old.core.queue.queued new.core.queue.queued h old.core.resident.single rest.seats.homes rest.reads_stay)

pub rest_framed : (old new : PagedStore) → IsAtRest old new → StaysFramed paged_meaning old new
rest_framed old new rest = record {
  frames = rest.seats.size;
  spare = rest.seats.spare;
  found = rest_found old new rest;
  tenant = tenants_alike old.core.frames.seats new.core.frames.seats old.core.queue.queued new.core.queue.queued rest.seats.homes rest.reads_stay;
  members = ap members_of rest.seats.size;
}

pub stays_there : (old new : PagedStore) → IsAtRest old new → StaysThere paged_meaning old new
stays_there old new rest = record {
  homes = rest_homes old new rest;
  framed = rest_framed old new rest;
  ages = ages_alike old.core.frames.seats new.core.frames.seats old.core.queue.queued new.core.queue.queued rest.ages rest.reads_stay;
  uses = rest.uses;
}

pub rest_same : (s : PagedStore) → IsAtRest s s
rest_same s = record { seats = record { size = refl; homes = λ f. refl; spare = refl }; ages = λ f. refl; uses = refl; words = refl; reads_stay = λ f. refl; homes = refl }

-- frames, queue and all else are as they were, and so are the pages
pub stored_same : (s new : PagedStore) → new.core.frames.seats ≡ s.core.frames.seats → new.core.frames.uses ≡ s.core.frames.uses → new.core.queue ≡ s.core.queue → homes_of new ≡ homes_of s → new.untold ≡ s.untold → new.holders ≡ s.holders → StaysStored paged_meaning s new
stored_same s new seats uses queue homes untold holders = record {
  there = record {
    homes = homes;
    framed = record {
      frames = ap (λ (ss : Seats). length ss) seats;
      spare = ap (λ (ss : Seats). count_by is_none ss) seats;
      found = ap (λ (ss : Seats). found_at ss new.core.queue.queued) seats ∙ ap (λ (q : Transfers). found_at s.core.frames.seats q.queued) queue;
      tenant = ap (λ (ss : Seats). tenant_at ss new.core.queue.queued) seats ∙ ap (λ (q : Transfers). tenant_at s.core.frames.seats q.queued) queue;
      members = ap (λ (ss : Seats). members_of (length ss)) seats;
    };
    ages = ap (λ (ss : Seats). age_at ss new.core.queue.queued) seats ∙ ap (λ (q : Transfers). age_at s.core.frames.seats q.queued) queue;
    uses = uses;
  };
  queued = record { queue = ap (λ (q : Transfers). map meant q.queued) queue; untold = ap (λ (u : Needs). u.needs) untold };
  holds = ap (λ (hs : List (List ℕ)). let f : ℕ → List ℕ = λ k. held_by hs k in f) holders;
}

-- one step at rest after another
pub stays_trans : (a b c : Seats) → SeatsStay a b → SeatsStay b c → SeatsStay a c
stays_trans a b c one two = record {
  size = two.size ∙ one.size;
  homes = λ f. two.homes f ∙ one.homes f;
  pins = λ f. two.pins f ∙ one.pins f;
  spare = two.spare ∙ one.spare;
}

pub rests_of : (a b : Seats) → SeatsStay a b → SeatsRest a b
rests_of a b stays = record { size = stays.size; homes = stays.homes; spare = stays.spare }

pub rest_trans : (a b c : PagedStore) → IsAtRest a b → IsAtRest b c → IsAtRest a c
rest_trans a b c one two = record {
  seats = record { size = two.seats.size ∙ one.seats.size; homes = λ f. two.seats.homes f ∙ one.seats.homes f; spare = two.seats.spare ∙ one.seats.spare };
  ages = λ f. two.ages f ∙ one.ages f;
  uses = two.uses ∙ one.uses;
  words = two.words ∙ one.words;
  reads_stay = λ f. two.reads_stay f ∙ one.reads_stay f;
  homes = two.homes ∙ one.homes;
}

-- a write that is rescued was no read
pub rescued_reads : (f : ℕ) (q : List Transfer) (b : Bool) → b ≡ writes (transfer_of f q) → (g : ℕ) → reads (transfer_of g (cond b (without f q) q)) ≡ reads (transfer_of g q)
rescued_reads f q false is g = refl
rescued_reads f q true is g = elim (cases_eq g f) [
  | inl e ↦ ap (λ (k : ℕ). reads (transfer_of k (without f q))) e ∙ ap reads (without_own f q) ∙ sym (ap (λ (k : ℕ). reads (transfer_of k q)) e ∙ writes_only (transfer_of f q) (sym is))
  | inr other ↦ ap reads (without_other f g q other)
]

pub rescued_idle : (f : ℕ) (q : List Transfer) (b : Bool) (g : ℕ) → transfer_of g q ≡ None → transfer_of g (cond b (without f q) q) ≡ None
rescued_idle f q false g idle = idle
rescued_idle f q true g idle = elim (cases_eq g f) [
  | inl e ↦ ap (λ (k : ℕ). transfer_of k (without f q)) e ∙ without_own f q
  | inr other ↦ without_other f g q other ∙ idle
]

-- a write that is queued is no read
pub pushed_reads : (f : FrameId) (h : Home) (q : List Transfer) → transfer_of f.0 q ≡ None → (g : ℕ) → reads (transfer_of g (q ++ Write f h ∷ [])) ≡ reads (transfer_of g q)
pushed_reads f h q idle g = elim (cases_eq g f.0) [
  | inl e ↦ ap (λ (k : ℕ). reads (transfer_of k (q ++ Write f h ∷ []))) e ∙ ap reads (pushed_own f.0 q (Write f h) refl idle) ∙ sym (ap (λ (k : ℕ). reads (transfer_of k q)) e ∙ ap reads idle)
  | inr other ↦ ap reads (pushed_other g q (Write f h) other)
]
