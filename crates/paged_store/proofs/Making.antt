-- A page is made.
use Rattle.std.proofs.Common.{◌≡◌, ◌≢◌, ℕ, zero, suc, ◌+◌, ◌<◌, ◌≤◌, is_some, inl, inr, List, length, map, count_by, replicate, None, Some, Bool, true, false, not, cond, refl, sym, ◌∙◌, ap, subst, arith, set, get_or}
use Rattle.std.specs.Prelude.{is_none, nat_lt}
use Rattle.std.proofs.lemmas.Bool.{cases_eq, false≢true, ltb-false}
use Rattle.std.proofs.lemmas.List.{get_or-set_same, get_or-set_other, length-set, length-replicate}
use Rattle.word36.specs.Words.{IsWord}
use Rattle.outside.specs.Drums.{IsPage}
use Rattle.outside.specs.declared.TheConstants.{PAGE_WORDS}
use Rattle.machine_names.specs.PageWords.{zero_words}
use Rattle.page_contracts.specs.declared.store.Room.TheVariants.{Enough, NeedFrame, Full}
use Rattle.page_contracts.specs.Stores.{RenewsAgain, LAST_USE, free, here, place, room_of, free_homes}
use Rattle.page_contracts.proofs.Losing.{used_once}
use Rattle.drum_queue.specs.Transfers.{Transfers, transfer_of}
use Rattle.paged_store.specs.declared.store.PagedStore.{PagedStore}
use Rattle.page_residence.specs.declared.residence.Residence.{Residence}
use Rattle.paged_store.specs.Keeping.{IsKept}
use Rattle.page_residence.specs.Resident.{Seats, seat, age_at, found_at, found_in, frame_for, framed, meant, places, placed, reads, tenant_at, IsGivenTo, IsRenewed}
use Rattle.page_residence.proofs.Renewing.{given_home, renews_at, tenants_made}
use Rattle.page_residence.proofs.Seating.{frame_none}
use Rattle.paged_store.proofs.KeptThrough.{kept_given}
use Rattle.page_residence.proofs.Placing.{place_at, places_length, free_is, framed_busy}
use Rattle.paged_store.specs.StoreMeaning.{homes_of}
use Rattle.paged_store.specs.StoreSound.{marked}
use Rattle.paged_store.proofs.Fetching.{given_other, given_spare, seated_homes}

zero_small : (n i : ℕ) → IsWord (get_or (replicate n 0) i 0)
zero_small zero i = omega arith
zero_small (suc n) zero = omega arith
zero_small (suc n) (suc i) = zero_small n i

pub zeros_fit : IsPage zero_words
unfolding zero_words
zeros_fit = record { size = length-replicate {A = ℕ} PAGE_WORDS 0; small = λ i. zero_small PAGE_WORDS i }

-- where there is room there is a home and a frame
pub room_parts : (homes frames : ℕ) → room_of homes frames 1 ≡ Enough → (0 < homes) × (0 < frames)
room_parts homes frames is = at (nat_lt homes 1) (nat_lt frames 1) refl refl is
  where
    at : (a b : Bool) → nat_lt homes 1 ≡ a → nat_lt frames 1 ≡ b → cond a Full (cond b NeedFrame Enough) ≡ Enough → (0 < homes) × (0 < frames)
    at true b e f g = absurd (cc g)
    at false true e f g = absurd (cc g)
    at false false e f g = let one = ltb-false homes 1 e in let two = ltb-false frames 1 f in (omega (arith, one), omega (arith, two))

pub free_count : (s : PagedStore) → free_homes (homes_of s) ≡ count_by not s.homes
free_count s = free_is s.homes (framed s.core.frames.seats s.core.frames.words s.core.queue.queued) (framed_busy s.core.frames.seats s.core.frames.words s.core.queue.queued)

-- a free home has no frame
pub free_away : (s : PagedStore) (h : ℕ) → get_or s.homes h false ≡ false → frame_for s.core.frames.seats h ≡ None
free_away s h unused = frame_none s.core.frames.seats h (λ f given. false≢true (sym unused ∙ marked s f h given))

marks_more : (flags : List Bool) (h k : ℕ) → h < length flags → get_or flags k false ≡ true → get_or (set flags h true) k false ≡ true
marks_more flags h k below is = elim (cases_eq k h) [
  | inl e ↦ ap (λ (j : ℕ). get_or (set flags h true) j false) e ∙ get_or-set_same flags h true false below
  | inr other ↦ get_or-set_other flags h k true false other ∙ is
]

module _ (s : PagedStore) (n : Residence) (flags : List Bool) (h f : ℕ) (words : List ℕ) (below : h < length s.homes) (unused : get_or s.homes h false ≡ false) (now : flags ≡ set s.homes h true)
    (given : IsGivenTo h f s.core.frames.seats n.frames.seats) (changed : n.frames.words ≡ set s.core.frames.words f words) (queue : n.queue ≡ s.core.queue) where
  pub kept_made : IsKept n.frames.seats n.queue.queued flags s.holders s.untold
  kept_made =
      subst (λ (fs : List Bool). IsKept n.frames.seats n.queue.queued fs s.holders s.untold) (sym now)
      (kept_given s.core.frames.seats s.core.queue.queued s.homes s.holders s.untold s.kept n.frames.seats n.queue.queued (set s.homes h true) h f n.resident.single (free_away s h unused) given
      (λ g other idle. ap (λ (q : Transfers). transfer_of g q.queued) queue ∙ idle) (length-set s.homes h true) (get_or-set_same s.homes h true false below) (λ k is. marks_more s.homes h k below is))

  pub homes_made : transfer_of f s.core.queue.queued ≡ None → places flags (framed n.frames.seats n.frames.words n.queue.queued) ≡ set (homes_of s) h (here words)
  homes_made idle = ap (λ (fs : List Bool). places fs (framed n.frames.seats n.frames.words n.queue.queued)) now ∙ seated_homes s.core n h f (free_away s h unused) given s.homes words changed queue idle

  pub made_below : h < length (homes_of s)
  made_below = let long = places_length s.homes (framed s.core.frames.seats s.core.frames.words s.core.queue.queued) in omega (arith, below, long)

  pub made_free : place (homes_of s) h ≡ free
  made_free = place_at s.homes (framed s.core.frames.seats s.core.frames.words s.core.queue.queued) h ∙ ap (λ (b : Bool). placed b (framed s.core.frames.seats s.core.frames.words s.core.queue.queued h)) unused

  pub made_spare : count_by is_none n.frames.seats + 1 ≡ count_by is_none s.core.frames.seats
  made_spare = given_spare s.core.frames.seats n.frames.seats h f given

  pub made_queue : map meant n.queue.queued ≡ map meant s.core.queue.queued
  made_queue = ap (λ (q : Transfers). map meant q.queued) queue

  made_reads : (g : ℕ) → reads (transfer_of g n.queue.queued) ≡ reads (transfer_of g s.core.queue.queued)
  made_reads g = ap (λ (q : Transfers). reads (transfer_of g q.queued)) queue

  pub made_tenants : transfer_of f s.core.queue.queued ≡ None → (frame : ℕ) → (tenant_at n.frames.seats n.queue.queued frame ≡ Some h → ⊥)
      → tenant_at n.frames.seats n.queue.queued frame ≡ tenant_at s.core.frames.seats s.core.queue.queued frame
  made_tenants idle = tenants_made s.core.frames.seats n.frames.seats s.core.queue.queued n.queue.queued f h (λ g ne. made_reads g) given (made_reads f ∙ ap reads idle)

  pub made_ages : transfer_of f s.core.queue.queued ≡ None → IsRenewed f s.core.frames.seats n.frames.seats s.core.frames.uses n.frames.uses
      → RenewsAgain h (tenant_at n.frames.seats n.queue.queued) (age_at s.core.frames.seats s.core.queue.queued) (age_at n.frames.seats n.queue.queued) s.core.frames.uses n.frames.uses
  made_ages idle renewed =
      used_once h (tenant_at n.frames.seats n.queue.queued) (age_at s.core.frames.seats s.core.queue.queued) (age_at n.frames.seats n.queue.queued) s.core.frames.uses n.frames.uses
      (renews_at s.core.frames.seats n.frames.seats s.core.queue.queued n.queue.queued f h (λ g ne. made_reads g) s.core.frames.uses n.frames.uses n.resident.single
      (given_home s.core.frames.seats n.frames.seats s.core.queue.queued n.queue.queued f h (λ g ne. made_reads g) given) (made_reads f ∙ ap reads idle) renewed)

  pub made_frames : length n.frames.seats ≡ length s.core.frames.seats
  made_frames = ap (λ (ss : Seats). length ss) given.seats ∙ length-set s.core.frames.seats f (Some given.tenant)

  pub made_found : (k : ℕ) → k ≢ h → found_at n.frames.seats n.queue.queued k ≡ found_at s.core.frames.seats s.core.queue.queued k
  unfolding found_at
  made_found k other = ap (found_in n.queue.queued) (given_other s.core n h f (free_away s h unused) given k other) ∙ ap (λ (q : Transfers). found_in q.queued (frame_for s.core.frames.seats k)) queue

-- a making is one use
pub one_use : (o n : Residence) (f : ℕ) → IsRenewed f o.frames.seats n.frames.seats o.frames.uses n.frames.uses → n.frames.uses ≤ o.frames.uses + 1
one_use o n f renewed = by (is_some (seat n.frames.seats f)) refl
  where
    next_most : (k : ℕ) (b : Bool) → cond b (k + 1) k ≤ k + 1
    next_most k true = omega arith
    next_most k false = omega arith

    by : (b : Bool) → is_some (seat n.frames.seats f) ≡ b → n.frames.uses ≤ o.frames.uses + 1
    by true is = (let next = (renewed.own is).1 in let most = next_most o.frames.uses (nat_lt o.frames.uses LAST_USE) in omega (arith, next, most))
    by false is = (let same = renewed.none is in omega (arith, same))
