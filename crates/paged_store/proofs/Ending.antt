-- The oldest transfer ends: the page that comes in, or that leaves.
use Rattle.std.proofs.Common.{◌≡◌, ◌≢◌, ℕ, ◌+◌, inl, inr, List, [], ◌∷◌, map, count_by, drop, slice_get, Option, None, Some, Result, Ok, Err, Bool, true, false, cond, refl, sym, ◌∙◌, ap, subst, arith, set, get_or}
use Rattle.std.specs.Prelude.{is_none, OnOk, OnErr}
use Rattle.std.specs.Option.{option_map}
use Rattle.std.proofs.lemmas.Bool.{cases_eq, false_from_ne_true}
use Rattle.std.proofs.lemmas.List.{get_or-set_other}
use Rattle.outside.specs.Drums.{IsPage}
use Rattle.page_homes.specs.declared.homes.Home.{Home}
use Rattle.page_homes.specs.declared.homes.FrameId.{FrameId}
use Rattle.page_contracts.specs.Stores.{HomePlace, KeepsAges, Renews, free, away, here, place, tenant_left}
use Rattle.page_contracts.specs.Stores as meaning
use Rattle.drum_queue.specs.declared.transfer.Transfer.{Transfer}
use Rattle.drum_queue.specs.declared.transfer.Transfer.TheVariants.{Read, Write}
use Rattle.drum_queue.specs.Transfers.{Transfers, frame_of, transfer_of, without}
use Rattle.page_residence.specs.declared.residence.Residence.{Residence}
use Rattle.paged_store.specs.UntoldNeeds.{Needs}
use Rattle.paged_store.specs.HeldHomes.{held_by}
use Rattle.paged_store.specs.Keeping.{IsKept, is_among}
use Rattle.page_residence.specs.Resident.{Seats, age_at, found_at, seat, home_at, framed, page_in, pins_in, places, reads, meant, tenant_at, SeatsStay, IsRenewed, IsTakenFrom}
use Rattle.page_residence.proofs.Seating.{frame_is, home_below}
use Rattle.page_residence.proofs.Agreeing.{Agrees, agrees}
use Rattle.page_residence.proofs.Queues.{without_own, without_other}
use Rattle.paged_store.specs.KeptHomes.{still_frame, none_counted}
use Rattle.paged_store.proofs.KeptThrough.{kept_stays, kept_taken}
use Rattle.page_residence.proofs.Placing.{framed_other, place_taken, places_same, reading_in, shown_in}
use Rattle.page_residence.proofs.Renewing.{keeps_at, renews_at, tenants_left}
use Rattle.paged_store.proofs.Completing.{arrived_places, came_found, departed_places, left_found, tenants_came}
use Rattle.paged_store.proofs.Resting.{rescued_idle}
use Rattle.page_residence.proofs.Steps.{oldest_is, oldest_home, spare_set}

pub head_meant : (q : List Transfer) (t : Transfer) → slice_get q 0 ≡ Some t → map meant q ≡ meant t ∷ map meant (drop 1 q)
head_meant [] t is = absurd cc
head_meant (u ∷ us) t is = let same : u ≡ t = cc in ap (λ (v : Transfer). meant v ∷ map meant us) same

-- the pages of a store's homes, by its flags and frames
abbrev pub homes_in : List Bool → Residence → List HomePlace
homes_in flags o = places flags (framed o.frames.seats o.frames.words o.queue.queued)

-- a page has come into its frame
pub record HasArrived (flags : List Bool) (o n : Residence) (f h : ℕ) : Type 0 where
  pub homes : homes_in flags n ≡ set (homes_in flags o) h (here (page_in n.frames.words f))
  pub was : place (homes_in flags o) h ≡ away
  pub oldest : map meant o.queue.queued ≡ meaning.arrival h ∷ map meant n.queue.queued
  pub came : Renews h (tenant_at n.frames.seats n.queue.queued) (age_at o.frames.seats o.queue.queued) (age_at n.frames.seats n.queue.queued) o.frames.uses n.frames.uses
  pub found : (k : ℕ) → k ≢ h → found_at n.frames.seats n.queue.queued k ≡ found_at o.frames.seats o.queue.queued k
  pub tenants : (g : ℕ) → (tenant_at n.frames.seats n.queue.queued g ≡ Some h → ⊥) → tenant_at n.frames.seats n.queue.queued g ≡ tenant_left h (tenant_at o.frames.seats o.queue.queued g)

pub record HasDeparted (flags : List Bool) (o n : Residence) (f h : ℕ) : Type 0 where
  pub homes : homes_in flags n ≡ set (homes_in flags o) h away
  pub was : place (homes_in flags o) h ≡ here (page_in o.frames.words f)
  pub oldest : map meant o.queue.queued ≡ meaning.departure h ∷ map meant n.queue.queued
  pub page : IsPage (page_in o.frames.words f)
  pub spare : count_by is_none n.frames.seats ≡ count_by is_none o.frames.seats + 1
  pub went : KeepsAges h (tenant_at o.frames.seats o.queue.queued) (age_at o.frames.seats o.queue.queued) (age_at n.frames.seats n.queue.queued)
  pub found : (k : ℕ) → k ≢ h → found_at n.frames.seats n.queue.queued k ≡ found_at o.frames.seats o.queue.queued k
  pub tenants : (g : ℕ) → tenant_at n.frames.seats n.queue.queued g ≡ tenant_left h (tenant_at o.frames.seats o.queue.queued g)

module _ (flags : List Bool) (o n : Residence) (f : FrameId) (h : Home) where
  agree : Agrees o.frames o.queue
  agree = agrees o.frames o.queue o.resident

  pub arrived : slice_get o.queue.queued 0 ≡ Some (Read f h) → get_or flags h.0 false ≡ true → SeatsStay o.frames.seats n.frames.seats → IsRenewed f.0 o.frames.seats n.frames.seats o.frames.uses n.frames.uses → (ws : List ℕ) → n.frames.words ≡ set o.frames.words f.0 ws
      → n.queue.queued ≡ drop 1 o.queue.queued → HasArrived flags o n f.0 h.0
  arrived first taken stays renewed ws words queue =
      let oldest = oldest_is (Read f h) o.queue.queued (agrees o.frames o.queue o.resident).once first in
      let given = oldest_home o.frames o.queue (Read f h) (agrees o.frames o.queue o.resident) first in
      let below = home_below o.frames.seats f.0 h.0 given in
      let rest : n.queue.queued ≡ without f.0 o.queue.queued = queue ∙ oldest.rest in
      let others : (g : ℕ) → g ≢ f.0 → reads (transfer_of g n.queue.queued) ≡ reads (transfer_of g o.queue.queued) =
      λ g other. ap reads (ap (λ (ts : List Transfer). transfer_of g ts) rest ∙ without_other f.0 g o.queue.queued other) in
      let own : reads (transfer_of f.0 n.queue.queued) ≡ false = ap reads (ap (λ (ts : List Transfer). transfer_of f.0 ts) rest ∙ without_own f.0 o.queue.queued) in
      record {
        homes = arrived_places flags o.frames.seats n.frames.seats o.frames.words n.frames.words o.queue.queued n.queue.queued f.0 h.0 ws o.resident.single n.resident.single stays given taken words
            (omega (arith, o.resident.worded)) others own;
        was = place_taken flags (framed o.frames.seats o.frames.words o.queue.queued) h.0 taken
            ∙ reading_in o.frames.seats o.frames.words o.queue.queued h.0 f.0 (frame_is o.frames.seats h.0 f.0 o.resident.single given) (ap reads oldest.own);
        oldest = head_meant o.queue.queued (Read f h) first ∙ ap (λ (ts : List Transfer). meaning.arrival h.0 ∷ map meant ts) (sym queue);
        found = came_found o.frames.seats n.frames.seats o.queue.queued n.queue.queued f.0 h.0 o.resident.single stays.homes given others;
        tenants = tenants_came o.frames.seats n.frames.seats o.queue.queued n.queue.queued f.0 h.0 others o.resident.single stays.homes given own;
        came = renews_at o.frames.seats n.frames.seats o.queue.queued n.queue.queued f.0 h.0 others o.frames.uses n.frames.uses n.resident.single (stays.homes f.0 ∙ given) own renewed;
      }

  pub departed : slice_get o.queue.queued 0 ≡ Some (Write f h) → get_or flags h.0 false ≡ true → IsTakenFrom h.0 f.0 o.frames.seats n.frames.seats → n.frames.words ≡ o.frames.words
      → n.queue.queued ≡ drop 1 o.queue.queued → HasDeparted flags o n f.0 h.0
  departed first taken from words queue =
      let oldest = oldest_is (Write f h) o.queue.queued (agrees o.frames o.queue o.resident).once first in
      let below = home_below o.frames.seats f.0 h.0 from.had in
      let rest : n.queue.queued ≡ without f.0 o.queue.queued = queue ∙ oldest.rest in
      let read : reads (transfer_of f.0 o.queue.queued) ≡ false = ap reads oldest.own in
      let others : (g : ℕ) → g ≢ f.0 → reads (transfer_of g n.queue.queued) ≡ reads (transfer_of g o.queue.queued) =
      λ g other. ap reads (ap (λ (ts : List Transfer). transfer_of g ts) rest ∙ without_other f.0 g o.queue.queued other) in
      let spare = spare_set o.frames.seats f.0 None below in
      let had = ap (λ (b : Bool). let m : ℕ = cond b 1 0 in m) (some_none (seat o.frames.seats f.0) from.had) in
      let now = ap (λ (ss : Seats). count_by is_none ss) from.seats in
      record {
        homes = ap (λ (ws : List (List ℕ)). places flags (framed n.frames.seats ws n.queue.queued)) words
            ∙ departed_places flags o.frames.seats n.frames.seats o.frames.words o.queue.queued n.queue.queued f.0 h.0 o.resident.single n.resident.single from taken others;
        was = place_taken flags (framed o.frames.seats o.frames.words o.queue.queued) h.0 taken
            ∙ shown_in o.frames.seats o.frames.words o.queue.queued h.0 f.0 (frame_is o.frames.seats h.0 f.0 o.resident.single from.had) read;
        oldest = head_meant o.queue.queued (Write f h) first ∙ ap (λ (ts : List Transfer). meaning.departure h.0 ∷ map meant ts) (sym queue);
        page = o.resident.pages f.0 h.0 from.had read;
        spare = omega (arith, spare, had, now);
        found = left_found o.frames.seats n.frames.seats o.queue.queued n.queue.queued f.0 h.0 o.resident.single n.resident.single from others;
        tenants = tenants_left o.frames.seats n.frames.seats o.queue.queued n.queue.queued f.0 h.0 others from o.resident.single;
        went = keeps_at o.frames.seats n.frames.seats o.queue.queued n.queue.queued f.0 h.0 others from;
      }
    where
      some_none : (s : Option Rattle.frame_table.specs.declared.tenant.Tenant.Tenant) → option_map (λ t. t.home.0) s ≡ Some h.0 → is_none s ≡ false
      some_none None e = absurd cc
      some_none (Some t) e = refl

  -- a read that failed leaves all pages where they were: the words of its frame are still to be read
  pub unread : slice_get o.queue.queued 0 ≡ Some (Read f h) → n.frames.seats ≡ o.frames.seats → (ws : List ℕ) → n.frames.words ≡ set o.frames.words f.0 ws → n.queue ≡ o.queue → homes_in flags n ≡ homes_in flags o
  unread first seats ws words queue =
      let oldest = oldest_is (Read f h) o.queue.queued (agrees o.frames o.queue o.resident).once first in
      let given = oldest_home o.frames o.queue (Read f h) (agrees o.frames o.queue o.resident) first in
      let is = frame_is o.frames.seats h.0 f.0 o.resident.single given in
      let read : reads (transfer_of f.0 o.queue.queued) ≡ true = ap reads oldest.own in
      ap (λ (ss : Seats). places flags (framed ss n.frames.words n.queue.queued)) seats
      ∙ ap (λ (vs : List (List ℕ)). places flags (framed o.frames.seats vs n.queue.queued)) words
      ∙ ap (λ (q : Transfers). places flags (framed o.frames.seats (set o.frames.words f.0 ws) q.queued)) queue
      ∙ places_same flags (framed o.frames.seats (set o.frames.words f.0 ws) o.queue.queued) (framed o.frames.seats o.frames.words o.queue.queued) (λ k. elim (cases_eq k h.0) [
        | inl e ↦ ap (framed o.frames.seats (set o.frames.words f.0 ws) o.queue.queued) e ∙ reading_in o.frames.seats (set o.frames.words f.0 ws) o.queue.queued h.0 f.0 is read
            ∙ sym (ap (framed o.frames.seats o.frames.words o.queue.queued) e ∙ reading_in o.frames.seats o.frames.words o.queue.queued h.0 f.0 is read)
        | inr other ↦ framed_other o.frames.seats o.frames.seats o.frames.words (set o.frames.words f.0 ws) o.queue.queued o.queue.queued f.0 h.0 k
            (λ x has. let two : Some x ≡ Some h.0 = sym has ∙ given in let e : x ≡ h.0 = cc in e) refl (λ g ne. get_or-set_other o.frames.words f.0 g ws [] ne) (λ g ne. refl) other
      ])

  module _ (holders : List (List ℕ)) (untold : Needs) (kept : IsKept o.frames.seats o.queue.queued flags holders untold) where
    rest_idle : (t : Transfer) → slice_get o.queue.queued 0 ≡ Some t → (g : ℕ) → transfer_of g o.queue.queued ≡ None → transfer_of g (drop 1 o.queue.queued) ≡ None
    rest_idle t first g idle =
        ap (λ (ts : List Transfer). transfer_of g ts) (oldest_is t o.queue.queued (agrees o.frames o.queue o.resident).once first).rest ∙ rescued_idle (frame_of t) o.queue.queued true g idle

    pub kept_arrived : {E : Type 0} (r : Result (Unit {0}) E) → slice_get o.queue.queued 0 ≡ Some (Read f h) → SeatsStay o.frames.seats n.frames.seats
        → OnOk r (n.queue.queued ≡ drop 1 o.queue.queued) → OnErr r (n.queue ≡ o.queue) → IsKept n.frames.seats n.queue.queued flags holders untold
    kept_arrived (Ok x) first stays done failed =
        kept_stays o.frames.seats o.queue.queued flags holders untold kept n.frames.seats n.queue.queued untold o.resident.single stays
        (λ g pinned idle. ap (λ (ts : List Transfer). transfer_of g ts) done ∙ rest_idle (Read f h) first g idle) refl
    kept_arrived (Err e) first stays done failed =
        kept_stays o.frames.seats o.queue.queued flags holders untold kept n.frames.seats n.queue.queued untold o.resident.single stays
        (λ g pinned idle. ap (λ (q : Transfers). transfer_of g q.queued) failed ∙ idle) refl

    -- nobody has pinned a frame that a transfer moves
    pub moved_unpinned : (t : Transfer) → home_at o.frames.seats f.0 ≡ Some h.0 → transfer_of f.0 o.queue.queued ≡ Some t → pins_in (seat o.frames.seats f.0) ≡ 0
    moved_unpinned t given moves =
        kept.pinned f.0 h.0 given
        ∙ none_counted holders h.0 (λ k. false_from_ne_true (is_among h.0 (held_by holders k)) (λ among.
        let still = still_frame o.frames.seats o.queue.queued h.0 (kept.held k h.0 among) in
        let two : Some still.frame ≡ Some f.0 = sym still.is ∙ frame_is o.frames.seats h.0 f.0 o.resident.single given in
        let same : still.frame ≡ f.0 = cc in
        let no : None ≡ Some t = sym still.idle ∙ ap (λ (g : ℕ). transfer_of g o.queue.queued) same ∙ moves in
        let r : ⊥ = absurd cc in r))

    pub kept_departed : {E : Type 0} (r : Result (Unit {0}) E) → slice_get o.queue.queued 0 ≡ Some (Write f h) → pins_in (seat o.frames.seats f.0) ≡ 0
        → OnOk r (IsTakenFrom h.0 f.0 o.frames.seats n.frames.seats) → OnOk r (n.queue.queued ≡ drop 1 o.queue.queued) → OnErr r (n ≡ o) → IsKept n.frames.seats n.queue.queued flags holders untold
    kept_departed (Ok x) first unpinned from done failed =
        kept_taken o.frames.seats o.queue.queued flags holders untold kept n.frames.seats n.queue.queued flags untold h.0 f.0 o.resident.single n.resident.single from unpinned
        (λ g other idle. ap (λ (ts : List Transfer). transfer_of g ts) done ∙ rest_idle (Write f h) first g idle) refl (λ k other taken. taken) refl
    kept_departed (Err e) first unpinned from done failed = subst (λ (x : Residence). IsKept x.frames.seats x.queue.queued flags holders untold) (sym failed) kept
