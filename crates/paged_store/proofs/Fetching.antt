-- A page that is asked for, and a free frame that is given to one.
use Rattle.std.proofs.Common.{◌≡◌, ◌≢◌, ℕ, ◌+◌, ◌<◌, inl, inr, List, [], ◌∷◌, ◌++◌, map, count_by, Option, None, Some, Bool, true, false, cond, refl, sym, ◌∙◌, ap, subst, arith, set, get_or}
use Rattle.std.specs.Prelude.{is_none, nat_lt}
use Rattle.std.specs.Option.{option_map}
use Rattle.std.proofs.Math.Path.{fun_ext}
use Rattle.std.proofs.lemmas.Bool.{cases_eq, false≢true, lt-ltb, le-ltb}
use Rattle.std.proofs.lemmas.List.{get_or-set_same, get_or-set_other}
use Rattle.page_homes.specs.declared.homes.Home.{Home}
use Rattle.page_homes.specs.declared.homes.FrameId.{FrameId}
use Rattle.page_contracts.specs.declared.answers.Found.{Found}
use Rattle.page_contracts.specs.Stores.{HomePlace, away, here, place, meeting, joins, begins, waits, is_taken}
use Rattle.frame_table.specs.declared.tenant.Tenant.{Tenant}
use Rattle.drum_queue.specs.declared.transfer.Transfer.{Transfer}
use Rattle.drum_queue.specs.declared.transfer.Transfer.TheVariants.{Read}
use Rattle.drum_queue.specs.Transfers.{transfer_of}
use Rattle.page_residence.specs.declared.residence.Residence.{Residence}
use Rattle.page_residence.specs.Resident.{Seats, seat, home_at, frame_for, framed, found_at, page_in, places, placed, reads, meant, IsSingle, IsGivenTo}
use Rattle.page_residence.proofs.Seating.{frame_has, frame_is, frame_other, seat_same, IsFor}
use Rattle.page_residence.proofs.Agreeing.{agrees}
use Rattle.page_residence.proofs.Meant.{arrivals, no_arrivals}
use Rattle.page_residence.proofs.Placing.{place_at, away_in, gone_in, reading_in, shown_in, framed_other, places_same, places_set}
use Rattle.paged_store.proofs.Ending.{homes_in}
use Rattle.page_residence.proofs.Steps.{spare_set}
use Rattle.page_residence.proofs.Finding.{found_none, found_reading}
use Rattle.page_residence.proofs.Queues.{pushed_own, pushed_other}
use Rattle.paged_store.specs.UntoldNeeds.{Needs}
use Rattle.paged_store.specs.Keeping.{IsKept}
use Rattle.paged_store.proofs.KeptThrough.{kept_given}

-- a home whose page is away is taken
away_parts : (b : Bool) (p : HomePlace) → placed b p ≡ away → (b ≡ true) × (p ≡ away)
away_parts true p is = (refl, is)
away_parts false p is = absurd (false≢true (ap is_taken is))

module _ (flags : List Bool) (o : Residence) (h : ℕ) (gone : place (homes_in flags o) h ≡ away) where
  pub away_taken : get_or flags h false ≡ true
  away_taken = (away_parts (get_or flags h false) (framed o.frames.seats o.frames.words o.queue.queued h) (sym (place_at flags (framed o.frames.seats o.frames.words o.queue.queued) h) ∙ gone)).0

  pub away_framed : framed o.frames.seats o.frames.words o.queue.queued h ≡ away
  away_framed = (away_parts (get_or flags h false) (framed o.frames.seats o.frames.words o.queue.queued h) (sym (place_at flags (framed o.frames.seats o.frames.words o.queue.queued) h) ∙ gone)).1

  -- its read is queued where it has a frame
  pub joins_at : (f spare : ℕ) → frame_for o.frames.seats h ≡ Some f → meeting (map meant o.queue.queued) spare (Rattle.page_contracts.specs.declared.answers.Need.TheVariants.Page (record { 0 = h })) ≡ joins h
  joins_at f spare is =
      ap (λ (b : Bool). cond b (joins h) (cond (nat_lt 0 spare) (begins h) waits))
      ((arrivals o.frames o.queue (agrees o.frames o.queue o.resident) h f (frame_has o.frames.seats h f is)).any ∙ away_in o.frames.seats o.frames.words o.queue.queued h f is away_framed)

  -- and can be queued where it has none and one is free
  pub begins_at : (spare : ℕ) → frame_for o.frames.seats h ≡ None → 0 < spare → meeting (map meant o.queue.queued) spare (Rattle.page_contracts.specs.declared.answers.Need.TheVariants.Page (record { 0 = h })) ≡ begins h
  begins_at spare is some =
      ap (λ (b : Bool). cond b (joins h) (cond (nat_lt 0 spare) (begins h) waits)) (no_arrivals o.frames o.queue (agrees o.frames o.queue o.resident) h is).any
      ∙ ap (λ (b : Bool). cond b (begins h) waits) (lt-ltb 0 spare some)

  pub waits_at : (spare : ℕ) → frame_for o.frames.seats h ≡ None → spare ≡ 0 → meeting (map meant o.queue.queued) spare (Rattle.page_contracts.specs.declared.answers.Need.TheVariants.Page (record { 0 = h })) ≡ waits
  waits_at spare is none =
      ap (λ (b : Bool). cond b (joins h) (cond (nat_lt 0 spare) (begins h) waits)) (no_arrivals o.frames o.queue (agrees o.frames o.queue o.resident) h is).any
      ∙ ap (λ (b : Bool). cond b (begins h) waits) (le-ltb 0 spare (omega (arith, none)))

-- how many frames are free once one was given
pub given_spare : (seats seats' : Seats) (h f : ℕ) → IsGivenTo h f seats seats' → count_by is_none seats' + 1 ≡ count_by is_none seats
given_spare seats seats' h f given =
    let spare = spare_set seats f (Some given.tenant) given.below in
    let was = ap (λ (o : Option Tenant). let n : ℕ = cond (is_none o) 1 0 in n) given.vacant in
    let now = ap (λ (ss : Seats). count_by is_none ss) given.seats in
    omega (arith, spare, was, now)

module _ (o n : Residence) (h f : ℕ) (away_was : frame_for o.frames.seats h ≡ None) (given : IsGivenTo h f o.frames.seats n.frames.seats) where
  given_single : IsSingle (set o.frames.seats f (Some given.tenant))
  given_single = subst IsSingle given.seats n.resident.single

  before : IsFor h (seat o.frames.seats f)
  before k has = let no : None ≡ Some k = sym (ap (option_map (λ t. t.home.0)) given.vacant) ∙ has in absurd cc

  after : IsFor h (Some given.tenant)
  after k has = let same : given.tenant.home.0 ≡ k = cc in sym same ∙ given.home

  -- other homes keep their frames, and the home has the frame
  pub given_other : (k : ℕ) → k ≢ h → frame_for n.frames.seats k ≡ frame_for o.frames.seats k
  given_other k other = ap (λ (ss : Seats). frame_for ss k) given.seats ∙ frame_other o.frames.seats f h k (Some given.tenant) o.resident.single given_single given.below before after other

  pub given_own : frame_for n.frames.seats h ≡ Some f
  given_own = frame_is n.frames.seats h f n.resident.single
      (ap (λ (ss : Seats). home_at ss f) given.seats ∙ ap (option_map (λ t. t.home.0)) (seat_same o.frames.seats f (Some given.tenant) given.below) ∙ ap (λ (k : ℕ). let x : Option ℕ = Some k in x) given.home)

  own_before : (x : ℕ) → home_at o.frames.seats f ≡ Some x → x ≡ h
  own_before x has = before x has

  -- a frame whose read is queued shows nothing
  pub expected_homes : (flags : List Bool) → n.frames.words ≡ o.frames.words → ((g : ℕ) → g ≢ f → reads (transfer_of g n.queue.queued) ≡ reads (transfer_of g o.queue.queued)) → reads (transfer_of f n.queue.queued) ≡ true
      → homes_in flags n ≡ homes_in flags o
  expected_homes flags words read own = places_same flags (framed n.frames.seats n.frames.words n.queue.queued) (framed o.frames.seats o.frames.words o.queue.queued) (λ k. elim (cases_eq k h) [
    | inl e ↦ ap (framed n.frames.seats n.frames.words n.queue.queued) e ∙ reading_in n.frames.seats n.frames.words n.queue.queued h f given_own own
        ∙ sym (ap (framed o.frames.seats o.frames.words o.queue.queued) e ∙ gone_in o.frames.seats o.frames.words o.queue.queued h away_was)
    | inr other ↦ framed_other o.frames.seats n.frames.seats o.frames.words n.frames.words o.queue.queued n.queue.queued f h k own_before (given_other k other)
        (λ g ne. ap (λ (ws : List (List ℕ)). page_in ws g) words) read other
  ])

  pub expected_found : ((g : ℕ) → g ≢ f → reads (transfer_of g n.queue.queued) ≡ reads (transfer_of g o.queue.queued)) → reads (transfer_of f n.queue.queued) ≡ true
      → found_at n.frames.seats n.queue.queued ≡ found_at o.frames.seats o.queue.queued
  unfolding found_at
  expected_found read own = fun_ext (λ k. elim (cases_eq k h) [
    | inl e ↦ ap (found_at n.frames.seats n.queue.queued) e ∙ sym (found_reading n.frames.seats n.queue.queued h f given_own own) ∙ found_none o.frames.seats o.queue.queued h away_was ∙ ap (found_at o.frames.seats o.queue.queued) (sym e)
    | inr other ↦ by_frame k other (frame_for o.frames.seats k) refl
  ])
    where
      by_frame : (k : ℕ) → k ≢ h → (x : Option ℕ) → frame_for o.frames.seats k ≡ x → Rattle.page_residence.specs.Resident.found_in n.queue.queued (frame_for n.frames.seats k) ≡ Rattle.page_residence.specs.Resident.found_in o.queue.queued (frame_for o.frames.seats k)
      by_frame k other None is =
          ap (Rattle.page_residence.specs.Resident.found_in n.queue.queued) (given_other k other ∙ is) ∙ sym (ap (Rattle.page_residence.specs.Resident.found_in o.queue.queued) is)
      by_frame k other (Some g) is =
          let ne : g ≢ f = λ e. other (before k (ap (home_at o.frames.seats) (sym e) ∙ frame_has o.frames.seats k g is)) in
          ap (Rattle.page_residence.specs.Resident.found_in n.queue.queued) (given_other k other ∙ is) ∙ ap (λ (b : Bool). cond b None (Some (let x : Found = record { 0 = g } in x))) (read g ne)
          ∙ sym (ap (Rattle.page_residence.specs.Resident.found_in o.queue.queued) is)

  -- a frame that was filled shows its words
  pub seated_homes : (flags : List Bool) (words : List ℕ) → n.frames.words ≡ set o.frames.words f words → n.queue ≡ o.queue → transfer_of f o.queue.queued ≡ None
      → homes_in (set flags h true) n ≡ set (homes_in flags o) h (here words)
  seated_homes flags words changed queue idle =
      places_set flags (framed o.frames.seats o.frames.words o.queue.queued) (framed n.frames.seats n.frames.words n.queue.queued) h true
      (λ k other. framed_other o.frames.seats n.frames.seats o.frames.words n.frames.words o.queue.queued n.queue.queued f h k own_before (given_other k other)
      (λ g ne. ap (λ (ws : List (List ℕ)). page_in ws g) changed ∙ get_or-set_other o.frames.words f g words [] ne)
      (λ g ne. ap (λ (q : Rattle.drum_queue.specs.Transfers.Transfers). reads (transfer_of g q.queued)) queue) other)
      ∙ ap (set (homes_in flags o) h)
      (shown_in n.frames.seats n.frames.words n.queue.queued h f given_own (ap (λ (q : Rattle.drum_queue.specs.Transfers.Transfers). reads (transfer_of f q.queued)) queue ∙ ap reads idle)
      ∙ ap here (ap (λ (ws : List (List ℕ)). page_in ws f) changed ∙ get_or-set_same o.frames.words f words [] (let b = given.below in let w = o.resident.worded in omega (arith, b, w))))

-- the read that was queued, and the others
pub read_own : (f : FrameId) (h : Home) (q q' : List Transfer) → q' ≡ q ++ Read f h ∷ [] → transfer_of f.0 q ≡ None → reads (transfer_of f.0 q') ≡ true
read_own f h q q' is idle = ap (λ (ts : List Transfer). reads (transfer_of f.0 ts)) is ∙ ap reads (pushed_own f.0 q (Read f h) refl idle)

pub read_other : (f : FrameId) (h : Home) (q q' : List Transfer) → q' ≡ q ++ Read f h ∷ [] → (g : ℕ) → g ≢ f.0 → transfer_of g q' ≡ transfer_of g q
read_other f h q q' is g other = ap (λ (ts : List Transfer). transfer_of g ts) is ∙ pushed_other g q (Read f h) other

-- what a store keeps is kept once a frame was given, or none was free
pub kept_expected : (flags : List Bool) (holders : List (List ℕ)) (untold : Needs) (o n : Residence) (h : Home) → IsKept o.frames.seats o.queue.queued flags holders untold → frame_for o.frames.seats h.0 ≡ None → get_or flags h.0 false ≡ true
    → (r : Option FrameId) → (r ≡ None → n ≡ o) → ((f : ℕ) → r ≡ Some (record { 0 = f }) → IsGivenTo h.0 f o.frames.seats n.frames.seats)
    → ((f : ℕ) → r ≡ Some (record { 0 = f }) → n.queue.queued ≡ o.queue.queued ++ Read (record { 0 = f }) h ∷ []) → IsKept n.frames.seats n.queue.queued flags holders untold
kept_expected flags holders untold o n h kept gone taken None same given queue = subst (λ (x : Residence). IsKept x.frames.seats x.queue.queued flags holders untold) (sym (same refl)) kept
kept_expected flags holders untold o n h kept gone taken (Some f) same given queue =
    kept_given o.frames.seats o.queue.queued flags holders untold kept n.frames.seats n.queue.queued flags h.0 f.0 n.resident.single gone (given f.0 refl)
    (λ g other idle. read_other f h o.queue.queued n.queue.queued (queue f.0 refl) g other ∙ idle) refl taken (λ k is. is)
