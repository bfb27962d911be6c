-- A home is given up.
use Rattle.std.proofs.Common.{◌≡◌, ◌≢◌, ℕ, ◌+◌, ◌<◌, ◌≤◌, inl, inr, List, [], ◌∷◌, length, map, filter, count_by, Option, None, Some, is_some, Bool, true, false, cond, ◌||◌, refl, sym, ◌∙◌, ap, subst, arith, set, get_or, add-zero}
use Rattle.std.specs.Prelude.{is_none}
use Rattle.std.specs.Option.{option_map, option_map_or}
use Rattle.std.specs.List.{list_any}
use Rattle.std.proofs.lemmas.Bool.{cases_eq}
use Rattle.std.proofs.lemmas.List.{get_or-set_other, length-set, set-set}
use Rattle.std.proofs.Math.Path.{fun_ext}
use Rattle.page_homes.specs.declared.homes.TheConstants.{MOST_HOMES}
use Rattle.frame_table.specs.declared.tenant.Tenant.{Tenant}
use Rattle.page_contracts.specs.declared.answers.Need.{Need}
use Rattle.page_contracts.specs.Stores.{need_of, noted, noted_all, moves, arrives, HomePlace, free, away, here, place, is_here, frames_of, tenant_left, Cancels, IsFreed, KeepsAges, StaysThere}
use Rattle.page_contracts.specs.Stores as meaning
use Rattle.page_contracts.specs.declared.answers.Found.{Found}
use Rattle.drum_queue.specs.declared.transfer.Transfer.{Transfer}
use Rattle.drum_queue.specs.declared.transfer.Transfer.TheVariants.{Read, Write}
use Rattle.drum_queue.specs.Transfers.{Transfers, transfer_of, without}
use Rattle.paged_store.specs.declared.store.PagedStore.{PagedStore}
use Rattle.page_residence.specs.declared.residence.Residence.{Residence}
use Rattle.paged_store.specs.UntoldNeeds.{Needs, IsBelow}
use Rattle.paged_store.specs.HeldHomes.{held_by}
use Rattle.paged_store.specs.Keeping.{IsKept, is_among}
use Rattle.page_contracts.specs.Stores.{members_of}
use Rattle.page_residence.specs.Resident.{found_at, Seats, age_at, tenant_at, seat, home_at, home_of, frame_for, framed, meant, pins_in, places, reads, IsSingle, IsTakenFrom}
use Rattle.page_residence.proofs.Seating.{frame_none, none_has, home_below, seat_same, seat_other}
use Rattle.page_residence.proofs.Agreeing.{agrees}
use Rattle.page_residence.proofs.Queues.{bound_at, without_other, idle_kept}
use Rattle.paged_store.specs.KeptHomes.{none_counted}
use Rattle.paged_store.proofs.KeptThrough.{kept_taken}
use Rattle.paged_store.specs.StoreSound.{marked}
use Rattle.paged_store.proofs.Resting.{rescued_idle, rest_homes, stays_there}
use Rattle.page_residence.proofs.Renewing.{keeps_at, tenants_kept, tenants_left}
use Rattle.paged_store.proofs.Completing.{departed_places, left_found}
use Rattle.page_residence.proofs.Steps.{spare_set}
use Rattle.page_residence.proofs.Meant.{arrivals, moving_of, no_arrivals, not_moving}
use Rattle.page_residence.proofs.Placing.{place_taken, places_set, gone_in, reading_in, shown_in}
use Rattle.paged_store.specs.StoreMeaning.{homes_of, paged_meaning}
use Rattle.paged_store.specs.StoreSteps.{IsAtRest, all_but}
use Rattle.paged_store.proofs.Taking.{flag_below}

pub vacated_unpinned : (s : PagedStore) (f h : ℕ) → home_at s.core.frames.seats f ≡ Some h → ((k : ℕ) → is_among h (held_by s.holders k) ≡ false) → pins_in (seat s.core.frames.seats f) ≡ 0
vacated_unpinned s f h given unheld = s.kept.pinned f h given ∙ none_counted s.holders h unheld

pub vacated_kept : (s : PagedStore) (n : Residence) (untold : Needs) (f h : ℕ) → ((k : ℕ) → is_among h (held_by s.holders k) ≡ false) → IsTakenFrom h f s.core.frames.seats n.frames.seats
    → n.queue.queued ≡ without f s.core.queue.queued → untold.homes ≡ s.untold.homes → IsKept n.frames.seats n.queue.queued s.homes s.holders untold
vacated_kept s n untold f h unheld from queue homes =
    kept_taken s.core.frames.seats s.core.queue.queued s.homes s.holders s.untold s.kept n.frames.seats n.queue.queued s.homes untold h f s.core.resident.single n.resident.single from
    (vacated_unpinned s f h from.had unheld)
    (λ g other idle. ap (λ (ts : List Transfer). transfer_of g ts) queue ∙ rescued_idle f s.core.queue.queued true g idle) refl (λ k other taken. taken) homes

-- what is to be told of its transfer
need_below : (homes : ℕ) (t : Transfer) (h : ℕ) → home_of t ≡ h → h < homes → IsBelow homes (need_of (meant t))
need_below homes (Read f k) h same below = subst (λ (n : ℕ). n < homes) (sym same) below
need_below homes (Write f k) h same below = tt

pub told_below : (s : PagedStore) (f h : ℕ) (t : Transfer) → home_at s.core.frames.seats f ≡ Some h → transfer_of f s.core.queue.queued ≡ Some t → IsBelow s.untold.homes (need_of (meant t))
told_below s f h t given is =
    let own = bound_at s.core.frames.seats f s.core.queue.queued t (agrees s.core.frames s.core.queue s.core.resident).bound is in
    let two : Some (home_of t) ≡ Some h = sym own.1 ∙ given in
    let same : home_of t ≡ h = cc in
    let below = flag_below s.homes h (marked s f h given) in
    let homes = s.kept.homes in
    need_below s.untold.homes t h same (omega (arith, below, homes))

-- what giving up a home leaves, where it is held for nobody
pub record IsFreedFrom (mid new : PagedStore) (h : ℕ) : Type 0 where
  pub homes : homes_of new ≡ set (homes_of mid) h free
  pub spare : count_by is_none new.core.frames.seats ≡ count_by is_none mid.core.frames.seats + frames_of paged_meaning mid h
  pub queue : map meant new.core.queue.queued ≡ meaning.without (moves h) (map meant mid.core.queue.queued)
  pub untold : new.untold.needs ≡ noted_all (filter (moves h) (map meant mid.core.queue.queued)) mid.untold.needs
  pub holders : new.holders ≡ mid.holders
  pub size : length new.core.frames.seats ≡ length mid.core.frames.seats
  pub tenants : (frame : ℕ) → paged_meaning.tenant new frame ≡ tenant_left h (paged_meaning.tenant mid frame)
  pub ages : KeepsAges h (paged_meaning.tenant mid) (paged_meaning.age mid) (paged_meaning.age new)
  pub uses : new.core.frames.uses ≡ mid.core.frames.uses
  pub found : (k : ℕ) → k ≢ h → paged_meaning.found new k ≡ paged_meaning.found mid k

pub freed_by : (s mid new : PagedStore) (h : ℕ) → IsAtRest s mid → mid.core.queue ≡ s.core.queue → mid.untold ≡ s.untold → ((k : ℕ) → held_by mid.holders k ≡ all_but h (held_by s.holders k)) → IsFreedFrom mid new h
    → IsFreed paged_meaning h s new
freed_by s mid new h rest queue untold holders freed = record {
  homes = freed.homes ∙ ap (λ (ps : List HomePlace). set ps h free) (rest_homes s mid rest);
  spare = freed.spare
      ∙ ap (λ (n : ℕ). n + frames_of paged_meaning mid h) rest.seats.spare
      ∙ ap (λ (b : Bool). count_by is_none s.core.frames.seats + cond b 1 0) same_frames;
  cancelled = record {
    queue = freed.queue ∙ ap (λ (q : Transfers). meaning.without (moves h) (map meant q.queued)) queue;
    untold = freed.untold ∙ ap (λ (q : Transfers). noted_all (filter (moves h) (map meant q.queued)) mid.untold.needs) queue ∙ ap (λ (u : Needs). noted_all (filter (moves h) (map meant s.core.queue.queued)) u.needs) untold;
  };
  holds = fun_ext (λ k. ap (λ (hs : List (List ℕ)). held_by hs k) freed.holders ∙ holders k);
  frames = freed.size ∙ rest.seats.size;
  members = ap members_of (freed.size ∙ rest.seats.size);
  found = λ k other. freed.found k other ∙ ap (λ (g : ℕ → Option Found). g k) there.framed.found;
  uses = freed.uses ∙ rest.uses;
  tenants = λ frame. freed.tenants frame ∙ ap (λ (t : ℕ → Option ℕ). tenant_left h (t frame)) there.framed.tenant;
  ages = λ frame apart. freed.ages frame (λ has. apart (sym (ap (λ (t : ℕ → Option ℕ). t frame) there.framed.tenant) ∙ has)) ∙ ap (λ (a : ℕ → ℕ). a frame) there.ages;
}
  where
    there : StaysThere paged_meaning s mid
    there = stays_there s mid rest

    same_frames : (is_here (place (homes_of mid) h) || list_any (arrives h) (map meant mid.core.queue.queued)) ≡ (is_here (place (homes_of s) h) || list_any (arrives h) (map meant s.core.queue.queued))
    same_frames =
        ap (λ (ps : List HomePlace). is_here (place ps h) || list_any (arrives h) (map meant mid.core.queue.queued)) (rest_homes s mid rest)
        ∙ ap (λ (q : Transfers). is_here (place (homes_of s) h) || list_any (arrives h) (map meant q.queued)) queue

-- a home without a frame
pub freed_away : (mid new : PagedStore) (h : ℕ) → frame_for mid.core.frames.seats h ≡ None → get_or mid.homes h false ≡ true → new.core ≡ mid.core → new.homes ≡ set mid.homes h false → new.untold ≡ mid.untold → new.holders ≡ mid.holders
    → IsFreedFrom mid new h
freed_away mid new h gone taken core flags untold holders =
    let moving = not_moving mid.core.frames mid.core.queue (agrees mid.core.frames mid.core.queue mid.core.resident) h gone in
    let arrival = no_arrivals mid.core.frames mid.core.queue (agrees mid.core.frames mid.core.queue mid.core.resident) h gone in
    let there : place (homes_of mid) h ≡ away = place_taken mid.homes (framed mid.core.frames.seats mid.core.frames.words mid.core.queue.queued) h taken ∙ gone_in mid.core.frames.seats mid.core.frames.words mid.core.queue.queued h gone in
    let none : (is_here (place (homes_of mid) h) || list_any (arrives h) (map meant mid.core.queue.queued)) ≡ false =
    ap (λ (p : HomePlace). is_here p || list_any (arrives h) (map meant mid.core.queue.queued)) there ∙ arrival.any in
    record {
      homes = ap (λ (o : Residence). places new.homes (framed o.frames.seats o.frames.words o.queue.queued)) core
          ∙ ap (λ (fs : List Bool). places fs (framed mid.core.frames.seats mid.core.frames.words mid.core.queue.queued)) flags
          ∙ places_set mid.homes (framed mid.core.frames.seats mid.core.frames.words mid.core.queue.queued) (framed mid.core.frames.seats mid.core.frames.words mid.core.queue.queued) h false (λ k other. refl);
      spare = ap (λ (o : Residence). count_by is_none o.frames.seats) core ∙ sym (ap (λ (b : Bool). count_by is_none mid.core.frames.seats + cond b 1 0) none ∙ add-zero (count_by is_none mid.core.frames.seats));
      queue = ap (λ (o : Residence). map meant o.queue.queued) core ∙ sym moving.others;
      untold = ap (λ (u : Needs). u.needs) untold ∙ sym (ap (λ (ts : List meaning.Transfer). noted_all ts mid.untold.needs) moving.those);
      holders = holders;
      size = ap (λ (o : Residence). length o.frames.seats) core;
      tenants = λ frame. ap (λ (o : Residence). tenant_at o.frames.seats o.queue.queued frame) core ∙ tenants_kept mid.core.frames.seats mid.core.queue.queued h frame gone;
      ages = λ frame apart. ap (λ (o : Residence). age_at o.frames.seats o.queue.queued frame) core;
      uses = ap (λ (o : Residence). o.frames.uses) core;
      found = λ k other. ap (λ (o : Residence). found_at o.frames.seats o.queue.queued k) core;
    }

told_moving : (o : Option Transfer) (needs : List Need) → option_map_or (λ t. noted (need_of (meant t)) needs) o needs ≡ noted_all (cond (is_some o) (option_map_or (λ t. meant t ∷ []) o []) []) needs
told_moving None needs = refl
told_moving (Some t) needs = refl

gone_without : (f : ℕ) (q : List Transfer) → map meant (without f q) ≡ map meant (cond (is_some (transfer_of f q)) (without f q) q)
gone_without f q = at (transfer_of f q) refl
  where
    at : (o : Option Transfer) → transfer_of f q ≡ o → map meant (without f q) ≡ map meant (cond (is_some o) (without f q) q)
    at None is = ap (map meant) (idle_kept f q is)
    at (Some t) is = refl

one_place : (seats : Seats) (words : List (List ℕ)) (queue : List Transfer) (h f : ℕ) → frame_for seats h ≡ Some f → (is_here (framed seats words queue h) || reads (transfer_of f queue)) ≡ true
one_place seats words queue h f is = at (reads (transfer_of f queue)) refl
  where
    at : (b : Bool) → reads (transfer_of f queue) ≡ b → (is_here (framed seats words queue h) || b) ≡ true
    at true e = ap (λ (p : HomePlace). is_here p || true) (reading_in seats words queue h f is e)
    at false e = ap (λ (p : HomePlace). is_here p || false) (shown_in seats words queue h f is e)

-- a home with a frame
pub freed_frame : (mid new : PagedStore) (n : Residence) (f h : ℕ) → frame_for mid.core.frames.seats h ≡ Some f → get_or mid.homes h false ≡ true → IsTakenFrom h f mid.core.frames.seats n.frames.seats → n.frames.uses ≡ mid.core.frames.uses → n.frames.words ≡ mid.core.frames.words
    → n.queue.queued ≡ without f mid.core.queue.queued → new.core ≡ n → new.homes ≡ set mid.homes h false
    → new.untold.needs ≡ option_map_or (λ t. noted (need_of (meant t)) mid.untold.needs) (transfer_of f mid.core.queue.queued) mid.untold.needs → new.holders ≡ mid.holders → IsFreedFrom mid new h
freed_frame mid new n f h is taken from uses words queue core flags untold holders =
    let r = agrees mid.core.frames mid.core.queue mid.core.resident in
    let moving = moving_of mid.core.frames mid.core.queue r h f from.had in
    let arrival = arrivals mid.core.frames mid.core.queue r h f from.had in
    let p = framed mid.core.frames.seats mid.core.frames.words mid.core.queue.queued in
    let below = home_below mid.core.frames.seats f h from.had in
    let there : place (homes_of mid) h ≡ p h = place_taken mid.homes (framed mid.core.frames.seats mid.core.frames.words mid.core.queue.queued) h taken in
    let one : (is_here (place (homes_of mid) h) || list_any (arrives h) (map meant mid.core.queue.queued)) ≡ true =
    ap (λ (x : HomePlace). is_here x || list_any (arrives h) (map meant mid.core.queue.queued)) there ∙ ap (λ (b : Bool). is_here (p h) || b) arrival.any
    ∙ one_place mid.core.frames.seats mid.core.frames.words mid.core.queue.queued h f is in
    let spare = spare_set mid.core.frames.seats f None below in
    let had = ap (λ (b : Bool). let m : ℕ = cond b 1 0 in m) (some_none (seat mid.core.frames.seats f) from.had) in
    let now = ap (λ (ss : Seats). count_by is_none ss) from.seats in
    let more : count_by is_none n.frames.seats ≡ count_by is_none mid.core.frames.seats + 1 = omega (arith, spare, had, now) in
    record {
      homes = ap (λ (o : Residence). places new.homes (framed o.frames.seats o.frames.words o.queue.queued)) core
          ∙ ap (λ (fs : List Bool). places fs (framed n.frames.seats n.frames.words n.queue.queued)) flags
          ∙ places_set mid.homes (framed n.frames.seats n.frames.words n.queue.queued) (framed n.frames.seats n.frames.words n.queue.queued) h false (λ k other. refl)
          ∙ ap (λ (ps : List HomePlace). set ps h free)
          (ap (λ (ws : List (List ℕ)). places mid.homes (framed n.frames.seats ws n.queue.queued)) words
          ∙ departed_places mid.homes mid.core.frames.seats n.frames.seats mid.core.frames.words mid.core.queue.queued n.queue.queued f h mid.core.resident.single n.resident.single from taken
          (λ g other. ap reads (ap (λ (ts : List Transfer). transfer_of g ts) queue ∙ without_other f g mid.core.queue.queued other)))
          ∙ set-set (homes_of mid) h away free;
      spare = ap (λ (o : Residence). count_by is_none o.frames.seats) core ∙ more ∙ sym (ap (λ (b : Bool). count_by is_none mid.core.frames.seats + cond b 1 0) one);
      queue = ap (λ (o : Residence). map meant o.queue.queued) core ∙ ap (map meant) queue ∙ gone_without f mid.core.queue.queued ∙ sym moving.others;
      untold = untold ∙ told_moving (transfer_of f mid.core.queue.queued) mid.untold.needs ∙ sym (ap (λ (ts : List meaning.Transfer). noted_all ts mid.untold.needs) moving.those);
      holders = holders;
      size = ap (λ (o : Residence). length o.frames.seats) core ∙ ap (λ (ss : Seats). length ss) from.seats ∙ length-set mid.core.frames.seats f None;
      tenants = λ frame. ap (λ (o : Residence). tenant_at o.frames.seats o.queue.queued frame) core
          ∙ tenants_left mid.core.frames.seats n.frames.seats mid.core.queue.queued n.queue.queued f h read from mid.core.resident.single frame;
      ages = λ frame apart. ap (λ (o : Residence). age_at o.frames.seats o.queue.queued frame) core
          ∙ keeps_at mid.core.frames.seats n.frames.seats mid.core.queue.queued n.queue.queued f h read from frame apart;
      uses = ap (λ (o : Residence). o.frames.uses) core ∙ uses;
      found = λ k other. ap (λ (o : Residence). found_at o.frames.seats o.queue.queued k) core ∙ left_found mid.core.frames.seats n.frames.seats mid.core.queue.queued n.queue.queued f h mid.core.resident.single n.resident.single from read k other;
    }
  where
    read : (g : ℕ) → g ≢ f → reads (transfer_of g n.queue.queued) ≡ reads (transfer_of g mid.core.queue.queued)
    read g other = ap reads (ap (λ (ts : List Transfer). transfer_of g ts) queue ∙ without_other f g mid.core.queue.queued other)

    some_none : (o : Option Tenant) → option_map (λ t. t.home.0) o ≡ Some h → is_none o ≡ false
    some_none None e = absurd cc
    some_none (Some t) e = refl

-- a home without a frame is marked free
pub kept_freed : (seats : Seats) (queue : List Transfer) (flags : List Bool) (holders : List (List ℕ)) (untold : Needs) (h : ℕ) → IsKept seats queue flags holders untold → frame_for seats h ≡ None
    → IsKept seats queue (set flags h false) holders untold
kept_freed seats queue flags holders untold h kept gone = record {
  few = subst (λ (n : ℕ). n ≤ MOST_HOMES) (sym (length-set flags h false)) kept.few;
  room = kept.room;
  homes = kept.homes ∙ sym (length-set flags h false);
  framed = λ f k has. get_or-set_other flags h k false false (λ e. none_has seats h gone f (has ∙ ap Some e)) ∙ kept.framed f k has;
  held = kept.held;
  once = kept.once;
  few_held = kept.few_held;
  none_held = kept.none_held;
  pinned = kept.pinned;
}

-- once its frame was taken away a home has none
pub gone_after : (seats seats' : Seats) (f h : ℕ) → IsSingle seats → IsTakenFrom h f seats seats' → frame_for seats' h ≡ None
gone_after seats seats' f h single from = frame_none seats' h (λ g has. elim (cases_eq g f) [
  | inl same ↦
      let gone : seat seats' g ≡ None = ap (λ (ss : Seats). seat ss g) from.seats ∙ ap (seat (set seats f None)) same ∙ seat_same seats f None (home_below seats f h from.had) in
      let no : None ≡ Some h = sym (ap (option_map (λ t. t.home.0)) gone) ∙ has in
      absurd cc
  | inr ne ↦ ne (single g f h (sym (ap (option_map (λ t. t.home.0)) (ap (λ (ss : Seats). seat ss g) from.seats ∙ seat_other seats f g None ne)) ∙ has) from.had)
])
