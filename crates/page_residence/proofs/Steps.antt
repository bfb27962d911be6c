-- One frame changes: what it leaves of how frames and transfers agree.
use Rattle.std.proofs.Common.{◌≡◌, ◌≢◌, ℕ, zero, suc, ◌+◌, ◌-◌, ◌<◌, ◌==◌, inl, inr, List, [], ◌∷◌, ◌++◌, length, map, count_by, Option, None, Some, is_some, Bool, true, false, not, cond, ◌&&◌, refl, sym, ◌∙◌, ap, subst, arith, set, drop, slice_get, replicate}
use Rattle.std.specs.Prelude.{is_none}
use Rattle.std.specs.Option.{option_map, option_map_or}
use Rattle.std.proofs.lemmas.Bool.{cases_eq, false≢true, true≢false}
use Rattle.std.proofs.lemmas.List.{get_or-set_same, get_or-set_other, get_or_past, length-set, set-get_or, length-replicate}
use Rattle.std.proofs.lemmas.List.Sums.{sum_by-set}
use Rattle.outside.specs.Drums.{IsPage}
use Rattle.page_homes.specs.declared.homes.Home.{Home}
use Rattle.page_homes.specs.declared.homes.FrameId.{FrameId}
use Rattle.frame_order.specs.FrameOrder.{IsOnce}
use Rattle.frame_table.specs.declared.tenant.Tenant.{Tenant}
use Rattle.frame_table.specs.Core.{IsLeastFree, Core, seat_of, home_in, is_held, is_kept, with_tenant, with_words, with_page, without_page, new_tenant, next_use, used, IsAway}
use Rattle.frame_table.proofs.HeldFrames.{hold_spent}
use Rattle.drum_queue.specs.declared.transfer.Transfer.{Transfer}
use Rattle.drum_queue.specs.declared.transfer.Transfer.TheVariants.{Read, Write}
use Rattle.drum_queue.specs.Transfers.{Transfers, frame_of, transfer_of, without, writes}
use Rattle.page_residence.specs.Resident.{Seats, seat, home_at, home_of, reads, page_in, is_moving, holds_in, pins_in, age_in, SeatsStay, IsGivenTo, IsRepinned}
use Rattle.page_residence.proofs.Agreeing.{AreBound, Agrees}
use Rattle.page_residence.proofs.Queues.{without_own, without_other, pushed_own, pushed_other, once_without, once_pushed, bound_without, bound_pushed, bound_same, bound_at, first_own, first_ends}
use Rattle.page_residence.proofs.Seating.{home_below, seat_same, seat_other, single_set}

-- a hold is spent, and the words that were changed meanwhile stay
pub held_changed : (c : Core) (f : ℕ) (ws : List ℕ) → is_some (seat_of c f) ≡ true
    → with_tenant (with_words (with_tenant c f (λ t. record t { holds = t.holds + 1 })) f ws) f (λ t. record t { holds = t.holds - 1 }) ≡ with_words c f ws
held_changed c f ws some = ap (λ (d : Core). with_words d f ws) (hold_spent c f some)

pub held_back : (c : Core) (f : ℕ) → is_some (seat_of c f) ≡ true
    → with_tenant (with_tenant c f (λ t. record t { holds = t.holds + 1 })) f (λ t. record t { holds = t.holds - 1 }) ≡ c
held_back c f some = hold_spent c f some

-- a home by its number
pub home_in_at : (c : Core) (f : ℕ) (h : Home) → home_in c f ≡ Some h → home_at c.seats f ≡ Some h.0
home_in_at c f h is = at (seat c.seats f) is
  where
    at : (s : Option Tenant) → option_map (λ t. t.home) s ≡ Some h → option_map (λ t. t.home.0) s ≡ Some h.0
    at None is = absurd cc
    at (Some t) is = ap Some (let e : t.home ≡ h = cc in ap (λ (k : Home). k.0) e)

pub at_home_in : (c : Core) (f : ℕ) (h : Home) → home_at c.seats f ≡ Some h.0 → home_in c f ≡ Some h
at_home_in c f h is = at (seat c.seats f) is
  where
    at : (s : Option Tenant) → option_map (λ t. t.home.0) s ≡ Some h.0 → option_map (λ t. t.home) s ≡ Some h
    at None is = absurd cc
    at (Some t) is = ap Some (let e : t.home.0 ≡ h.0 = cc in ap (λ (n : ℕ). let k : Home = record { 0 = n } in k) e)

pub home_taken : (seats : Seats) (f h : ℕ) → home_at seats f ≡ Some h → is_some (seat seats f) ≡ true
home_taken seats f h is = at (seat seats f) is
  where
    at : (s : Option Tenant) → option_map (λ t. t.home.0) s ≡ Some h → is_some s ≡ true
    at None is = absurd cc
    at (Some t) is = refl

pub taken_home : (seats : Seats) (f : ℕ) → is_some (seat seats f) ≡ true → (h : ℕ) × (home_at seats f ≡ Some h)
taken_home seats f some = at (seat seats f) some
  where
    at : (s : Option Tenant) → is_some s ≡ true → (h : ℕ) × (option_map (λ t. t.home.0) s ≡ Some h)
    at None some = absurd (false≢true some)
    at (Some t) some = (t.home.0, refl)

-- a seat changes, and not its home
pub homes_stay : (seats : Seats) (f : ℕ) (s : Option Tenant) → f < length seats → option_map (λ t. t.home.0) s ≡ home_at seats f → (g : ℕ) → home_at (set seats f s) g ≡ home_at seats g
homes_stay seats f s below same g = elim (cases_eq g f) [
  | inl e ↦ ap (option_map (λ t. t.home.0)) (ap (seat (set seats f s)) e ∙ seat_same seats f s below) ∙ same ∙ ap (home_at seats) (sym e)
  | inr other ↦ ap (option_map (λ t. t.home.0)) (seat_other seats f g s other)
]

none_home : (s : Option Tenant) → is_none s ≡ is_none (option_map (λ t. t.home.0) s)
none_home None = refl
none_home (Some t) = refl

-- how many frames are free once one's seat has changed
pub spare_set : (seats : Seats) (f : ℕ) (s : Option Tenant) → f < length seats
    → count_by is_none (set seats f s) + cond (is_none (seat seats f)) 1 0 ≡ count_by is_none seats + cond (is_none s) 1 0
spare_set seats f s below = sum_by-set (λ o. cond (is_none o) 1 0) seats f s None below

spare_stays : (seats : Seats) (f : ℕ) (s : Option Tenant) → f < length seats → option_map (λ t. t.home.0) s ≡ home_at seats f → count_by is_none (set seats f s) ≡ count_by is_none seats
spare_stays seats f s below same =
    let alike : is_none s ≡ is_none (seat seats f) = none_home s ∙ ap is_none same ∙ sym (none_home (seat seats f)) in
    let both = ap (λ (b : Bool). let n : ℕ = cond b 1 0 in n) alike in
    omega (arith, spare_set seats f s below, both)

pub seats_stay : (seats : Seats) (f : ℕ) (s : Option Tenant) → f < length seats → option_map (λ t. t.home.0) s ≡ home_at seats f → pins_in s ≡ pins_in (seat seats f) → SeatsStay seats (set seats f s)
seats_stay seats f s below home pins = record {
  size = length-set seats f s;
  homes = homes_stay seats f s below home;
  pins = λ g. elim (cases_eq g f) [
    | inl e ↦ ap pins_in (ap (seat (set seats f s)) e ∙ seat_same seats f s below) ∙ pins ∙ ap (λ (k : ℕ). pins_in (seat seats k)) (sym e)
    | inr other ↦ ap pins_in (seat_other seats f g s other)
  ];
  spare = spare_stays seats f s below home;
}

pub seats_same : (seats : Seats) → SeatsStay seats seats
seats_same seats = record { size = refl; homes = λ f. refl; pins = λ f. refl; spare = refl }

pub repinned : (seats : Seats) (f pins : ℕ) (s : Option Tenant) → f < length seats → option_map (λ t. t.home.0) s ≡ home_at seats f → pins_in s ≡ pins → age_in s ≡ age_in (seat seats f)
    → IsRepinned f pins seats (set seats f s)
repinned seats f pins s below home is age = record {
  size = length-set seats f s;
  homes = homes_stay seats f s below home;
  others = λ g other. ap pins_in (seat_other seats f g s other);
  own = ap pins_in (seat_same seats f s below) ∙ is;
  spare = spare_stays seats f s below home;
  ages = λ g. elim (cases_eq g f) [
    | inl e ↦ ap age_in (ap (seat (set seats f s)) e ∙ seat_same seats f s below) ∙ age ∙ ap (λ (k : ℕ). age_in (seat seats k)) (sym e)
    | inr other ↦ ap age_in (seat_other seats f g s other)
  ];
}

-- One frame's seat, words and transfer change.
pub resident_set : (c : Core) (q : Transfers) (f : ℕ) (s : Option Tenant) (words : List (List ℕ)) (uses : ℕ) (queue : List Transfer) → Agrees c q → f < length c.seats
    → length words ≡ length c.words → ((g : ℕ) → g ≢ f → page_in words g ≡ page_in c.words g)
    → ((g : ℕ) → g ≢ f → transfer_of g queue ≡ transfer_of g q.queued) → IsOnce (map frame_of queue) → AreBound (set c.seats f s) queue
    → is_moving s ≡ is_some (transfer_of f queue) → holds_in s ≡ 0
    → ((g h : ℕ) → g ≢ f → option_map (λ t. t.home.0) s ≡ Some h → home_at c.seats g ≡ Some h → ⊥)
    → ((h : ℕ) → option_map (λ t. t.home.0) s ≡ Some h → reads (transfer_of f queue) ≡ false → IsPage (page_in words f))
    → Agrees (record { seats = set c.seats f s; words = words; uses = uses }) (record { frames = q.frames; queued = queue })
resident_set c q f s words uses queue r below long others transfers once bound moving spent apart page = record {
  sized = r.sized ∙ sym (length-set c.seats f s);
  worded = long ∙ r.worded ∙ sym (length-set c.seats f s);
  single = single_set c.seats f s r.single below apart;
  once = once;
  bound = bound;
  moving = λ g. elim (cases_eq g f) [
    | inl e ↦ ap is_moving (own g e) ∙ moving ∙ ap (λ (k : ℕ). is_some (transfer_of k queue)) (sym e)
    | inr other ↦ ap is_moving (seat_other c.seats f g s other) ∙ r.moving g ∙ ap is_some (sym (transfers g other))
  ];
  spent = λ g. elim (cases_eq g f) [
    | inl e ↦ ap holds_in (own g e) ∙ spent
    | inr other ↦ ap holds_in (seat_other c.seats f g s other) ∙ r.spent g
  ];
  pages = λ g h has still. elim (cases_eq g f) [
    | inl e ↦ subst (λ (k : ℕ). IsPage (page_in words k)) (sym e)
        (page h (sym (ap (option_map (λ t. t.home.0)) (own g e)) ∙ has) (ap (λ (k : ℕ). reads (transfer_of k queue)) (sym e) ∙ still))
    | inr other ↦ subst IsPage (sym (others g other))
        (r.pages g h (sym (ap (option_map (λ t. t.home.0)) (seat_other c.seats f g s other)) ∙ has) (ap reads (sym (transfers g other)) ∙ still))
  ];
}
  where
    own : (g : ℕ) → g ≡ f → seat (set c.seats f s) g ≡ s
    own g e = ap (seat (set c.seats f s)) e ∙ seat_same c.seats f s below

-- it keeps its home
pub resident_kept : (c : Core) (q : Transfers) (f : ℕ) (s : Option Tenant) (words : List (List ℕ)) (uses : ℕ) (queue : List Transfer) → Agrees c q → f < length c.seats
    → option_map (λ t. t.home.0) s ≡ home_at c.seats f
    → length words ≡ length c.words → ((g : ℕ) → g ≢ f → page_in words g ≡ page_in c.words g)
    → ((g : ℕ) → g ≢ f → transfer_of g queue ≡ transfer_of g q.queued) → IsOnce (map frame_of queue) → AreBound c.seats queue
    → is_moving s ≡ is_some (transfer_of f queue) → holds_in s ≡ 0
    → ((h : ℕ) → home_at c.seats f ≡ Some h → reads (transfer_of f queue) ≡ false → IsPage (page_in words f))
    → Agrees (record { seats = set c.seats f s; words = words; uses = uses }) (record { frames = q.frames; queued = queue })
resident_kept c q f s words uses queue r below home long others transfers once bound moving spent page =
    resident_set c q f s words uses queue r below long others transfers once
    (bound_same c.seats (set c.seats f s) queue (λ g some. homes_stay c.seats f s below home g) bound) moving spent
    (λ g h other one two. other (r.single g f h two (sym home ∙ one)))
    (λ h one. page h (sym home ∙ one))

-- the words of one frame
pub words_others : (words : List (List ℕ)) (f : ℕ) (ws : List ℕ) (g : ℕ) → g ≢ f → page_in (set words f ws) g ≡ page_in words g
words_others words f ws g other = get_or-set_other words f g ws [] other

pub words_own : (c : Core) (q : Transfers) (f : ℕ) (ws : List ℕ) → Agrees c q → f < length c.seats → page_in (set c.words f ws) f ≡ ws
words_own c q f ws r below = get_or-set_same c.words f ws [] (omega (arith, r.worded))

seat_again : (c : Core) (f : ℕ) → set c.seats f (seat c.seats f) ≡ c.seats
seat_again c f = set-get_or c.seats f None

pub resident_words : (c : Core) (q : Transfers) (f : ℕ) (ws : List ℕ) → Agrees c q → f < length c.seats → (reads (transfer_of f q.queued) ≡ false → IsPage ws) → Agrees (with_words c f ws) q
resident_words c q f ws r below page =
    subst (λ (ss : Seats). Agrees (record { seats = ss; words = set c.words f ws; uses = c.uses }) q) (seat_again c f)
    (resident_kept c q f (seat c.seats f) (set c.words f ws) c.uses q.queued r below refl (length-set c.words f ws) (words_others c.words f ws) (λ g other. refl) r.once r.bound
    (r.moving f) (r.spent f) (λ h has still. subst IsPage (sym (words_own c q f ws r below)) (page still)))

-- a tenant changes, but neither its home nor its mark
pub resident_tenant : (c : Core) (q : Transfers) (f uses : ℕ) (g : Tenant → Tenant) → Agrees c q → f < length c.seats
    → ((t : Tenant) → (g t).home.0 ≡ t.home.0) → ((t : Tenant) → (g t).in_transfer ≡ t.in_transfer) → ((t : Tenant) → (g t).holds ≡ t.holds)
    → Agrees (record { seats = set c.seats f (option_map g (seat c.seats f)); words = c.words; uses = uses }) q
resident_tenant c q f uses g r below home mark holds =
    resident_kept c q f (option_map g (seat c.seats f)) c.words uses q.queued r below (homes (seat c.seats f)) refl (λ k other. refl) (λ k other. refl) r.once r.bound
    (marks (seat c.seats f) ∙ r.moving f) (spent (seat c.seats f) ∙ r.spent f) (λ h has still. r.pages f h has still)
  where
    homes : (s : Option Tenant) → option_map (λ t. t.home.0) (option_map g s) ≡ option_map (λ t. t.home.0) s
    homes None = refl
    homes (Some t) = ap Some (home t)

    marks : (s : Option Tenant) → is_moving (option_map g s) ≡ is_moving s
    marks None = refl
    marks (Some t) = mark t

    spent : (s : Option Tenant) → holds_in (option_map g s) ≡ holds_in s
    spent None = refl
    spent (Some t) = holds t

pub tenant_home : (g : Tenant → Tenant) → ((t : Tenant) → (g t).home.0 ≡ t.home.0) → (s : Option Tenant) → option_map (λ t. t.home.0) (option_map g s) ≡ option_map (λ t. t.home.0) s
tenant_home g home None = refl
tenant_home g home (Some t) = ap Some (home t)

pub tenant_pins : (g : Tenant → Tenant) → ((t : Tenant) → (g t).pins ≡ t.pins) → (s : Option Tenant) → pins_in (option_map g s) ≡ pins_in s
tenant_pins g pins None = refl
tenant_pins g pins (Some t) = pins t

-- the age of a frame
abbrev pub aged : ℕ → Tenant → Tenant
aged n t = record t { age = n }

-- a frame is used
pub resident_used : (c : Core) (q : Transfers) (f : ℕ) → Agrees c q → f < length c.seats → Agrees (used c f) q
resident_used c q f r below = at (is_some (seat_of c f))
  where
    at : (b : Bool) → Agrees (cond b (record (with_tenant c f (λ t. record t { age = c.uses })) { uses = next_use c.uses }) c) q
    at true = resident_tenant c q f (next_use c.uses) (λ t. record t { age = c.uses }) r below (λ t. refl) (λ t. refl) (λ t. refl)
    at false = r

pub used_stays : (c : Core) (f : ℕ) → f < length c.seats → SeatsStay c.seats (used c f).seats
used_stays c f below = at (is_some (seat_of c f))
  where
    at : (b : Bool) → SeatsStay c.seats (cond b (record (with_tenant c f (λ t. record t { age = c.uses })) { uses = next_use c.uses }) c).seats
    at true = seats_stay c.seats f (option_map (aged c.uses) (seat c.seats f)) below
        (tenant_home (aged c.uses) (λ t. refl) (seat c.seats f)) (tenant_pins (aged c.uses) (λ t. refl) (seat c.seats f))
    at false = seats_same c.seats

pub used_words : (c : Core) (f : ℕ) → (used c f).words ≡ c.words
used_words c f = at (is_some (seat_of c f))
  where
    at : (b : Bool) → (cond b (record (with_tenant c f (λ t. record t { age = c.uses })) { uses = next_use c.uses }) c).words ≡ c.words
    at true = refl
    at false = refl

-- whether a transfer of a frame is queued
abbrev pub marked : Bool → Tenant → Tenant
marked on t = record t { in_transfer = on }

pub marked_stays : (c : Core) (f : ℕ) (on : Bool) → f < length c.seats → SeatsStay c.seats (with_tenant c f (marked on)).seats
marked_stays c f on below = seats_stay c.seats f (option_map (marked on) (seat c.seats f)) below
    (tenant_home (marked on) (λ t. refl) (seat c.seats f)) (tenant_pins (marked on) (λ t. refl) (seat c.seats f))

marked_holds : (on : Bool) (s : Option Tenant) → holds_in (option_map (marked on) s) ≡ holds_in s
marked_holds on None = refl
marked_holds on (Some t) = refl

unmarked : (s : Option Tenant) → is_moving (option_map (marked false) s) ≡ false
unmarked None = refl
unmarked (Some t) = refl

is_marked : (s : Option Tenant) → is_some s ≡ true → is_moving (option_map (marked true) s) ≡ true
is_marked None some = absurd (false≢true some)
is_marked (Some t) some = refl

-- a frame's transfer is taken from the queue, and its words are a page
pub resident_unmarked : (c : Core) (q : Transfers) (f uses : ℕ) (words : List (List ℕ)) → Agrees c q → f < length c.seats
    → length words ≡ length c.words → ((g : ℕ) → g ≢ f → page_in words g ≡ page_in c.words g) → IsPage (page_in words f)
    → Agrees (record { seats = set c.seats f (option_map (marked false) (seat c.seats f)); words = words; uses = uses }) (record { frames = q.frames; queued = without f q.queued })
resident_unmarked c q f uses words r below long others page =
    resident_kept c q f (option_map (marked false) (seat c.seats f)) words uses (without f q.queued) r below (tenant_home (marked false) (λ t. refl) (seat c.seats f)) long others
    (λ g other. without_other f g q.queued other) (once_without f q.queued r.once) (bound_without c.seats f q.queued r.bound)
    (unmarked (seat c.seats f) ∙ sym (ap is_some (without_own f q.queued))) (marked_holds false (seat c.seats f) ∙ r.spent f) (λ h has still. page)

writes_home : (c : Core) (q : Transfers) (f : ℕ) → Agrees c q → writes (transfer_of f q.queued) ≡ true → (h : ℕ) × (home_at c.seats f ≡ Some h) × (reads (transfer_of f q.queued) ≡ false)
writes_home c q f r writes = at (transfer_of f q.queued) refl writes
  where
    at : (o : Option Transfer) → transfer_of f q.queued ≡ o → Rattle.drum_queue.specs.Transfers.writes o ≡ true → (h : ℕ) × (home_at c.seats f ≡ Some h) × (reads o ≡ false)
    at None is w = absurd (false≢true w)
    at (Some (Read g h)) is w = absurd (false≢true w)
    at (Some (Write g h)) is w = (h.0, (bound_at c.seats f q.queued (Write g h) r.bound is).1, refl)

-- a write is rescued
pub resident_rescued : (c : Core) (q : Transfers) (f : ℕ) → Agrees c q → writes (transfer_of f q.queued) ≡ true
    → Agrees (with_tenant c f (marked false)) (record q { queued = without f q.queued })
resident_rescued c q f r w =
    let own = writes_home c q f r w in
    resident_unmarked c q f c.uses c.words r (home_below c.seats f own.0 own.1) refl (λ g other. refl) (r.pages f own.0 own.1 own.2)

-- a free frame has no transfer
pub vacant_idle : (c : Core) (q : Transfers) (f : ℕ) → Agrees c q → seat c.seats f ≡ None → transfer_of f q.queued ≡ None
vacant_idle c q f r none = at (transfer_of f q.queued) (sym (r.moving f) ∙ ap is_moving none)
  where
    at : (o : Option Transfer) → is_some o ≡ false → o ≡ None
    at None is = refl
    at (Some t) is = absurd (true≢false is)

away_apart : (c : Core) (h : Home) → IsAway c h → (g k : ℕ) → Some h.0 ≡ Some k → home_at c.seats g ≡ Some k → ⊥
away_apart c h away g k one two = away g (at_home_in c g h (two ∙ sym one))

-- a free frame is given to a page, with its words or with its read queued
pub resident_given : (c : Core) (q : Transfers) (f uses : ℕ) (t : Tenant) (h : Home) (words : List (List ℕ)) (queue : List Transfer) → Agrees c q → f < length c.seats → seat c.seats f ≡ None → IsAway c h
    → t.home ≡ h → t.holds ≡ 0
    → length words ≡ length c.words → ((g : ℕ) → g ≢ f → page_in words g ≡ page_in c.words g)
    → ((g : ℕ) → g ≢ f → transfer_of g queue ≡ transfer_of g q.queued) → IsOnce (map frame_of queue) → AreBound (set c.seats f (Some t)) queue
    → t.in_transfer ≡ is_some (transfer_of f queue) → (reads (transfer_of f queue) ≡ false → IsPage (page_in words f))
    → Agrees (record { seats = set c.seats f (Some t); words = words; uses = uses }) (record { frames = q.frames; queued = queue })
resident_given c q f uses t h words queue r below none away home holds long others transfers once bound moving page =
    resident_set c q f (Some t) words uses queue r below long others transfers once bound moving holds
    (λ g k other one two. away_apart c h away g k (ap (λ (j : Home). let o : Option ℕ = Some j.0 in o) (sym home) ∙ one) two)
    (λ k one. page)

-- no transfer is of the frame: its seat doesn't matter
pub bound_aside : (seats : Seats) (f : ℕ) (s : Option Tenant) (q : List Transfer) → transfer_of f q ≡ None → AreBound seats q → AreBound (set seats f s) q
bound_aside seats f s q none bound = bound_same seats (set seats f s) q (λ g some. elim (cases_eq g f) [
  | inl e ↦ absurd (false≢true (sym (ap is_some (ap (λ (k : ℕ). transfer_of k q) e ∙ none)) ∙ some))
  | inr other ↦ ap (option_map (λ t. t.home.0)) (seat_other seats f g s other)
]) bound

pub resident_seated : (c : Core) (q : Transfers) (f : ℕ) (h : Home) (ws : List ℕ) → Agrees c q → f < length c.seats → seat c.seats f ≡ None → IsAway c h → IsPage ws
    → Agrees (with_words (with_page c f h) f ws) q
resident_seated c q f h ws r below none away page =
    let idle = vacant_idle c q f r none in
    resident_given c q f (next_use c.uses) (new_tenant h c.uses) h (set c.words f ws) q.queued r below none away refl refl (length-set c.words f ws) (words_others c.words f ws) (λ g other. refl)
    r.once (bound_aside c.seats f (Some (new_tenant h c.uses)) q.queued idle r.bound) (sym (ap is_some idle)) (λ still. subst IsPage (sym (words_own c q f ws r below)) page)

pub resident_expected : (c : Core) (q : Transfers) (f : FrameId) (h : Home) → Agrees c q → f.0 < length c.seats → seat c.seats f.0 ≡ None → IsAway c h
    → Agrees (with_tenant (with_page c f.0 h) f.0 (marked true)) (record q { queued = q.queued ++ Read f h ∷ [] })
resident_expected c q f h r below none away =
    let idle = vacant_idle c q f.0 r none in
    let t : Tenant = record (new_tenant h c.uses) { in_transfer = true } in
    let seats : set (set c.seats f.0 (Some (new_tenant h c.uses))) f.0 (option_map (marked true) (seat (set c.seats f.0 (Some (new_tenant h c.uses))) f.0)) ≡ set c.seats f.0 (Some t) =
    ap (λ (s : Option Tenant). set (set c.seats f.0 (Some (new_tenant h c.uses))) f.0 (option_map (marked true) s)) (seat_same c.seats f.0 (Some (new_tenant h c.uses)) below)
    ∙ Rattle.std.proofs.lemmas.List.set-set c.seats f.0 (Some (new_tenant h c.uses)) (Some t) in
    subst (λ (ss : Seats). Agrees (record { seats = ss; words = c.words; uses = next_use c.uses }) (record q { queued = q.queued ++ Read f h ∷ [] })) (sym seats)
    (resident_given c q f.0 (next_use c.uses) t h c.words (q.queued ++ Read f h ∷ []) r below none away refl refl refl (λ g other. refl)
    (λ g other. pushed_other g q.queued (Read f h) other)
    (once_pushed q.queued (Read f h) r.once idle)
    (bound_pushed (set c.seats f.0 (Some t)) q.queued (Read f h) (bound_aside c.seats f.0 (Some t) q.queued idle r.bound) (ap (option_map (λ u. u.home.0)) (seat_same c.seats f.0 (Some t) below)))
    (sym (ap is_some (pushed_own f.0 q.queued (Read f h) refl idle)))
    (λ still. absurd (true≢false (sym (ap reads (pushed_own f.0 q.queued (Read f h) refl idle)) ∙ still))))

pub given_expected : (c : Core) (f : ℕ) (h : Home) → IsLeastFree c f → IsGivenTo h.0 f c.seats (with_tenant (with_page c f h) f (marked true)).seats
given_expected c f h frame = record {
  below = frame.below;
  vacant = frame.free;
  least = frame.taken;
  tenant = record (new_tenant h c.uses) { in_transfer = true };
  home = refl;
  unpinned = refl;
  seats = ap (λ (s : Option Tenant). set (set c.seats f (Some (new_tenant h c.uses))) f (option_map (marked true) s)) (seat_same c.seats f (Some (new_tenant h c.uses)) frame.below)
      ∙ Rattle.std.proofs.lemmas.List.set-set c.seats f (Some (new_tenant h c.uses)) (Some (record (new_tenant h c.uses) { in_transfer = true }));
}

pub given_seated : (c : Core) (f : ℕ) (h : Home) (ws : List ℕ) → IsLeastFree c f → IsGivenTo h.0 f c.seats (with_words (with_page c f h) f ws).seats
given_seated c f h ws frame = record { below = frame.below; vacant = frame.free; least = frame.taken; tenant = new_tenant h c.uses; home = refl; unpinned = refl; seats = refl }

-- a write is queued
pub resident_dismissed : (c : Core) (q : Transfers) (f : FrameId) (h : Home) → Agrees c q → home_at c.seats f.0 ≡ Some h.0 → transfer_of f.0 q.queued ≡ None
    → Agrees (with_tenant c f.0 (marked true)) (record q { queued = q.queued ++ Write f h ∷ [] })
resident_dismissed c q f h r has idle =
    let own = pushed_own f.0 q.queued (Write f h) refl idle in
    resident_kept c q f.0 (option_map (marked true) (seat c.seats f.0)) c.words c.uses (q.queued ++ Write f h ∷ []) r (home_below c.seats f.0 h.0 has)
    (tenant_home (marked true) (λ t. refl) (seat c.seats f.0)) refl (λ g other. refl) (λ g other. pushed_other g q.queued (Write f h) other)
    (once_pushed q.queued (Write f h) r.once idle) (bound_pushed c.seats q.queued (Write f h) r.bound has)
    (is_marked (seat c.seats f.0) (home_taken c.seats f.0 h.0 has) ∙ sym (ap is_some own)) (marked_holds true (seat c.seats f.0) ∙ r.spent f.0)
    (λ k had still. r.pages f.0 k had (ap reads idle))

-- the oldest transfer, and what is left behind it
pub record IsOldest (t : Transfer) (q : List Transfer) : Type 0 where
  pub own : transfer_of (frame_of t) q ≡ Some t
  pub rest : drop 1 q ≡ without (frame_of t) q
  pub some : 0 < length q

pub oldest_is : (t : Transfer) (q : List Transfer) → IsOnce (map frame_of q) → slice_get q 0 ≡ Some t → IsOldest t q
oldest_is t [] once is = absurd cc
oldest_is t (u ∷ us) once is =
    let same : u ≡ t = cc in
    subst (λ (v : Transfer). IsOldest v (u ∷ us)) same (record { own = first_own u us; rest = first_ends u us once; some = omega arith })

-- a free seat: a frame is made free, with its transfer
pub resident_freed : (c : Core) (q : Transfers) (f h : ℕ) → Agrees c q → home_at c.seats f ≡ Some h → Agrees (without_page c f) (record q { queued = without f q.queued })
resident_freed c q f h r has =
    resident_set c q f None c.words c.uses (without f q.queued) r (home_below c.seats f h has) refl (λ g other. refl) (λ g other. without_other f g q.queued other) (once_without f q.queued r.once)
    (bound_aside c.seats f None (without f q.queued) (without_own f q.queued) (bound_without c.seats f q.queued r.bound)) (sym (ap is_some (without_own f q.queued))) refl
    (λ g k other one two. absurd cc) (λ k one. absurd cc)

pub resident_departed : (c : Core) (q : Transfers) (f : FrameId) (h : Home) → Agrees c q → slice_get q.queued 0 ≡ Some (Write f h) → Agrees (without_page c f.0) (record q { queued = drop 1 q.queued })
resident_departed c q f h r is =
    let oldest = oldest_is (Write f h) q.queued r.once is in
    let own = bound_at c.seats f.0 q.queued (Write f h) r.bound oldest.own in
    subst (λ (ts : List Transfer). Agrees (without_page c f.0) (record q { queued = ts })) (sym oldest.rest) (resident_freed c q f.0 h.0 r own.1)

pub oldest_home : (c : Core) (q : Transfers) (t : Transfer) → Agrees c q → slice_get q.queued 0 ≡ Some t → home_at c.seats (frame_of t) ≡ Some (home_of t)
oldest_home c q t r is = (bound_at c.seats (frame_of t) q.queued t r.bound (oldest_is t q.queued r.once is).own).1

pub resident_arrived : (c : Core) (q : Transfers) (f : FrameId) (h : Home) (ws : List ℕ) → Agrees c q → slice_get q.queued 0 ≡ Some (Read f h) → IsPage ws
    → Agrees (used (with_tenant (with_words c f.0 ws) f.0 (marked false)) f.0) (record q { queued = drop 1 q.queued })
resident_arrived c q f h ws r is page =
    let oldest = oldest_is (Read f h) q.queued r.once is in
    let below = home_below c.seats f.0 h.0 (oldest_home c q (Read f h) r is) in
    resident_used (with_tenant (with_words c f.0 ws) f.0 (marked false)) (record q { queued = drop 1 q.queued }) f.0
    (subst (λ (ts : List Transfer). Agrees (with_tenant (with_words c f.0 ws) f.0 (marked false)) (record q { queued = ts })) (sym oldest.rest)
    (resident_unmarked c q f.0 c.uses (set c.words f.0 ws) r below (length-set c.words f.0 ws) (words_others c.words f.0 ws) (subst IsPage (sym (words_own c q f.0 ws r below)) page)))
    (subst (λ (n : ℕ). f.0 < n) (sym (length-set c.seats f.0 (option_map (marked false) (seat c.seats f.0)))) below)

pub arrived_stays : (c : Core) (f : ℕ) (ws : List ℕ) → f < length c.seats → SeatsStay c.seats (used (with_tenant (with_words c f ws) f (marked false)) f).seats
arrived_stays c f ws below =
    let one = marked_stays c f false below in
    let two = used_stays (with_tenant (with_words c f ws) f (marked false)) f (subst (λ (n : ℕ). f < n) (sym one.size) below) in
    record { size = two.size ∙ one.size; homes = λ g. two.homes g ∙ one.homes g; pins = λ g. two.pins g ∙ one.pins g; spare = two.spare ∙ one.spare }

-- nobody holds a frame that has no pin
pub unheld : (c : Core) (q : Transfers) (f : ℕ) → Agrees c q → pins_in (seat c.seats f) ≡ 0 → is_held c f ≡ false
unheld c q f r pins = at (seat c.seats f) (r.spent f) pins
  where
    at : (s : Option Tenant) → holds_in s ≡ 0 → pins_in s ≡ 0 → option_map_or is_kept s false ≡ false
    at None holds pins = refl
    at (Some t) holds pins = ap (λ (n : ℕ). not ((n == 0) && (t.pins == 0))) holds ∙ ap (λ (n : ℕ). not ((0 == 0) && (n == 0))) pins

-- a frame that has a pin is taken
pub pinned_some : (s : Option Tenant) → 0 < pins_in s → is_some s ≡ true
pinned_some None pinned = absurd (omega arith)
pinned_some (Some t) pinned = refl

none_seat : (n f : ℕ) → seat (replicate n None) f ≡ None
none_seat zero f = refl
none_seat (suc n) zero = refl
none_seat (suc n) (suc f) = none_seat n f

-- all frames are free at the beginning
pub resident_none : (n uses : ℕ) (words : List (List ℕ)) → length words ≡ n → Agrees (record { seats = replicate n None; words = words; uses = uses }) (record { frames = n; queued = [] })
resident_none n uses words long = record {
  sized = sym (length-replicate {A = Option Tenant} n None);
  worded = long ∙ sym (length-replicate {A = Option Tenant} n None);
  single = λ f g h one two. absurd (none_home_at f h one);
  once = tt;
  bound = tt;
  moving = λ f. ap is_moving (none_seat n f);
  spent = λ f. ap holds_in (none_seat n f);
  pages = λ f h has still. absurd (none_home_at f h has);
}
  where
    none_home_at : (f h : ℕ) → home_at (replicate n None) f ≡ Some h → ⊥
    none_home_at f h one = let no : None ≡ Some h = sym (ap (option_map (λ t. t.home.0)) (none_seat n f)) ∙ one in cc
