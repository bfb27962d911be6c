-- What holds of each store on frames and a drum.
use Rattle.std.proofs.Common.{◌≡◌, ℕ, ◌<◌, ◌≤◌, ◌==◌, inl, inr, List, [], ◌∷◌, length, not, map, count_by, Contains, Option, None, Some, is_some, MatchOption, Bool, true, false, refl, sym, ◌∙◌, ap, subst, arith, get_or}
use Rattle.std.specs.Prelude.{IsSome}
use Rattle.std.specs.Option.{option_map, option_map_or}
use Rattle.std.specs.List.{list_any}
use Rattle.std.proofs.lemmas.Bool.{and_parts, false≢true, not-true, true≢false, false_from_ne_true}
use Rattle.std.proofs.lemmas.Bool.Decides.{eqb_tells}
use Rattle.std.proofs.lemmas.List.{get_or_past}
use Rattle.page_contracts.proofs.Sums.{count_cons, none_count, one_if}
use Rattle.outside.specs.Drums.{IsPage}
use Rattle.page_homes.specs.declared.homes.TheConstants.{MOST_HOMES}
use Rattle.page_contracts.specs.declared.answers.Found.{Found}
use Rattle.page_contracts.specs.Stores.{LAST_USE, HasFrame, IsSound, IsNext, CanLeave, AllStay, HomePlace, away, here, place, is_here, arrives, departs, moves}
use Rattle.frame_table.specs.declared.tenant.Tenant.{Tenant}
use Rattle.frame_table.specs.Core.{can_go}
use Rattle.drum_queue.specs.declared.transfer.Transfer.{Transfer}
use Rattle.drum_queue.specs.Transfers.{transfer_of, writes}
use Rattle.paged_store.specs.declared.store.PagedStore.{PagedStore}
use Rattle.paged_store.specs.HeldHomes.{held_by}
use Rattle.page_residence.specs.Victims.{MayLeave, victim_of}
use Rattle.paged_store.specs.Keeping.{is_among, is_distinct}
use Rattle.page_residence.specs.Resident.{Seats, seat, home_at, frame_for, framed, found_at, page_in, pins_in, is_moving, age_in, reads}
use Rattle.page_residence.proofs.Seating.{frame_has, frame_is, home_below}
use Rattle.page_residence.proofs.Shared.{frames_shared}
use Rattle.page_residence.proofs.Agreeing.{Agrees, agrees}
use Rattle.paged_store.specs.KeptHomes.{contains_among, among_contains, still_frame, none_counted, uncounted}
use Rattle.page_residence.proofs.Leaving.{victim_goes, victim_least, victim_first, none_goes, leaves_at}
use Rattle.page_residence.proofs.Meant.{arrivals, departures, moving_of, no_arrivals, no_departures, not_moving, goes_parts, parts_go}
use Rattle.page_residence.proofs.Placing.{places_length, place_at, place_taken, here_at, shown_in, reading_in, finds, found_frame, IsHereIn}
use Rattle.page_residence.proofs.Aging.{tenant_shown, tenant_given, tenant_some, age_shown}
use Rattle.paged_store.specs.StoreMeaning.{paged_meaning}

pub none_is : (o : Option Transfer) → is_some o ≡ false → o ≡ None
none_is None e = refl
none_is (Some t) e = absurd (true≢false e)

pub writes_only : (o : Option Transfer) → writes o ≡ true → reads o ≡ false
writes_only None e = refl
writes_only (Some (Rattle.drum_queue.specs.declared.transfer.Transfer.TheVariants.Read f h)) e = absurd (false≢true e)
writes_only (Some (Rattle.drum_queue.specs.declared.transfer.Transfer.TheVariants.Write f h)) e = refl

-- what is there once is counted once
not_among : (h : ℕ) (hs : List ℕ) → is_among h hs ≡ false → count_by (λ x. x == h) hs ≡ 0
not_among h hs none = none_count (λ x. x == h) hs none

once_counted : (h : ℕ) (hs : List ℕ) → is_distinct hs ≡ true → count_by (λ x. x == h) hs ≤ 1
once_counted h [] distinct = omega arith
once_counted h (x ∷ xs) distinct = by (x == h) refl (once_counted h xs (and_parts (not (is_among x xs)) (is_distinct xs) distinct).1)
  where
    by : (b : Bool) → (x == h) ≡ b → count_by (λ y. y == h) xs ≤ 1 → count_by (λ y. y == h) (x ∷ xs) ≤ 1
    by true is rest =
        let same : x ≡ h = elim (eqb_tells x h) [ inl t ↦ t.1 | inr t ↦ absurd (false≢true (sym t.0 ∙ is)) ] in
        let none = not_among h xs (ap (λ (n : ℕ). is_among n xs) (sym same) ∙ not-true (is_among x xs) (and_parts (not (is_among x xs)) (is_distinct xs) distinct).0) in
        let own : one_if (x == h) ≡ 1 = ap one_if is in
        omega (arith, none, own, count_cons (λ (y : ℕ). y == h) x xs)
    by false is rest = (let own : one_if (x == h) ≡ 0 = ap one_if is in omega (arith, rest, own, count_cons (λ (y : ℕ). y == h) x xs))

module _ (s : PagedStore) where
  seats : Seats
  seats = s.core.frames.seats

  r : Agrees s.core.frames s.core.queue
  r = agrees s.core.frames s.core.queue s.core.resident

  -- a home with a frame is taken
  pub marked : (f h : ℕ) → home_at s.core.frames.seats f ≡ Some h → get_or s.homes h false ≡ true
  marked f h given = s.kept.framed f h given

  pub at_frame : (h : ℕ) (f : ℕ) → home_at s.core.frames.seats f ≡ Some h
      → place (paged_meaning.homes s) h ≡ framed s.core.frames.seats s.core.frames.words s.core.queue.queued h
  at_frame h f given = place_taken s.homes (framed s.core.frames.seats s.core.frames.words s.core.queue.queued) h (marked f h given)

  -- a page that may leave its frame, as the clauses have it
  pub may_can : (f h : ℕ) → MayLeave s.core.frames.seats s.core.queue.queued f h → CanLeave paged_meaning s f h
  may_can f h may = record {
    there = tenant_shown s.core.frames.seats s.core.queue.queued f (ap reads may.idle) ∙ may.given;
    still = (moving_of s.core.frames s.core.queue r h f may.given).any ∙ ap is_some may.idle;
    unheld = λ k there.
        let count = s.kept.pinned f h may.given in
        false≢true (sym (uncounted s.holders k h (sym count ∙ may.unpinned)) ∙ contains_among (held_by s.holders k) h there);
  }

  pub can_may : (f h : ℕ) → CanLeave paged_meaning s f h → MayLeave s.core.frames.seats s.core.queue.queued f h
  can_may f h can = record {
    given = has;
    unpinned = s.kept.pinned f h has ∙ none_counted s.holders h (λ k. false_from_ne_true (is_among h (held_by s.holders k)) (λ among. can.unheld k (among_contains (held_by s.holders k) h among)));
    idle = none_is (transfer_of f s.core.queue.queued) (sym (moving_of s.core.frames s.core.queue r h f has).any ∙ can.still);
  }
    where
      has : home_at s.core.frames.seats f ≡ Some h
      has = (tenant_given s.core.frames.seats s.core.queue.queued f h can.there).0

  -- the page of a frame that may leave it has a home
  pub goes_may : (f : ℕ) → option_map_or can_go (seat s.core.frames.seats f) false ≡ true → (h : ℕ) × MayLeave s.core.frames.seats s.core.queue.queued f h
  goes_may f goes =
      let parts = goes_parts (seat s.core.frames.seats f) goes in
      let own = home_of_some (seat s.core.frames.seats f) parts.0 in
      (own.0, record { given = own.1; unpinned = parts.1; idle = none_is (transfer_of f s.core.queue.queued) (sym (s.core.resident.moving f) ∙ parts.2) })
    where
      home_of_some : (o : Option Tenant) → is_some o ≡ true → (h : ℕ) × (option_map (λ t. t.home.0) o ≡ Some h)
      home_of_some None e = absurd (false≢true e)
      home_of_some (Some t) e = (t.home.0, refl)

  may_goes : (f h : ℕ) → MayLeave s.core.frames.seats s.core.queue.queued f h → option_map_or can_go (seat s.core.frames.seats f) false ≡ true
  may_goes f h may = parts_go (seat s.core.frames.seats f) (some_of (seat s.core.frames.seats f) may.given) (s.core.resident.spent f) may.unpinned (s.core.resident.moving f ∙ ap is_some may.idle)
    where
      some_of : (o : Option Tenant) → option_map (λ t. t.home.0) o ≡ Some h → is_some o ≡ true
      some_of None e = absurd cc
      some_of (Some t) e = refl

  next : (o : Option ℕ) → victim_of s.core.frames.seats ≡ o → MatchOption o (AllStay paged_meaning s) (IsNext paged_meaning s)
  next None is = λ frame home can.
      let goes = leaves_at (seat s.core.frames.seats frame) (may_goes frame home (can_may frame home can)) in
      let no = sym (none_goes s.core.frames.seats is frame) ∙ goes in
      cc no
  next (Some f) is =
      let own = goes_may f (victim_goes s.core.frames.seats f is) in
      let age = shown_age f own.0 own.1 in
      record {
        home = own.0;
        leaves = may_can f own.0 own.1;
        oldest = λ g other can.
            let may = can_may g other can in
            let its = shown_age g other may in
            let least = victim_least s.core.frames.seats f g is (may_goes g other may) in
            omega (arith, age, its, least);
        least = λ g other can same.
            let may = can_may g other can in
            let its = shown_age g other may in
            victim_first s.core.frames.seats f g is (may_goes g other may) (sym its ∙ same ∙ age);
      }
    where
      shown_age : (g h : ℕ) → MayLeave s.core.frames.seats s.core.queue.queued g h → paged_meaning.age s g ≡ age_in (seat s.core.frames.seats g)
      shown_age g h may = age_shown s.core.frames.seats s.core.queue.queued g (ap reads may.idle)

  -- two homes are not found in one frame
  apart_are : (h k : ℕ) (found : Found) → found_at s.core.frames.seats s.core.queue.queued h ≡ Some found → found_at s.core.frames.seats s.core.queue.queued k ≡ Some found → h ≡ k
  apart_are h k found one two =
      let own = found_frame s.core.frames.seats s.core.queue.queued h found one in
      let other = found_frame s.core.frames.seats s.core.queue.queued k found two in
      let same : Some h ≡ Some k = sym (frame_has s.core.frames.seats h found.0 own.0) ∙ frame_has s.core.frames.seats k found.0 other.0 in
      cc

  pages_are : (h : ℕ) (words : List ℕ) → place (paged_meaning.homes s) h ≡ here words → IsPage words
  pages_are h words is =
      let there = here_at s.homes s.core.frames.seats s.core.frames.words s.core.queue.queued h (ap is_here is) in
      let two : here words ≡ here (page_in s.core.frames.words there.1.frame) = sym is ∙ at_frame h there.1.frame there.1.given ∙ there.1.shown in
      let e : words ≡ page_in s.core.frames.words there.1.frame = cc in
      subst IsPage (sym e) (s.core.resident.pages there.1.frame h there.1.given there.1.read)

  finds_are : (h : ℕ) → is_some (found_at s.core.frames.seats s.core.queue.queued h) ≡ is_here (place (paged_meaning.homes s) h)
  finds_are h = at (frame_for s.core.frames.seats h) refl
    where
      placed_away : (b : Bool) → false ≡ is_here (Rattle.page_residence.specs.Resident.placed b away)
      placed_away true = refl
      placed_away false = refl

      at : (o : Option ℕ) → frame_for s.core.frames.seats h ≡ o → is_some (found_at s.core.frames.seats s.core.queue.queued h) ≡ is_here (place (paged_meaning.homes s) h)
      at None is =
          let gone = Rattle.page_residence.proofs.Placing.gone_in s.core.frames.seats s.core.frames.words s.core.queue.queued h is in
          finds s.core.frames.seats s.core.frames.words s.core.queue.queued h ∙ ap is_here gone ∙ placed_away (get_or s.homes h false)
          ∙ sym (ap is_here (place_at s.homes (framed s.core.frames.seats s.core.frames.words s.core.queue.queued) h ∙ ap (λ (p : HomePlace). Rattle.page_residence.specs.Resident.placed (get_or s.homes h false) p) gone))
      at (Some f) is = finds s.core.frames.seats s.core.frames.words s.core.queue.queued h ∙ ap is_here (sym (at_frame h f (frame_has s.core.frames.seats h f is)))

  comes_away : (h : ℕ) → list_any (arrives h) (map Rattle.page_residence.specs.Resident.meant s.core.queue.queued) ≡ true → place (paged_meaning.homes s) h ≡ away
  comes_away h some = at (frame_for s.core.frames.seats h) refl
    where
      at : (o : Option ℕ) → frame_for s.core.frames.seats h ≡ o → place (paged_meaning.homes s) h ≡ away
      at None is = absurd (false≢true (sym (no_arrivals s.core.frames s.core.queue r h is).any ∙ some))
      at (Some f) is =
          let given = frame_has s.core.frames.seats h f is in
          at_frame h f given ∙ reading_in s.core.frames.seats s.core.frames.words s.core.queue.queued h f is (sym (arrivals s.core.frames s.core.queue r h f given).any ∙ some)

  goes_here : (h : ℕ) → list_any (departs h) (map Rattle.page_residence.specs.Resident.meant s.core.queue.queued) ≡ true → is_here (place (paged_meaning.homes s) h) ≡ true
  goes_here h some = at (frame_for s.core.frames.seats h) refl
    where
      at : (o : Option ℕ) → frame_for s.core.frames.seats h ≡ o → is_here (place (paged_meaning.homes s) h) ≡ true
      at None is = absurd (false≢true (sym (no_departures s.core.frames s.core.queue r h is).any ∙ some))
      at (Some f) is =
          let given = frame_has s.core.frames.seats h f is in
          ap is_here (at_frame h f given ∙ shown_in s.core.frames.seats s.core.frames.words s.core.queue.queued h f is
          (writes_only (transfer_of f s.core.queue.queued) (sym (departures s.core.frames s.core.queue r h f given).any ∙ some)))

  few_of : (h : ℕ) → count_by (moves h) (map Rattle.page_residence.specs.Resident.meant s.core.queue.queued) ≤ 1
  few_of h = at (frame_for s.core.frames.seats h) refl
    where
      at : (o : Option ℕ) → frame_for s.core.frames.seats h ≡ o → count_by (moves h) (map Rattle.page_residence.specs.Resident.meant s.core.queue.queued) ≤ 1
      at None is = let none = (not_moving s.core.frames s.core.queue r h is).count in omega (arith, none)
      at (Some f) is = (moving_of s.core.frames s.core.queue r h f (frame_has s.core.frames.seats h f is)).few

  held_here : (k h : ℕ) → Contains (held_by s.holders k) h → is_here (place (paged_meaning.homes s) h) ≡ true
  held_here k h there =
      let still = still_frame s.core.frames.seats s.core.queue.queued h (s.kept.held k h (contains_among (held_by s.holders k) h there)) in
      ap is_here (at_frame h still.frame still.given ∙ shown_in s.core.frames.seats s.core.frames.words s.core.queue.queued h still.frame still.is (ap reads still.idle))

  held_still : (k h : ℕ) → Contains (held_by s.holders k) h → list_any (moves h) (map Rattle.page_residence.specs.Resident.meant s.core.queue.queued) ≡ false
  held_still k h there =
      let still = still_frame s.core.frames.seats s.core.queue.queued h (s.kept.held k h (contains_among (held_by s.holders k) h there)) in
      (moving_of s.core.frames s.core.queue r h still.frame still.given).any ∙ ap is_some still.idle

  -- what is in a frame is the tenant of one
  seated_is : (h : ℕ) → is_here (place (paged_meaning.homes s) h) ≡ true → HasFrame paged_meaning s h
  seated_is h is =
      let there = here_at s.homes s.core.frames.seats s.core.frames.words s.core.queue.queued h is in
      record { frame = there.1.frame; is = tenant_shown s.core.frames.seats s.core.queue.queued there.1.frame there.1.read ∙ there.1.given }

  given_is : (f h : ℕ) → paged_meaning.tenant s f ≡ Some h → (f < length s.core.frames.seats) × (is_here (place (paged_meaning.homes s) h) ≡ true)
  given_is f h has =
      let own = tenant_given s.core.frames.seats s.core.queue.queued f h has in (
        home_below s.core.frames.seats f h own.0,
        ap is_here (at_frame h f own.0 ∙ shown_in s.core.frames.seats s.core.frames.words s.core.queue.queued h f (frame_is s.core.frames.seats h f s.core.resident.single own.0) own.1),
      )

  aged_is : (f : ℕ) → IsSome (paged_meaning.tenant s f) → (paged_meaning.age s f ≤ s.core.frames.uses) × (s.core.frames.uses < LAST_USE → paged_meaning.age s f < s.core.frames.uses)
  aged_is f some =
      let own = tenant_some s.core.frames.seats s.core.queue.queued f some in
      let each = s.core.aged.each f own.0 in
      let age = age_shown s.core.frames.seats s.core.queue.queued f own.1 in
      (omega (arith, age, each.0), λ before. (let less = each.1 before in omega (arith, age, less)))

  pub paged_sound : IsSound paged_meaning s
  paged_sound = record {
    few = subst (λ (n : ℕ). n ≤ MOST_HOMES) (sym (places_length s.homes (framed s.core.frames.seats s.core.frames.words s.core.queue.queued))) s.kept.few;
    pages = pages_are;
    finds = finds_are;
    apart = apart_are;
    comes = comes_away;
    goes = goes_here;
    once = few_of;
    held = held_here;
    unmoved = held_still;
    shared = frames_shared s.core.frames s.core.queue r s.homes marked;
    seated = λ flat home is. seated_is home is;
    given = given_is;
    single = λ f g h has it. s.core.resident.single f g h (tenant_given s.core.frames.seats s.core.queue.queued f h has).0 (tenant_given s.core.frames.seats s.core.queue.queued g h it).0;
    members = λ flat. refl;
    few_held = s.kept.few_held;
    none_held = λ k past apart. elim past [ inl more ↦ s.kept.none_held k more apart | inr far ↦ get_or_past s.holders k [] (let room = s.kept.room in omega (arith, room, far)) ];
    held_once = λ k h. once_counted h (held_by s.holders k) (s.kept.once k);
    numbered = s.core.aged.numbered;
    aged = aged_is;
    next = next (victim_of s.core.frames.seats) refl;
    core = λ flat. absurd (false≢true flat);
    still = λ flat. absurd (false≢true flat);
    frames = λ flat. absurd (false≢true flat);
  }
