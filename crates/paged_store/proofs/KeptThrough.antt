-- What each change leaves of what a store keeps beside its frames.
use Rattle.std.proofs.Common.{◌≡◌, ◌≢◌, ℕ, ◌+◌, ◌<◌, ◌≤◌, inl, inr, List, [], length, count_by, None, Some, Bool, true, false, cond, sym, ◌∙◌, ap, subst, arith, set, get_or}
use Rattle.std.specs.Option.{option_map}
use Rattle.std.proofs.lemmas.Bool.{cases_eq, false≢true, false_from_ne_true}
use Rattle.std.proofs.lemmas.List.{get_or-set_same, get_or-set_other, length-set}
use Rattle.std.proofs.lemmas.List.Sums.{sum_by-set}
use Rattle.drum_queue.specs.declared.transfer.Transfer.{Transfer}
use Rattle.drum_queue.specs.Transfers.{transfer_of}
use Rattle.paged_store.specs.UntoldNeeds.{Needs}
use Rattle.paged_store.specs.HeldHomes.{held_by}
use Rattle.page_residence.specs.Resident.{Seats, seat, home_at, frame_for, pins_in, IsSingle, SeatsStay, IsGivenTo, IsTakenFrom, IsRepinned}
use Rattle.page_contracts.specs.declared.store.TheConstants.{CONSOLE_HOLDER}
use Rattle.page_contracts.specs.Stores.{members_of, most_held}
use Rattle.paged_store.specs.Keeping.{is_among, is_distinct, is_still, IsKept}
use Rattle.page_residence.proofs.Seating.{frame_is, frame_alike, seat_same, seat_other, home_below}
use Rattle.paged_store.specs.KeptHomes.{among_counts, none_counted, still_is, still_frame, frame_still}

module _ (seats : Seats) (queue : List Transfer) (flags : List Bool) (holders : List (List ℕ)) (untold : Needs) (kept : IsKept seats queue flags holders untold) where
  -- the frame of a home that is held has a pin
  pub held_pinned : (k h f : ℕ) → is_among h (held_by holders k) ≡ true → home_at seats f ≡ Some h → 0 < pins_in (seat seats f)
  held_pinned k h f among given = let some = among_counts holders k h among in let pins = kept.pinned f h given in omega (arith, some, pins)

  -- nothing is held of a page without a frame
  pub unheld_away : (h : ℕ) → frame_for seats h ≡ None → (k : ℕ) → is_among h (held_by holders k) ≡ false
  unheld_away h away k = false_from_ne_true (is_among h (held_by holders k)) (λ among. false≢true (sym (still_is seats queue h None away) ∙ kept.held k h among))

  -- frames keep homes and pins
  pub kept_stays : (seats' : Seats) (queue' : List Transfer) (untold' : Needs) → IsSingle seats → SeatsStay seats seats'
      → ((f : ℕ) → 0 < pins_in (seat seats f) → transfer_of f queue ≡ None → transfer_of f queue' ≡ None) → untold'.homes ≡ untold.homes
      → IsKept seats' queue' flags holders untold'
  kept_stays seats' queue' untold' single stays idle homes = record {
    few = kept.few;
    room = kept.room;
    homes = homes ∙ kept.homes;
    framed = λ f h given. kept.framed f h (sym (stays.homes f) ∙ given);
    held = λ k h among.
        let s = still_frame seats queue h (kept.held k h among) in
        frame_still seats' queue' h s.frame (frame_alike seats seats' h single stays.homes ∙ s.is) (idle s.frame (held_pinned k h s.frame among s.given) s.idle);
    once = kept.once;
    few_held = kept.few_held;
    none_held = λ k past apart. kept.none_held k (subst (λ (n : ℕ). members_of n ≤ k) stays.size past) apart;
    pinned = λ f h given. stays.pins f ∙ kept.pinned f h (sym (stays.homes f) ∙ given);
  }

  -- a free frame is given to a page
  pub kept_given : (seats' : Seats) (queue' : List Transfer) (flags' : List Bool) (h f : ℕ) → IsSingle seats' → frame_for seats h ≡ None → IsGivenTo h f seats seats'
      → ((g : ℕ) → g ≢ f → transfer_of g queue ≡ None → transfer_of g queue' ≡ None)
      → length flags' ≡ length flags → get_or flags' h false ≡ true → ((k : ℕ) → get_or flags k false ≡ true → get_or flags' k false ≡ true)
      → IsKept seats' queue' flags' holders untold
  kept_given seats' queue' flags' h f single' away given idle long taken more = record {
    few = subst (λ (n : ℕ). n ≤ Rattle.page_homes.specs.declared.homes.TheConstants.MOST_HOMES) (sym long) kept.few;
    room = kept.room;
    homes = kept.homes ∙ sym long;
    framed = λ g k has. elim (cases_eq g f) [
      | inl e ↦
          let two : Some given.tenant.home.0 ≡ Some k = sym (ap (option_map (λ t. t.home.0)) (own g e)) ∙ has in
          let same : given.tenant.home.0 ≡ k = cc in
          subst (λ (n : ℕ). get_or flags' n false ≡ true) (sym given.home ∙ same) taken
      | inr other ↦ more k (kept.framed g k (sym (there g other) ∙ has))
    ];
    held = λ k x among.
        let s = still_frame seats queue x (kept.held k x among) in
        let other : s.frame ≢ f = λ e. (let no : None ≡ Some x = sym (ap (option_map (λ t. t.home.0)) given.vacant) ∙ ap (home_at seats) (sym e) ∙ s.given in let r : ⊥ = absurd cc in r) in
        frame_still seats' queue' x s.frame (frame_is seats' x s.frame single' (there s.frame other ∙ s.given)) (idle s.frame other s.idle);
    once = kept.once;
    few_held = kept.few_held;
    none_held = λ i past apart. kept.none_held i (subst (λ (n : ℕ). members_of n ≤ i) (ap (λ (ss : Seats). length ss) given.seats ∙ length-set seats f (Some given.tenant)) past) apart;
    pinned = λ g k has. elim (cases_eq g f) [
      | inl e ↦
          let two : Some given.tenant.home.0 ≡ Some k = sym (ap (option_map (λ t. t.home.0)) (own g e)) ∙ has in
          let same : given.tenant.home.0 ≡ k = cc in
          ap pins_in (own g e) ∙ given.unpinned
          ∙ sym (none_counted holders k (subst (λ (n : ℕ). (i : ℕ) → is_among n (held_by holders i) ≡ false) (sym given.home ∙ same) (unheld_away h away)))
      | inr other ↦ ap pins_in (seat_there g other) ∙ kept.pinned g k (sym (there g other) ∙ has)
    ];
  }
    where
      seat_there : (g : ℕ) → g ≢ f → seat seats' g ≡ seat seats g
      seat_there g other = ap (λ (ss : Seats). seat ss g) given.seats ∙ seat_other seats f g (Some given.tenant) other

      own : (g : ℕ) → g ≡ f → seat seats' g ≡ Some given.tenant
      own g e = ap (λ (ss : Seats). seat ss g) given.seats ∙ ap (seat (set seats f (Some given.tenant))) e ∙ seat_same seats f (Some given.tenant) given.below

      there : (g : ℕ) → g ≢ f → home_at seats' g ≡ home_at seats g
      there g other = ap (option_map (λ t. t.home.0)) (seat_there g other)

  -- a frame that nobody has pinned is made free
  pub kept_taken : (seats' : Seats) (queue' : List Transfer) (flags' : List Bool) (untold' : Needs) (h f : ℕ) → IsSingle seats → IsSingle seats' → IsTakenFrom h f seats seats' → pins_in (seat seats f) ≡ 0
      → ((g : ℕ) → g ≢ f → transfer_of g queue ≡ None → transfer_of g queue' ≡ None)
      → length flags' ≡ length flags → ((k : ℕ) → k ≢ h → get_or flags k false ≡ true → get_or flags' k false ≡ true) → untold'.homes ≡ untold.homes
      → IsKept seats' queue' flags' holders untold'
  kept_taken seats' queue' flags' untold' h f single single' taken unpinned idle long more homes = record {
    few = subst (λ (n : ℕ). n ≤ Rattle.page_homes.specs.declared.homes.TheConstants.MOST_HOMES) (sym long) kept.few;
    room = kept.room;
    homes = homes ∙ kept.homes ∙ sym long;
    framed = λ g k has.
        let was = sym (there g (apart g k has)) ∙ has in
        more k (λ e. apart g k has (single g f h (was ∙ ap Some e) taken.had)) (kept.framed g k was);
    held = λ k x among.
        let s = still_frame seats queue x (kept.held k x among) in
        let other : s.frame ≢ f = λ e. (let some = held_pinned k x s.frame among s.given in let none = ap (λ (g : ℕ). pins_in (seat seats g)) e in let r : ⊥ = absurd (omega (arith, some, none, unpinned)) in r) in
        frame_still seats' queue' x s.frame (frame_is seats' x s.frame single' (there s.frame other ∙ s.given)) (idle s.frame other s.idle);
    once = kept.once;
    few_held = kept.few_held;
    none_held = λ i past apart'. kept.none_held i (subst (λ (n : ℕ). members_of n ≤ i) (ap (λ (ss : Seats). length ss) taken.seats ∙ length-set seats f None) past) apart';
    pinned = λ g k has. ap pins_in (seat_there g (apart g k has)) ∙ kept.pinned g k (sym (there g (apart g k has)) ∙ has);
  }
    where
      below : f < length seats
      below = home_below seats f h taken.had

      seat_there : (g : ℕ) → g ≢ f → seat seats' g ≡ seat seats g
      seat_there g other = ap (λ (ss : Seats). seat ss g) taken.seats ∙ seat_other seats f g None other

      there : (g : ℕ) → g ≢ f → home_at seats' g ≡ home_at seats g
      there g other = ap (option_map (λ t. t.home.0)) (seat_there g other)

      apart : (g k : ℕ) → home_at seats' g ≡ Some k → g ≢ f
      apart g k has e =
          let gone : seat seats' g ≡ None = ap (λ (ss : Seats). seat ss g) taken.seats ∙ ap (seat (set seats f None)) e ∙ seat_same seats f None below in
          let no : None ≡ Some k = sym (ap (option_map (λ t. t.home.0)) gone) ∙ has in
          absurd cc

  -- a home is held for one more, or for one less
  pub kept_repinned : (seats' : Seats) (f h k pins : ℕ) (hs : List ℕ) → IsSingle seats → home_at seats f ≡ Some h → IsRepinned f pins seats seats' → k < length holders
      → ((x : ℕ) → x ≢ h → is_among x hs ≡ is_among x (held_by holders k)) → is_distinct hs ≡ true → length hs ≤ most_held k → (members_of (length seats) ≤ k → k ≢ CONSOLE_HOLDER → hs ≡ []) → (is_among h hs ≡ true → is_still seats queue h ≡ true)
      → pins + cond (is_among h (held_by holders k)) 1 0 ≡ pins_in (seat seats f) + cond (is_among h hs) 1 0
      → IsKept seats' queue flags (set holders k hs) untold
  kept_repinned seats' f h k pins hs single given repinned below same distinct few only still count = record {
    few = kept.few;
    room = length-set holders k hs ∙ kept.room;
    homes = kept.homes;
    framed = λ g x has. kept.framed g x (sym (repinned.homes g) ∙ has);
    held = λ i x among. still_again x (elim (cases_eq i k) [
      | inl e ↦
          let own : is_among x hs ≡ true = sym (ap (is_among x) (ap (held_by (set holders k hs)) e ∙ get_or-set_same holders k hs [] below)) ∙ among in
          elim (cases_eq x h) [
            | inl e' ↦ ap (is_still seats queue) e' ∙ still (ap (λ (n : ℕ). is_among n hs) (sym e') ∙ own)
            | inr other ↦ kept.held k x (sym (same x other) ∙ own)
          ]
      | inr other ↦ kept.held i x (sym (ap (is_among x) (get_or-set_other holders k i hs [] other)) ∙ among)
    ]);
    once = λ i. elim (cases_eq i k) [
      | inl e ↦ ap is_distinct (ap (held_by (set holders k hs)) e ∙ get_or-set_same holders k hs [] below) ∙ distinct
      | inr other ↦ ap is_distinct (get_or-set_other holders k i hs [] other) ∙ kept.once i
    ];
    few_held = λ i. elim (cases_eq i k) [
      | inl e ↦ subst (λ (n : ℕ). length (held_by (set holders k hs) n) ≤ most_held n) (sym e) (subst (λ (l : List ℕ). length l ≤ most_held k) (sym (get_or-set_same holders k hs [] below)) few)
      | inr other ↦ subst (λ (l : List ℕ). length l ≤ most_held i) (sym (get_or-set_other holders k i hs [] other)) (kept.few_held i)
    ];
    none_held = λ i past apart. elim (cases_eq i k) [
      | inl e ↦ ap (held_by (set holders k hs)) e ∙ get_or-set_same holders k hs [] below ∙ only (subst (λ (n : ℕ). members_of n ≤ k) repinned.size (subst (λ (n : ℕ). members_of (length seats') ≤ n) e past)) (λ same. apart (e ∙ same))
      | inr other ↦ get_or-set_other holders k i hs [] other ∙ kept.none_held i (subst (λ (n : ℕ). members_of n ≤ i) repinned.size past) apart
    ];
    pinned = λ g x has. elim (cases_eq g f) [
      | inl e ↦
          let two : Some h ≡ Some x = sym given ∙ ap (home_at seats) (sym e) ∙ sym (repinned.homes g) ∙ has in
          let it : h ≡ x = cc in
          ap (λ (n : ℕ). pins_in (seat seats' n)) e ∙ repinned.own ∙ own_count ∙ ap (λ (n : ℕ). count_by (is_among n) (set holders k hs)) it
      | inr other ↦
          let was = sym (repinned.homes g) ∙ has in
          repinned.others g other ∙ kept.pinned g x was ∙ sym (other_count x (λ e. other (single g f h (was ∙ ap Some e) given)))
    ];
  }
    where
      still_again : (x : ℕ) → is_still seats queue x ≡ true → is_still seats' queue x ≡ true
      still_again x is =
          let s = still_frame seats queue x is in
          frame_still seats' queue x s.frame (frame_alike seats seats' x single repinned.homes ∙ s.is) s.idle

      changed : (x : ℕ) → count_by (is_among x) (set holders k hs) + cond (is_among x (held_by holders k)) 1 0 ≡ count_by (is_among x) holders + cond (is_among x hs) 1 0
      changed x = sum_by-set (λ (l : List ℕ). cond (is_among x l) 1 0) holders k hs [] below

      own_count : pins ≡ count_by (is_among h) (set holders k hs)
      own_count = omega (arith, changed h, count, kept.pinned f h given)

      other_count : (x : ℕ) → x ≢ h → count_by (is_among x) (set holders k hs) ≡ count_by (is_among x) holders
      other_count x other =
          let both = ap (λ (b : Bool). let n : ℕ = cond b 1 0 in n) (same x other) in
          omega (arith, changed x, both)
