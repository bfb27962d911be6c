-- Waits of the machine's lists, by seats.
use Rattle.std.proofs.Common.{◌≡◌, ◌≢◌, ℕ, suc, ◌<◌, List, [], ◌∷◌, ◌++◌, length, map, filter, Bool, true, false, not, ◌||◌, cond, Option, None, Some, slice_get, refl, sym, ◌∙◌, ap, subst, arith, inl, inr}
use Rattle.std.specs.Prelude.{◌==◌}
use Rattle.std.specs.List.{find}
use Rattle.std.specs.Option.{option_map, option_or}
use Rattle.std.proofs.lemmas.Bool.Decides.{nat_tests}
use Rattle.std.proofs.lemmas.List.{map-append}
use Rattle.frame_order.specs.FrameOrder.{IsOnce, stands_in}
use Rattle.frame_order.proofs.Orders.{first_or_behind, front_absent, not_first, not_behind, rest_absent, stands_first, stands_in-append}
use Rattle.machine_names.specs.declared.names.ForkName.{ForkName}
use Rattle.machine_names.specs.Bounds.{IsForkName}
use Rattle.plain_model.specs.Forks.{ForkMap, IsRunnable}
use Rattle.fork_tree.specs.Trees.{AreSlotted}
use Rattle.fork_tree.proofs.Slots.{held_lives}
use Rattle.fork_lists.proofs.Tied.{runs_lives}
use Rattle.page_contracts.specs.declared.answers.Need.{Need}
use Rattle.page_contracts.specs.declared.answers.Need.TheVariants.{Page, Frame}
use Rattle.job_sched.specs.declared.member.Member.{Member}
use Rattle.job_sched.specs.declared.member.Waiter.{Waiter}
use Rattle.job_sched.specs.Schedules.{Schedule, arrived, ends_wait, has_seat, heads, is_member, member_at, member_of, members, put_to_wait, seats_of, size, wait_at, wait_in, waited, waits_in}
use Rattle.job_sched.specs.Ties.{IsSound, WaitsLess}
use Rattle.job_sched.proofs.Looks.{same_name}
use Rattle.job_sched.proofs.Waits.{absent_filter, none_waits, seats_are, size_arrived, size_waited, waiting_once}
use Rattle.fork_lists.specs.declared.lists.ForkLists.{ForkLists}
use Rattle.page_waits.specs.declared.head.Head.{Head}
use Rattle.page_waits.specs.Waits.{AreLists, FewerWait, IsHead, Waits, Wakes, the_lists, woken}

abbrev seats : List Member → List ℕ
seats ms = map (λ (m : Member). m.seat) ms

abbrev numbers : List Waiter → List ℕ
numbers ws = map (λ (w : Waiter). w.seat) ws

-- a search goes on in a second list
find_append : {A : Type 0} (p : A → Bool) (xs ys : List A) → find p (xs ++ ys) ≡ option_or (find p xs) (find p ys)
find_append p [] ys = refl
find_append p (x ∷ xs) ys = by (p x) (find_append p xs ys)
  where
    by : (b : Bool) → find p (xs ++ ys) ≡ option_or (find p xs) (find p ys) → cond b (Some x) (find p (xs ++ ys)) ≡ option_or (cond b (Some x) (find p xs)) (find p ys)
    by true rest = refl
    by false rest = rest

or_assoc : {A : Type 0} (a b c : Option A) → option_or (option_or a b) c ≡ option_or a (option_or b c)
or_assoc None b c = refl
or_assoc (Some x) b c = refl

or_none : {A : Type 0} (a : Option A) → option_or a None ≡ a
or_none None = refl
or_none (Some x) = refl

-- no member has a number that none has
none_seated : (k : ℕ) (ms : List Member) → stands_in k (seats ms) ≡ false → find (has_seat k) ms ≡ None
none_seated k [] absent = refl
none_seated k (m ∷ ms) absent =
    let other = not_first k m.seat (seats ms) absent in
    let test : (k == m.seat) ≡ false = grind (arith, nat_tests, other) in
    ap (λ b. cond b (Some m) (find (has_seat k) ms)) test ∙ none_seated k ms (not_behind k m.seat (seats ms) absent)

member_seats : (ws : List Waiter) → seats (map member_of ws) ≡ numbers ws
member_seats [] = refl
member_seats (w ∷ ws) = ap (λ ks. w.seat ∷ ks) (member_seats ws)

-- a waiting member is found by its number
seated_in : (k : ℕ) (ws : List Waiter) → stands_in k (numbers ws) ≡ true → find (has_seat k) (map member_of ws) ≡ None → ⊥
seated_in k [] here none = cc here
seated_in k (w ∷ ws) here none = by (k == w.seat) refl none (seated_in k ws)
  where
    by : (b : Bool) → (k == w.seat) ≡ b → cond b (Some (member_of w)) (find (has_seat k) (map member_of ws)) ≡ None
        → (stands_in k (numbers ws) ≡ true → find (has_seat k) (map member_of ws) ≡ None → ⊥) → ⊥
    by true same is rest = cc is
    by false other is rest =
        let apart : k ≢ w.seat = grind (arith, nat_tests, other) in
        elim (first_or_behind k w.seat (numbers ws) here) [ inl same ↦ apart same | inr behind ↦ rest behind is ]

-- what is told wakes exactly those whose wait it ends
woken_ends : (done n : Need) → woken done (Some n) ≡ cond (ends_wait done n) None (Some n)
woken_ends Frame Frame = refl
woken_ends (Page h) Frame = refl
woken_ends Frame (Page g) = refl
woken_ends (Page h) (Page g) = refl

-- who waits on
abbrev on_of : Need → List Waiter → List Waiter
on_of done ws = filter (λ v. not (ends_wait done v.need)) ws

waits_on : (done : Need) (k : ℕ) (ws : List Waiter) → IsOnce (numbers ws) → wait_in (filter (λ w. not (ends_wait done w.need)) ws) k ≡ woken done (wait_in ws k)
waits_on done k [] once = refl
waits_on done k (w ∷ ws) once = by (waits_on done k ws once.1) (ends_wait done w.need) refl (k == w.seat) refl
  where
    by : wait_in (on_of done ws) k ≡ woken done (wait_in ws k) → (b : Bool) → ends_wait done w.need ≡ b → (c : Bool) → (k == w.seat) ≡ c
        → wait_in (cond (not b) (w ∷ (on_of done ws)) (on_of done ws)) k ≡ woken done (option_map (λ (v : Waiter). v.need) (cond c (Some w) (find (waits_in k) ws)))
    by before true ends true same =
        let at : k ≡ w.seat = grind (arith, nat_tests, same) in
        let gone : stands_in k (numbers (on_of done ws)) ≡ false = absent_filter (λ v. not (ends_wait done v.need)) k ws (subst (λ j. stands_in j (numbers ws) ≡ false) (sym at) once.0) in
        ap (option_map (λ (v : Waiter). v.need)) (none_waits k (on_of done ws) gone) ∙ sym (woken_ends done w.need ∙ ap (λ b. cond b None (Some w.need)) ends)
    by before true ends false other = before
    by before false ends true same =
        ap (λ b. option_map (λ (v : Waiter). v.need) (cond b (Some w) (find (waits_in k) (on_of done ws)))) same ∙ sym (woken_ends done w.need ∙ ap (λ b. cond b None (Some w.need)) ends)
    by before false ends false other = ap (λ b. option_map (λ (v : Waiter). v.need) (cond b (Some w) (find (waits_in k) (on_of done ws)))) other ∙ before

-- who is woken and who waits on are who waited
abbrev rest_of : (Waiter → Bool) → List Waiter → List Waiter
rest_of p ws = filter (λ v. not (p v)) ws

parted : (p : Waiter → Bool) (k : ℕ) (ws : List Waiter) → IsOnce (numbers ws)
    → option_or (find (has_seat k) (map member_of (filter p ws))) (find (has_seat k) (map member_of (filter (λ w. not (p w)) ws))) ≡ find (has_seat k) (map member_of ws)
parted p k [] once = refl
parted p k (w ∷ ws) once = by (parted p k ws once.1) (p w) (k == w.seat) refl
  where
    by : option_or (find (has_seat k) (map member_of (filter p ws))) (find (has_seat k) (map member_of (rest_of p ws))) ≡ find (has_seat k) (map member_of ws) → (b c : Bool) → (k == w.seat) ≡ c
        → option_or (find (has_seat k) (map member_of (cond b (w ∷ (filter p ws)) (filter p ws)))) (find (has_seat k) (map member_of (cond (not b) (w ∷ (rest_of p ws)) (rest_of p ws)))) ≡ cond c (Some (member_of w)) (find (has_seat k) (map member_of ws))
    by before true true same = ap (λ b. option_or (cond b (Some (member_of w)) (find (has_seat k) (map member_of (filter p ws)))) (find (has_seat k) (map member_of (rest_of p ws)))) same
    by before true false other = ap (λ b. option_or (cond b (Some (member_of w)) (find (has_seat k) (map member_of (filter p ws)))) (find (has_seat k) (map member_of (rest_of p ws)))) other ∙ before
    by before false true same =
        let at : k ≡ w.seat = grind (arith, nat_tests, same) in
        let gone : stands_in k (seats (map member_of (filter p ws))) ≡ false =
        ap (stands_in k) (member_seats (filter p ws)) ∙ absent_filter p k ws (subst (λ j. stands_in j (numbers ws) ≡ false) (sym at) once.0) in
        ap (λ o. option_or o (cond (k == w.seat) (Some (member_of w)) (find (has_seat k) (map member_of (rest_of p ws))))) (none_seated k (map member_of (filter p ws)) gone)
        ∙ ap (λ b. cond b (Some (member_of w)) (find (has_seat k) (map member_of (rest_of p ws)))) same
    by before false false other = ap (λ b. option_or (find (has_seat k) (map member_of (filter p ws))) (cond b (Some (member_of w)) (find (has_seat k) (map member_of (rest_of p ws))))) other ∙ before

module _ (s : Schedule) (sound : IsSound s) where
  once_waiting : IsOnce (numbers s.waiting)
  once_waiting = waiting_once s sound.seats

  arrived_members : (done : Need) (k : ℕ) → member_at (arrived s done) k ≡ member_at s k
  arrived_members done k =
      let e = λ (w : Waiter). ends_wait done w.need in
      let woke = map member_of (filter e s.waiting) in
      let on = map member_of (filter (λ w. not (e w)) s.waiting) in
      ap (option_map (λ (m : Member). m.fork)) (
      find_append (has_seat k) (s.ready ++ woke) on
      ∙ ap (λ o. option_or o (find (has_seat k) on)) (find_append (has_seat k) s.ready woke)
      ∙ or_assoc (find (has_seat k) s.ready) (find (has_seat k) woke) (find (has_seat k) on)
      ∙ ap (option_or (find (has_seat k) s.ready)) (parted e k s.waiting once_waiting)
      ∙ sym (find_append (has_seat k) s.ready (map member_of s.waiting))
      )

  -- the head, by the list that it heads
  module _ (m : Member) (ms : List Member) (ready : s.ready ≡ m ∷ ms) where
    seats_split : IsOnce (m.seat ∷ (seats ms ++ numbers s.waiting))
    seats_split = subst (λ (r : List Member). IsOnce (seats r ++ numbers s.waiting)) ready (subst IsOnce (seats_are s) sound.seats)

    gone_ready : stands_in m.seat (seats ms) ≡ false
    gone_ready = front_absent m.seat (seats ms) (numbers s.waiting) seats_split.0

    gone_waiting : stands_in m.seat (numbers s.waiting) ≡ false
    gone_waiting = rest_absent m.seat (seats ms) (numbers s.waiting) seats_split.0

    itself : (m.seat == m.seat) ≡ true
    itself = grind (arith, nat_tests)

    pub head_member : member_at s m.seat ≡ Some m.fork
    head_member =
        ap (λ (r : List Member). option_map (λ (v : Member). v.fork) (find (has_seat m.seat) (r ++ map member_of s.waiting))) ready
        ∙ ap (λ b. option_map (λ (v : Member). v.fork) (cond b (Some m) (find (has_seat m.seat) (ms ++ map member_of s.waiting)))) itself

    pub head_below : m.seat < size s
    head_below =
        let here : stands_in m.seat (seats_of s) ≡ true =
        ap (stands_in m.seat) (seats_are s ∙ ap (λ (r : List Member). seats r ++ numbers s.waiting) ready) ∙ stands_first m.seat (seats ms ++ numbers s.waiting) in
        sound.numbered m.seat here

    pub head_wakes : wait_at s m.seat ≡ None
    head_wakes = ap (option_map (λ (w : Waiter). w.need)) (none_waits m.seat s.waiting gone_waiting)

    module _ (need : Need) where
      abbrev own : Waiter
      own = record { fork = m.fork; seat = m.seat; need = need }

      pub waited_is : waited s need ≡ record s { ready = ms; waiting = s.waiting ++ own ∷ []; used = 0 }
      waited_is = ap (λ (r : List Member). put_to_wait r need s) ready

      wait_split : (k : ℕ) → wait_at (waited s need) k ≡ option_map (λ (w : Waiter). w.need) (option_or (find (waits_in k) s.waiting) (cond (k == m.seat) (Some own) None))
      wait_split k = ap (λ (t : Schedule). wait_at t k) waited_is ∙ ap (option_map (λ (w : Waiter). w.need)) (find_append (waits_in k) s.waiting (own ∷ []))

      pub waits_own : wait_at (waited s need) m.seat ≡ Some need
      waits_own =
          wait_split m.seat
          ∙ ap (λ o. option_map (λ (w : Waiter). w.need) (option_or o (cond (m.seat == m.seat) (Some own) None))) (none_waits m.seat s.waiting gone_waiting)
          ∙ ap (λ b. option_map (λ (w : Waiter). w.need) (cond b (Some own) None)) itself

      pub waits_other : (k : ℕ) → k ≢ m.seat → wait_at (waited s need) k ≡ wait_at s k
      waits_other k apart =
          let test : (k == m.seat) ≡ false = grind (arith, nat_tests, apart) in
          wait_split k
          ∙ ap (λ b. option_map (λ (w : Waiter). w.need) (option_or (find (waits_in k) s.waiting) (cond b (Some own) None))) test
          ∙ ap (option_map (λ (w : Waiter). w.need)) (or_none (find (waits_in k) s.waiting))

      pub waited_members : (k : ℕ) → member_at (waited s need) k ≡ member_at s k
      waited_members k =
          let h = has_seat k in
          let ws = map member_of s.waiting in
          let behind : map member_of (s.waiting ++ own ∷ []) ≡ ws ++ m ∷ [] = map-append member_of s.waiting (own ∷ []) in
          ap (λ (t : Schedule). member_at t k) waited_is
          ∙ ap (option_map (λ (v : Member). v.fork)) (
          ap (λ (r : List Member). find h (ms ++ r)) behind ∙ find_append h ms (ws ++ m ∷ []) ∙ ap (option_or (find h ms)) (find_append h ws (m ∷ []))
          ∙ by (k == m.seat) refl
          ∙ sym (ap (λ (r : List Member). find h (r ++ ws)) ready)
          )
        where
          by : (b : Bool) → (k == m.seat) ≡ b
              → option_or (find (has_seat k) ms) (option_or (find (has_seat k) (map member_of s.waiting)) (cond (k == m.seat) (Some m) None)) ≡ cond (k == m.seat) (Some m) (find (has_seat k) (ms ++ map member_of s.waiting))
          by true same =
              let at : k ≡ m.seat = grind (arith, nat_tests, same) in
              let no_ready : find (has_seat k) ms ≡ None = none_seated k ms (subst (λ j. stands_in j (seats ms) ≡ false) (sym at) gone_ready) in
              let no_waiting : find (has_seat k) (map member_of s.waiting) ≡ None =
              none_seated k (map member_of s.waiting) (ap (stands_in k) (member_seats s.waiting) ∙ subst (λ j. stands_in j (numbers s.waiting) ≡ false) (sym at) gone_waiting) in
              ap (λ o. option_or o (option_or (find (has_seat k) (map member_of s.waiting)) (cond (k == m.seat) (Some m) None))) no_ready
              ∙ ap (λ o. option_or o (cond (k == m.seat) (Some m) None)) no_waiting
              ∙ ap (λ b. cond b (Some m) None) same
              ∙ sym (ap (λ b. cond b (Some m) (find (has_seat k) (ms ++ map member_of s.waiting))) same)
          by false other =
              ap (λ b. option_or (find (has_seat k) ms) (option_or (find (has_seat k) (map member_of s.waiting)) (cond b (Some m) None))) other
              ∙ ap (option_or (find (has_seat k) ms)) (or_none (find (has_seat k) (map member_of s.waiting)))
              ∙ sym (find_append (has_seat k) ms (map member_of s.waiting))
              ∙ sym (ap (λ b. cond b (Some m) (find (has_seat k) (ms ++ map member_of s.waiting))) other)

  -- a member that waits has a number of the set
  waits_below : (k : ℕ) → wait_at s k ≢ None → k < size s
  waits_below k waits = by (stands_in k (numbers s.waiting)) refl
    where
      by : (b : Bool) → stands_in k (numbers s.waiting) ≡ b → k < size s
      by true here = sound.numbered k (ap (stands_in k) (seats_are s) ∙ stands_in-append k (seats s.ready) (numbers s.waiting) ∙ later (stands_in k (seats s.ready)) (stands_in k (numbers s.waiting)) here)
        where
          later : (a b : Bool) → b ≡ true → (a || b) ≡ true
          later true b e = refl
          later false b e = e
      by false gone = absurd (waits (ap (option_map (λ (w : Waiter). w.need)) (none_waits k s.waiting gone)))

  -- who waits in a seat is the member that has it
  waits_member : (k : ℕ) → member_at s k ≡ None → wait_at s k ≡ None
  waits_member k none = by (stands_in k (numbers s.waiting)) refl
    where
      by : (b : Bool) → stands_in k (numbers s.waiting) ≡ b → wait_at s k ≡ None
      by false gone = ap (option_map (λ (w : Waiter). w.need)) (none_waits k s.waiting gone)
      by true here = absurd (some_member (find (has_seat k) s.ready) (find (has_seat k) (map member_of s.waiting)) (seated_in k s.waiting here)
          (sym (ap (option_map (λ (m : Member). m.fork)) (find_append (has_seat k) s.ready (map member_of s.waiting))) ∙ none))
        where
          some_member : (a b : Option Member) → (b ≡ None → ⊥) → option_map (λ (m : Member). m.fork) (option_or a b) ≡ None → ⊥
          some_member None None some is = some refl
          some_member None (Some m) some is = cc is
          some_member (Some m) b some is = cc is

  -- a member has a number of the set
  pub member_below : (k : ℕ) (f : ForkName) → member_at s k ≡ Some f → k < size s
  member_below k f is = by (stands_in k (seats_of s)) refl
    where
      by : (b : Bool) → stands_in k (seats_of s) ≡ b → k < size s
      by true here = sound.numbered k here
      by false gone = let no : None ≡ Some f = sym (ap (option_map (λ (m : Member). m.fork)) (none_seated k (members s) gone)) ∙ is in absurd (cc no)

  -- where no seat waits, nobody does
  pub nobody_waiting : ((k : ℕ) → wait_at s k ≡ None) → s.waiting ≡ []
  nobody_waiting none = by s.waiting refl
    where
      by : (ws : List Waiter) → s.waiting ≡ ws → ws ≡ []
      by [] is = refl
      by (w ∷ ws) is =
          let same : (w.seat == w.seat) ≡ true = grind (arith, nat_tests) in
          let there : wait_at s w.seat ≡ Some w.need =
          ap (λ vs. wait_in vs w.seat) is ∙ ap (λ b. option_map (λ (v : Waiter). v.need) (cond b (Some w) (find (waits_in w.seat) ws))) same in
          let no : None ≡ Some w.need = sym (none w.seat) ∙ there in
          absurd (cc no)

module _ (l : ForkLists) (sound : IsSound l.sched) where
  pub are_lists : AreLists the_lists l
  are_lists = record { some = sound.some; few = sound.small; seats = waits_below l.sched sound; members = waits_member l.sched sound }

  -- the head with its seat
  pub head_is : (f : ForkName) (seat : ℕ) → heads f l.sched.ready ≡ true → Some seat ≡ option_map (λ (m : Member). m.seat) (find (is_member f) (members l.sched)) → IsHead the_lists l (record { fork = f; seat = seat })
  head_is f seat head found = by l.sched.ready refl head
    where
      by : (ms : List Member) → l.sched.ready ≡ ms → heads f ms ≡ true → IsHead the_lists l (record { fork = f; seat = seat })
      by [] is at = absurd (cc at)
      by (m ∷ ms) is at =
          let first : Some seat ≡ Some m.seat =
          found ∙ ap (λ (r : List Member). option_map (λ (v : Member). v.seat) (find (is_member f) (r ++ map member_of l.sched.waiting))) is
          ∙ ap (λ b. option_map (λ (v : Member). v.seat) (cond b (Some m) (find (is_member f) (ms ++ map member_of l.sched.waiting)))) at in
          let seat_is : seat ≡ m.seat = number first in
          let fork_is : f ≡ m.fork = same_name f m.fork at in
          record {
            first = ap (λ (r : List Member). slice_get r 0) is ∙ (λ i. Some (record { fork = sym fork_is i; seat = sym seat_is i }));
            member = ap (member_at l.sched) seat_is ∙ head_member l.sched sound m ms is ∙ ap Some (sym fork_is);
            seat = subst (λ k. k < size l.sched) (sym seat_is) (head_below l.sched sound m ms is);
            wakes = ap (wait_at l.sched) seat_is ∙ head_wakes l.sched sound m ms is;
          }
        where
          number : {x : ℕ} → Some seat ≡ Some x → seat ≡ x
          number e = cc e

  -- the head begins to wait
  pub head_waits : (l' : ForkLists) (head : Head) (need : Need) → IsHead the_lists l head → l'.sched ≡ waited l.sched need → Waits the_lists head need l l'
  head_waits l' head need is sched = by l.sched.ready refl
    where
      seat_in : Option Member → ℕ
      seat_in None = 0
      seat_in (Some m) = m.seat

      by : (ms : List Member) → l.sched.ready ≡ ms → Waits the_lists head need l l'
      by [] e = let no : None ≡ Some (record { fork = head.fork; seat = head.seat }) = sym (ap (λ (r : List Member). slice_get r 0) e) ∙ is.first in absurd (cc no)
      by (m ∷ ms) e =
          let seat_is : head.seat ≡ m.seat = sym (ap seat_in (sym (ap (λ (r : List Member). slice_get r 0) e) ∙ is.first)) in
          record {
            seated = record {
              member = λ i k. (ap (λ (t : Schedule). member_at t k) sched ∙ waited_members l.sched sound m ms e need k) i;
              set = ap size sched ∙ size_waited l.sched need;
            };
            fewer =
                let now : l'.sched.ready ≡ ms = ap (λ (t : Schedule). t.ready) (sched ∙ waited_is l.sched sound m ms e need) in
                let less = ap length now in
                let was : length l.sched.ready ≡ suc (length ms) = ap length e in
                omega (arith, less, was);
            own = ap (λ (t : Schedule). wait_at t head.seat) sched ∙ ap (wait_at (waited l.sched need)) seat_is ∙ waits_own l.sched sound m ms e need;
            others = λ k apart. ap (λ (t : Schedule). wait_at t k) sched ∙ waits_other l.sched sound m ms e need k (λ same. apart (same ∙ sym seat_is));
          }

  pub who_wakes : (l' : ForkLists) (done : Need) → l'.sched ≡ arrived l.sched done → Wakes the_lists done l l'
  who_wakes l' done sched = record {
    seated = record { member = λ i k. (ap (λ (t : Schedule). member_at t k) sched ∙ arrived_members l.sched sound done k) i; set = ap size sched ∙ size_arrived l.sched done };
    waiting = λ k. ap (λ (t : Schedule). wait_at t k) sched ∙ waits_on done k l.sched.waiting (once_waiting l.sched sound);
  }

  pub fewer_wait : (l' : ForkLists) → WaitsLess l.sched.waiting l'.sched.waiting → FewerWait the_lists l l'
  fewer_wait l' less k n is = (less (once_waiting l.sched sound)).1 k n is

-- the head has a seat
pub head_seated : (s : Schedule) (f : ForkName) → heads f s.ready ≡ true → None ≡ option_map (λ (m : Member). m.seat) (find (is_member f) (members s)) → ⊥
head_seated s f head none = by s.ready refl head
  where
    by : (ms : List Member) → s.ready ≡ ms → heads f ms ≡ true → ⊥
    by [] is at = cc at
    by (m ∷ ms) is at =
        let some : None ≡ Some m.seat =
        none ∙ ap (λ (r : List Member). option_map (λ (v : Member). v.seat) (find (is_member f) (r ++ map member_of s.waiting))) is
        ∙ ap (λ b. option_map (λ (v : Member). v.seat) (cond b (Some m) (find (is_member f) (ms ++ map member_of s.waiting)))) at in
        cc some

-- who can run has a name of a fork
pub named : (forks : ForkMap) → AreSlotted forks → (f : ForkName) → IsRunnable forks f → IsForkName f
named forks slotted f runs =
    let at = runs_lives forks f runs in
    subst IsForkName (slotted.own f at.0 at.1) (slotted.named at.0 (held_lives forks slotted f at.0 at.1))

-- nobody is ready where none is first
pub none_ready : (ms : List Member) → length ms ≡ 0 → ms ≡ []
none_ready [] is = refl
none_ready (m ∷ ms) is = absurd (omega (arith, is))
