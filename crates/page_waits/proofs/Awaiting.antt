-- Who waits is awaited, whatever is queued, taken from the queue or ended.
use Rattle.std.proofs.Common.{◌≡◌, ◌≢◌, ⊎_elim, ℕ, ◌+◌, ◌<◌, ◌≤◌, List, [], ◌∷◌, ◌++◌, length, Bool, true, false, ◌||◌, cond, Option, None, Some, refl, sym, ◌∙◌, ap, subst, arith}
use Rattle.std.specs.Prelude.{◌==◌, nat_lt, IsSome, MatchOption}
use Rattle.std.specs.List.{list_any}
use Rattle.std.specs.Option.{option_map_or}
use Rattle.std.proofs.lemmas.Bool.Decides.{nat_tests}
use Rattle.std.proofs.lemmas.List.Folds.{list_any-append}
use Rattle.page_homes.specs.declared.homes.Home.{Home}
use Rattle.page_contracts.specs.declared.answers.Need.{Need}
use Rattle.page_contracts.specs.declared.answers.Need.TheVariants.{Page, Frame}
use Rattle.page_contracts.specs.Stores.{Transfer, arrival, departure, arrives, same_need, need_of, Meeting, joins, begins, waits, meeting, awaited, queued, departure_of, CanLeave, AllStay, IsNext, Evicts, LetsGo, most_held, IsFetched, Ends, Loses, Tells, StaysQueued, StaysStored, StaysThere, traffic}
use Rattle.page_contracts.proofs.Losing.{none_lost, still_comes}
use Rattle.page_contracts.proofs.Sharing.{victim_there}
use Rattle.event_deeds.specs.Deeds.{Task}
use Rattle.page_waits.specs.declared.head.Head.{Head}
use Rattle.page_contracts.specs.declared.store.TheConstants.{CONSOLE_HOLDER}
use Rattle.page_waits.specs.Systems.{SystemMeaning, IsHoused, Needs}
use Rattle.machine_names.specs.declared.names.ForkName.{ForkName}
use Rattle.page_waits.specs.Holding.{comes_for, held_with}
use Rattle.page_waits.specs.Waits.{ListsMeaning, AreLists, woken, waits_with, AreAwaited, AreOwned, AreStanding, Waits, Wakes}

-- who waits for a page once something is told waited for it before, and something else was told
pub woken_page : (done : Need) (w : Option Need) (home : Home) → woken done w ≡ Some (Page home) → (w ≡ Some (Page home)) × (same_need (Page home) done ≡ false)
woken_page done None home e = absurd (cc e)
woken_page done (Some Frame) home e = absurd (cc e)
woken_page Frame (Some (Page x)) home e = (e, refl)
woken_page (Page y) (Some (Page x)) home e = by (y.0 == x.0) refl e
  where
    number : Option Need → ℕ
    number None = 0
    number (Some Frame) = 0
    number (Some (Page h)) = h.0

    by : (b : Bool) → (y.0 == x.0) ≡ b → cond b None (Some (Page x)) ≡ Some (Page home) → (Some (Page x) ≡ Some (Page home)) × ((home.0 == y.0) ≡ false)
    by true t f = absurd (cc f)
    by false t f =
        let same : x.0 ≡ home.0 = ap number f in
        (f, grind (arith, nat_tests, same, t))

-- nobody waits for a frame any more
pub woken_frame : (done : Need) (w : Option Need) → woken done w ≡ Some Frame → ⊥
woken_frame done None e = cc e
woken_frame done (Some Frame) e = cc e
woken_frame Frame (Some (Page x)) e = cc (ap is_page e)
  where
    is_page : Option Need → Bool
    is_page (Some (Page x)) = true
    is_page w = false
woken_frame (Page y) (Some (Page x)) e = by (y.0 == x.0) e
  where
    is_page : Option Need → Bool
    is_page (Some (Page x)) = true
    is_page w = false

    by : (b : Bool) → cond b None (Some (Page x)) ≡ Some Frame → ⊥
    by true f = cc f
    by false f = cc (ap is_page f)

either : {A : Type 0} (a b : Bool) → (a ≡ true → A) → (b ≡ true → A) → (a || b) ≡ true → A
either true b f g e = f refl
either false b f g e = g e

or_right : (a b : Bool) → a ≡ false → (a || b) ≡ true → b ≡ true
or_right true b e f = absurd (cc e)
or_right false b e f = f

or_left : (a b : Bool) → a ≡ true → (a || b) ≡ true
or_left true b e = refl
or_left false b e = absurd (cc e)

or_later : (a b : Bool) → b ≡ true → (a || b) ≡ true
or_later true b e = refl
or_later false b e = e

none_of : {X : Type 0} (p : X → Bool) (xs : List X) → xs ≡ [] → list_any p xs ≡ true → ⊥
none_of p xs is some = cc (sym some ∙ ap (list_any p) is)

module _ {S L : Type 0} (means : SystemMeaning S) (lists : ListsMeaning L) where
  -- whether the page of a home is on its way, and whether it is to be told that it isn't
  abbrev coming : S → Home → Bool
  coming s home = list_any (arrives home.0) (means.store.queue s)

  abbrev telling : S → Home → Bool
  telling s home = list_any (same_need (Page home)) (means.store.untold s)

  -- what is held is held for members, where the same members are in the same seats and no more is held
  pub owned_less : (s s' : S) (l l' : L) → AreOwned means lists s l → lists.member l' ≡ lists.member l
      → ((seat : ℕ) → seat ≢ CONSOLE_HOLDER → means.store.holds s seat ≡ [] → means.store.holds s' seat ≡ []) → AreOwned means lists s' l'
  owned_less s s' l l' a member less seat apart none = less seat apart (a seat apart (sym (ap (λ (m : ℕ → Option ForkName). m seat) member) ∙ none))

  pub owned_same : (s s' : S) (l l' : L) → AreOwned means lists s l → lists.member l' ≡ lists.member l → means.store.holds s' ≡ means.store.holds s → AreOwned means lists s' l'
  owned_same s s' l l' a member holds = owned_less s s' l l' a member (λ seat apart none. ap (λ (h : ℕ → List ℕ). h seat) holds ∙ none)

  -- where what came is held for who waits for it
  pub owned_held : (s s1 s2 : S) (l l' : L) (need : Need) (w : Option Need) → AreLists lists l → AreOwned means lists s l → lists.member l' ≡ lists.member l → means.store.holds s1 ≡ means.store.holds s
      → ((k : ℕ) → means.store.holds s2 k ≡ cond (comes_for need (waits_with w (lists.waiting l) k)) (held_with (most_held k) need (means.store.holds s1 k)) (means.store.holds s1 k)) → AreOwned means lists s2 l'
  owned_held s s1 s2 l l' need w sound a member kept holds seat apart none =
      let nobody : lists.member l seat ≡ None = sym (ap (λ (m : ℕ → Option ForkName). m seat) member) ∙ none in
      let other : (seat == CONSOLE_HOLDER) ≡ false = grind (arith, nat_tests, apart) in
      holds seat
      ∙ ap (λ b. cond (comes_for need (cond b w (lists.waiting l seat))) (held_with (most_held seat) need (means.store.holds s1 seat)) (means.store.holds s1 seat)) other
      ∙ ap (λ o. cond (comes_for need o) (held_with (most_held seat) need (means.store.holds s1 seat)) (means.store.holds s1 seat)) (sound.members seat nobody)
      ∙ for_nobody need
      ∙ ap (λ (h : ℕ → List ℕ). h seat) kept ∙ a seat apart nobody
    where
      for_nobody : (n : Need) → cond (comes_for n None) (held_with (most_held seat) n (means.store.holds s1 seat)) (means.store.holds s1 seat) ≡ means.store.holds s1 seat
      for_nobody Frame = refl
      for_nobody (Page h) = refl

  -- something was told that had been taken from the queue
  pub awaited_told : (need : Need) (s s' : S) (waiting waiting' : ℕ → Option Need) → AreAwaited means waiting s → Tells means.store (Some need) s s' → ((k : ℕ) → waiting' k ≡ woken need (waiting k)) → AreAwaited means waiting' s'
  awaited_told need s s' waiting waiting' a t w = record {
    pages = λ k home is.
        let before = woken_page need (waiting k) home (sym (w k) ∙ is) in
        either (coming s home) (telling s home)
        (λ c. or_left (coming s' home) (telling s' home) (ap (list_any (arrives home.0)) t.queue ∙ c))
        (λ u. or_later (coming s' home) (telling s' home) (or_right (same_need (Page home) need) (telling s' home) before.1 (ap (list_any (same_need (Page home))) (sym t.untold) ∙ u)))
        (a.pages k home before.0);
    frames = λ k is empty untold. woken_frame need (waiting k) (sym (w k) ∙ is);
  }

  -- none was left to tell
  pub awaited_none : (s s' : S) (waiting : ℕ → Option Need) → AreAwaited means waiting s → Tells means.store None s s' → AreAwaited means waiting s'
  awaited_none s s' waiting a t = record {
    pages = λ k home is.
        either (coming s home) (telling s home)
        (λ c. or_left (coming s' home) (telling s' home) (ap (list_any (arrives home.0)) t.queue ∙ c))
        (λ u. absurd (none_of (same_need (Page home)) (means.store.untold s) t.untold u))
        (a.pages k home is);
    frames = λ k is empty none. a.frames k is (sym t.queue ∙ empty) t.untold;
  }

  -- transfers were taken from the queue
  pub awaited_lost : (s s' : S) (waiting : ℕ → Option Need) → AreAwaited means waiting s → means.store.untold s ≡ [] → Loses (traffic means.store s) (traffic means.store s') → AreAwaited means waiting s'
  awaited_lost s s' waiting a none lost = record {
    pages = λ k home is.
        either (coming s home) (telling s home)
        (λ c. ⊎_elim (or_left (coming s' home) (telling s' home)) (or_later (coming s' home) (telling s' home)) (still_comes (traffic means.store s) (traffic means.store s') lost home c))
        (λ u. absurd (none_of (same_need (Page home)) (means.store.untold s) none u))
        (a.pages k home is);
    frames = λ k is empty told. a.frames k is (none_lost (traffic means.store s) (traffic means.store s') lost empty told) none;
  }

  -- fewer seats wait
  pub awaited_fewer : (s : S) (waiting waiting' : ℕ → Option Need) → AreAwaited means waiting s → ((k : ℕ) (n : Need) → waiting' k ≡ Some n → waiting k ≡ Some n) → AreAwaited means waiting' s
  awaited_fewer s waiting waiting' a fewer = record {
    pages = λ k home is. a.pages k home (fewer k (Page home) is);
    frames = λ k is. a.frames k (fewer k Frame is);
  }

  -- nothing of the queue has changed, and the same seats wait
  pub awaited_same : (s s' : S) (waiting : ℕ → Option Need) → AreAwaited means waiting s → means.store.queue s' ≡ means.store.queue s → means.store.untold s' ≡ means.store.untold s → AreAwaited means waiting s'
  awaited_same s s' waiting a queue untold = record {
    pages = λ k home is.
        either (coming s home) (telling s home)
        (λ c. or_left (coming s' home) (telling s' home) (ap (list_any (arrives home.0)) queue ∙ c))
        (λ u. or_later (coming s' home) (telling s' home) (ap (list_any (same_need (Page home))) untold ∙ u))
        (a.pages k home is);
    frames = λ k is empty none. a.frames k is (sym queue ∙ empty) (sym untold ∙ none);
  }

  -- the oldest transfer has ended, and is told
  pub awaited_ended : (need : Need) (s s' : S) (waiting waiting' : ℕ → Option Need) → AreAwaited means waiting s → means.store.untold s ≡ [] → Ends means.store need s s' → ((k : ℕ) → waiting' k ≡ woken need (waiting k)) → AreAwaited means waiting' s'
  awaited_ended need s s' waiting waiting' a none e w = record {
    pages = λ k home is.
        let before = woken_page need (waiting k) home (sym (w k) ∙ is) in
        either (coming s home) (telling s home)
        (λ c. or_left (coming s' home) (telling s' home) (or_right (arrives home.0 e.transfer) (coming s' home) (other e.transfer home (ap (same_need (Page home)) (sym e.told) ∙ before.1)) (ap (list_any (arrives home.0)) (sym e.oldest) ∙ c)))
        (λ u. absurd (none_of (same_need (Page home)) (means.store.untold s) none u))
        (a.pages k home before.0);
    frames = λ k is empty untold. woken_frame need (waiting k) (sym (w k) ∙ is);
  }
    where
      other : (t : Transfer) (home : Home) → same_need (Page home) (need_of t) ≡ false → arrives home.0 t ≡ false
      other (arrival h) home is = is
      other (departure h) home is = refl

  -- nobody waits where nothing is queued and nothing is to be told
  pub nobody_waits : (s : S) (l : L) → AreStanding means lists s l → means.store.queue s ≡ [] → (k : ℕ) → lists.waiting l k ≡ None
  nobody_waits s l a empty k = by (lists.waiting l k) refl
    where
      by : (w : Option Need) → lists.waiting l k ≡ w → w ≡ None
      by None is = refl
      by (Some (Page home)) is = absurd (either (coming s home) (telling s home) (none_of (arrives home.0) (means.store.queue s) empty) (none_of (same_need (Page home)) (means.store.untold s) a.told) (a.awaited.pages k home is))
      by (Some Frame) is = absurd (a.awaited.frames k is empty a.told)

  module _ (s s' : S) (need : Need) (housed : IsHoused means.store s) (framed : means.store.flat ≡ false) (few : need ≡ Frame → means.store.spare s + length (means.store.holds s CONSOLE_HOLDER) < 32) (fetched : IsFetched means.store need s s') where
    abbrev met : Meeting
    met = meeting (means.store.queue s) (means.store.spare s) need

    joined : (n : Need) (h : ℕ) → meeting (means.store.queue s) (means.store.spare s) n ≡ joins h → list_any (arrives h) (means.store.queue s) ≡ true
    joined Frame h is = absurd (cc is)
    joined (Page x) h is = by (list_any (arrives x.0) (means.store.queue s)) (nat_lt 0 (means.store.spare s)) refl is
      where
        number : Meeting → ℕ
        number (joins k) = k
        number (begins k) = k
        number waits = 0

        by : (b c : Bool) → list_any (arrives x.0) (means.store.queue s) ≡ b → cond b (joins x.0) (cond c (begins x.0) waits) ≡ joins h → list_any (arrives h) (means.store.queue s) ≡ true
        by true c e f = subst (λ k. list_any (arrives k) (means.store.queue s) ≡ true) (ap number f) e
        by false true e f = absurd (cc f)
        by false false e f = absurd (cc f)

    -- what is waited for is on its way
    pub comes : (home : Home) → awaited met ≡ Page home → list_any (arrives home.0) (means.store.queue s') ≡ true
    comes home is = ap (list_any (arrives home.0)) fetched.queue ∙ list_any-append (arrives home.0) (means.store.queue s) (queued means.store s met) ∙ by met refl is
      where
        number : Need → ℕ
        number (Page k) = k.0
        number Frame = 0

        by : (m : Meeting) → met ≡ m → awaited m ≡ Page home → (list_any (arrives home.0) (means.store.queue s) || list_any (arrives home.0) (queued means.store s m)) ≡ true
        by (joins h) e f =
            or_left (list_any (arrives home.0) (means.store.queue s)) (list_any (arrives home.0) (queued means.store s (joins h))) (subst (λ k. list_any (arrives k) (means.store.queue s) ≡ true) (ap number f) (joined need h e))
        by (begins h) e f =
            let same : h ≡ home.0 = ap number f in
            let is_it : (home.0 == h) ≡ true = grind (arith, nat_tests, same) in
            or_later (list_any (arrives home.0) (means.store.queue s)) ((home.0 == h) || false) (or_left (home.0 == h) false is_it)
        by waits e f = absurd (cc f)

    -- few frames are free where somebody waits for one
    low : met ≡ waits → means.store.spare s + length (means.store.holds s CONSOLE_HOLDER) < 32
    low is = by need refl
      where
        by : (n : Need) → need ≡ n → means.store.spare s + length (means.store.holds s CONSOLE_HOLDER) < 32
        by Frame e = few e
        by (Page x) e = whether (list_any (arrives x.0) (means.store.queue s)) (nat_lt 0 (means.store.spare s)) refl (ap (meeting (means.store.queue s) (means.store.spare s)) (sym e) ∙ is)
          where
            whether : (b c : Bool) → nat_lt 0 (means.store.spare s) ≡ c → cond b (joins x.0) (cond c (begins x.0) waits) ≡ waits → means.store.spare s + length (means.store.holds s CONSOLE_HOLDER) < 32
            whether true c f g = absurd (cc g)
            whether false true f g = absurd (cc g)
            whether false false f g =
                let none : means.store.spare s ≡ 0 = grind (arith, nat_tests, f) in
                omega (arith, none, housed.sound.few_held CONSOLE_HOLDER)

    -- or something is queued
    pub moves_on : awaited met ≡ Frame → means.store.queue s' ≡ [] → ⊥
    moves_on is empty = by met refl is
      where
        both : means.store.queue s ++ queued means.store s met ≡ []
        both = sym fetched.queue ∙ empty

        first : (xs ys : List Transfer) → xs ++ ys ≡ [] → xs ≡ []
        first [] ys e = refl
        first (x ∷ xs) ys e = absurd (cc e)

        second : (xs ys : List Transfer) → xs ++ ys ≡ [] → ys ≡ []
        second [] ys e = e
        second (x ∷ xs) ys e = absurd (cc e)

        by_victim : (v : Option ℕ) → IsSome v → MatchOption v (AllStay means.store s) (IsNext means.store s) → departure_of means.store s v ≡ [] → ⊥
        by_victim None some next e = cc some
        by_victim (Some frame) some next e = cc (sym (ap (λ o. option_map_or (λ home. departure home ∷ []) o []) next.leaves.there) ∙ e)

        by : (m : Meeting) → met ≡ m → awaited m ≡ Frame → ⊥
        by (joins h) e f = cc f
        by (begins h) e f = cc f
        by waits e f =
            by_victim (means.store.victim s) (victim_there means.store s housed.sound framed (housed.many framed) (first (means.store.queue s) (queued means.store s met) both) (low e)) housed.sound.next
            (ap (queued means.store s) (sym e) ∙ second (means.store.queue s) (queued means.store s met) both)

  -- somebody waits for what was asked for
  pub awaited_begun : (s s1 s2 : S) (waiting waiting' : ℕ → Option Need) (seat : ℕ) (need : Need) (x : Task) → AreAwaited means waiting s → means.store.untold s ≡ [] → IsHoused means.store s1 → Needs means x s s1 need → (need ≡ Frame → means.store.spare s1 + length (means.store.holds s1 CONSOLE_HOLDER) < 32) → IsFetched means.store need s1 s2
      → waiting' seat ≡ Some (awaited (meeting (means.store.queue s1) (means.store.spare s1) need)) → ((k : ℕ) → k ≢ seat → waiting' k ≡ waiting k) → AreAwaited means waiting' s2
  awaited_begun s s1 s2 waiting waiting' seat need x a nothing housed needs few fetched own others = record {
    pages = λ k home e. page k home e (k == seat) refl;
    frames = λ k e empty none. frame k e empty (k == seat) refl;
  }
    where
      added : List Transfer
      added = queued means.store s1 (meeting (means.store.queue s1) (means.store.spare s1) need)

      queue_is : means.store.queue s2 ≡ means.store.queue s ++ queued means.store s1 (meeting (means.store.queue s1) (means.store.spare s1) need)
      queue_is = fetched.queue ∙ ap (λ q. q ++ queued means.store s1 (meeting (means.store.queue s1) (means.store.spare s1) need)) needs.stored.queued.queue

      first : (xs ys : List Transfer) → xs ++ ys ≡ [] → xs ≡ []
      first [] ys e = refl
      first (y ∷ xs) ys e = absurd (cc e)

      page : (k : ℕ) (home : Home) → waiting' k ≡ Some (Page home) → (b : Bool) → (k == seat) ≡ b → (coming s2 home || telling s2 home) ≡ true
      page k home e true t =
          let same : k ≡ seat = grind (arith, nat_tests, t) in
          or_left (coming s2 home) (telling s2 home)
          (comes s1 s2 need housed needs.frames few fetched home (need_is (awaited (meeting (means.store.queue s1) (means.store.spare s1) need)) (sym own ∙ ap waiting' (sym same) ∙ e)))
        where
          needed : Option Need → Need
          needed (Some n) = n
          needed None = Frame

          need_is : (n : Need) → Some n ≡ Some (Page home) → n ≡ Page home
          need_is n f = ap needed f
      page k home e false t =
          let apart : k ≢ seat = grind (arith, nat_tests, t) in
          either (coming s home) (telling s home)
          (λ c. or_left (coming s2 home) (telling s2 home) (ap (list_any (arrives home.0)) queue_is ∙ list_any-append (arrives home.0) (means.store.queue s) (queued means.store s1 (meeting (means.store.queue s1) (means.store.spare s1) need)) ∙ or_left (coming s home) (list_any (arrives home.0) (queued means.store s1 (meeting (means.store.queue s1) (means.store.spare s1) need))) c))
          (λ u. absurd (none_of (same_need (Page home)) (means.store.untold s) nothing u))
          (a.pages k home (sym (others k apart) ∙ e))

      frame : (k : ℕ) → waiting' k ≡ Some Frame → means.store.queue s2 ≡ [] → (b : Bool) → (k == seat) ≡ b → ⊥
      frame k e empty true t =
          let same : k ≡ seat = grind (arith, nat_tests, t) in
          moves_on s1 s2 need housed needs.frames few fetched (need_is (awaited (meeting (means.store.queue s1) (means.store.spare s1) need)) (sym own ∙ ap waiting' (sym same) ∙ e)) empty
        where
          needed : Option Need → Need
          needed (Some n) = n
          needed None = Page (record { 0 = 0 })

          need_is : (n : Need) → Some n ≡ Some Frame → n ≡ Frame
          need_is n f = ap needed f
      frame k e empty false t =
          let apart : k ≢ seat = grind (arith, nat_tests, t) in
          a.frames k (sym (others k apart) ∙ e) (first (means.store.queue s) (queued means.store s1 (meeting (means.store.queue s1) (means.store.spare s1) need)) (sym queue_is ∙ empty)) nothing

  pub standing_begun : (s s1 s2 : S) (l l' : L) (head : Head) (need : Need) (x : Task) → AreStanding means lists s l → IsHoused means.store s1 → Needs means x s s1 need → (need ≡ Frame → means.store.spare s1 + length (means.store.holds s1 CONSOLE_HOLDER) < 32)
      → IsFetched means.store need s1 s2 → Waits lists head (awaited (meeting (means.store.queue s1) (means.store.spare s1) need)) l l' → AreStanding means lists s2 l'
  standing_begun s s1 s2 l l' head need x a housed needs few fetched w = record {
    awaited = awaited_begun s s1 s2 (lists.waiting l) (lists.waiting l') head.seat need x a.awaited a.told housed needs few fetched w.own w.others;
    told = fetched.untold ∙ needs.stored.queued.untold ∙ a.told;
    members = subst (λ n. n ≤ means.store.members s2) (sym w.seated.set) (subst (λ n. lists.set l ≤ n) (sym (fetched.members ∙ needs.stored.members)) a.members);
    owned = owned_same s s2 l l' a.owned w.seated.member (fetched.holds ∙ needs.stored.holds);
  }

  -- more is queued
  pub awaited_grown : (s s2 : S) (waiting : ℕ → Option Need) (added : List Transfer) → AreAwaited means waiting s → means.store.untold s ≡ [] → means.store.queue s2 ≡ means.store.queue s ++ added → AreAwaited means waiting s2
  awaited_grown s s2 waiting added a nothing queue_is = record {
    pages = λ k home e.
        either (coming s home) (telling s home)
        (λ c. or_left (coming s2 home) (telling s2 home) (ap (list_any (arrives home.0)) queue_is ∙ list_any-append (arrives home.0) (means.store.queue s) added ∙ or_left (coming s home) (list_any (arrives home.0) added) c))
        (λ u. absurd (none_of (same_need (Page home)) (means.store.untold s) nothing u))
        (a.pages k home e);
    frames = λ k e empty none. a.frames k e (first (means.store.queue s) added (sym queue_is ∙ empty)) nothing;
  }
    where
      first : (xs ys : List Transfer) → xs ++ ys ≡ [] → xs ≡ []
      first [] ys e = refl
      first (y ∷ xs) ys e = absurd (cc e)

  -- the console waits for what was asked for: the forks stand as they did
  pub standing_asked : (s s1 s2 : S) (l : L) (need : Need) (x : Task) → AreStanding means lists s l → Needs means x s s1 need → IsFetched means.store need s1 s2 → AreStanding means lists s2 l
  standing_asked s s1 s2 l need x a needs fetched = record {
    awaited = awaited_grown s s2 (lists.waiting l) (queued means.store s1 (meeting (means.store.queue s1) (means.store.spare s1) need)) a.awaited a.told
        (fetched.queue ∙ ap (λ q. q ++ queued means.store s1 (meeting (means.store.queue s1) (means.store.spare s1) need)) needs.stored.queued.queue);
    told = fetched.untold ∙ needs.stored.queued.untold ∙ a.told;
    members = subst (λ n. lists.set l ≤ n) (sym (fetched.members ∙ needs.stored.members)) a.members;
    owned = owned_same s s2 l l a.owned refl (fetched.holds ∙ needs.stored.holds);
  }

  -- the console waits for nothing
  pub awaited_alone : (s : S) (waiting : ℕ → Option Need) → AreAwaited means waiting s → AreAwaited means (waits_with None waiting) s
  awaited_alone s waiting a = record {
    pages = λ k home e. a.pages k home (back k (Page home) (k == CONSOLE_HOLDER) e);
    frames = λ k e. a.frames k (back k Frame (k == CONSOLE_HOLDER) e);
  }
    where
      back : (k : ℕ) (n : Need) (b : Bool) → cond b None (waiting k) ≡ Some n → waiting k ≡ Some n
      back k n true e = absurd (cc e)
      back k n false e = e

  pub awaited_asked : (s s1 s2 : S) (l : L) (need : Need) (x : Task) → AreStanding means lists s l → IsHoused means.store s1 → Needs means x s s1 need → (need ≡ Frame → means.store.spare s1 + length (means.store.holds s1 CONSOLE_HOLDER) < 32) → IsFetched means.store need s1 s2
      → AreAwaited means (waits_with (Some (awaited (meeting (means.store.queue s1) (means.store.spare s1) need))) (lists.waiting l)) s2
  awaited_asked s s1 s2 l need x a housed needs few fetched =
      awaited_begun s s1 s2 (waits_with None (lists.waiting l)) (waits_with (Some (awaited (meeting (means.store.queue s1) (means.store.spare s1) need))) (lists.waiting l)) CONSOLE_HOLDER need x (awaited_alone s (lists.waiting l) a.awaited) a.told housed needs few fetched refl
      (λ k apart. same k apart (k == CONSOLE_HOLDER) refl)
    where
      same : (k : ℕ) → k ≢ CONSOLE_HOLDER → (b : Bool) → (k == CONSOLE_HOLDER) ≡ b → cond b (Some (awaited (meeting (means.store.queue s1) (means.store.spare s1) need))) (lists.waiting l k) ≡ cond b None (lists.waiting l k)
      same k apart true e = absurd (apart (grind (arith, nat_tests, e)))
      same k apart false e = refl

  -- what a transfer tells wakes the console with the seats
  pub woken_with : (done : Need) (w : Option Need) (waiting waiting' : ℕ → Option Need) → ((k : ℕ) → waiting' k ≡ woken done (waiting k)) → (k : ℕ) → waits_with (woken done w) waiting' k ≡ woken done (waits_with w waiting k)
  woken_with done w waiting waiting' wakes k = by (k == CONSOLE_HOLDER)
    where
      by : (b : Bool) → cond b (woken done w) (waiting' k) ≡ woken done (cond b w (waiting k))
      by true = refl
      by false = wakes k

  -- a wait of the console that nothing answers can't be, where nothing is queued
  pub asked_in_vain : (s : S) (l : L) (n : Need) → AreStanding means lists s l → AreAwaited means (waits_with (Some n) (lists.waiting l)) s → means.store.queue s ≡ [] → ⊥
  asked_in_vain s l Frame a with_it empty = with_it.frames CONSOLE_HOLDER refl empty a.told
  asked_in_vain s l (Page home) a with_it empty =
      either (coming s home) (telling s home) (none_of (arrives home.0) (means.store.queue s) empty) (none_of (same_need (Page home)) (means.store.untold s) a.told) (with_it.pages CONSOLE_HOLDER home refl)

  -- the oldest transfer has ended, who waits for its page holds it, and it is told
  pub standing_ended : (s s1 s2 : S) (l l' : L) (need : Need) (console : Option Need) → AreLists lists l → AreStanding means lists s l → Ends means.store need s s1 → StaysThere means.store s1 s2 → StaysQueued means.store s1 s2 → Wakes lists need l l'
      → ((k : ℕ) → means.store.holds s2 k ≡ cond (comes_for need (waits_with console (lists.waiting l) k)) (held_with (most_held k) need (means.store.holds s1 k)) (means.store.holds s1 k)) → AreStanding means lists s2 l'
  standing_ended s s1 s2 l l' need console sound a e there kept w holds = record {
    awaited = awaited_same s1 s2 (lists.waiting l') (awaited_ended need s s1 (lists.waiting l) (lists.waiting l') a.awaited a.told e w.waiting) kept.queue kept.untold;
    told = kept.untold ∙ e.untold ∙ a.told;
    members = subst (λ n. n ≤ means.store.members s2) (sym w.seated.set) (subst (λ n. lists.set l ≤ n) (sym (there.framed.members ∙ e.members)) a.members);
    owned = owned_held s s1 s2 l l' need console sound a.owned w.seated.member e.holds holds;
  }

  -- a page begins to leave its frame, if it may
  pub standing_evicted : (frame : ℕ) (s s' : S) (l : L) → AreStanding means lists s l → Evicts means.store frame s s' → AreStanding means lists s' l
  standing_evicted frame s s' l a e = record {
    awaited = record {
      pages = λ k home is.
          either (coming s home) (telling s home)
          (λ c. or_left (coming s' home) (telling s' home) (still home c (coming s' home) refl))
          (λ u. absurd (none_of (same_need (Page home)) (means.store.untold s) a.told u))
          (a.awaited.pages k home is);
      frames = λ k is empty none. a.awaited.frames k is (sym (e.none (stays empty)) ∙ empty) a.told;
    };
    told = e.untold ∙ a.told;
    members = subst (λ n. lists.set l ≤ n) (sym e.stays.framed.members) a.members;
    owned = owned_same s s' l l a.owned refl e.holds;
  }
    where
      more : (xs : List Transfer) (t : Transfer) → xs ++ (t ∷ []) ≡ [] → ⊥
      more [] t is = cc is
      more (x ∷ xs) t is = cc is

      stays : means.store.queue s' ≡ [] → (home : ℕ) → CanLeave means.store s frame home → ⊥
      stays empty home can = more (means.store.queue s) (departure home) (sym (e.leaves home can) ∙ empty)

      still : (home : Home) → coming s home ≡ true → (b : Bool) → coming s' home ≡ b → b ≡ true
      still home c true is = refl
      still home c false is =
          let nobody : (h : ℕ) → CanLeave means.store s frame h → ⊥ = λ h can. cc (sym is ∙ ap (list_any (arrives home.0)) (e.leaves h can) ∙ list_any-append (arrives home.0) (means.store.queue s) (departure h ∷ []) ∙ or_left (coming s home) (list_any (arrives home.0) (departure h ∷ [])) c) in
          sym is ∙ ap (list_any (arrives home.0)) (e.none nobody) ∙ c

  -- nothing is held for a holder any more
  pub standing_released : (holder : ℕ) (s s' : S) (l : L) → AreStanding means lists s l → LetsGo means.store holder s s' → AreStanding means lists s' l
  standing_released holder s s' l a e = record {
    awaited = awaited_same s s' (lists.waiting l) a.awaited e.queued.queue e.queued.untold;
    told = e.queued.untold ∙ a.told;
    members = subst (λ n. lists.set l ≤ n) (sym e.stays.framed.members) a.members;
    owned = owned_less s s' l l a.owned refl (λ seat apart none. ap (λ (h : ℕ → List ℕ). h seat) e.holds ∙ let_go seat (seat == holder) none);
  }
    where
      let_go : (seat : ℕ) (b : Bool) → means.store.holds s seat ≡ [] → cond b [] (means.store.holds s seat) ≡ []
      let_go seat true none = refl
      let_go seat false none = none

  -- where nothing of the store has changed, so it stands
  pub standing_stored : (s s' : S) (l : L) → AreStanding means lists s l → StaysStored means.store s s' → AreStanding means lists s' l
  standing_stored s s' l a stays = record {
    awaited = awaited_same s s' (lists.waiting l) a.awaited stays.queued.queue stays.queued.untold;
    told = stays.queued.untold ∙ a.told;
    members = subst (λ n. lists.set l ≤ n) (sym stays.there.framed.members) a.members;
    owned = owned_same s s' l l a.owned refl stays.holds;
  }
