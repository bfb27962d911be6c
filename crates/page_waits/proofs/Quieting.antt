-- Plans and transfers leave the plain state, and less to do.
use Rattle.std.proofs.Common.{◌≡◌, ◌≢◌, ℕ, zero, suc, ◌+◌, ◌-◌, ◌<◌, ◌≤◌, List, [], ◌∷◌, ◌++◌, length, Bool, true, false, not, ◌&&◌, ◌||◌, cond, Option, None, Some, refl, sym, ◌∙◌, ap, subst, arith}
use Rattle.std.specs.Prelude.{◌==◌, nat_lt, Contains, replicate}
use Rattle.std.specs.List.{list_any}
use Rattle.std.specs.Option.{option_map_or}
use Rattle.std.proofs.lemmas.Bool.Decides.{nat_tests}
use Rattle.page_homes.specs.declared.homes.Home.{Home}
use Rattle.machine_names.specs.declared.names.ForkName.{ForkName}
use Rattle.page_contracts.specs.declared.answers.Need.{Need}
use Rattle.page_contracts.specs.declared.answers.Need.TheVariants.{Page, Frame}
use Rattle.script_texts.specs.declared.event.Step.TheVariants.{Idle as AnIdle}
use Rattle.event_deeds.specs.Deeds.{Task, deed_of, unit_of}
use Rattle.event_deeds.specs.declared.deed.Deed.{Deed}
use Rattle.plain_model.specs.Forks.{IsRunnable, runs_in}
use Rattle.page_contracts.specs.DrumWords.{DrumWords}
use Rattle.plain_model.specs.Run.{AreLegal, apply, items_of, state_after}
use Rattle.plain_model.specs.State.{PlainState}
use Rattle.plain_model.specs.Trees.{PlainTree}
use Rattle.page_contracts.specs.Stores.{place, is_here, Transfer, arrival, departure, home_of, is_arrival, arrives, need_of, Meeting, joins, begins, waits, meeting, awaited, queued, departure_of, IsFetched, Ends, StaysQueued, StaysThere, most_held}
use Rattle.page_waits.specs.declared.head.Head.{Head}
use Rattle.step_shown.specs.declared.progress.Progress.{Progress}
use Rattle.page_waits.specs.Systems.{SystemMeaning, IsHoused, StaysTold, StaysState, StaysOver, Needs, most_wanted, row_of}
use Rattle.page_waits.specs.Waits.{ListsMeaning, IsHead, AreLists, Waits, Wakes, awaits, woken, waits_with}
use Rattle.page_waits.specs.Holding.{held_more, held_with, comes_for}
use Rattle.page_contracts.specs.declared.store.TheConstants.{CONSOLE_HOLDER, MOST_HOLDERS}
use Rattle.page_contracts.proofs.Sharing.{queue_homes}
use Rattle.page_waits.specs.Seats.{has}
use Rattle.page_waits.specs.Left.{left, lone}
use Rattle.page_waits.specs.Acts.{work, told_work, told_for, wanted_by, wanted_for, wants_with, judged_by, Spent, Still, Quiet, Ran, RanOver, IdledOver}
use Rattle.std.proofs.lemmas.Map.Views.{Contains-from_any}
use Rattle.page_waits.proofs.Oldest.{was, alone}
use Rattle.page_waits.proofs.Awaiting.{woken_with}
use Rattle.page_waits.proofs.Staying.{told_nil, told_then, same_then}
use Rattle.page_waits.proofs.Ending.{ended_less}
use Rattle.page_waits.proofs.Beginning.{begun_no_more, lone_awaited, lone_departure, left_most}

-- idle entries leave the state as it is, so that all of them are legal where one is
idle_legal : (judged : Bool) (s : PlainState) → (judged ≡ true → (f : ForkName) → IsRunnable s.forks f → ⊥) → (count : ℕ) → AreLegal judged s (replicate count AnIdle)
unfolding apply
idle_legal judged s none zero = tt
idle_legal judged s none (suc n) = (none, idle_legal judged s none n)

module _ {S L : Type 0} (means : SystemMeaning S) (lists : ListsMeaning L) where
  pub still_nil : (x : Option Deed) (w : Option Need) (s : S) (l : L) → Still means lists x w w s s l l
  still_nil x w s l = record { told = told_nil means s; set = refl; each = λ d f. (record { fits = f; plain = refl; wants = refl }, omega arith) }

  pub still_then : (x : Option Deed) (w0 w1 w2 : Option Need) (s0 s1 s2 : S) (l0 l1 l2 : L) → Still means lists x w0 w1 s0 s1 l0 l1 → Still means lists x w1 w2 s1 s2 l1 l2 → Still means lists x w0 w2 s0 s2 l0 l2
  still_then x0 w0 w1 w2 s0 s1 s2 l0 l1 l2 f g = record {
    told = told_then means s0 s1 s2 f.told g.told;
    set = g.set ∙ f.set;
    each = λ d fits.
        let x = f.each d fits in
        let y = g.each d x.0.fits in
        (same_then means s0 s1 s2 d d d x.0 y.0, omega (arith, x.1, y.1));
  }

  -- units behind plans that left the plain state
  pub ran_still : (f : ForkName) (done : Progress) (s0 s1 s2 : S) (l0 l1 : L) → Still means lists None None None s0 s1 l0 l1 → Ran means lists f done s1 s2 → Ran means lists f done s0 s2
  ran_still f done s0 s1 s2 l0 l1 still ran = record {
    named = ran.named;
    shown = ran.shown;
    limit = ran.limit ∙ still.told.limit;
    within = λ n w. ran.within n (still.told.within n w);
    each = λ d fits.
        let x = (still.each d fits).0 in
        let y = ran.each d x.fits in
        let same : means.plain s1 d ≡ means.plain s0 d = x.plain in (
          y.0,
          subst (λ p. AreLegal true p (row_of f done.count)) same y.1,
          y.2 ∙ ap (λ p. state_after p (row_of f done.count)) same,
          y.3 ∙ ap (λ p. items_of p (row_of f done.count)) same,
          y.4,
        );
    runs = λ d fits k small g.
        let x = (still.each d fits).0 in
        ap (λ p. runs_in (state_after p (row_of f k)).forks g) (sym x.plain) ∙ ran.runs d x.fits k small g ∙ ap (λ (t : PlainTree). runs_in t.forks g) still.told.tree;
  }

  module _ {D : Type 0} (held : D → Option DrumWords) where
    pub quiet_nil : (x : Option Deed) (w : Option Need) (s : S) (l : L) (drum : D) → Quiet means lists held x w w 0 s s l l drum drum
    quiet_nil x w s l drum = record { told = told_nil means s; set = refl; each = λ d st f. (d, st, record { fits = f; plain = refl; wants = refl }, omega arith) }

    -- less than so much less is left
    pub quiet_less : (x : Option Deed) (w w' : Option Need) (j k : ℕ) (s0 s1 : S) (l0 l1 : L) (d0 d1 : D) → k ≤ j → Quiet means lists held x w w' j s0 s1 l0 l1 d0 d1 → Quiet means lists held x w w' k s0 s1 l0 l1 d0 d1
    quiet_less x w w' j k s0 s1 l0 l1 d0 d1 low f = record { told = f.told; set = f.set; each = λ d st fits. let y = f.each d st fits in (y.0, y.1, y.2, omega (arith, y.3, low)) }

    pub quiet_then : (x : Option Deed) (w0 w1 w2 : Option Need) (j k : ℕ) (s0 s1 s2 : S) (l0 l1 l2 : L) (d0 d1 d2 : D) → Quiet means lists held x w0 w1 j s0 s1 l0 l1 d0 d1 → Quiet means lists held x w1 w2 k s1 s2 l1 l2 d1 d2 → Quiet means lists held x w0 w2 (j + k) s0 s2 l0 l2 d0 d2
    quiet_then x0 w0 w1 w2 j k s0 s1 s2 l0 l1 l2 d0 d1 d2 f g = record {
      told = told_then means s0 s1 s2 f.told g.told;
      set = g.set ∙ f.set;
      each = λ d st fits.
          let x = f.each d st fits in
          let y = g.each x.0 x.1 x.2.fits in
          (y.0, y.1, same_then means s0 s1 s2 d x.0 y.0 x.2 y.2, omega (arith, x.3, y.3));
    }

    pub quiet_still : (x : Option Deed) (w0 w1 w2 : Option Need) (j : ℕ) (s0 s1 s2 : S) (l0 l1 l2 : L) (d0 d1 : D) → Quiet means lists held x w0 w1 j s0 s1 l0 l1 d0 d1 → Still means lists x w1 w2 s1 s2 l1 l2 → Quiet means lists held x w0 w2 j s0 s2 l0 l2 d0 d1
    quiet_still x0 w0 w1 w2 j s0 s1 s2 l0 l1 l2 d0 d1 f g = record {
      told = told_then means s0 s1 s2 f.told g.told;
      set = g.set ∙ f.set;
      each = λ d st fits.
          let x = f.each d st fits in
          let y = g.each x.0 x.2.fits in
          (x.0, x.1, same_then means s0 s1 s2 d x.0 x.0 x.2 y.0, omega (arith, x.3, y.1));
    }

    -- units behind transfers
    pub ran_quiet : (f : ForkName) (done : Progress) (j : ℕ) (s0 s1 s2 : S) (l0 l1 : L) (d0 d1 : D) → Quiet means lists held None None None j s0 s1 l0 l1 d0 d1 → Ran means lists f done s1 s2 → RanOver means lists held f done s0 s2 d0 d1
    ran_quiet f done j s0 s1 s2 l0 l1 d0 d1 quiet ran = record {
      named = ran.named;
      shown = ran.shown;
      within = λ n w. ran.within n (quiet.told.within n w);
      each = λ d st fits.
          let x = quiet.each d st fits in
          let y = ran.each x.0 x.2.fits in
          let same : means.plain s1 x.0 ≡ means.plain s0 d = x.2.plain in (
            x.0,
            x.1,
            y.0,
            subst (λ p. AreLegal true p (row_of f done.count)) same y.1,
            y.2 ∙ ap (λ p. state_after p (row_of f done.count)) same,
            y.3 ∙ ap (λ p. items_of p (row_of f done.count)) same,
            y.4,
          );
      runs = λ d st fits k small g.
          let x = quiet.each d st fits in
          ap (λ p. runs_in (state_after p (row_of f k)).forks g) (sym x.2.plain) ∙ ran.runs x.0 x.2.fits k small g ∙ ap (λ (t : PlainTree). runs_in t.forks g) quiet.told.tree;
    }

    -- no unit can be done, and nobody can run
    pub idled : (auto : Bool) (count j : ℕ) (s0 s1 : S) (l0 l1 : L) (d0 d1 : D) → Quiet means lists held None None None j s0 s1 l0 l1 d0 d1
        → ((d : DrumWords) → means.fits s1 d → (means.plain s1 d).forks ≡ (means.tree s1).forks)
        → (judged_by means.store.flat auto ≡ true → (f : ForkName) → IsRunnable (means.tree s1).forks f → ⊥) → IdledOver means lists held auto count s0 s1 d0 d1
    idled auto count j s0 s1 l0 l1 d0 d1 quiet forked none = record {
      tree = quiet.told.tree;
      within = quiet.told.within;
      each = λ d st fits.
          let x = quiet.each d st fits in (
            x.0,
            x.1,
            x.2.fits,
            x.2.plain,
            idle_legal (judged_by means.store.flat auto) (means.plain s0 d) (λ judged f r. none judged f (subst (λ fs. IsRunnable fs f) (ap (λ p. p.forks) (sym x.2.plain) ∙ forked x.0 x.2.fits) r)) count,
          );
    }

    -- so many transfers never end, over what a drum tells
    pub spent : (x : Option Deed) (w w' : Option Need) (s0 s1 : S) (l0 l1 : L) (d0 d1 : D) → Quiet means lists held x w w' 4294967296 s0 s1 l0 l1 d0 d1 → IsHoused means.store s0 → Spent means lists held s0 d0
    spent x w w' s0 s1 l0 l1 d0 d1 quiet housed = record {
      never = λ d st fits.
          omega (
            arith,
            (quiet.each d st fits).3,
            left_most MOST_HOLDERS (wants_with (means.wants s0 d) x (lists.member l0)) (waits_with w (lists.waiting l0)) (means.store.holds s0) (means.store.homes s0) (means.store.queue s0) (omega arith) housed.sound.few (queue_homes means.store s0 housed.sound),
          );
    }

    pub never : (auto : Bool) (count : ℕ) (s0 s1 : S) (l0 l1 : L) (d0 d1 : D) → Quiet means lists held None None None 4294967296 s0 s1 l0 l1 d0 d1 → IsHoused means.store s0 → IdledOver means lists held auto count s0 s1 d0 d1
    never auto count s0 s1 l0 l1 d0 d1 quiet housed = record { tree = quiet.told.tree; within = quiet.told.within; each = λ d st fits. absurd ((spent None None None s0 s1 l0 l1 d0 d1 quiet housed).never d st fits) }

  -- no unit can be done, and no transfer may end any more: AUTO is off, or none is queued
  module _ {D : Type 0} (held : D → Option DrumWords) (s0 s1 : S) (l0 l1 : L) (d0 d1 : D) (nobody : means.store.queue s1 ≡ [] → (f : ForkName) → IsRunnable (means.tree s1).forks f → ⊥)
      (housed : IsHoused means.store s1) (forked : (d : DrumWords) → means.fits s1 d → (means.plain s1 d).forks ≡ (means.tree s1).forks) where
    flat_of : (flat : Bool) → judged_by flat false ≡ true → flat ≡ true
    flat_of true e = refl
    flat_of false e = e

    pub idle_spent : (auto : Bool) (count left : ℕ) → (not auto || (left == 0)) ≡ true → Quiet means lists held None None None (4294967296 - left) s0 s1 l0 l1 d0 d1 → IsHoused means.store s0 → IdledOver means lists held auto count s0 s1 d0 d1
    idle_spent false count left is quiet at_first =
        idled held false count (4294967296 - left) s0 s1 l0 l1 d0 d1 quiet forked (λ judged. nobody (housed.sound.still (flat_of means.store.flat judged)))
    idle_spent true count left is quiet at_first =
        let zero_left : left ≡ 0 = grind (arith, nat_tests, is) in
        never held true count s0 s1 l0 l1 d0 d1 (subst (λ n. Quiet means lists held None None None (4294967296 - n) s0 s1 l0 l1 d0 d1) zero_left quiet) at_first

    pub idle_quiet : (auto : Bool) (count j : ℕ) → means.store.queue s1 ≡ [] → Quiet means lists held None None None j s0 s1 l0 l1 d0 d1 → IdledOver means lists held auto count s0 s1 d0 d1
    idle_quiet auto count j empty quiet = idled held auto count j s0 s1 l0 l1 d0 d1 quiet forked (λ judged. nobody empty)

  -- SOMEBODY NEEDS SOMETHING FIRST, and waits for it
  module _ (s s1 s2 : S) (need : Need) (x : Task) (needs : Needs means x s s1 need) (fetched : IsFetched means.store need s1 s2) (state : StaysState means s1 s2) where
    abbrev met : Meeting
    met = meeting (means.store.queue s1) (means.store.spare s1) need

    abbrev added : List Transfer
    added = queued means.store s1 met

    -- who waits for a page needs it
    awaited_is : (n : Need) (home : Home) → awaited (meeting (means.store.queue s1) (means.store.spare s1) n) ≡ Page home → n ≡ Page home
    awaited_is Frame home e = absurd (cc e)
    awaited_is (Page y) home e = by (list_any (arrives y.0) (means.store.queue s1)) (nat_lt 0 (means.store.spare s1)) e
      where
        by : (b c : Bool) → awaited (cond b (joins y.0) (cond c (begins y.0) waits)) ≡ Page home → Page y ≡ Page home
        by true c f = f
        by false true f = f
        by false false f = absurd (cc f)

    -- what is queued comes for somebody
    nobody : (waiting' : ℕ → Option Need) (seat : ℕ) → seat < MOST_HOLDERS → waiting' seat ≡ Some (awaited met) → lone MOST_HOLDERS waiting' added ≡ 0
    nobody waiting' seat below own = by met refl
      where
        leaves : (v : Option ℕ) → lone MOST_HOLDERS waiting' (departure_of means.store s1 v) ≡ 0
        leaves None = refl
        leaves (Some frame) = one (means.store.tenant s1 frame)
          where
            one : (o : Option ℕ) → lone MOST_HOLDERS waiting' (option_map_or (λ home. departure home ∷ []) o []) ≡ 0
            one None = refl
            one (Some home) = lone_departure MOST_HOLDERS waiting' home

        by : (m : Meeting) → met ≡ m → lone MOST_HOLDERS waiting' (queued means.store s1 m) ≡ 0
        by (joins h) e = refl
        by (begins h) e =
            let itself : (h == h) ≡ true = grind (arith, nat_tests) in
            lone_awaited MOST_HOLDERS waiting' h seat below (ap (awaits h) (own ∙ ap (λ m. Some (awaited m)) e) ∙ itself)
        by waits e = leaves (means.store.victim s1)

    no_more : (d : DrumWords) → means.fits s d → (wanted : ℕ → List ℕ) (waiting waiting' : ℕ → Option Need) (seat : ℕ) → seat < MOST_HOLDERS → waiting' seat ≡ Some (awaited met) → ((k : ℕ) → k ≢ seat → waiting' k ≡ waiting k) → waiting seat ≡ None → wanted seat ≡ means.wants s d x
        → left MOST_HOLDERS wanted waiting' (means.store.holds s) (means.store.homes s) (means.store.queue s ++ added) ≤ left MOST_HOLDERS wanted waiting (means.store.holds s) (means.store.homes s) (means.store.queue s)
    no_more d fits wanted waiting waiting' seat below own others woke mine =
        begun_no_more MOST_HOLDERS wanted waiting waiting' (means.store.holds s) (means.store.homes s) (means.store.queue s) added seat (awaited met) own others woke
        (λ home e. subst (λ ws. has home.0 ws ≡ true) (sym mine) (needs.wanted d home fits (awaited_is need home e)))
        (nobody waiting' seat below own)

    -- so by the tables alone
    pub told_asked : (l : L) (e : Deed) → ((home : Home) → need ≡ Page home → has home.0 (means.told s e) ≡ true) → told_work means lists e (Some (awaited met)) s2 l ≤ told_work means lists e None s l
    told_asked l e fresh =
        let told = told_then means s s1 s2 needs.state.told state.told in
        let same : told_work means lists e (Some (awaited met)) s2 l ≡ left MOST_HOLDERS (told_for (means.told s) e) (waits_with (Some (awaited met)) (lists.waiting l)) (means.store.holds s) (means.store.homes s) (means.store.queue s ++ added) =
        λ i. left MOST_HOLDERS (told_for (told.wants i) e) (waits_with (Some (awaited met)) (lists.waiting l)) ((fetched.holds ∙ needs.stored.holds) i) ((fetched.homes ∙ needs.stored.homes) i)
        ((fetched.queue ∙ ap (λ q. q ++ added) needs.stored.queued.queue) i) in
        subst (λ n. n ≤ told_work means lists e None s l) (sym same)
        (begun_no_more MOST_HOLDERS (told_for (means.told s) e) (waits_with None (lists.waiting l)) (waits_with (Some (awaited met)) (lists.waiting l)) (means.store.holds s) (means.store.homes s) (means.store.queue s) added CONSOLE_HOLDER (awaited met) refl
        (λ k apart. other k apart (k == CONSOLE_HOLDER) refl) refl (λ home is. fresh home (awaited_is need home is)) (nobody (waits_with (Some (awaited met)) (lists.waiting l)) CONSOLE_HOLDER (omega arith) refl))
      where
        other : (k : ℕ) → k ≢ CONSOLE_HOLDER → (c : Bool) → (k == CONSOLE_HOLDER) ≡ c → cond c (Some (awaited met)) (lists.waiting l k) ≡ cond c None (lists.waiting l k)
        other k apart true t = absurd (apart (grind (arith, nat_tests, t)))
        other k apart false t = refl

    -- the event at hand waits
    pub still_asked : (l : L) (e : Deed) → x ≡ deed_of e → Still means lists (Some e) None (Some (awaited met)) s s2 l l
    still_asked l e is = record {
      told = told_then means s s1 s2 needs.state.told state.told;
      set = refl;
      each = λ d fits.
          let a = needs.state.each d fits in
          let b = state.each d a.fits in
          let same : work means lists (Some e) (Some (awaited met)) s2 l d ≡ left MOST_HOLDERS (wants_with (means.wants s d) (Some e) (lists.member l)) (waits_with (Some (awaited met)) (lists.waiting l)) (means.store.holds s) (means.store.homes s) (means.store.queue s ++ added) =
          λ i. left MOST_HOLDERS (wants_with ((b.wants ∙ a.wants) i) (Some e) (lists.member l)) (waits_with (Some (awaited met)) (lists.waiting l)) ((fetched.holds ∙ needs.stored.holds) i) ((fetched.homes ∙ needs.stored.homes) i)
          ((fetched.queue ∙ ap (λ q. q ++ added) needs.stored.queued.queue) i) in (
            same_then means s s1 s2 d d d a b,
            subst (λ n. n ≤ work means lists (Some e) None s l d) (sym same)
                (no_more d fits (wants_with (means.wants s d) (Some e) (lists.member l)) (waits_with None (lists.waiting l)) (waits_with (Some (awaited met)) (lists.waiting l)) CONSOLE_HOLDER (omega arith) refl
                (λ k apart. other k apart (k == CONSOLE_HOLDER) refl) refl (ap (means.wants s d) (sym is))),
          );
    }
      where
        other : (k : ℕ) → k ≢ CONSOLE_HOLDER → (c : Bool) → (k == CONSOLE_HOLDER) ≡ c → cond c (Some (awaited met)) (lists.waiting l k) ≡ cond c None (lists.waiting l k)
        other k apart true t = absurd (apart (grind (arith, nat_tests, t)))
        other k apart false t = refl

    -- the first fork that is ready waits
    pub still_begun : (l l' : L) (head : Head) → x ≡ unit_of head.fork → IsHead lists l head → AreLists lists l → Waits lists head (awaited met) l l' → Still means lists None None None s s2 l l'
    still_begun l l' head is first sound w = record {
      told = told_then means s s1 s2 needs.state.told state.told;
      set = w.seated.set;
      each = λ d fits.
          let a = needs.state.each d fits in
          let b = state.each d a.fits in
          let same : work means lists None None s2 l' d ≡ left MOST_HOLDERS (wants_with (means.wants s d) None (lists.member l)) (waits_with None (lists.waiting l')) (means.store.holds s) (means.store.homes s) (means.store.queue s ++ added) =
          λ i. left MOST_HOLDERS (wants_with ((b.wants ∙ a.wants) i) None (w.seated.member i)) (waits_with None (lists.waiting l')) ((fetched.holds ∙ needs.stored.holds) i) ((fetched.homes ∙ needs.stored.homes) i)
          ((fetched.queue ∙ ap (λ q. q ++ added) needs.stored.queued.queue) i) in (
            same_then means s s1 s2 d d d a b,
            subst (λ n. n ≤ work means lists None None s l d) (sym same)
                (no_more d fits (wants_with (means.wants s d) None (lists.member l)) (waits_with None (lists.waiting l)) (waits_with None (lists.waiting l')) head.seat (omega (arith, first.seat, sound.few))
                (ap (λ c. cond c None (lists.waiting l' head.seat)) no_console ∙ w.own) (λ k apart. ap (λ o. cond (k == CONSOLE_HOLDER) None o) (w.others k apart))
                (ap (λ c. cond c None (lists.waiting l head.seat)) no_console ∙ first.wakes)
                (ap (λ c. cond c [] (wanted_by (means.wants s d) (lists.member l head.seat))) no_console ∙ ap (wanted_by (means.wants s d)) first.member ∙ ap (means.wants s d) (sym is))),
          );
    }
      where
        no_console : (head.seat == CONSOLE_HOLDER) ≡ false
        no_console = let below : head.seat < 63 = omega (arith, first.seat, sound.few) in grind (arith, nat_tests, below)

  -- A TRANSFER ENDS, and is told
  module _ {D : Type 0} (held : D → Option DrumWords) (s s1 s2 : S) (l l' : L) (need : Need) (drum drum' : D) (ends : Ends means.store need s s1) (told : StaysTold means s s1) (over : StaysOver means held s s1 drum drum')
      (x : Option Deed) (w : Option Need) (holds : (k : ℕ) → means.store.holds s2 k ≡ cond (comes_for need (waits_with w (lists.waiting l) k)) (held_with (most_held k) need (means.store.holds s1 k)) (means.store.holds s1 k))
      (there : StaysThere means.store s1 s2) (kept : StaysQueued means.store s1 s2) (state : StaysState means s1 s2) (wakes : Wakes lists need l l') (housed : IsHoused means.store s)
      (few : (d : DrumWords) (y : Task) → means.fits s d → length (means.wants s d y) < most_wanted y) where
    abbrev t : Transfer
    t = ends.transfer

    abbrev q : List Transfer
    q = means.store.queue s1

    was_there : is_here (place (means.store.homes s) (home_of t)) ≡ not (is_arrival t)
    was_there = was means.store s s1 need ends housed

    has_contains : (h : ℕ) (hs : List ℕ) → has h hs ≡ true → Contains hs h
    has_contains h hs is = Contains-from_any {eq = λ a b. b == a} (λ x y e. grind (arith, nat_tests, e)) h hs is

    away_now : is_arrival t ≡ true → (k : ℕ) → has (home_of t) (means.store.holds s k) ≡ false
    away_now is k = by (has (home_of t) (means.store.holds s k)) refl
      where
        by : (b : Bool) → has (home_of t) (means.store.holds s k) ≡ b → b ≡ false
        by false e = refl
        by true e = absurd (cc (sym (was_there ∙ ap not is) ∙ housed.sound.held k (home_of t) (has_contains (home_of t) (means.store.holds s k) e)))

    came : (k : ℕ) → k < MOST_HOLDERS → means.store.holds s2 k ≡ cond (is_arrival t && awaits (home_of t) (waits_with w (lists.waiting l) k)) (held_more (most_held k) (home_of t) (means.store.holds s k)) (means.store.holds s k)
    came k below =
        holds k ∙ ap (λ hs. cond (comes_for need (waits_with w (lists.waiting l) k)) (held_with (most_held k) need hs) hs) (ap (λ (f : ℕ → List ℕ). f k) ends.holds)
        ∙ ap (λ n. cond (comes_for n (waits_with w (lists.waiting l) k)) (held_with (most_held k) n (means.store.holds s k)) (means.store.holds s k)) ends.told ∙ by t
      where
        by : (u : Transfer) → cond (comes_for (need_of u) (waits_with w (lists.waiting l) k)) (held_with (most_held k) (need_of u) (means.store.holds s k)) (means.store.holds s k) ≡ cond (is_arrival u && awaits (home_of u) (waits_with w (lists.waiting l) k)) (held_more (most_held k) (home_of u) (means.store.holds s k)) (means.store.holds s k)
        by (arrival h) = refl
        by (departure h) = refl

    few_forks : (d : DrumWords) → means.fits s d → (o : Option ForkName) → length (wanted_by (means.wants s d) o) < 128
    few_forks d fits None = omega arith
    few_forks d fits (Some f) = few d (unit_of f) fits

    few_asked : (d : DrumWords) → means.fits s d → (o : Option Deed) → length (wanted_for (means.wants s d) o) < 16
    few_asked d fits None = omega arith
    few_asked d fits (Some e) = few d (deed_of e) fits

    few_wanted : (d : DrumWords) → means.fits s d → (k : ℕ) → length (wants_with (means.wants s d) x (lists.member l) k) < most_held k
    few_wanted d fits k = by (k == CONSOLE_HOLDER)
      where
        by : (b : Bool) → length (cond b (wanted_for (means.wants s d) x) (wanted_by (means.wants s d) (lists.member l k))) < cond b 16 128
        by true = few_asked d fits x
        by false = few_forks d fits (lists.member l k)

    pub quiet_ended : Quiet means lists held x w (woken need w) 1 s s2 l l' drum drum'
    quiet_ended = record {
      told = told_then means s s1 s2 told state.told;
      set = wakes.seated.set;
      each = λ d st fits.
          let a = over.each d st fits in
          let b = state.each a.0 a.2.fits in
          let wanted : ℕ → List ℕ = wants_with (means.wants s d) x (lists.member l) in
          let after : work means lists x (woken need w) s2 l' a.0 ≡ left MOST_HOLDERS wanted (waits_with (woken need w) (lists.waiting l')) (means.store.holds s2) (means.store.homes s1) q =
          λ i. left MOST_HOLDERS (wants_with ((b.wants ∙ a.2.wants) i) x (wakes.seated.member i)) (waits_with (woken need w) (lists.waiting l')) (means.store.holds s2) (there.homes i) (kept.queue i) in
          let before : work means lists x w s l d ≡ left MOST_HOLDERS wanted (waits_with w (lists.waiting l)) (means.store.holds s) (means.store.homes s) (t ∷ q) =
          ap (λ us. left MOST_HOLDERS wanted (waits_with w (lists.waiting l)) (means.store.holds s) (means.store.homes s) us) ends.oldest in
          let less = ended_less MOST_HOLDERS wanted (waits_with w (lists.waiting l)) (waits_with (woken need w) (lists.waiting l')) (means.store.holds s) (means.store.holds s2) (means.store.homes s) (means.store.homes s1) t q
          ends.moved ends.homes was_there (alone means.store s s1 need ends housed)
          (λ k. subst (λ n. waits_with (woken need w) (lists.waiting l') k ≡ woken n (waits_with w (lists.waiting l) k)) ends.told (woken_with means lists need w (lists.waiting l) (lists.waiting l') wakes.waiting k)) came away_now housed.sound.few_held (few_wanted d fits) in
          (a.0, a.1, same_then means s s1 s2 d a.0 a.0 a.2 b, omega (arith, after, before, less));
    }

    -- so by the tables alone
    pub told_ended : (e : Deed) → length (means.told s e) < 16 → told_work means lists e (woken need w) s2 l' + 1 ≤ told_work means lists e w s l
    told_ended e low =
        let wanted : ℕ → List ℕ = told_for (means.told s) e in
        let after : told_work means lists e (woken need w) s2 l' ≡ left MOST_HOLDERS wanted (waits_with (woken need w) (lists.waiting l')) (means.store.holds s2) (means.store.homes s1) q =
        λ i. left MOST_HOLDERS (told_for ((state.told.wants ∙ told.wants) i) e) (waits_with (woken need w) (lists.waiting l')) (means.store.holds s2) (there.homes i) (kept.queue i) in
        let before : told_work means lists e w s l ≡ left MOST_HOLDERS wanted (waits_with w (lists.waiting l)) (means.store.holds s) (means.store.homes s) (t ∷ q) =
        ap (λ us. left MOST_HOLDERS wanted (waits_with w (lists.waiting l)) (means.store.holds s) (means.store.homes s) us) ends.oldest in
        let less = ended_less MOST_HOLDERS wanted (waits_with w (lists.waiting l)) (waits_with (woken need w) (lists.waiting l')) (means.store.holds s) (means.store.holds s2) (means.store.homes s) (means.store.homes s1) t q
        ends.moved ends.homes was_there (alone means.store s s1 need ends housed)
        (λ k. subst (λ n. waits_with (woken need w) (lists.waiting l') k ≡ woken n (waits_with w (lists.waiting l) k)) ends.told (woken_with means lists need w (lists.waiting l) (lists.waiting l') wakes.waiting k)) came away_now housed.sound.few_held (λ k. few_told k (k == CONSOLE_HOLDER)) in
        omega (arith, after, before, less)
      where
        few_told : (k : ℕ) (b : Bool) → length (cond b (means.told s e) []) < cond b 16 128
        few_told k true = low
        few_told k false = omega arith
