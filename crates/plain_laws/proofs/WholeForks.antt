-- A whole state stays whole where forks are changed but for their names, slots and superiors, and where one is made or killed.
use Rattle.std.proofs.Common.{◌≡◌, ◌≢◌, ℕ, zero, suc, ◌+◌, ◌%◌, ◌<◌, ◌≤◌, ◌&&◌, Bool, true, false, cond, not, List, [], ◌∷◌, Option, None, Some, ◌⊎◌, inl, inr, refl, sym, ◌∙◌, ap, subst, arith, get_or-set_other}
use Rattle.std.specs.Prelude.{◌==◌, IsSome, MatchOption, is_some, nat_lt, slice_index, slice_set}
use Rattle.std.specs.List.{filter_map}
use Rattle.std.specs.Option.{option_map, option_or, option_map_or, option_and_then}
use Rattle.std.specs.Ordering.{eq_by_cmp, nat_cmp}
use Rattle.std.specs.Cmp.{Equal-is, nat_cmp_total}
use Rattle.std.specs.Cmp.Lexicographic.{nat_list_cmp_total}
use Rattle.std.specs.FinMap as map
use Rattle.std.specs.FinMap.{nat_cmp-IsAntisymmetric}
use Rattle.std.proofs.lemmas.Bool.{cond_both}
use Rattle.std.proofs.lemmas.Bool.Decides.{eqb_tells, nat_tests}
use Rattle.std.proofs.lemmas.Grind.{get_or-set_at}
use Rattle.word36.specs.Words.{bit}
use Rattle.outside.specs.declared.TheConstants.{PAGE_WORDS}
use Rattle.machine_names.specs.declared.names.TheConstants.{LAST_SERIAL, MOST_FORKS, TERMINALS}
use Rattle.machine_names.specs.declared.names.Tty.{Tty}
use Rattle.machine_names.specs.declared.names.ForkName.{ForkName}
use Rattle.plain_pages.specs.declared.map.NewMap.{NewMap}
use Rattle.plain_pages.specs.declared.map.NewMap.TheVariants.{Empty as EmptyMap, FollowAll}
use Rattle.plain_units.specs.Deeds.{in_ac}
use Rattle.plain_model.specs.declared.fork.Body.{Body}
use Rattle.plain_units.specs.declared.registers.Regs.{Regs}
use Rattle.plain_model.specs.declared.fork.Fork.{Fork}
use Rattle.script_texts.specs.declared.status.ForkStatus.TheVariants.{Halted}
use Rattle.plain_units.specs.declared.channel.TheConstants.{ILLEGAL_INSTRUCTION, INFERIOR_ENDED}
use Rattle.plain_model.specs.declared.call.End.{End}
use Rattle.plain_model.specs.declared.call.End.TheVariants.{Done, Waits, Halts, Refused, Failed, Trap}
use Rattle.plain_model.specs.declared.call.ForkChange.{ForkChange}
use Rattle.plain_model.specs.declared.call.ForkChange.TheVariants.{Nothing, Make, Kill, Freeze, Become, Halt, Store}
use Rattle.plain_model.specs.State.{PlainState, PlainJob}
use Rattle.plain_pages.specs.PlainPages.{NamedPages, Map, Maps}
use Rattle.machine_names.specs.Orders.{fork_cmp, same_fork}
use Rattle.plain_pages.specs.Room.{page_in, live}
use Rattle.plain_pages.specs.References.{in_map, stored, slot_at, without_fork, drop_all_unnamed}
use Rattle.machine_names.specs.Bounds.{IsOwner, IsForkName, IsTerminal}
use Rattle.plain_pages.specs.NewMaps.{new_map, with_map}
use Rattle.plain_model.specs.Forks.{with_regs, ForkMap, fork_in, superior_of, with_fork, with_status, any_upward}
use Rattle.plain_model.specs.Interrupts.{posted}
use Rattle.plain_units.specs.Steps.{begun, is_accumulator}
use Rattle.plain_model.specs.Inferiors.{is_within, is_inferior}
use Rattle.plain_model.specs.Trees.{tree_of, free_slot, next_name, next_serial, new_fork, with_made, all_changed, changed, job_changed, with_mark, with_body, unwaited, unread, waiters_woken, readers_woken, end_told, awoken, sleepers_awoken}
use Rattle.plain_units.specs.Blocks.{next_address, stored_from}
use Rattle.script_texts.specs.declared.status.WaitOn.{WaitOn}
use Rattle.script_texts.specs.declared.status.WaitOn.TheVariants as on
use Rattle.plain_model.specs.Calls.{with_error, with_wait, fork_behind, no_files, parts_behind, posted_if, turn_on, Asked}
use Rattle.plain_model.specs.Commands.{forks_and_pages, with_forks_and_pages}
use Rattle.plain_model.specs.ForkCalls.{fork_call, map_wanted, without_inferiors, killed, with_halted, fork_changed}
use Rattle.plain_pages.specs.WholePages.{AreWhole}
use Rattle.plain_laws.specs.WholeFiles.{Files, FilePages, Jobs, AreOpen, AreFilesWhole}
use Rattle.plain_laws.proofs.FilesKept.{job_put, put_tells}
use Rattle.plain_laws.specs.Whole.{AreGiven, IsWholeMachine}
use Rattle.plain_laws.proofs.GivenSerials.{IsNewGiven, added_given, removed_given, run_given, words_given}
use Rattle.plain_units.proofs.Lookups.{looked_up}
use Rattle.machine_names.proofs.OrderLemmas.{fork_cmp_total, fork_cmp_apart}
use Rattle.plain_model.proofs.ForkMaps.{cases_name, get_put, get_put_other, get_gone, get_gone_other, gone_itself, same_forks, superior_tells}
use Rattle.plain_pages.proofs.Kept.{fork_kept, fork_maps, live_fork, fork_whole as fork_left_whole}
use Rattle.plain_units.proofs.PageRuns.{AreSound, Keeps, kept_itself, kept_on, stored_kept}
use Rattle.plain_model.proofs.ForkEnds.{FitsChange, FitsEnd, Leads, call_ends, call_keeps, mapped}
use Rattle.plain_typing.specs.Lines.{Codes}
use Rattle.plain_model.specs.Families.{codes_behind, forks_changed}
use Rattle.plain_model.specs.InterruptCalls.{living_codes, with_codes_of}
use Rattle.plain_model.specs.Unit.{parts_of, with_parts}
use Rattle.plain_model.proofs.Calling.{fork_came, fork_called}
use Rattle.fork_tree.specs.Inferiors.{HasNoInferior, without}
use Rattle.fork_tree.specs.Trees.{IsTree}
use Rattle.fork_tree.proofs.Kept.{changed_tree, killed_tree, made_tree, name_unused}
use Rattle.fork_tree.proofs.Killing.{below_in, fewer_counted, killed_last, leaf_first, leaf_or_none, none_counted, without_none}
use Rattle.fork_tree.proofs.Leaves.{nobodys_superior}
use Rattle.fork_tree.proofs.Slots.{empty_of, held_lives, in_found, some_of}
use Rattle.fork_tree.proofs.Sleepers.{tree_awoken}
use Rattle.fork_tree.proofs.Upward.{tally, tally_most}
use Rattle.fork_tree.proofs.Waking.{by_slots, in_order}
use Rattle.plain_model.proofs.ChangedForks.{get_changed, of_job, of_job_holds}
use Rattle.plain_model.proofs.Posted.{IsSame, posted_same}

-- a fork that is put over one
put_over : (m : ForkMap) (name : ForkName) (f g : Fork) → map.insert (map.insert m name f) name g ≡ map.insert m name g
put_over m name f g = same_forks _ _ (λ q. elim (cases_name q name) [
  | inl e ↦ get_put (map.insert m name f) name q g e ∙ sym (get_put m name q g e)
  | inr ne ↦ get_put_other (map.insert m name f) name q g ne ∙ get_put_other m name q f ne ∙ sym (get_put_other m name q g ne)
])

-- a state with a fork changed that keeps its name, slot and superior
module _ (s : PlainState) (w : IsWholeMachine s) where
  pub fork_at_whole : (name : ForkName) (f g : Fork) → map.get s.forks name ≡ Some f → g.name ≡ name → g.slot ≡ f.slot → g.superior ≡ f.superior → IsWholeMachine (record s { forks = map.insert s.forks name g })
  fork_at_whole name f g there named slot superior = record {
    pages = w.pages;
    room = w.room;
    files = w.files;
    forks = λ k. same k ∙ w.forks k;
    tree =
        let own = w.tree.slotted.own name f there in
        subst (λ (n : ForkName). IsTree (record (tree_of s) { forks = map.insert s.forks n g })) own
        (changed_tree (tree_of s) f g w.tree (held_lives s.forks w.tree.slotted name f there) (named ∙ sym own) slot superior);
    given = w.given;
    homes = λ k h. w.homes k (sym (same k) ∙ h);
    tops = λ t j is. let top = w.tops t j is in top_of j.top top.0 top.1 top.2 top.3 (tells j.top);
    own_tops = w.own_tops;
  }
    where
      found : (k : ForkName) → map.get (map.insert s.forks name g) k ≡ cond (eq_by_cmp fork_cmp k name) (Some g) (map.get s.forks k)
      found k = map.get-insert fork_cmp_total s.forks name g k

      tells : (k : ForkName) → ((eq_by_cmp fork_cmp k name ≡ true) × (k ≡ name)) ⊎ (eq_by_cmp fork_cmp k name ≡ false)
      tells k = by (eq_by_cmp fork_cmp k name) refl
        where
          by : (b : Bool) → eq_by_cmp fork_cmp k name ≡ b → ((eq_by_cmp fork_cmp k name ≡ true) × (k ≡ name)) ⊎ (eq_by_cmp fork_cmp k name ≡ false)
          by true is = inl (is, fork_cmp_apart k name ((Equal-is (fork_cmp k name)).0 is))
          by false is = inr is

      same : (k : ForkName) → map.contains_key (map.insert s.forks name g) k ≡ map.contains_key s.forks k
      same k = ap is_some (found k) ∙ at (tells k)
        where
          at : ((eq_by_cmp fork_cmp k name ≡ true) × (k ≡ name)) ⊎ (eq_by_cmp fork_cmp k name ≡ false) → is_some (cond (eq_by_cmp fork_cmp k name) (Some g) (map.get s.forks k)) ≡ map.contains_key s.forks k
          at (inl e) = ap (λ b. is_some (cond b (Some g) (map.get s.forks k))) e.0 ∙ sym (ap is_some (ap (map.get s.forks) e.1 ∙ there))
          at (inr e) = ap (λ b. is_some (cond b (Some g) (map.get s.forks k))) e

      top_of : (k : ForkName) (h : Fork) → map.get s.forks k ≡ Some h → h.slot ≡ 1 → h.superior ≡ None → ((eq_by_cmp fork_cmp k name ≡ true) × (k ≡ name)) ⊎ (eq_by_cmp fork_cmp k name ≡ false)
          → (x : Fork) × (map.get (map.insert s.forks name g) k ≡ Some x) × (x.slot ≡ 1) × (x.superior ≡ None)
      top_of k h is one none (inl e) =
          let both : Some f ≡ Some h = sym there ∙ sym (ap (map.get s.forks) e.1) ∙ is in
          let here : f ≡ h = cc both in
          (g, found k ∙ ap (λ b. cond b (Some g) (map.get s.forks k)) e.0, slot ∙ ap (λ (x : Fork). x.slot) here ∙ one, superior ∙ ap (λ (x : Fork). x.superior) here ∙ none)
      top_of k h is one none (inr e) = (h, found k ∙ ap (λ b. cond b (Some g) (map.get s.forks k)) e ∙ is, one, none)

  pub fork_whole : (name : ForkName) (f g : Fork) → map.get s.forks name ≡ Some f → g.name ≡ name → g.slot ≡ f.slot → g.superior ≡ f.superior → IsWholeMachine (with_fork s g)
  fork_whole name f g there named slot superior = subst (λ k. IsWholeMachine (record s { forks = map.insert s.forks k g })) (sym named) (fork_at_whole name f g there named slot superior)

  -- a job changed that keeps its top fork, and whose JFNs fit
  pub job_whole : (t : ℕ) (j k : PlainJob) → map.get s.jobs t ≡ Some j → k.top ≡ j.top → AreOpen s.files k.jfns → IsWholeMachine (record s { jobs = map.insert s.jobs t k })
  job_whole t j k there top fit = record {
    pages = w.pages;
    room = w.room;
    files = job_put s.files s.pages.files s.jobs w.files t k fit;
    forks = w.forks;
    tree = w.tree;
    given = w.given;
    homes = λ f h. has f.tty.0 (eq_by_cmp nat_cmp f.tty.0 t) (map.get-insert nat_cmp_total s.jobs t k f.tty.0) (w.homes f h);
    tops = λ u i is. at u i (eq_by_cmp nat_cmp u t) (sym (map.get-insert nat_cmp_total s.jobs t k u) ∙ is);
    own_tops = λ u i is. elim (put_tells nat_cmp_total nat_cmp-IsAntisymmetric s.jobs t k u i is) [
      | inl e ↦ sym (ap (λ (x : PlainJob). x.top.tty.0) e.1) ∙ ap (λ (n : ForkName). n.tty.0) top ∙ w.own_tops t j there ∙ sym e.0
      | inr was ↦ w.own_tops u i was
    ];
  }
    where
      has : (u : ℕ) (b : Bool) → map.get (map.insert s.jobs t k) u ≡ cond b (Some k) (map.get s.jobs u) → map.contains_key s.jobs u ≡ true → map.contains_key (map.insert s.jobs t k) u ≡ true
      has u true is h = ap is_some is
      has u false is h = ap is_some is ∙ h

      at : (u : ℕ) (i : PlainJob) (b : Bool) → cond b (Some k) (map.get s.jobs u) ≡ Some i → (f : Fork) × (map.get s.forks i.top ≡ Some f) × (f.slot ≡ 1) × (f.superior ≡ None)
      at u i true is =
          let here : k ≡ i = cc is in
          let f = w.tops t j there in
          (f.0, ap (λ (x : PlainJob). map.get s.forks x.top) (sym here) ∙ ap (map.get s.forks) top ∙ f.1, f.2, f.3)
      at u i false is = w.tops u i is

  -- other codes of a job
  pub codes_whole : (t : Tty) (change : Codes → Codes) → IsWholeMachine (record s { jobs = with_codes_of s.jobs t change })
  codes_whole t change = looked_up (λ (jobs : Jobs). IsWholeMachine (record s { jobs = jobs })) _ s.jobs (map.get s.jobs t.0) (λ j is. job_whole t.0 j (record j { codes = change j.codes }) is refl (w.files.jfns t.0 j is)) (λ none. w)

  -- other pages and other files, with the forks of these
  pub filed_whole : (q : NamedPages) (files : Files) → AreWhole q → live q ≤ q.limit → AreFilesWhole files q.files s.jobs → ((f : ForkName) → map.contains_key q.maps f ≡ map.contains_key s.pages.maps f) → AreGiven (next_serial (tree_of s)) q.maps → IsWholeMachine (record s { pages = q; files = files })
  filed_whole q files whole room filed keys given = record {
    pages = whole;
    room = room;
    files = filed;
    forks = λ f. w.forks f ∙ sym (keys f);
    tree = w.tree;
    given = given;
    homes = w.homes;
    tops = w.tops;
    own_tops = w.own_tops;
  }

  pub pages_whole : (q : NamedPages) → AreWhole q → live q ≤ q.limit → q.files ≡ s.pages.files → ((f : ForkName) → map.contains_key q.maps f ≡ map.contains_key s.pages.maps f) → AreGiven (next_serial (tree_of s)) q.maps → IsWholeMachine (record s { pages = q })
  pages_whole q whole room files keys given = filed_whole q s.files whole room (subst (λ (m : FilePages). AreFilesWhole s.files m s.jobs) (sym files) w.files) keys given

  pub sound : AreSound s.pages
  sound = record { whole = w.pages; room = w.room }

  -- other pages that are sound, with the same files and forks
  pub keeps_whole : (q : NamedPages) → Keeps s.pages q → AreGiven (next_serial (tree_of s)) q.maps → IsWholeMachine (record s { pages = q })
  keeps_whole q k given = pages_whole q k.sound.whole k.sound.room k.forks.files k.forks.keys given

  -- a fork that lives has a serial that was given out
  pub lived_given : (k : ForkName) → map.contains_key s.forks k ≡ true → k.serial < next_serial (tree_of s) k.tty
  lived_given k lives =
      let f = some_of (map.get s.forks k) lives in
      let own = w.tree.slotted.own k f.0 f.1 in
      subst (λ (n : ForkName). n.serial < next_serial (tree_of s) n.tty) own (w.tree.old f.0 (held_lives s.forks w.tree.slotted k f.0 f.1))

posted_if_same : (f : Fork) (post : Option ℕ) → IsSame f (posted_if f post)
posted_if_same f None = (refl, refl, refl)
posted_if_same f (Some channel) = posted_same f channel

wait_same : (f : Fork) (what : WaitOn) → IsSame f (with_wait f what)
wait_same f on.Input = (refl, refl, refl)
wait_same f on.Fork = (refl, refl, refl)
wait_same f (on.Sleep moment) = (refl, refl, refl)

-- a turn of a call leaves its fork's name, slot and superior
pub behind_same : {C : Type 0} (f : Fork) (e : End C) → IsSame f (fork_behind f e)
unfolding fork_behind
behind_same f (Done change regs out post) = posted_if_same (with_regs f regs) post
behind_same f (Waits what) = wait_same f what
behind_same f Halts = (refl, refl, refl)
behind_same f (Refused code) = posted_same (with_error f code) ILLEGAL_INSTRUCTION
behind_same f (Failed code) = (refl, refl, refl)
behind_same f (Trap channel) = posted_same f channel

module _ (s : PlainState) (w : IsWholeMachine s) where
  -- a fork put in place of one
  pub put : (name : ForkName) (f : Fork) → map.get s.forks name ≡ Some f → (g : Fork) → IsSame f g → IsWholeMachine (with_fork s g)
  put name f there g same = fork_whole s w name f g there (same.0 ∙ w.tree.slotted.own name f there) same.1 same.2

  -- a fork changed, if there is one
  pub changed_if : (change : Fork → Fork) → ((f : Fork) → IsSame f (change f)) → (o : Option Fork) → ((k : Fork) → o ≡ Some k → map.get s.forks k.name ≡ Some k) → IsWholeMachine (record s { forks = changed s.forks change o })
  changed_if change same None there = w
  changed_if change same (Some k) there = let is = same k in fork_at_whole s w k.name k (change k) (there k refl) is.0 is.1 is.2

module _ (s : PlainState) (w : IsWholeMachine s) where
  -- all forks changed, each of which keeps its name, slot and superior
  all_whole : (change : Fork → Fork) → ((f : Fork) → IsSame f (change f)) → IsTree (record (tree_of s) { forks = all_changed change s.forks }) → IsWholeMachine (record s { forks = all_changed change s.forks })
  all_whole change same tree = record {
    pages = w.pages;
    room = w.room;
    files = w.files;
    forks = λ k. lives k ∙ w.forks k;
    tree = tree;
    given = w.given;
    homes = λ k h. w.homes k (sym (lives k) ∙ h);
    tops = λ t j is. let top = w.tops t j is in (change top.0, get_changed change s.forks j.top ∙ ap (option_map change) top.1, (same top.0).1 ∙ top.2, (same top.0).2 ∙ top.3);
    own_tops = w.own_tops;
  }
    where
      lives : (k : ForkName) → map.contains_key (all_changed change s.forks) k ≡ map.contains_key s.forks k
      lives k = ap is_some (get_changed change s.forks k) ∙ by (map.get s.forks k)
        where
          by : (o : Option Fork) → is_some (option_map change o) ≡ is_some o
          by None = refl
          by (Some f) = refl

  job_forks_whole : (change : Fork → Fork) → ((f : Fork) → IsSame f (change f)) → (t : Tty) → IsWholeMachine (record s { forks = job_changed change t s.forks })
  job_forks_whole change same t =
      all_whole (of_job change t) (of_job_holds IsSame (λ f. (refl, refl, refl)) change same t)
      (subst (λ (m : ForkMap). IsTree (record (tree_of s) { forks = m })) (by_slots change same t (tree_of s) w.tree) (in_order change same t MOST_FORKS 1 (tree_of s) w.tree))

  -- who sleeps to a moment that the clock has reached runs again
  pub sleepers_whole : (clock : ℕ) → IsWholeMachine (record s { forks = sleepers_awoken clock s.forks })
  unfolding sleepers_awoken
  sleepers_whole clock = all_whole (awoken clock) (λ f. (refl, refl, refl)) (tree_awoken clock (tree_of s) w.tree)

  -- who waits for a fork runs again, or who waits for a character
  pub waiters_whole : (t : Tty) → IsWholeMachine (record s { forks = waiters_woken s.forks t })
  unfolding waiters_woken
  waiters_whole t = job_forks_whole unwaited (λ f. (refl, refl, refl)) t

  pub readers_whole : (t : Tty) → IsWholeMachine (record s { forks = readers_woken s.forks t })
  unfolding readers_woken
  readers_whole t = job_forks_whole unread (λ f. (refl, refl, refl)) t

  posted_whole : (f : Fork) (channel : ℕ) → IsWholeMachine (record s { forks = changed s.forks (λ k. posted k channel) (superior_of s.forks f) })
  posted_whole f channel = changed_if s w (λ k. posted k channel) (λ k. posted_same k channel) (superior_of s.forks f) (λ k is. let at = superior_tells s.forks w.tree.slotted.own f k is in at.0)

-- a fork that ended is told of
pub told_whole : (s : PlainState) → IsWholeMachine s → (f : Fork) → IsWholeMachine (record s { forks = end_told s.forks f })
told_whole s w f = posted_whole (record s { forks = waiters_woken s.forks f.name.tty }) (waiters_whole s w f.name.tty) f INFERIOR_ENDED

-- a fork is the top fork of no job
abbrev pub IsNoTop : PlainState → ForkName → Type 0
IsNoTop s name = (t : ℕ) (j : PlainJob) → map.get s.jobs t ≡ Some j → j.top ≡ name → ⊥

module _ (s : PlainState) (w : IsWholeMachine s) (name : ForkName) where
  -- a fork that has no inferior, and goes with its map, leaves the state whole, where of its jobs those are left whose top fork is left
  module _ (bare : HasNoInferior s.forks name) (jobs : Jobs) (filed : AreFilesWhole s.files s.pages.files jobs)
      (homes : (f : ForkName) → f ≢ name → map.contains_key s.forks f ≡ true → map.contains_key jobs f.tty.0 ≡ true)
      (were : (t : ℕ) (j : PlainJob) → map.get jobs t ≡ Some j → (map.get s.jobs t ≡ Some j) × (j.top ≢ name)) where
    pub left_whole : IsWholeMachine (record s { forks = map.remove s.forks name; pages = without_fork s.pages name; jobs = jobs })
    unfolding without_fork
    left_whole = by (map.get s.pages.maps name) refl
      where
        tree_left : IsTree (record (tree_of s) { forks = map.remove s.forks name })
        tree_left = at (map.get s.forks name) refl
          where
            at : (o : Option Fork) → map.get s.forks name ≡ o → IsTree (record (tree_of s) { forks = map.remove s.forks name })
            at None none = subst (λ (m : ForkMap). IsTree (record (tree_of s) { forks = m })) (sym (gone_itself s.forks name none)) w.tree
            at (Some f) there =
                let own = w.tree.slotted.own name f there in
                let lives = held_lives s.forks w.tree.slotted name f there in
                subst (λ (n : ForkName). IsTree (record (tree_of s) { forks = map.remove s.forks n })) own
                (killed_tree (tree_of s) f w.tree lives (nobodys_superior (tree_of s) w.tree f lives (subst (HasNoInferior s.forks) (sym own) bare)))

        has_home : (k : ForkName) → map.contains_key (map.remove s.forks name) k ≡ true → map.contains_key jobs k.tty.0 ≡ true
        has_home k h = elim (cases_name k name) [
          | inl e ↦ absurd (let no : false ≡ true = sym (ap is_some (get_gone s.forks name k e)) ∙ h in cc no)
          | inr ne ↦ homes k ne (sym (ap is_some (get_gone_other s.forks name k ne)) ∙ h)
        ]

        top_of : (t : ℕ) (j : PlainJob) → map.get jobs t ≡ Some j → (f : Fork) × (map.get (map.remove s.forks name) j.top ≡ Some f) × (f.slot ≡ 1) × (f.superior ≡ None)
        top_of t j is = let was = were t j is in let top = w.tops t j was.0 in (top.0, get_gone_other s.forks name j.top was.1 ∙ top.1, top.2, top.3)

        keys : (m : Maps) → m ≡ map.remove s.pages.maps name → (k : ForkName) → map.contains_key (map.remove s.forks name) k ≡ map.contains_key m k
        keys m e k = elim (cases_name k name) [
          | inl is ↦ ap is_some (get_gone s.forks name k is) ∙ sym (ap is_some (get_gone s.pages.maps name k is)) ∙ ap (λ (x : Maps). map.contains_key x k) (sym e)
          | inr ne ↦ ap is_some (get_gone_other s.forks name k ne) ∙ w.forks k ∙ sym (ap is_some (get_gone_other s.pages.maps name k ne)) ∙ ap (λ (x : Maps). map.contains_key x k) (sym e)
        ]

        with_pages : (q : NamedPages) → AreWhole q → live q ≤ q.limit → q.files ≡ s.pages.files → q.maps ≡ map.remove s.pages.maps name → IsWholeMachine (record s { forks = map.remove s.forks name; pages = q; jobs = jobs })
        with_pages q whole room files maps = record {
          pages = whole;
          room = room;
          files = subst (λ (m : FilePages). AreFilesWhole s.files m jobs) (sym files) filed;
          forks = keys q.maps maps;
          tree = tree_left;
          given = subst (AreGiven (next_serial (tree_of s))) (sym maps) (removed_given (next_serial (tree_of s)) s.pages.maps name w.given);
          homes = has_home;
          tops = top_of;
          own_tops = λ t j is. w.own_tops t j (were t j is).0;
        }

        none_there : map.get s.pages.maps name ≡ None → without_fork s.pages name ≡ s.pages
        none_there none = ap (λ (o : Option Map). drop_all_unnamed (record s.pages { maps = map.remove s.pages.maps name }) (option_map_or (filter_map page_in) o [])) none ∙ ap (λ (m : Maps). record s.pages { maps = m }) (gone_itself s.pages.maps name none)

        by : (o : Option Map) → map.get s.pages.maps name ≡ o → IsWholeMachine (record s { forks = map.remove s.forks name; pages = without_fork s.pages name; jobs = jobs })
        by None none = with_pages (without_fork s.pages name) (subst (λ (q : NamedPages). AreWhole q) (sym (none_there none)) w.pages) (subst (λ (q : NamedPages). live q ≤ q.limit) (sym (none_there none)) w.room)
            (ap (λ (q : NamedPages). q.files) (none_there none)) (ap (λ (q : NamedPages). q.maps) (none_there none) ∙ sym (gone_itself s.pages.maps name none))
        by (Some m) some =
            let kept = fork_kept s.pages w.pages name m some in
            with_pages (without_fork s.pages name) (fork_left_whole s.pages w.pages name m some) (omega (arith, live_fork s.pages w.pages name m some, w.room, kept.limit)) kept.files (fork_maps s.pages w.pages name m some)

  gone_whole : HasNoInferior s.forks name → IsNoTop s name → IsWholeMachine (record s { forks = map.remove s.forks name; pages = without_fork s.pages name })
  gone_whole bare no_top = left_whole bare s.jobs w.files (λ f other lives. w.homes f lives) (λ t j is. (is, no_top t j is))

  -- who has a superior is no top fork
  pub below_no_top : (f : Fork) → map.get s.forks name ≡ Some f → is_some f.superior ≡ true → IsNoTop s name
  below_no_top f there some t j is same =
      let top = w.tops t j is in
      let both : Some top.0 ≡ Some f = sym top.1 ∙ ap (map.get s.forks) same ∙ there in
      let here : top.0 ≡ f = cc both in
      let no : false ≡ true = sym (ap is_some (sym (ap (λ (x : Fork). x.superior) here) ∙ top.3)) ∙ some in
      cc no

-- an inferior lives, and has a superior
pub inferior_tells : (forks : ForkMap) (who name : ForkName) → is_inferior forks who name ≡ true → (f : Fork) × (map.get forks name ≡ Some f) × (is_some f.superior ≡ true)
unfolding is_inferior
inferior_tells forks who name is = by (map.get forks name) refl is
  where
    over : (f : Fork) (o : Option ℕ) → f.superior ≡ o → any_upward (λ k. same_fork k.name who) MOST_FORKS forks (option_and_then (fork_in forks f.name.tty) o) ≡ true → is_some f.superior ≡ true
    over f None none h = absurd (cc h)
    over f (Some slot) some h = ap is_some some

    by : (o : Option Fork) → map.get forks name ≡ o → option_map_or (λ f. is_within MOST_FORKS forks who (superior_of forks f)) o false ≡ true → (f : Fork) × (map.get forks name ≡ Some f) × (is_some f.superior ≡ true)
    by None none h = absurd (cc h)
    by (Some f) there h = (f, there, over f f.superior refl h)

-- whole, and without a fork's inferiors
pub record IsBare (f : ForkName) (s : PlainState) : Type 0 where
  pub whole : IsWholeMachine s
  pub bare : HasNoInferior s.forks f

none_whole : (f : ForkName) (s : PlainState) → IsWholeMachine s → HasNoInferior s.forks f → IsBare f (with_forks_and_pages s (without_inferiors (forks_and_pages s) f))
none_whole f s w none = subst (λ v. IsBare f (with_forks_and_pages s v)) (sym (without_none (forks_and_pages s) f none)) (record { whole = w; bare = none })

below_whole : (n : ℕ) (f : ForkName) (s : PlainState) → IsWholeMachine s → tally (below_in s.forks f) 1 MOST_FORKS ≤ n → IsBare f (with_forks_and_pages s (without_inferiors (forks_and_pages s) f))
below_whole zero f s w few = none_whole f s w (none_counted f (tree_of s) w.tree few)
below_whole (suc n) f s w few = elim (leaf_or_none f (tree_of s) w.tree) [
  | inr none ↦ none_whole f s w none
  | inl found ↦
      let leaf = found.1 in
      let k = found.0.name in
      let own = inferior_tells s.forks f k leaf.below in
      let left = without (forks_and_pages s) k in
      let rest = below_whole n f (with_forks_and_pages s left) (gone_whole s w k leaf.leaf (below_no_top s w k own.0 own.1 own.2)) (omega (arith, few, fewer_counted f (tree_of s) w.tree found.0 leaf)) in
      subst (λ v. IsBare f (with_forks_and_pages s v)) (leaf_first (forks_and_pages s) f found.0 w.tree leaf) rest
]

module _ (s : PlainState) (w : IsWholeMachine s) where
  -- without a fork's inferiors
  pub bare_whole : (f : ForkName) → IsBare f (with_forks_and_pages s (without_inferiors (forks_and_pages s) f))
  bare_whole f = below_whole MOST_FORKS f s w (tally_most (below_in s.forks f) 1 MOST_FORKS)

  -- without a fork and its inferiors; who waits for a fork runs again
  pub killed_whole : (f : ForkName) → IsNoTop s f → IsWholeMachine (with_forks_and_pages s (fork_changed (Kill f) (forks_and_pages s)))
  unfolding fork_changed
  killed_whole f no_top =
      let t = with_forks_and_pages s (without_inferiors (forks_and_pages s) f) in
      let u = with_forks_and_pages s (killed (forks_and_pages s) f) in
      let b = bare_whole f in
      let whole : IsWholeMachine u = subst (λ v. IsWholeMachine (with_forks_and_pages s v)) (sym (killed_last (forks_and_pages s) f)) (gone_whole t b.whole f b.bare no_top) in
      waiters_whole u whole f.tty

  pub halted_whole : (f : ForkName) → IsWholeMachine (with_forks_and_pages s (fork_changed (Halt f) (forks_and_pages s)))
  unfolding fork_changed
  halted_whole f = looked_up (λ v. IsWholeMachine (with_forks_and_pages s v)) (with_halted (forks_and_pages s)) (forks_and_pages s) (map.get s.forks f)
      (λ g is. let h = with_status g Halted in told_whole (with_fork s h) (put s w f g is h (refl, refl, refl)) h) (λ none. w)

  pub mark_whole : (f : ForkName) (on : Bool) → IsWholeMachine (with_forks_and_pages s (fork_changed (Freeze f on) (forks_and_pages s)))
  unfolding fork_changed
  mark_whole f on = changed_if s w (with_mark on) (λ k. (refl, refl, refl)) (map.get s.forks f) (λ k is. ap (map.get s.forks) (w.tree.slotted.own f k is) ∙ is)

  pub body_whole : (f : ForkName) (body : Body) → IsWholeMachine (with_forks_and_pages s (fork_changed (Become f body) (forks_and_pages s)))
  unfolding fork_changed
  body_whole f body = changed_if s w (with_body body) (λ k. (refl, refl, refl)) (map.get s.forks f) (λ k is. ap (map.get s.forks) (w.tree.slotted.own f k is) ∙ is)

stored_from_kept : (p : NamedPages) → AreSound p → (f : ForkName) (at : ℕ) (words : List ℕ) → Keeps p (stored_from p f at words)
stored_from_kept p w f at [] = kept_itself p w
stored_from_kept p w f at (word ∷ words) =
    let slot = slot_at f at in
    let q = stored p (in_map slot) (at % PAGE_WORDS) word in
    cond_both (is_accumulator at) p q (λ x. Keeps p (stored_from x f (next_address at) words)) (λ low. stored_from_kept p w f (next_address at) words)
    (λ high. let k = stored_kept p (in_map slot) (at % PAGE_WORDS) word nat_list_cmp_total w in kept_on p q (stored_from q f (next_address at) words) k (stored_from_kept q k.sound f (next_address at) words))

module _ (s : PlainState) (w : IsWholeMachine s) where
  -- no fork has the next name
  pub no_fork : (t : Tty) → map.contains_key s.forks (next_name (tree_of s) t) ≡ false
  no_fork t = ap is_some (name_unused (tree_of s) t w.tree)

  pub next_absent : (t : Tty) → map.get s.pages.maps (next_name (tree_of s) t) ≡ None
  next_absent t = empty_of (map.get s.pages.maps (next_name (tree_of s) t)) (sym (w.forks (next_name (tree_of s) t)) ∙ no_fork t)

  -- the top forks of jobs stay where a fork is made
  pub kept_tops : (t : Tty) (f : Fork) (u : ℕ) (j : PlainJob) → map.get s.jobs u ≡ Some j → (x : Fork) × (map.get (map.insert s.forks (next_name (tree_of s) t) f) j.top ≡ Some x) × (x.slot ≡ 1) × (x.superior ≡ None)
  kept_tops t f u j is =
      let top = w.tops u j is in
      (top.0, get_put_other s.forks (next_name (tree_of s) t) j.top f (λ e. gone j.top top.0 top.1 e) ∙ top.1, top.2, top.3)
    where
      gone : (k : ForkName) (h : Fork) → map.get s.forks k ≡ Some h → k ≡ next_name (tree_of s) t → ⊥
      gone k h is e = let no : true ≡ false = sym (ap is_some is) ∙ ap (map.contains_key s.forks) e ∙ no_fork t in cc no

  -- a fork with the next name, and its map, leave the state whole
  module _ (t : Tty) (terminal : IsTerminal t) (f : Fork) (entries : NewMap) (q : NamedPages) (sound : AreSound q) (files : q.files ≡ s.pages.files)
      (keys : (k : ForkName) → map.contains_key q.maps k ≡ map.contains_key (with_map s.pages (next_name (tree_of s) t) entries).maps k)
      (jobs : Jobs) (filed : AreFilesWhole s.files s.pages.files jobs) (tops : (u : ℕ) (j : PlainJob) → map.get jobs u ≡ Some j → (x : Fork) × (map.get (map.insert s.forks (next_name (tree_of s) t) f) j.top ≡ Some x) × (x.slot ≡ 1) × (x.superior ≡ None))
      (have : (u : ℕ) → map.contains_key s.jobs u ≡ true → map.contains_key jobs u ≡ true) (home : map.contains_key jobs t.0 ≡ true)
      (given : AreGiven (next_serial (tree_of s)) q.maps) (few : next_serial (tree_of s) t ≤ LAST_SERIAL) (free : free_slot s.forks t ≡ Some f.slot) (over : MatchOption f.superior (fork_in s.forks t 1 ≡ None) (λ slot. IsSome (fork_in s.forks t slot)))
      (own_tops : (u : ℕ) (j : PlainJob) → map.get jobs u ≡ Some j → j.top.tty.0 ≡ u) where
    name : ForkName
    name = next_name (tree_of s) t

    made_at_whole : f.name ≡ name → IsWholeMachine (record s { forks = map.insert s.forks name f; fork_serials = slice_set s.fork_serials t.0 (name.serial + 1); pages = q; jobs = jobs })
    unfolding name
    made_at_whole named = record {
      pages = sound.whole;
      room = sound.room;
      files = subst (λ (m : FilePages). AreFilesWhole s.files m jobs) (sym files) filed;
      forks = λ k. alike k ∙ sym (keys k);
      tree = made_so named;
      given = λ at serial page a is. let more = grown at.fork.tty in omega (arith, given at serial page a is, more);
      homes = λ k h. elim (cases_name k name) [
        | inl e ↦ ap (λ (n : ForkName). map.contains_key jobs n.tty.0) e ∙ home
        | inr ne ↦ have k.tty.0 (w.homes k (sym (ap is_some (get_put_other s.forks name k f ne)) ∙ h))
      ];
      tops = tops;
      own_tops = own_tops;
    }
      where
        -- no serial is taken back
        grown : (u : Tty) → next_serial (tree_of s) u ≤ slice_index (slice_set s.fork_serials t.0 (name.serial + 1)) u.0
        grown u = by (eqb_tells u.0 t.0)
          where
            by : (((u.0 == t.0) ≡ true) × (u.0 ≡ t.0)) ⊎ (((u.0 == t.0) ≡ false) × (u.0 ≢ t.0)) → next_serial (tree_of s) u ≤ slice_index (slice_set s.fork_serials t.0 (name.serial + 1)) u.0
            by (inl e) =
                let here : slice_index (slice_set s.fork_serials t.0 (name.serial + 1)) u.0 ≡ name.serial + 1 = get_or-set_at s.fork_serials t.0 u.0 (name.serial + 1) 0 e.1 (omega (arith, terminal, w.tree.terminals)) in
                let was : slice_index s.fork_serials u.0 ≡ name.serial = ap (slice_index s.fork_serials) e.1 in
                omega (arith, here, was)
            by (inr e) = omega (arith, get_or-set_other s.fork_serials t.0 u.0 (name.serial + 1) 0 e.1)

        -- one that is new in the slot, and then as it is made
        made_so : f.name ≡ name → IsTree (record { forks = map.insert s.forks name f; serials = slice_set s.fork_serials t.0 (name.serial + 1) })
        made_so named =
            let new = new_fork name f.slot f.superior in
            let tree = made_tree (tree_of s) t f.superior f.slot w.tree terminal free few over in
            subst (λ (m : ForkMap). IsTree (record { forks = m; serials = slice_set s.fork_serials t.0 (name.serial + 1) })) (put_over s.forks name new f)
            (changed_tree (record { forks = map.insert s.forks name new; serials = slice_set s.fork_serials t.0 (name.serial + 1) }) new f tree (get_put s.forks name name new refl) named refl refl)

        alike : (k : ForkName) → map.contains_key (map.insert s.forks name f) k ≡ map.contains_key (with_map s.pages name entries).maps k
        alike k = elim (cases_name k name) [
          | inl e ↦ ap is_some (get_put s.forks name k f e) ∙ sym (ap is_some (get_put s.pages.maps name k (new_map entries) e))
          | inr ne ↦ ap is_some (get_put_other s.forks name k f ne) ∙ w.forks k ∙ sym (ap is_some (get_put_other s.pages.maps name k (new_map entries) ne))
        ]

    pub made_whole : f.name ≡ next_name (tree_of s) t → IsWholeMachine (record (with_forks_and_pages s (record { tree = with_made (tree_of s) f; pages = q })) { jobs = jobs })
    unfolding name
    made_whole named = subst (λ (n : ForkName). IsWholeMachine (record s { forks = map.insert s.forks n f; fork_serials = slice_set s.fork_serials n.tty.0 (n.serial + 1); pages = q; jobs = jobs })) (sym named) (made_at_whole named)

  -- a change of a fork call leaves the state whole
  module _ (who : ForkName) (regs : Regs) (terminal : IsTerminal who.tty) (lives : map.contains_key s.forks who ≡ true) (q : NamedPages) where
    abbrev caller : Asked
    caller = record { who = who; regs = regs; tree = tree_of s }

    no_top : (f : ForkName) → is_inferior s.forks who f ≡ true → IsNoTop s f
    no_top f below = let own = inferior_tells s.forks who f below in below_no_top s w f own.0 own.1 own.2

    few_serials : nat_lt LAST_SERIAL (next_serial (tree_of s) who.tty) ≡ false → next_serial (tree_of s) who.tty ≤ LAST_SERIAL
    few_serials h = grind (arith, nat_tests)

    -- the caller, which is to be the superior, is in its slot
    caller_over : MatchOption (option_map (λ (k : Fork). k.slot) (map.get s.forks who)) (fork_in s.forks who.tty 1 ≡ None) (λ slot. IsSome (fork_in s.forks who.tty slot))
    caller_over =
        let k = some_of (map.get s.forks who) lives in
        let own = w.tree.slotted.own who k.0 k.1 in
        subst (λ (o : Option Fork). MatchOption (option_map (λ (x : Fork). x.slot) o) (fork_in s.forks who.tty 1 ≡ None) (λ slot. IsSome (fork_in s.forks who.tty slot))) (sym k.1)
        (subst (λ o. IsSome o) (sym (in_found s.forks w.tree.slotted who.tty k.0.slot k.0 (held_lives s.forks w.tree.slotted who k.0 k.1, ap (λ (n : ForkName). n.tty.0) own, refl))) refl)

    change_whole : (change : ForkChange) → FitsChange caller s.pages (λ x y. Keeps x y) q change → FitsChange caller s.pages (λ x y. AreGiven (next_serial (tree_of s)) y.maps) q change
        → IsWholeMachine (with_forks_and_pages s (fork_changed change (record (forks_and_pages s) { pages = q })))
    unfolding fork_changed
    change_whole Nothing k given = keeps_whole s w q k given
    change_whole (Make f) made given =
        made_whole who.tty terminal f (map_wanted caller) q made.pages.sound made.pages.forks.files made.pages.forks.keys s.jobs w.files (λ u j is. kept_tops who.tty f u j is) (λ u h. h) (w.homes who lives)
        given.pages (few_serials made.serial) made.slot (subst (λ o. MatchOption o (fork_in s.forks who.tty 1 ≡ None) (λ slot. IsSome (fork_in s.forks who.tty slot))) (sym made.superior) caller_over) w.own_tops made.name
    change_whole (Kill f) fits given = killed_whole (record s { pages = q }) (keeps_whole s w q fits.1 given.1) f (no_top f fits.0)
    change_whole (Freeze f on) fits given = mark_whole (record s { pages = q }) (keeps_whole s w q fits.1 given.1) f on
    change_whole (Become f body) fits given = body_whole (record s { pages = q }) (keeps_whole s w q fits.1 given.1) f body
    change_whole (Halt f) fits given = halted_whole (record s { pages = q }) (keeps_whole s w q fits.1 given.1) f
    change_whole (Store f at words) fits given =
        keeps_whole s w (stored_from q f at words) (kept_on s.pages q (stored_from q f at words) fits.1 (stored_from_kept q fits.1.sound f at words)) (words_given (next_serial (tree_of s)) nat_list_cmp_total f q at words given.1)

    -- the map of a fork that is made follows the caller, if it follows one
    wanted_given : IsNewGiven (next_serial (tree_of s)) who.tty (map_wanted caller)
    wanted_given = cond_both (bit (in_ac regs 1) 0 == 1) (FollowAll who) EmptyMap (IsNewGiven (next_serial (tree_of s)) who.tty) (λ follows. lived_given s w who lives) (λ none. tt)

    -- what a turn makes follows nobody else
    call_given : (number : ℕ) → (let c = turn_on no_files s.pages (fork_call number caller) in FitsEnd caller s.pages (λ x y. AreGiven (next_serial (tree_of s)) y.maps) c.pages c.end)
    call_given number = call_ends caller s.pages (λ x y. AreGiven (next_serial (tree_of s)) y.maps) (leading s.pages w.given)
        (λ room. leading (mapped caller s.pages) (added_given (next_serial (tree_of s)) s.pages.maps (next_name (tree_of s) who.tty) (map_wanted caller) w.given wanted_given)) number
      where
        leading : (p : NamedPages) → AreGiven (next_serial (tree_of s)) p.maps → Leads caller s.pages (λ x y. AreGiven (next_serial (tree_of s)) y.maps) p
        leading p given = record { itself = given; runs = λ steps. run_given (next_serial (tree_of s)) nat_list_cmp_total who steps (begun p regs.ac) given }

  -- so do the codes of forks that were killed
  codes_behind_whole : (change : ForkChange) (forks : ForkMap) → IsWholeMachine (record s { jobs = codes_behind change forks s.jobs })
  codes_behind_whole Nothing forks = w
  codes_behind_whole (Make f) forks = w
  codes_behind_whole (Kill f) forks = codes_whole s w f.tty (living_codes forks)
  codes_behind_whole (Freeze f on) forks = w
  codes_behind_whole (Become f body) forks = w
  codes_behind_whole (Halt f) forks = w
  codes_behind_whole (Store f at words) forks = w

module _ (s : PlainState) (w : IsWholeMachine s) where
  -- a fork call leaves the state whole
  pub fork_called_whole : (name : ForkName) (f : Fork) → map.get s.forks name ≡ Some f → IsForkName name → (number : ℕ) → IsWholeMachine (fork_called s f number)
  unfolding parts_behind
  fork_called_whole name f there fits number = by (fork_came s f number).end (call_keeps nat_list_cmp_total a terminal s.pages (sound s w) (next_absent s w f.name.tty) number) (call_given s w f.name f.body.regs terminal lives q number)
    where
      a : Asked
      a = record { who = f.name; regs = f.body.regs; tree = tree_of s }

      terminal : IsTerminal f.name.tty
      terminal = subst (λ (n : ForkName). n.tty.0 < TERMINALS) (sym (w.tree.slotted.own name f there)) fits.0

      own : IsOwner f.name.tty
      own = inl terminal

      lives : map.contains_key s.forks f.name ≡ true
      lives = ap (map.contains_key s.forks) (w.tree.slotted.own name f there) ∙ ap is_some there

      q : NamedPages
      q = (fork_came s f number).pages

      by : (e : End ForkChange) → FitsEnd a s.pages (λ x y. Keeps x y) q e → FitsEnd a s.pages (λ x y. AreGiven (next_serial (tree_of s)) y.maps) q e → IsWholeMachine (with_parts s (parts_behind forks_changed (parts_of s) (record (parts_of s) { pages = q }) e))
      by (Done change regs out post) ok given =
          let v = fork_changed change (record (forks_and_pages s) { pages = q }) in
          codes_behind_whole (with_forks_and_pages s v) (change_whole s w f.name f.body.regs terminal lives q change ok given) change v.tree.forks
      by (Waits on) ok given = w
      by Halts ok given = w
      by (Refused code) ok given = w
      by (Failed code) ok given = w
      by (Trap channel) ok given = w
