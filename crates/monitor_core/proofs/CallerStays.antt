-- A fork that makes a call which changes forks has its place among those that the turn leaves.
use Rattle.std.proofs.Common.{◌≡◌, ℕ, Bool, true, false, ◌||◌, List, [], ◌∷◌, Option, None, Some, refl, sym, ◌∙◌, ap, subst, arith, inl, inr, Ordering}
use Rattle.std.specs.Prelude.{MatchBool}
use Rattle.std.specs.List.{list_any}
use Rattle.std.specs.Option.{option_map, option_map_or}
use Rattle.std.specs.FinMap as map
use Rattle.plain_model.specs.declared.call.End.{End}
use Rattle.plain_model.specs.declared.call.End.TheVariants.{Done, Waits, Halts, Refused, Failed, Trap}
use Rattle.plain_model.specs.declared.call.ForkChange.{ForkChange}
use Rattle.plain_model.specs.declared.call.ForkChange.TheVariants.{Nothing, Make, Kill, Freeze, Become, Halt, Store}
use Rattle.plain_units.specs.declared.channel.TheConstants.{INFERIOR_ENDED}
use Rattle.plain_model.specs.declared.fork.Fork.{Fork}
use Rattle.script_texts.specs.declared.status.ForkStatus.TheVariants.{Halted}
use Rattle.machine_names.specs.declared.names.ForkName.{ForkName}
use Rattle.machine_names.specs.declared.names.Tty.{Tty}
use Rattle.plain_model.specs.Calls.{no_files, parts_behind, turn_on, Asked}
use Rattle.plain_model.specs.Forks.{ForkMap, fork_in, superior_of, with_status}
use Rattle.machine_names.specs.Orders.{same_fork}
use Rattle.plain_model.specs.ForkCalls.{ForkParts, fork_call, fork_changed, killed, with_halted}
use Rattle.plain_model.specs.Inferiors.{is_in_branch, is_inferior}
use Rattle.fork_tree.specs.Inferiors.{without_branch}
use Rattle.plain_model.specs.FileCalls.{Jobs}
use Rattle.plain_model.specs.InterruptCalls.{InterruptParts, interrupt_changed}
use Rattle.plain_model.specs.Interrupts.{channels_of, forces, posted, posted_all}
use Rattle.plain_model.specs.Posting.{told_if, with_all_posted}
use Rattle.plain_model.specs.declared.call.InterruptChange.{InterruptChange}
use Rattle.plain_model.specs.declared.call.SleepChange.{SleepChange}
use Rattle.plain_model.specs.declared.call.SleepChange.TheVariants.{Nothing as Unslept, Awakes}
use Rattle.plain_model.specs.ClockCalls.{clock_changed, without_moment}
use Rattle.plain_model.specs.declared.call.InterruptChange.TheVariants.{Become as Set, Post, Assign, Unassign}
use Rattle.plain_pages.specs.PlainPages.{PlainPages}
use Rattle.plain_model.specs.Trees.{PlainTree, changed, end_told, unwaited, waiters_woken, with_body, with_mark}
use Rattle.plain_model.proofs.ChangedForks.{get_changed, of_job, of_job_holds}
use Rattle.plain_model.proofs.OtherJobs.{waiters_job}
use Rattle.plain_model.proofs.ForkEnds.{Anyhow, FitsChange, FitsEnd, call_names}
use Rattle.plain_model.proofs.ForkMaps.{AreOwn, cases_name, get_put, get_put_other, held_there, names_same, slot_tells, superior_tells}
use Rattle.plain_model.proofs.Posted.{posted_same}
use Rattle.fork_tree.specs.Trees.{IsTree, Lives}
use Rattle.fork_tree.proofs.Branches.{gone_or_left}
use Rattle.fork_tree.proofs.Kept.{name_unused}
use Rattle.fork_tree.proofs.Killing.{killed_branch}
use Rattle.fork_tree.proofs.Leaves.{inferior_lives}
use Rattle.job_forks.proofs.Branch.{below_younger}

module _ (f : Fork) where
  -- a fork of its name stands in its place, among forks that are under their own names
  record StandsIn (m : ForkMap) : Type 0 where
    own : AreOwn m
    fork : Fork
    there : map.get m f.name ≡ Some fork
    superior : fork.superior ≡ f.superior

  is_it : (m : ForkMap) (s : StandsIn m) (k : Fork) → map.get m k.name ≡ Some k → f.name ≡ k.name → k ≡ s.fork
  is_it m s k at same = let both : Some k ≡ Some s.fork = sym at ∙ ap (map.get m) (sym same) ∙ s.there in cc both

  put_in : (m : ForkMap) → StandsIn m → (k : Fork) → (f.name ≡ k.name → k.superior ≡ f.superior) → StandsIn (map.insert m k.name k)
  put_in m s k same = elim (cases_name f.name k.name) [
    | inl at ↦ record { own = owned; fork = k; there = get_put m k.name f.name k at; superior = same at }
    | inr ne ↦ record { own = owned; fork = s.fork; there = get_put_other m k.name f.name k ne ∙ s.there; superior = s.superior }
  ]
    where
      owned : AreOwn (map.insert m k.name k)
      owned q g e = elim (cases_name q k.name) [
        | inl at ↦ let both : Some k ≡ Some g = sym (get_put m k.name q k at) ∙ e in let one : k ≡ g = cc both in ap (λ (x : Fork). x.name) (sym one) ∙ sym at
        | inr ne ↦ s.own q g (sym (get_put_other m k.name q k ne) ∙ e)
      ]

  -- a change that leaves the places of forks leaves its place, if there is one
  changed_in : (m : ForkMap) → StandsIn m → (change : Fork → Fork) → ((k : Fork) → ((change k).name ≡ k.name) × ((change k).superior ≡ k.superior)) → (o : Option Fork) → ((k : Fork) → o ≡ Some k → map.get m k.name ≡ Some k)
      → StandsIn (changed m change o)
  changed_in m s change keeps None there = s
  changed_in m s change keeps (Some k) there =
      let named = (keeps k).0 in
      subst (λ (n : ForkName). StandsIn (map.insert m n (change k))) named
      (put_in m s (change k) (λ e. (keeps k).1 ∙ ap (λ (x : Fork). x.superior) (is_it m s k (there k refl) (e ∙ named)) ∙ s.superior))

  waiters_stand : (m : ForkMap) → StandsIn m → (t : Tty) → StandsIn (waiters_woken m t)
  unfolding waiters_woken
  waiters_stand m s t = record {
    own = (waiters_job m s.own t).own;
    fork = of_job unwaited t s.fork;
    there = get_changed (of_job unwaited t) m f.name ∙ ap (option_map (of_job unwaited t)) s.there;
    superior = of_job_holds (λ (x y : Fork). y.superior ≡ x.superior) (λ x. refl) unwaited (λ x. refl) t s.fork ∙ s.superior;
  }

  told_stands : (m : ForkMap) → StandsIn m → (g : Fork) → StandsIn (end_told m g)
  told_stands m s g =
      let woken = waiters_woken m g.name.tty in
      let w = waiters_stand m s g.name.tty in
      changed_in woken w (λ k. posted k INFERIOR_ENDED) (λ k. let same = posted_same k INFERIOR_ENDED in (same.0, same.2)) (superior_of woken g) (λ k e. let at = superior_tells woken w.own g k e in at.0)

  -- channels posted to a fork leave its place
  all_posted_same : (channels : List ℕ) (k : Fork) → ((posted_all k channels).name ≡ k.name) × ((posted_all k channels).superior ≡ k.superior)
  all_posted_same [] k = (refl, refl)
  all_posted_same (channel ∷ channels) k =
      let first = posted_same k channel in
      let rest = all_posted_same channels (posted k channel) in
      (rest.0 ∙ first.0, rest.1 ∙ first.2)

  -- so where they are posted to a fork that lives
  all_posted_stand : (m : ForkMap) → StandsIn m → (channels : List ℕ) (k : Fork) → map.get m k.name ≡ Some k → StandsIn (with_all_posted m channels k)
  all_posted_stand m s channels k at = told (list_any (forces k.body.psi) channels)
    where
      g : Fork
      g = posted_all k channels

      put : StandsIn (map.insert m g.name g)
      put = let same = all_posted_same channels k in put_in m s g (λ e. same.1 ∙ ap (λ (x : Fork). x.superior) (is_it m s k at (e ∙ same.0)) ∙ s.superior)

      told : (b : Bool) → StandsIn (told_if b m (posted_all k channels))
      told true = told_stands (map.insert m g.name g) put g
      told false = put

  module _ (tree : PlainTree) (is : IsTree tree) (lives : Lives tree.forks f) where
    abbrev stands : StandsIn tree.forks
    stands = record { own = is.slotted.own; fork = f; there = lives; superior = refl }

    -- it is no inferior of itself
    not_below : (k : Fork) → map.get tree.forks k.name ≡ Some k → is_inferior tree.forks f.name k.name ≡ true → k ≡ f → ⊥
    not_below k at below same = let young = below_younger tree is f.name k at below in omega (arith, young, ap (λ (x : Fork). x.name.serial) same)

    -- nor does it go with one
    stays_with : (k : Fork) → map.get tree.forks k.name ≡ Some k → is_inferior tree.forks f.name k.name ≡ true → is_in_branch tree.forks k.name f.name ≡ false
    stays_with k at below = by (same_fork f.name k.name) refl (is_inferior tree.forks k.name f.name) refl
      where
        by : (b : Bool) → same_fork f.name k.name ≡ b → (c : Bool) → is_inferior tree.forks k.name f.name ≡ c → (same_fork f.name k.name || is_inferior tree.forks k.name f.name) ≡ false
        by true same c over = absurd (not_below k at below (is_it tree.forks stands k at (names_same f.name k.name same)))
        by false same true over =
            let young = below_younger tree is f.name k at below in
            let old = below_younger tree is k.name f lives over in
            absurd (omega (arith, young, old))
        by false same false over = ap (λ b. b || is_inferior tree.forks k.name f.name) same ∙ over

    branch_stands : (k : Fork) → map.get tree.forks k.name ≡ Some k → is_inferior tree.forks f.name k.name ≡ true → StandsIn (without_branch tree.forks k.name)
    branch_stands k at below = record {
      own = λ q g e. owned q g e (is_in_branch tree.forks k.name q) (gone_or_left tree.forks k.name q);
      fork = f;
      there = subst (λ b. MatchBool b (map.get (without_branch tree.forks k.name) f.name ≡ None) (map.get (without_branch tree.forks k.name) f.name ≡ map.get tree.forks f.name)) (stays_with k at below) (gone_or_left tree.forks k.name f.name) ∙ lives;
      superior = refl;
    }
      where
        owned : (q : ForkName) (g : Fork) → map.get (without_branch tree.forks k.name) q ≡ Some g → (b : Bool) → MatchBool b (map.get (without_branch tree.forks k.name) q ≡ None) (map.get (without_branch tree.forks k.name) q ≡ map.get tree.forks q) → g.name ≡ q
        owned q g e true gone = absurd (let no : None ≡ Some g = sym gone ∙ e in cc no)
        owned q g e false left = is.slotted.own q g (sym left ∙ e)

    abbrev asked_so : Asked
    asked_so = record { who = f.name; regs = f.body.regs; tree = tree }

    of_name_stands : (name : ForkName) (change : Fork → Fork) → ((k : Fork) → ((change k).name ≡ k.name) × ((change k).superior ≡ k.superior)) → StandsIn (changed tree.forks change (map.get tree.forks name))
    of_name_stands name change keeps = changed_in tree.forks stands change keeps (map.get tree.forks name) (λ k e. held_there tree.forks is.slotted.own name k e)

    module _ {K : Type 0} {file_cmp : K → K → Ordering} where
      abbrev parts_so : PlainPages file_cmp → ForkParts file_cmp
      parts_so p = record { tree = tree; pages = p }

      killed_stands : (p : PlainPages file_cmp) (name : ForkName) → is_inferior tree.forks f.name name ≡ true → StandsIn (killed (parts_so p) name).tree.forks
      killed_stands p name below =
          let k = inferior_lives tree is f.name name below in
          let named = is.slotted.own name k.0 k.1 in
          subst StandsIn (sym (killed_branch (parts_so p) name))
          (subst (λ (n : ForkName). StandsIn (without_branch tree.forks n)) named
          (branch_stands k.0 (held_there tree.forks is.slotted.own name k.0 k.1) (ap (is_inferior tree.forks f.name) named ∙ below)))

      halted_stands : (p : PlainPages file_cmp) (name : ForkName) → StandsIn (option_map_or (with_halted (parts_so p)) (map.get tree.forks name) (parts_so p)).tree.forks
      halted_stands p name = by (map.get tree.forks name) refl
        where
          by : (o : Option Fork) → map.get tree.forks name ≡ o → StandsIn (option_map_or (with_halted (parts_so p)) o (parts_so p)).tree.forks
          by None none = stands
          by (Some k) there =
              let at = held_there tree.forks is.slotted.own name k there in
              let g = with_status k Halted in
              told_stands (map.insert tree.forks g.name g) (put_in tree.forks stands g (λ e. ap (λ (x : Fork). x.superior) (is_it tree.forks stands k at e))) g

      change_stands : (p q : PlainPages file_cmp) (change : ForkChange) → FitsChange asked_so p (Anyhow asked_so p) q change → StandsIn (fork_changed change (parts_so q)).tree.forks
      unfolding fork_changed
      change_stands p q Nothing fits = stands
      change_stands p q (Make h) fits =
          put_in tree.forks stands h (λ e. absurd (let no : Some f ≡ None = sym lives ∙ ap (map.get tree.forks) (e ∙ fits.name) ∙ name_unused tree f.name.tty is in cc no))
      change_stands p q (Kill name) fits = waiters_stand (killed (parts_so q) name).tree.forks (killed_stands q name fits.0) name.tty
      change_stands p q (Freeze name on) fits = of_name_stands name (with_mark on) (λ k. (refl, refl))
      change_stands p q (Become name body) fits = of_name_stands name (with_body body) (λ k. (refl, refl))
      change_stands p q (Halt name) fits = halted_stands q name
      change_stands p q (Store name at words) fits = stands

      end_stands : (p q : PlainPages file_cmp) (e : End ForkChange) → FitsEnd asked_so p (Anyhow asked_so p) q e → StandsIn (parts_behind fork_changed (parts_so p) (parts_so q) e).tree.forks
      unfolding parts_behind
      end_stands p q (Done change regs out post) fits = change_stands p q change fits
      end_stands p q (Waits on) fits = stands
      end_stands p q Halts fits = stands
      end_stands p q (Refused code) fits = stands
      end_stands p q (Failed code) fits = stands
      end_stands p q (Trap channel) fits = stands

      -- a fork of its name is where the fork that called was
      pub caller_stays : (p : PlainPages file_cmp) (number : ℕ)
          → (let c = turn_on no_files p (fork_call number asked_so) in (g : Fork) × (map.get (parts_behind fork_changed (parts_so p) (parts_so c.pages) c.end).tree.forks f.name ≡ Some g) × (g.superior ≡ f.superior) × (g.name ≡ f.name))
      caller_stays p number = let c = turn_on no_files p (fork_call number asked_so) in let s = end_stands p c.pages c.end (call_names asked_so p number) in (s.fork, s.there, s.superior, s.own f.name s.fork s.there)

    -- so behind a turn of a call on the clock
    sleep_stands : (change : SleepChange) → StandsIn (clock_changed change tree).forks
    unfolding clock_changed
    sleep_stands Unslept = stands
    sleep_stands (Awakes name) = of_name_stands name without_moment (λ k. (refl, refl))

    end_sleeps : (e : End SleepChange) → StandsIn (parts_behind clock_changed tree tree e).forks
    unfolding parts_behind
    end_sleeps (Done change regs out post) = sleep_stands change
    end_sleeps (Waits on) = stands
    end_sleeps Halts = stands
    end_sleeps (Refused code) = stands
    end_sleeps (Failed code) = stands
    end_sleeps (Trap channel) = stands

    pub sleeper_stays : (e : End SleepChange) → (g : Fork) × (map.get (parts_behind clock_changed tree tree e).forks f.name ≡ Some g) × (g.superior ≡ f.superior) × (g.name ≡ f.name)
    sleeper_stays e = let s = end_sleeps e in (s.fork, s.there, s.superior, s.own f.name s.fork s.there)

    -- so behind a turn of a call on pseudo-interrupts
    module _ (jobs : Jobs) where
      abbrev tables_so : InterruptParts
      tables_so = record { tree = tree; jobs = jobs }

      posted_stand : (name : ForkName) (channels : List ℕ) (o : Option Fork) → map.get tree.forks name ≡ o → StandsIn (option_map_or (with_all_posted tree.forks channels) o tree.forks)
      posted_stand name channels None none = stands
      posted_stand name channels (Some k) there = all_posted_stand tree.forks stands channels k (held_there tree.forks is.slotted.own name k there)

      interrupt_stands : (change : InterruptChange) → StandsIn (interrupt_changed change tables_so).tree.forks
      unfolding interrupt_changed
      interrupt_stands (Set name body) = of_name_stands name (with_body body) (λ k. (refl, refl))
      interrupt_stands (Post name word) = posted_stand name (channels_of word) (map.get tree.forks name) refl
      interrupt_stands (Assign code name channel) = stands
      interrupt_stands (Unassign t code) = stands

      end_interrupts : (e : End InterruptChange) → StandsIn (parts_behind interrupt_changed tables_so tables_so e).tree.forks
      unfolding parts_behind
      end_interrupts (Done change regs out post) = interrupt_stands change
      end_interrupts (Waits on) = stands
      end_interrupts Halts = stands
      end_interrupts (Refused code) = stands
      end_interrupts (Failed code) = stands
      end_interrupts (Trap channel) = stands

      pub interrupter_stays : (e : End InterruptChange) → (g : Fork) × (map.get (parts_behind interrupt_changed tables_so tables_so e).tree.forks f.name ≡ Some g) × (g.superior ≡ f.superior) × (g.name ≡ f.name)
      interrupter_stays e = let s = end_interrupts e in (s.fork, s.there, s.superior, s.own f.name s.fork s.there)
