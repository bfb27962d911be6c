-- The commands of users leave a whole state whole.
use Rattle.std.proofs.Common.{◌≡◌, ◌≢◌, ℕ, true, false, List, None, Some, refl, sym, ◌∙◌, ap, subst, arith}
use Rattle.std.specs.Prelude.{nat_lt, is_some, ◌||◌, ◌==◌}
use Rattle.std.specs.Cmp.{nat_cmp_total}
use Rattle.std.specs.FinMap as map
use Rattle.std.specs.FinMap.{nat_cmp-IsAntisymmetric}
use Rattle.std.proofs.lemmas.Bool.{cond_both}
use Rattle.std.proofs.lemmas.Bool.Decides.{nat_tests}
use Rattle.machine_names.proofs.Keys.{get_gone_other}
use Rattle.machine_names.specs.declared.names.ForkName.{ForkName}
use Rattle.machine_names.specs.declared.names.TheConstants.{MOST_FORKS, SPACE_PAGES}
use Rattle.machine_names.specs.declared.names.Tty.{Tty}
use Rattle.plain_typing.specs.declared.command.Command.{Command}
use Rattle.plain_typing.specs.declared.command.Command.TheVariants as command
use Rattle.plain_pages.specs.References.{page_at}
use Rattle.plain_model.specs.declared.fork.Fork.{Fork}
use Rattle.plain_model.specs.State.{PlainState, PlainJob}
use Rattle.plain_model.specs.Forks.{change_fork, with_fork}
use Rattle.plain_model.specs.Trees.{changed, tree_of}
use Rattle.plain_model.specs.ForkCalls.{without_inferiors}
use Rattle.fork_tree.proofs.Killing.{killed_last}
use Rattle.plain_model.specs.FileCalls.{times_held}
use Rattle.plain_model.specs.InterruptCalls.{living_codes}
use Rattle.plain_model.specs.FileEvents.{page_named}
use Rattle.plain_model.specs.Unit.{Effect}
use Rattle.plain_model.specs.Commands.{begun_at, commanded, continued, delete_file, forks_and_pages, go_on, in_program, is_forced, logged_out, restarted, resumed, run_program, running, start_address, start_again, started, with_forks_and_pages, with_job_at, with_program}
use Rattle.plain_model.proofs.Posted.{IsSame}
use Rattle.plain_units.proofs.Lookups.{looked_up}
use Rattle.fork_tree.specs.Inferiors.{HasNoInferior}
use Rattle.fork_tree.proofs.Slots.{held_lives, some_of}
use Rattle.plain_laws.specs.Whole.{IsWholeMachine}
use Rattle.plain_laws.specs.WholeFiles.{AreOpen, Jobs}
use Rattle.plain_laws.proofs.FilesKept.{gone_tells, job_gone}
use Rattle.plain_laws.proofs.LoneTops.{only_top}
use Rattle.plain_laws.proofs.Programs.{HasProgram, program_set}
use Rattle.plain_laws.proofs.WholeForks.{IsBare, bare_whole, changed_if, job_whole, left_whole, pages_whole, put}
use Rattle.plain_laws.proofs.WholeJfns.{removed_whole}

-- what a step leaves is whole
abbrev pub Leaves : Effect → Type 0
Leaves e = IsWholeMachine e.state

module _ (s : PlainState) (w : IsWholeMachine s) where
  -- a fork changed that keeps its name, slot and superior
  pub changed_whole : (name : ForkName) (change : Fork → Fork) → ((f : Fork) → IsSame f (change f)) → IsWholeMachine (change_fork s name change)
  changed_whole name change same = looked_up IsWholeMachine _ s (map.get s.forks name) (λ f is. put s w name f is (change f) (same f)) (λ none. w)

  -- a job changed that keeps its top fork and its JFNs
  pub with_job_whole : (t : Tty) (j k : PlainJob) → map.get s.jobs t.0 ≡ Some j → k.top ≡ j.top → k.jfns ≡ j.jfns → IsWholeMachine (with_job_at s t k)
  with_job_whole t j k is top jfns = job_whole s w t.0 j k is top (subst (AreOpen s.files) (sym jfns) (w.files.jfns t.0 j is))

-- a fork changed, and then a job
pub changed_job_whole : (s : PlainState) → IsWholeMachine s → (name : ForkName) (change : Fork → Fork) → ((f : Fork) → IsSame f (change f)) → (t : Tty) (j k : PlainJob) → map.get s.jobs t.0 ≡ Some j → k.top ≡ j.top → k.jfns ≡ j.jfns
    → IsWholeMachine (with_job_at (change_fork s name change) t k)
changed_job_whole s w name change same t j k is top jfns = with_job_whole (change_fork s name change) (changed_whole s w name change same) t j k (ap (λ (x : Jobs). map.get x t.0) stay ∙ is) top jfns
  where
    stay : (change_fork s name change).jobs ≡ s.jobs
    stay = looked_up (λ (c : PlainState). c.jobs ≡ s.jobs) _ s (map.get s.forks name) (λ f is. refl) (λ none. refl)

module _ (s : PlainState) (w : IsWholeMachine s) (t : Tty) (j : PlainJob) (is : map.get s.jobs t.0 ≡ Some j) where
  pub started_whole : (address : ℕ) → IsWholeMachine (started s t address j)
  started_whole address = changed_job_whole s w j.top (restarted address) (λ f. (refl, refl, refl)) t j (in_program j) is refl refl

  start_whole : Leaves (start_again s t j)
  start_whole = looked_up Leaves _ _ j.start (λ address has. started_whole address) (λ none. w)

  go_on_whole : Leaves (go_on s t j)
  go_on_whole = looked_up Leaves (continued s t j) _ (map.get s.forks j.top)
      (λ f there. cond_both (is_forced f.body.status || (f.body.units == 0)) _ _ Leaves (λ no. w)
      (λ yes. with_job_whole (with_fork s (resumed f)) (put s w j.top f there (resumed f) (refl, refl, refl)) t j (in_program j) is refl refl)) (λ none. w)

  -- without inferiors, the top fork is the only one of its job
  abbrev pub alone : PlainState
  alone = with_forks_and_pages s (without_inferiors (forks_and_pages s) j.top)

  pub alone_whole : IsBare j.top alone
  alone_whole = bare_whole s w j.top

  pub top_alone : (f : Fork) × (map.get alone.forks j.top ≡ Some f) × (f.slot ≡ 1) × (f.superior ≡ None)
  top_alone = alone_whole.whole.tops t.0 j is

  pub only_one : (f : ForkName) → map.contains_key alone.forks f ≡ true → f.tty.0 ≡ t.0 → f ≡ j.top
  only_one f lives job =
      let tree = alone_whole.whole.tree in
      let g = some_of (map.get alone.forks f) lives in
      let own = tree.slotted.own f g.0 g.1 in
      let top_name : top_alone.0.name ≡ j.top = tree.slotted.own j.top top_alone.0 top_alone.1 in
      let home : g.0.name.tty.0 ≡ top_alone.0.name.tty.0 = ap (λ (n : ForkName). n.tty.0) own ∙ job ∙ sym (w.own_tops t.0 j is) ∙ ap (λ (n : ForkName). n.tty.0) (sym top_name) in
      let it = only_top (tree_of alone) tree top_alone.0 (held_lives alone.forks tree.slotted j.top top_alone.0 top_alone.1) top_alone.2 (subst (λ n. HasNoInferior alone.forks n) (sym top_name) alone_whole.bare)
      g.0 (held_lives alone.forks tree.slotted f g.0 g.1) home in
      sym own ∙ ap (λ (x : Fork). x.name) it ∙ top_name

  -- it has a program in its map, begins it, and reads its terminal
  module _ (name : List ℕ) (address : ℕ) where
    abbrev begun : PlainState
    begun = record alone { forks = changed alone.forks (begun_at address) (map.get alone.forks j.top) }

    begun_whole : IsWholeMachine begun
    begun_whole = changed_if alone alone_whole.whole (begun_at address) (λ f. (refl, refl, refl)) (map.get alone.forks j.top) (λ k at. ap (map.get alone.forks) (alone_whole.whole.tree.slotted.own j.top k at) ∙ at)

    pub has_program : HasProgram j.top name SPACE_PAGES alone.pages (with_program SPACE_PAGES alone.pages j.top name)
    has_program = program_set j.top name alone.pages alone_whole.whole.pages (sym (alone_whole.whole.forks j.top) ∙ ap is_some top_alone.1) SPACE_PAGES (omega arith)

    pub running_whole : IsWholeMachine (running s t j name address)
    running_whole =
        let q = with_program SPACE_PAGES alone.pages j.top name in
        let whole = pages_whole begun begun_whole q has_program.whole (omega (arith, has_program.room, has_program.limit, alone_whole.whole.room)) has_program.files has_program.keys
        (λ at serial page a follows. alone_whole.whole.given at serial page a (has_program.follows at serial page a follows)) in
        with_job_whole (record begun { pages = q }) whole t j (record (in_program j) { start = Some address; codes = living_codes begun.forks j.codes }) is refl refl

  run_whole : (name : List ℕ) → Leaves (run_program s t j name)
  run_whole name = cond_both (map.contains_key s.files name) _ _ Leaves
      (λ there. looked_up Leaves _ _ (page_at s.pages (page_named name 0)) (λ page found. running_whole name (start_address s name)) (λ none. w)) (λ none. w)

  delete_whole : (name : List ℕ) → Leaves (delete_file s t name)
  delete_whole name = cond_both (map.contains_key s.files name) _ _ Leaves
      (λ there. cond_both (nat_lt 0 (times_held s.jobs name)) _ _ Leaves (λ busy. w) (λ free. removed_whole s w name (none_of (times_held s.jobs name) free))) (λ none. w)
    where
      none_of : (k : ℕ) → nat_lt 0 k ≡ false → k ≡ 0
      none_of k h = grind (arith, nat_tests)

  -- the top fork goes as the last of its job, and so no fork is left without one
  pub logged_out_whole : IsWholeMachine (logged_out s t j)
  logged_out_whole = subst (λ v. IsWholeMachine (record (with_forks_and_pages s v) { jobs = map.remove s.jobs t.0 })) (sym (killed_last (forks_and_pages s) j.top))
      (left_whole alone alone_whole.whole j.top alone_whole.bare (map.remove s.jobs t.0) (job_gone s.files alone.pages.files s.jobs alone_whole.whole.files t.0) homes were)
    where
      homes : (f : ForkName) → f ≢ j.top → map.contains_key alone.forks f ≡ true → map.contains_key (map.remove s.jobs t.0) f.tty.0 ≡ true
      homes f other lives = ap is_some (get_gone_other nat_cmp_total nat_cmp-IsAntisymmetric s.jobs t.0 f.tty.0 (λ job. other (only_one f lives job))) ∙ alone_whole.whole.homes f lives

      were : (u : ℕ) (i : PlainJob) → map.get (map.remove s.jobs t.0) u ≡ Some i → (map.get s.jobs u ≡ Some i) × (i.top ≢ j.top)
      were u i at =
          let was = gone_tells nat_cmp_total nat_cmp-IsAntisymmetric s.jobs t.0 u i at in
          (was.1, λ same. was.0 (sym (w.own_tops u i was.1) ∙ ap (λ (n : ForkName). n.tty.0) same ∙ w.own_tops t.0 j is))

  -- WHAT A COMMAND LEAVES IS WHOLE
  pub commanded_whole : (c : Command) → Leaves (commanded s t j c)
  unfolding commanded
  commanded_whole command.Blank = w
  commanded_whole (command.Run name) = run_whole name
  commanded_whole command.Start = start_whole
  commanded_whole command.Continue = go_on_whole
  commanded_whole command.Directory = w
  commanded_whole (command.Delete name) = delete_whole name
  commanded_whole command.Logout = logged_out_whole
  commanded_whole command.Unknown = w
