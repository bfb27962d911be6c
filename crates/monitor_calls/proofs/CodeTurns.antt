-- A turn of a call that changes forks, and codes of its job, as a turn over all that calls change.
use Rattle.std.proofs.Common.{◌≡◌, ◌<◌, ℕ, List, get_or, length, set, Bool, true, false, cond, None, Option, Some, refl, sym, ◌∙◌, ap, subst, inl, inr, ◌==◌}
use Rattle.std.proofs.lemmas.List.{set-get_or}
use Rattle.std.proofs.lemmas.Bool.Decides.{eqb_tells}
use Rattle.std.specs.Option.{option_map_or}
use Rattle.std.specs.Ordering.{nat_cmp}
use Rattle.std.specs.FinMap as map
use Rattle.machine_names.specs.declared.names.ForkName.{ForkName}
use Rattle.machine_names.specs.declared.names.Tty.{Tty}
use Rattle.page_contracts.specs.declared.answers.Need.{Need}
use Rattle.plain_files.specs.OpenFiles.{open_at}
use Rattle.plain_pages.specs.PlainPages.{NumberedPages}
use Rattle.plain_typing.specs.Lines.{Codes, InputLine}
use Rattle.plain_units.specs.declared.registers.Regs.{Regs}
use Rattle.plain_model.specs.State.{PlainJob}
use Rattle.plain_model.specs.declared.call.End.{End}
use Rattle.plain_model.specs.declared.call.End.TheVariants.{Done, Waits, Halts, Refused, Failed, Trap}
use Rattle.plain_model.specs.declared.call.ForkChange.{ForkChange}
use Rattle.plain_model.specs.declared.call.ForkChange.TheVariants.{Nothing, Make, Kill, Freeze, Become, Halt, Store}
use Rattle.plain_model.specs.declared.call.TheConstants.{KFORK}
use Rattle.plain_model.specs.Calls.{no_files, numbered, turn_on}
use Rattle.plain_model.specs.Families.{Parts, asks, codes_behind, interrupts_changed}
use Rattle.plain_model.specs.FileCalls.{Jobs}
use Rattle.plain_model.specs.ForkCalls.{fork_call, fork_changed}
use Rattle.plain_model.specs.Inferiors.{is_inferior}
use Rattle.plain_model.specs.InterruptCalls.{interrupt_calls, living_codes, with_codes_of}
use Rattle.plain_model.specs.Trees.{PlainTree}
use Rattle.plain_model.proofs.Calling.{jobs_behind}
use Rattle.plain_model.proofs.ForkMaps.{held_there}
use Rattle.call_turns.specs.declared.family.CallFamily.TheVariants.{Forks, Interrupts}
use Rattle.call_turns.specs.Families.{family_of}
use Rattle.call_turns.specs.declared.answer.Answer.{Answer}
use Rattle.call_turns.specs.Answers.{IsDone, IsTurn, answer_of}
use Rattle.job_forks.specs.Holding.{parts}
use Rattle.fork_tree.specs.Trees.{IsTree}
use Rattle.fork_tree.proofs.Leaves.{inferior_lives, inferior_over}
use Rattle.psi_calls.specs.Turning.{HasCodes, jobs_with}
use Rattle.file_tables.specs.Tables.{files_of, open_of}
use Rattle.file_tables.specs.Keys.{key_of}
use Rattle.monitor_calls.specs.declared.job.Job.{Job}
use Rattle.monitor_calls.specs.declared.typing.Typing.{Typing}
use Rattle.monitor_calls.specs.ForkUnit.{Tables, TurnedSo, answered_turn, line_behind, parts_in, rest_of}
use Rattle.monitor_calls.specs.Jobs.{job_at, jobs_of, plain_job}
use Rattle.monitor_calls.specs.Typings.{new_typing, typing_at}
use Rattle.monitor_calls.proofs.Calling.{answer_done, done_so, forks_went, interrupts_went, turned_so}
use Rattle.monitor_calls.proofs.Kills.{KillsIf, call_kills}
use Rattle.monitor_calls.proofs.Lookups.{job_found, jobs_typed}
use Rattle.monitor_calls.proofs.Sounds.{stands as same_beyond}

-- what was typed is as it was, where the line at a terminal is put back as it was
pub typed_stay : (typed : List Typing) (t : ℕ) (typing : Typing) (line : InputLine) → typing ≡ get_or typed t typing → line ≡ typing.input → set typed t (record typing { input = line }) ≡ typed
typed_stay typed t typing line read same = (λ i. set typed t (record typing { input = same i })) ∙ ap (set typed t) read ∙ set-get_or typed t typing

flip : (n m : ℕ) → (n == m) ≡ (m == n)
flip n m = elim (eqb_tells n m) [
  | inl same ↦ (λ i. same.1 i == sym same.1 i)
  | inr differ ↦ elim (eqb_tells m n) [
    | inl same ↦ absurd (differ.1 (sym same.1))
    | inr other ↦ differ.0 ∙ sym other.0
  ]
]

-- a call of a fork of a job; and what was typed at its terminal
module _ (was : Tables) (who : ForkName) (regs : Regs) (number : ℕ) (j : Job) (there : job_at was.jobs who.tty.0 ≡ Some j) (typing : Typing) (stands : typing_at was.typed who.tty.0 ≡ typing) (within : who.tty.0 < length was.jobs) (room : who.tty.0 < length was.typed) where
  abbrev t : Tty
  t = who.tty

  abbrev jobs : Jobs
  jobs = jobs_of (open_of was.files) was.typed was.jobs

  abbrev job : PlainJob
  job = plain_job (open_at (open_of was.files) t.0) typing j

  found : map.get jobs t.0 ≡ Some job
  found = job_found (open_of was.files) was.typed was.jobs t.0 j there ∙ ap (λ y. Some (plain_job (open_at (open_of was.files) t.0) y j)) stands

  pub has_codes : HasCodes jobs t typing.input
  has_codes = ap (λ (o : Option PlainJob). option_map_or (λ k. k.codes) o map.empty) found

  -- the codes of the job, changed
  codes_so : (change : Codes → Codes) → with_codes_of jobs t change ≡ map.insert jobs t.0 (record job { codes = change typing.input.codes })
  codes_so change = ap (λ (o : Option PlainJob). option_map_or (λ k. map.insert jobs t.0 (record k { codes = change k.codes })) o jobs) found

  module _ (left : InputLine) (input : left.input ≡ typing.input.input) where
    abbrev typed_now : List Typing
    typed_now = set was.typed t.0 (record typing { input = left })

    -- the jobs that are left
    jobs_left : jobs_with jobs t left ≡ jobs_of (open_of was.files) typed_now was.jobs
    jobs_left =
        codes_so (λ old. left.codes)
        ∙ ap (λ cs. map.insert jobs t.0 (record job { input = cs; codes = left.codes })) (sym input)
        ∙ sym (jobs_typed (open_of was.files) (open_of was.files) was.typed was.jobs t.0 (record typing { input = left }) j (λ u ne. refl) within room there)

    abbrev now : PlainTree → Tables
    now tree = record was { tree = tree; typed = typed_now }

    -- a call on pseudo-interrupts
    pub interrupt_turned : family_of number ≡ Some Interrupts → (tree : PlainTree) (IsReason : Need → Type 0) (p q : NumberedPages) (a : Answer)
        → (let v = parts_in (rest_of was) p in let c = turn_on no_files p (numbered interrupt_calls number (asks v who regs)) in
        IsTurn IsReason interrupts_changed v (record v { pages = c.pages }) (record { tree = tree; pages = q; files = files_of was.files; jobs = jobs_with jobs t left; clock = was.clock }) a c.end)
        → TurnedSo (key_of was.files) (parts_in (rest_of was) p) (parts_in (rest_of (now tree)) q) who regs number a
    interrupt_turned interrupts tree IsReason p q a comes =
        let v = parts_in (rest_of was) p in
        let told = subst (λ (js : Jobs). let c = turn_on no_files p (numbered interrupt_calls number (asks v who regs)) in IsTurn IsReason interrupts_changed v (record v { pages = c.pages }) (record { tree = tree; pages = q; files = files_of was.files; jobs = js; clock = was.clock }) a c.end) jobs_left comes in
        turned_so (key_of was.files) (λ (x : Parts nat_cmp). x) v (parts_in (rest_of (now tree)) q) who regs number a told
        (λ went. interrupts_went (key_of was.files) v who regs number interrupts (parts_in (rest_of (now tree)) q) a went)

    -- a fork call, whose line is left so
    module _ (trees : IsTree was.tree) (p : NumberedPages) (tree : PlainTree) where
      abbrev v : Parts nat_cmp
      v = parts_in (rest_of was) p

      still : left ≡ typing.input → jobs ≡ jobs_of (open_of was.files) typed_now was.jobs
      still same = ap (λ ys. jobs_of (open_of was.files) ys was.jobs) (sym (typed_stay was.typed t.0 typing left (sym stands ∙ same_beyond was.typed t.0 new_typing typing room) same))

      -- forks below the caller are of its job
      same_job : (f : ForkName) → is_inferior was.tree.forks who f ≡ true → f.tty ≡ t
      same_job f below =
          let k = inferior_lives was.tree trees who f below in
          let named = trees.slotted.own f k.0 k.1 in
          let over = inferior_over was.tree trees who k.0 (held_there was.tree.forks trees.slotted.own f k.0 k.1) (ap (is_inferior was.tree.forks who) named ∙ below) in
          λ i. record { 0 = (ap (λ (n : ForkName). n.tty.0) (sym named) ∙ over.2) i }

      -- where forks are killed, of the codes those of forks that live stay
      kills : (f : ForkName) → is_inferior was.tree.forks who f ≡ true → left ≡ record typing.input { codes = living_codes tree.forks typing.input.codes } → with_codes_of jobs f.tty (living_codes tree.forks) ≡ jobs_of (open_of was.files) typed_now was.jobs
      kills f below is =
          ap (λ u. with_codes_of jobs u (living_codes tree.forks)) (same_job f below)
          ∙ codes_so (living_codes tree.forks) ∙ ap (λ (l : InputLine). map.insert jobs t.0 (record job { codes = l.codes })) (sym is) ∙ sym (codes_so (λ old. left.codes)) ∙ jobs_left

      jobs_none : (change : ForkChange) → KillsIf false was.tree.forks who (Done change regs None None) → left ≡ typing.input → codes_behind change tree.forks jobs ≡ jobs_of (open_of was.files) typed_now was.jobs
      jobs_none Nothing none same = still same
      jobs_none (Make f) none same = still same
      jobs_none (Kill f) none same = absurd none
      jobs_none (Freeze f on) none same = still same
      jobs_none (Become f body) none same = still same
      jobs_none (Halt f) none same = still same
      jobs_none (Store f at words) none same = still same

      jobs_so : (b : Bool) → (number == KFORK) ≡ b → (e : End ForkChange) → KillsIf b was.tree.forks who e → left ≡ line_behind number (answer_of e) tree.forks typing.input → jobs_behind e tree.forks jobs ≡ jobs_of (open_of was.files) typed_now was.jobs
      jobs_so true is (Done change rs out post) which line =
          ap (λ c. codes_behind c tree.forks jobs) which.1
          ∙ kills which.0 which.2 (line ∙ ap (λ b. cond b (record typing.input { codes = living_codes tree.forks typing.input.codes }) typing.input) is)
      jobs_so false is (Done change rs out post) which line = jobs_none change which (line ∙ ap (λ b. cond b (record typing.input { codes = living_codes tree.forks typing.input.codes }) typing.input) is)
      jobs_so b is (Waits on) which line = still line
      jobs_so b is Halts which line = still line
      jobs_so b is (Refused code) which line = still line
      jobs_so b is (Failed code) which line = still line
      jobs_so b is (Trap channel) which line = still line

      pub fork_turned : family_of number ≡ Some Forks → (IsReason : Need → Type 0) (q : NumberedPages) (a : Answer) → left ≡ line_behind number a tree.forks typing.input
          → (let c = turn_on no_files p (fork_call number (asks v who regs)) in IsTurn IsReason fork_changed (parts was.tree p) (parts was.tree c.pages) (parts tree q) a c.end)
          → TurnedSo (key_of was.files) v (parts_in (rest_of (now tree)) q) who regs number a
      fork_turned forks IsReason q a line (inl went) =
          let c = turn_on no_files p (fork_call number (asks v who regs)) in
          let which = subst (λ b. KillsIf b was.tree.forks who c.end) (flip KFORK number) (call_kills (asks v who regs) p number) in
          let jobs_are = jobs_so (number == KFORK) refl c.end which (line ∙ ap (λ x. line_behind number x tree.forks typing.input) went.answered) in
          done_so (key_of was.files) v (parts_in (rest_of (now tree)) q) who regs number a (subst IsDone (sym went.answered) (answer_done c.end))
          (forks_went (key_of was.files) v who regs number forks tree q a went ∙ ap (λ (js : Jobs). answered_turn (record v { tree = tree; pages = q; jobs = js }) who a) jobs_are)
      fork_turned forks IsReason q a line (inr waits) =
          let same = still (line ∙ ap (λ x. line_behind number x tree.forks typing.input) waits.answered) in
          subst (TurnedSo (key_of was.files) v (parts_in (rest_of (now tree)) q) who regs number) (sym waits.answered)
          (λ i. record { tree = (waits.left i).tree; pages = (waits.left i).pages; files = files_of was.files; jobs = sym same i; clock = was.clock })
