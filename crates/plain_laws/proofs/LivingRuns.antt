-- No code outlives its fork wherever a run comes.
use Rattle.std.proofs.Common.{◌≡◌, ℕ, ◌+◌, ◌++◌, ◌%◌, true, List, [], ◌∷◌, None, Some, inl, inr, refl, sym, ◌∙◌, ap, length, All}
use Rattle.std.specs.Prelude.{is_some, nat_lt, take, ◌==◌, ◌||◌}
use Rattle.std.specs.Ordering.{nat_cmp}
use Rattle.std.specs.Cmp.{nat_cmp_total}
use Rattle.std.specs.FinMap as map
use Rattle.std.specs.FinMap.{nat_cmp-IsAntisymmetric}
use Rattle.std.proofs.lemmas.Bool.{cond_both}
use Rattle.std.proofs.lemmas.List.Elements.{All-head, All-tail}
use Rattle.outside.specs.declared.TheConstants.{PAGE_WORDS}
use Rattle.machine_names.proofs.Keys.{get_put}
use Rattle.machine_names.specs.Orders.{name_cmp}
use Rattle.machine_names.specs.declared.character.TheConstants.{LINE_END}
use Rattle.machine_names.specs.declared.names.ForkName.{ForkName}
use Rattle.machine_names.specs.declared.names.Kind.TheVariants.{Write}
use Rattle.machine_names.specs.declared.names.Slot.{Slot}
use Rattle.machine_names.specs.declared.names.TheConstants.{ACCUMULATORS, LAST_SERIAL, MOST_FILES, MOST_FORKS}
use Rattle.machine_names.specs.declared.names.Tty.{Tty}
use Rattle.plain_files.specs.Sizes.{PlainFile}
use Rattle.plain_pages.specs.declared.map.NewMap.TheVariants.{Empty as EmptyMap}
use Rattle.plain_pages.specs.NewMaps.{with_map}
use Rattle.plain_pages.specs.References.{Referred, denied, full, granted, in_map, page_at, reference, slot_at}
use Rattle.plain_pages.specs.Room.{HasRoom}
use Rattle.plain_typing.specs.Characters.{read_as}
use Rattle.plain_typing.specs.Commands.{command_of}
use Rattle.plain_typing.specs.Typing.{fate_of}
use Rattle.plain_typing.specs.declared.command.Command.{Command as ACommand}
use Rattle.plain_typing.specs.declared.command.Command.TheVariants as command
use Rattle.plain_typing.specs.declared.typed.TheConstants.{CONTROL_C, MOST_STORED}
use Rattle.plain_typing.specs.declared.typed.Typed.{Typed}
use Rattle.plain_typing.specs.declared.typed.Typed.TheVariants.{Stored, Dropped, Posts, ControlC}
use Rattle.plain_units.proofs.Lookups.{looked_up}
use Rattle.script_texts.specs.Limits.{FitsStep}
use Rattle.script_texts.specs.declared.event.Event.{Event}
use Rattle.script_texts.specs.declared.event.Event.TheVariants.{Login, TypeIn, File, Words, Poke, Start, Run, Tick, Evict, Drum, Auto, Examine, Forks, Page, Trace}
use Rattle.script_texts.specs.declared.event.Step.{Step}
use Rattle.script_texts.specs.declared.event.Step.TheVariants.{Outer, Unit as AUnit, Idle}
use Rattle.plain_model.specs.Calls.{with_ac}
use Rattle.plain_model.specs.Commands.{begun_at, commanded, continued, delete_file, forks_and_pages, go_on, in_program, is_forced, logged_out, restarted, resumed, run_program, running, start_address, start_again, with_job_at}
use Rattle.plain_model.specs.Events.{at_job, examined_in, login, new_job, outer, poked, poked_at, with_job, word_seen}
use Rattle.plain_model.specs.FileCalls.{times_held}
use Rattle.plain_model.specs.FileEvents.{console, page_named, written}
use Rattle.plain_model.specs.ForkCalls.{without_inferiors}
use Rattle.plain_model.specs.Forks.{ForkMap, change_fork, top_fork, with_regs}
use Rattle.plain_model.specs.InterruptCalls.{living_codes}
use Rattle.plain_model.specs.Interrupts.{forces, posted}
use Rattle.plain_model.specs.Run.{apply, state_after}
use Rattle.plain_model.specs.State.{PlainState, PlainJob, opening}
use Rattle.plain_model.specs.Trees.{next_name, next_serial, readers_woken, sleepers_awoken, tree_of, with_mark}
use Rattle.plain_model.specs.TypeEvents.{channel_posted, interrupted, line_ended, line_of, posted_at, stopped_by, typed_all, typed_at, typed_one, typed_so}
use Rattle.plain_model.specs.Unit.{Effect, unit}
use Rattle.plain_model.specs.declared.fork.Fork.{Fork}
use Rattle.plain_model.specs.declared.fork.TerminalMode.{TerminalMode}
use Rattle.plain_model.specs.declared.fork.TerminalMode.TheVariants.{Command, Program}
use Rattle.plain_laws.specs.Whole.{AreOfLiving, IsWhole, IsWholeMachine}
use Rattle.plain_laws.proofs.FilesKept.{put_tells}
use Rattle.plain_laws.proofs.LivingCodes.{KeepsCodes, stopped_codes, unit_codes, with_fork_codes}
use Rattle.plain_laws.proofs.LivingForks.{Stay, changed_there, gone_codes, narrowed_job, put_codes, put_there, readers_there, same_codes, sleepers_there, still_living}
use Rattle.plain_laws.proofs.OtherJobs.{PartsStay, below_stays, killed_stays}
use Rattle.plain_laws.proofs.WholeCommands.{with_job_whole}
use Rattle.plain_laws.proofs.WholeRuns.{step_whole, whole_opening}
use Rattle.plain_laws.proofs.WholeTyped.{typed_at_whole}

-- ---- commands

module _ (s : PlainState) (are : AreOfLiving s.forks s.jobs) (t : Tty) (j k : PlainJob) (is : map.get s.jobs t.0 ≡ Some j) (codes : k.codes ≡ j.codes) where
  -- a job changed but for its codes, with forks that stay
  job_codes : (m : ForkMap) → Stay s.forks m → AreOfLiving m (map.insert s.jobs t.0 k)
  job_codes m stay = still_living s.forks m s.jobs (map.insert s.jobs t.0 k) stay (put_codes s.jobs t.0 j k is codes) are

  changed_job_codes : (name : ForkName) (change : Fork → Fork) → KeepsCodes (record { state = with_job_at (change_fork s name change) t k; items = [] })
  changed_job_codes name change = looked_up (λ (u : PlainState). AreOfLiving u.forks (map.insert u.jobs t.0 k)) _ s (map.get s.forks name)
      (λ f there. job_codes (map.insert s.forks (change f).name (change f)) (put_there s.forks (change f).name (change f))) (λ none. job_codes s.forks (λ f lives. lives))

module _ (s : PlainState) (w : IsWholeMachine s) (are : AreOfLiving s.forks s.jobs) (t : Tty) (j : PlainJob) (is : map.get s.jobs t.0 ≡ Some j) where
  as_was : (g : ForkName) (other : g.tty.0 ≡ t.0 → ⊥) → PartsStay t g other (map.get s.forks g) s.pages (forks_and_pages s)
  as_was g other = record { forks = record { own = w.tree.slotted.own; stays = refl }; maps = refl }

  -- where the top fork loses its inferiors, and may go itself, forks of other jobs stay
  below : (g : ForkName) (other : g.tty.0 ≡ t.0 → ⊥) → PartsStay t g other (map.get s.forks g) s.pages (without_inferiors (forks_and_pages s) j.top)
  below g other = below_stays t g other (map.get s.forks g) j.top (w.own_tops t.0 j is) s.pages (forks_and_pages s) (as_was g other)

  run_codes : (name : List ℕ) (address : ℕ) → AreOfLiving (running s t j name address).forks (running s t j name address).jobs
  run_codes name address = narrowed_job s.forks n s.jobs t (λ g other lives. (let stays = below g other in changed_there alone (begun_at address) (map.get alone j.top) g (ap is_some stays.forks.stays ∙ lives))) are
      j (record (in_program j) { start = Some address; codes = living_codes n j.codes }) is refl
    where
      alone : ForkMap
      alone = (without_inferiors (forks_and_pages s) j.top).tree.forks

      n : ForkMap
      n = (running s t j name address).forks

  run_program_codes : (name : List ℕ) → KeepsCodes (run_program s t j name)
  run_program_codes name = cond_both (map.contains_key s.files name) _ _ KeepsCodes
      (λ there. looked_up KeepsCodes _ _ (page_at s.pages (page_named name 0)) (λ page found. run_codes name (start_address s name)) (λ none. are)) (λ none. are)

  logout_codes : AreOfLiving (logged_out s t j).forks (logged_out s t j).jobs
  logout_codes = gone_codes s.forks (logged_out s t j).forks s.jobs t
      (λ g other lives. (let stays = killed_stays t g other (map.get s.forks g) j.top (w.own_tops t.0 j is) s.pages (forks_and_pages s) (as_was g other) in ap is_some stays.forks.stays ∙ lives)) are

  delete_codes : (name : List ℕ) → KeepsCodes (delete_file s t name)
  delete_codes name = cond_both (map.contains_key s.files name) _ _ KeepsCodes (λ there. cond_both (nat_lt 0 (times_held s.jobs name)) _ _ KeepsCodes (λ busy. are) (λ free. are)) (λ none. are)

  start_codes : KeepsCodes (start_again s t j)
  start_codes = looked_up KeepsCodes _ _ j.start (λ address has. changed_job_codes s are t j (in_program j) is refl j.top (restarted address)) (λ none. are)

  go_on_codes : KeepsCodes (go_on s t j)
  go_on_codes = looked_up KeepsCodes (continued s t j) _ (map.get s.forks j.top)
      (λ f there. cond_both (is_forced f.body.status || (f.body.units == 0)) _ _ KeepsCodes (λ no. are)
      (λ yes. job_codes s are t j (in_program j) is refl (map.insert s.forks f.name (resumed f)) (put_there s.forks f.name (resumed f)))) (λ none. are)

  command_codes : (c : ACommand) → KeepsCodes (commanded s t j c)
  unfolding commanded
  command_codes command.Blank = are
  command_codes (command.Run name) = run_program_codes name
  command_codes command.Start = start_codes
  command_codes command.Continue = go_on_codes
  command_codes command.Directory = are
  command_codes (command.Delete name) = delete_codes name
  command_codes command.Logout = logout_codes
  command_codes command.Unknown = are

-- ---- what is typed

posted_at_codes : (s : PlainState) → AreOfLiving s.forks s.jobs → (name : ForkName) (channel : ℕ) → KeepsCodes (posted_at s name channel)
posted_at_codes s are name channel = looked_up KeepsCodes (channel_posted s channel) _ (map.get s.forks name)
    (λ f there. cond_both (forces f.body.psi channel) _ _ KeepsCodes (λ forced. stopped_codes s are (posted f channel)) (λ goes. with_fork_codes s are (posted f channel))) (λ none. are)

module _ (s : PlainState) (w : IsWholeMachine s) (are : AreOfLiving s.forks s.jobs) (t : Tty) (j : PlainJob) (is : map.get s.jobs t.0 ≡ Some j) where
  interrupted_codes : KeepsCodes (interrupted s t j)
  interrupted_codes = by j.mode
    where
      left : PlainJob
      left = record j { mode = Command; line = [] }

      by : (m : TerminalMode) → AreOfLiving (with_job_at (stopped_by m s j) t left).forks (with_job_at (stopped_by m s j) t left).jobs
      by Program = changed_job_codes s are t j left is refl j.top (with_mark true)
      by Command = job_codes s are t j left is refl s.forks (λ f lives. lives)

  typed_so_codes : (fate : Typed) (code : ℕ) → KeepsCodes (typed_so fate s t j code)
  typed_so_codes Stored code = job_codes s are t j (record j { input = j.input ++ code ∷ [] }) is refl (readers_woken s.forks t) (readers_there s.forks t)
  typed_so_codes Dropped code = are
  typed_so_codes (Posts fork channel) code = posted_at_codes s are fork channel
  typed_so_codes ControlC code = interrupted_codes

  ended_line_codes : KeepsCodes (line_ended s t j)
  ended_line_codes = command_codes (with_job_at s t left) (with_job_whole s w t j left is refl refl) (job_codes s are t j left is refl s.forks (λ f lives. lives)) t left (get_put nat_cmp_total nat_cmp-IsAntisymmetric s.jobs t.0 t.0 left refl) (command_of j.user j.line)
    where
      left : PlainJob
      left = record j { line = [] }

  typed_one_codes : (m : TerminalMode) (code : ℕ) → KeepsCodes (typed_one m s t j code)
  unfolding typed_one
  typed_one_codes Program code = typed_so_codes (fate_of (line_of j) code) code
  typed_one_codes Command code = cond_both (code == CONTROL_C) _ _ KeepsCodes (λ stops. interrupted_codes) (λ goes. cond_both (code == LINE_END) _ _ KeepsCodes (λ ends. ended_line_codes)
      (λ more. cond_both (nat_lt (length j.line) MOST_STORED) _ _ KeepsCodes (λ room. job_codes s are t j (record j { line = j.line ++ code ∷ [] }) is refl s.forks (λ f lives. lives)) (λ most. are)))

typed_codes : (s : PlainState) → IsWholeMachine s → AreOfLiving s.forks s.jobs → (t : Tty) (text : List ℕ) → KeepsCodes (typed_all s t text)
unfolding typed_all
typed_codes s w are t [] = are
typed_codes s w are t (c ∷ cs) =
    typed_codes (typed_at s t c).state (typed_at_whole s w t c) (looked_up KeepsCodes _ _ (map.get s.jobs t.0) (λ j is. typed_one_codes s w are t j is j.mode (read_as c)) (λ none. are)) t cs

-- ---- events

module _ (s : PlainState) (w : IsWholeMachine s) (are : AreOfLiving s.forks s.jobs) where
  -- a new job has assigned none
  login_codes : (t : Tty) (user : List ℕ) → KeepsCodes (login s t user)
  login_codes t user =
      cond_both (is_some (map.get s.jobs t.0)) _ _ KeepsCodes (λ busy. are) (λ free.
      cond_both (nat_lt LAST_SERIAL (next_serial (tree_of s) t)) _ _ KeepsCodes (λ out. are) (λ few.
      cond_both (HasRoom (with_map s.pages (next_name (tree_of s) t) EmptyMap) t) _ _ KeepsCodes (λ fits. made) (λ none. are)))
    where
      name : ForkName
      name = next_name (tree_of s) t

      made : AreOfLiving (with_job s t user).forks (with_job s t user).jobs
      made u i is code f channel assigned = elim (put_tells nat_cmp_total nat_cmp-IsAntisymmetric s.jobs t.0 (new_job user name) u i is) [
        | inl e ↦ absurd (let no : None ≡ Some (f, channel) = sym (map.get-empty nat_cmp code) ∙ ap (λ (x : PlainJob). map.get x.codes code) e.1 ∙ assigned in cc no)
        | inr was ↦ (let a = are u i was code f channel assigned in (put_there s.forks name (top_fork name) f a.0, a.1))
      ]

  poked_codes : (t : Tty) (at : Slot) (offset word : ℕ) (r : Referred name_cmp) → KeepsCodes (poked s t at offset word r)
  poked_codes t at offset word (granted q) = are
  poked_codes t at offset word (denied kind) = are
  poked_codes t at offset word full = are

  written_codes : (name : List ℕ) (page offset : ℕ) (words : List ℕ) (f : PlainFile) (r : Referred name_cmp) → KeepsCodes (written s name page offset words f r)
  written_codes name page offset words f (granted q) = are
  written_codes name page offset words f (denied kind) = are
  written_codes name page offset words f full = are

  at_job_codes : (t : Tty) (act : PlainJob → Effect) → ((j : PlainJob) → map.get s.jobs t.0 ≡ Some j → KeepsCodes (act j)) → KeepsCodes (at_job s t act)
  at_job_codes t act does = looked_up KeepsCodes act _ (map.get s.jobs t.0) does (λ none. are)

  changed_codes : (name : ForkName) (change : Fork → Fork) → AreOfLiving (change_fork s name change).forks (change_fork s name change).jobs
  changed_codes name change = looked_up (λ (u : PlainState). AreOfLiving u.forks u.jobs) _ s (map.get s.forks name) (λ f there. with_fork_codes s are (change f)) (λ none. are)

  outer_codes : (e : Event) → KeepsCodes (outer s e)
  unfolding outer
  outer_codes (Login t user) = login_codes t user
  outer_codes (Poke t address word) = at_job_codes t (poked_at s t address word) (λ j is.
      let at = slot_at j.top address in
      cond_both (nat_lt address ACCUMULATORS) _ _ KeepsCodes (λ low. changed_codes j.top (λ f. with_regs f (with_ac f.body.regs address word))) (λ high. poked_codes t at (address % PAGE_WORDS) word (reference s.pages (in_map at) Write t)))
  outer_codes (Start t address) = at_job_codes t _ (λ j is. changed_job_codes s are t j (in_program j) is refl j.top (restarted address))
  outer_codes (Examine t serial address) = at_job_codes t _ (λ j is.
      looked_up KeepsCodes (examined_in s t serial address) _ (map.get s.forks (record { tty = t; serial = serial })) (λ f there. looked_up KeepsCodes _ _ (word_seen s f address) (λ word seen. are) (λ none. are)) (λ none. are))
  outer_codes (Forks t) = at_job_codes t _ (λ j is. are)
  outer_codes Tick = still_living s.forks (sleepers_awoken (s.clock + 1) s.forks) s.jobs s.jobs (sleepers_there (s.clock + 1) s.forks) (same_codes s.jobs) are
  outer_codes (Trace on) = are
  outer_codes (TypeIn t text) = at_job_codes t _ (λ j is. typed_codes s w are t text)
  outer_codes (File name) = cond_both (is_some (map.get s.files name)) _ _ KeepsCodes (λ there. are) (λ absent. cond_both (nat_lt (map.len s.files) MOST_FILES) _ _ KeepsCodes (λ room. are) (λ none. are))
  outer_codes (Words name page offset row) = looked_up KeepsCodes _ _ (map.get s.files name) (λ f there. written_codes name page offset (take row.count row.words) f (reference s.pages (page_named name page) Write console)) (λ none. are)
  outer_codes (Run n) = are
  outer_codes (Evict n) = are
  outer_codes (Drum n) = are
  outer_codes (Auto on) = are
  outer_codes (Page name page) = looked_up KeepsCodes _ _ (map.get s.files name) (λ f there. looked_up KeepsCodes _ _ (page_at s.pages (page_named name page)) (λ n is. are) (λ none. are)) (λ none. are)

  unit_left_codes : (name : ForkName) → KeepsCodes (unit s name)
  unfolding unit
  unit_left_codes name = looked_up KeepsCodes _ _ (map.get s.forks name) (λ f is. unit_codes s w are f (ap (map.contains_key s.forks) (w.tree.slotted.own name f is) ∙ ap is_some is)) (λ none. are)

  -- an entry leaves no code that outlives its fork
  pub step_codes : (x : Step) → AreOfLiving (apply s x).state.forks (apply s x).state.jobs
  unfolding apply
  step_codes (Outer e) = outer_codes e
  step_codes (AUnit name) = unit_left_codes name
  step_codes Idle = are

-- ---- all

pub opening_living : (limit : ℕ) → IsWhole (opening limit)
unfolding opening
opening_living limit = record { machine = whole_opening limit; codes = λ t j is. absurd (cc (sym (map.get-empty nat_cmp t) ∙ is)) }

pub step_living : (s : PlainState) → IsWhole s → (x : Step) → FitsStep x → IsWhole (apply s x).state
step_living s w x fits = record { machine = step_whole s w.machine x fits; codes = step_codes s w.machine w.codes x }

pub steps_living : (s : PlainState) (xs : List Step) → IsWhole s → All FitsStep xs → IsWhole (state_after s xs)
steps_living s [] w fits = w
steps_living s (x ∷ xs) w fits = steps_living (apply s x).state xs (step_living s w x (All-head FitsStep x xs fits)) (All-tail FitsStep x xs fits)
