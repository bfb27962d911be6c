-- No code outlives its fork in a unit.
use Rattle.std.proofs.Common.{◌≡◌, ◌≢◌, ℕ, true, Option, None, Some, inl, inr, refl, sym, ◌∙◌, ap, subst}
use Rattle.std.specs.Prelude.{is_some, List}
use Rattle.std.specs.List.{list_any}
use Rattle.std.specs.Option.{option_map, option_map_or}
use Rattle.std.specs.Cmp.{nat_cmp_total}
use Rattle.std.specs.FinMap as map
use Rattle.std.specs.FinMap.{nat_cmp-IsAntisymmetric}
use Rattle.std.proofs.lemmas.Bool.{cond_both}
use Rattle.machine_names.specs.Orders.{name_cmp}
use Rattle.machine_names.specs.declared.names.ForkName.{ForkName}
use Rattle.machine_names.specs.declared.names.Tty.{Tty}
use Rattle.plain_pages.specs.PlainPages.{NamedPages}
use Rattle.plain_units.specs.Steps.{Planned, done, call, trap, need, pages_left, stopped as unit_stopped}
use Rattle.plain_units.specs.Units.{unit_on}
use Rattle.plain_units.proofs.Lookups.{looked_up}
use Rattle.script_texts.specs.declared.status.ForkStatus.{ForkStatus}
use Rattle.script_texts.specs.declared.status.ForkStatus.TheVariants.{Run as Running, Wait, Halted, Forced}
use Rattle.plain_model.specs.declared.call.End.{End}
use Rattle.plain_model.specs.declared.call.End.TheVariants.{Done, Waits, Halts, Refused, Failed, Trap}
use Rattle.plain_model.specs.declared.call.ByteChange.{ByteChange}
use Rattle.plain_model.specs.declared.call.ByteChange.TheVariants as byte
use Rattle.plain_model.specs.declared.call.FileChange.{FileChange}
use Rattle.plain_model.specs.declared.call.FileChange.TheVariants as file
use Rattle.plain_model.specs.declared.call.ForkChange.{ForkChange}
use Rattle.plain_model.specs.declared.call.ForkChange.TheVariants as forks
use Rattle.plain_model.specs.declared.call.InterruptChange.{InterruptChange}
use Rattle.plain_model.specs.declared.call.InterruptChange.TheVariants.{Become, Post, Assign, Unassign}
use Rattle.plain_model.specs.declared.call.SleepChange.{SleepChange}
use Rattle.plain_model.specs.declared.call.SleepChange.TheVariants as sleep
use Rattle.plain_model.specs.ClockCalls.{clock_changed, without_moment}
use Rattle.plain_model.specs.declared.fork.Fork.{Fork}
use Rattle.plain_model.specs.declared.fork.TerminalMode.TheVariants.{Command}
use Rattle.plain_files.specs.OpenFiles.{OpenFile, OpenFiles}
use Rattle.plain_model.specs.ByteCalls.{behind_first, byte_calls, byte_changed, written, ByteAsked, ByteTurn}
use Rattle.plain_model.specs.Calls.{Asked, Turn, parts_behind, posted_if}
use Rattle.plain_units.specs.declared.channel.TheConstants.{ILLEGAL_INSTRUCTION}
use Rattle.plain_model.specs.Families.{Parts, Turned, asks, behind, bytes_changed, forks_changed, interrupts_changed, jfns_changed}
use Rattle.plain_model.specs.FileCalls.{deleted, file_changed, held_at, opened, with_held}
use Rattle.plain_model.specs.ForkCalls.{fork_changed, with_halted}
use Rattle.plain_model.specs.Forks.{ForkMap, counted, with_fork, with_regs, with_status}
use Rattle.plain_model.specs.Inspections.{delivered}
use Rattle.plain_model.specs.InterruptCalls.{interrupt_changed, with_codes_of}
use Rattle.plain_model.specs.Interrupts.{channels_of, forces, posted, posted_all}
use Rattle.plain_model.specs.State.{PlainState, PlainJob}
use Rattle.plain_model.specs.StringCalls.{string_calls}
use Rattle.plain_model.specs.Trees.{tree_of, with_body, with_mark}
use Rattle.plain_model.specs.Unit.{Effect, called, caller_ended, in_command_mode, over, parts_of, stopped, turned, unit_ended, unit_of, with_parts}
use Rattle.plain_model.proofs.Calling.{byte_came, byte_turned, called_by, clock_came, clock_turned, filed_of, fork_called, fork_came, fork_turned, interrupt_came, interrupt_turned, jfn_came, jfn_turned, map_came, map_turned, none_turned, own_came, own_turned, MakesNone}
use Rattle.plain_model.proofs.ForkEnds.{Anyhow, FitsChange, FitsEnd, call_names}
use Rattle.plain_model.proofs.Turns.{KeepsEnd, ends_any}
use Rattle.plain_laws.specs.Whole.{AreOfLiving, IsWholeMachine}
use Rattle.plain_laws.specs.WholeFiles.{Jobs}
use Rattle.plain_laws.proofs.FilesKept.{gone_tells, put_tells}
use Rattle.plain_laws.proofs.Inspected.{unit_by}
use Rattle.plain_laws.proofs.InterruptEnds.{ChangesOwn, interrupt_names}
use Rattle.plain_laws.proofs.LivingForks.{KeepCodes, change_codes, changed_there, narrowed_codes, put_codes, put_there, same_codes, still_living, told_if_there, told_there}
use Rattle.plain_laws.proofs.OtherJobs.{call_stays, inferior_job}
use Rattle.plain_model.specs.EachFamily.{own_changed, sleeps_changed, pages_changed}
use Rattle.plain_model.proofs.Shorthands.{with_stopped}

-- no code outlives its fork in what a step leaves, or in parts of the state
abbrev pub KeepsCodes : Effect → Type 0
KeepsCodes e = AreOfLiving e.state.forks e.state.jobs

abbrev pub Living : Parts name_cmp → Type 0
Living v = AreOfLiving v.tree.forks v.jobs

-- ---- how a unit ends

mode_codes : (s : PlainState) (t : Tty) → KeepCodes s.jobs (in_command_mode s t).jobs
mode_codes s t = looked_up (λ (u : PlainState). KeepCodes s.jobs u.jobs) _ s (map.get s.jobs t.0) (λ j is. put_codes s.jobs t.0 j (record j { mode = Command }) is refl) (λ none. same_codes s.jobs)

mode_forks : (s : PlainState) (t : Tty) → (in_command_mode s t).forks ≡ s.forks
mode_forks s t = looked_up (λ (u : PlainState). u.forks ≡ s.forks) _ s (map.get s.jobs t.0) (λ j is. refl) (λ none. refl)

pub stopped_codes : (s : PlainState) → AreOfLiving s.forks s.jobs → (f : Fork) → KeepsCodes (stopped s f)
stopped_codes s are f =
    let t = with_stopped s f in
    let stays = λ (g : ForkName) (lives : map.contains_key s.forks g ≡ true). told_there (map.insert s.forks f.name f) f g (put_there s.forks f.name f g lives) in
    cond_both (is_some f.superior) _ _ KeepsCodes (λ below. still_living s.forks t.forks s.jobs s.jobs stays (same_codes s.jobs) are)
    (λ top. subst (λ (m : ForkMap). AreOfLiving m (in_command_mode t f.name.tty).jobs) (sym (mode_forks t f.name.tty)) (still_living s.forks t.forks s.jobs (in_command_mode t f.name.tty).jobs stays (mode_codes t f.name.tty) are))

pub with_fork_codes : (s : PlainState) → AreOfLiving s.forks s.jobs → (f : Fork) → AreOfLiving (with_fork s f).forks s.jobs
with_fork_codes s are f = still_living s.forks (map.insert s.forks f.name f) s.jobs s.jobs (put_there s.forks f.name f) (same_codes s.jobs) are

pub ended_codes : (s : PlainState) → AreOfLiving s.forks s.jobs → (f : Fork) (status : ForkStatus) → KeepsCodes (unit_ended s f status)
ended_codes s are f Running = with_fork_codes s are (counted f)
ended_codes s are f (Wait on) = with_fork_codes s are (counted f)
ended_codes s are f Halted = stopped_codes s are (counted f)
ended_codes s are f (Forced channel) = stopped_codes s are (counted f)

-- ---- calls

turned_codes : (s : PlainState) (t : Tty) (r : Turned name_cmp) → Living r.parts → KeepsCodes (turned s t r)
turned_codes s t r are = by r.caller
  where
    by : (o : Option Fork) → KeepsCodes (caller_ended (with_parts s r.parts) o)
    by None = are
    by (Some f) = ended_codes (with_parts s r.parts) are f f.body.status

-- a turn whose change, if it is done, keeps them
behind_codes : {C : Type 0} (Allowed : C → Type 0) (changed : C → Parts name_cmp → Parts name_cmp) (v : Parts name_cmp) (q : NamedPages) (e : End C) → KeepsEnd Allowed e → Living v
    → ((change : C) → Allowed change → Living (changed change (record v { pages = q }))) → Living (parts_behind changed v (record v { pages = q }) e)
unfolding parts_behind
behind_codes Allowed changed v q (Done change regs out post) fits are keeps = keeps change fits
behind_codes Allowed changed v q (Waits on) fits are keeps = are
behind_codes Allowed changed v q Halts fits are keeps = are
behind_codes Allowed changed v q (Refused code) fits are keeps = are
behind_codes Allowed changed v q (Failed code) fits are keeps = are
behind_codes Allowed changed v q (Trap channel) fits are keeps = are

abbrev AnyChange : {C : Type 0} → C → Type 0
AnyChange c = Unit {0}

held_codes : (jobs : Jobs) (t : Tty) (change : OpenFiles → OpenFiles) → KeepCodes jobs (with_held jobs t change)
held_codes jobs t change = change_codes jobs t (λ j. record j { jfns = change j.jfns }) (λ j. refl)

module _ (s : PlainState) (are : AreOfLiving s.forks s.jobs) where
  kept_by : (jobs : Jobs) → KeepCodes s.jobs jobs → AreOfLiving s.forks jobs
  kept_by jobs keep = still_living s.forks s.forks s.jobs jobs (λ f lives. lives) keep are

  jfn_codes : (q : NamedPages) (change : FileChange) → Living (jfns_changed (λ name. name) change (record (parts_of s) { pages = q }))
  unfolding file_changed
  jfn_codes q (file.Take t n name) = kept_by _ (held_codes s.jobs t _)
  jfn_codes q (file.Make t n name) = kept_by _ (held_codes s.jobs t _)
  jfn_codes q (file.Open t n mode size) = by (map.get (held_at s.jobs t) n)
    where
      by : (o : Option OpenFile) → AreOfLiving s.forks (option_map_or (opened (λ name. name) (record (filed_of (parts_of s)) { pages = q }) t n mode size) o (record (filed_of (parts_of s)) { pages = q })).jobs
      by None = are
      by (Some j) = kept_by _ (held_codes s.jobs t _)
  jfn_codes q (file.Release t n) = kept_by _ (held_codes s.jobs t _)
  jfn_codes q (file.Delete t n) = by (map.get (held_at s.jobs t) n)
    where
      by : (o : Option OpenFile) → AreOfLiving s.forks (option_map_or (deleted (λ name. name) (record (filed_of (parts_of s)) { pages = q }) t n) o (record (filed_of (parts_of s)) { pages = q })).jobs
      by None = are
      by (Some j) = kept_by _ (held_codes s.jobs t _)

  byte_codes : (q : NamedPages) (change : ByteChange) → Living (bytes_changed (λ name. name) change (record (parts_of s) { pages = q }))
  unfolding byte_changed
  byte_codes q byte.Nothing = are
  byte_codes q (byte.Take t) = kept_by _ (change_codes s.jobs t (λ j. record j { input = behind_first j.input }) (λ j. refl))
  byte_codes q (byte.Move t n at) = kept_by _ (held_codes s.jobs t _)
  byte_codes q (byte.Put t n word) = by (map.get (held_at s.jobs t) n)
    where
      by : (o : Option OpenFile) → AreOfLiving s.forks (option_map_or (written (λ name. name) (record (filed_of (parts_of s)) { pages = q }) t n word) o (record (filed_of (parts_of s)) { pages = q })).jobs
      by None = are
      by (Some j) = kept_by _ (held_codes s.jobs t _)

  sleep_codes : (q : NamedPages) (change : SleepChange) → Living (sleeps_changed change (record (parts_of s) { pages = q }))
  unfolding clock_changed
  sleep_codes q sleep.Nothing = are
  sleep_codes q (sleep.Awakes k) = still_living s.forks _ s.jobs s.jobs (changed_there s.forks without_moment (map.get s.forks k)) (same_codes s.jobs) are

  -- a code is assigned to a fork that lives
  module _ (who : ForkName) (lives : map.contains_key s.forks who ≡ true) where
    assigned_codes : (code channel : ℕ) → AreOfLiving s.forks (with_codes_of s.jobs who.tty (λ codes. map.insert codes code (who, channel)))
    assigned_codes code channel = looked_up (AreOfLiving s.forks) _ s.jobs (map.get s.jobs who.tty.0) (λ j is. job j is) (λ none. are)
      where
        job : (j : PlainJob) → map.get s.jobs who.tty.0 ≡ Some j → AreOfLiving s.forks (map.insert s.jobs who.tty.0 (record j { codes = map.insert j.codes code (who, channel) }))
        job j there u i is key f x assigned = elim (put_tells nat_cmp_total nat_cmp-IsAntisymmetric s.jobs who.tty.0 (record j { codes = map.insert j.codes code (who, channel) }) u i is) [
          | inr was ↦ are u i was key f x assigned
          | inl e ↦ elim (put_tells nat_cmp_total nat_cmp-IsAntisymmetric j.codes code (who, channel) key (f, x) (ap (λ (k : PlainJob). map.get k.codes key) e.1 ∙ assigned)) [
            | inl it ↦ (ap (λ (a : ForkName × ℕ). map.contains_key s.forks a.0) (sym it.1) ∙ lives, ap (λ (a : ForkName × ℕ). a.0.tty.0) (sym it.1) ∙ sym e.0)
            | inr old ↦ (let a = are who.tty.0 j there key f x old in (a.0, a.1 ∙ sym e.0))
          ]
        ]

  unassigned_codes : (t : Tty) (code : ℕ) → AreOfLiving s.forks (with_codes_of s.jobs t (λ codes. map.remove codes code))
  unassigned_codes t code = looked_up (AreOfLiving s.forks) _ s.jobs (map.get s.jobs t.0) (λ j is. job j is) (λ none. are)
    where
      job : (j : PlainJob) → map.get s.jobs t.0 ≡ Some j → AreOfLiving s.forks (map.insert s.jobs t.0 (record j { codes = map.remove j.codes code }))
      job j there u i is key f x assigned = elim (put_tells nat_cmp_total nat_cmp-IsAntisymmetric s.jobs t.0 (record j { codes = map.remove j.codes code }) u i is) [
        | inr was ↦ are u i was key f x assigned
        | inl e ↦
            (let old = gone_tells nat_cmp_total nat_cmp-IsAntisymmetric j.codes code key (f, x) (ap (λ (k : PlainJob). map.get k.codes key) e.1 ∙ assigned) in
            let a = are t.0 j there key f x old.1 in (a.0, a.1 ∙ sym e.0))
      ]

  module _ (a : Asked) (lives : map.contains_key s.forks a.who ≡ true) where
    interrupt_codes : (q : NamedPages) (change : InterruptChange) → ChangesOwn a change → Living (interrupts_changed change (record (parts_of s) { pages = q }))
    unfolding interrupt_changed
    interrupt_codes q (Become k body) own = still_living s.forks _ s.jobs s.jobs (changed_there s.forks (with_body body) (map.get s.forks k)) (same_codes s.jobs) are
    interrupt_codes q (Post k word) own = looked_up (λ (m : ForkMap). AreOfLiving m s.jobs) _ s.forks (map.get s.forks k)
        (λ g is. still_living s.forks _ s.jobs s.jobs (told_if_there (list_any (forces g.body.psi) (channels_of word)) s.forks (posted_all g (channels_of word))) (same_codes s.jobs) are) (λ none. are)
    interrupt_codes q (Assign code k channel) own = subst (λ (n : ForkName). AreOfLiving s.forks (with_codes_of s.jobs n.tty (λ codes. map.insert codes code (n, channel)))) (sym own) (assigned_codes a.who lives code channel)
    interrupt_codes q (Unassign t code) own = unassigned_codes t code

-- a fork call
module _ (s : PlainState) (w : IsWholeMachine s) (are : AreOfLiving s.forks s.jobs) (f : Fork) (number : ℕ) where
  abbrev asked : Asked
  asked = asks (parts_of s) f.name f.body.regs

  -- what it leaves, where it leaves the forks of other jobs
  change_codes_of : (q : NamedPages) (change : ForkChange) → FitsChange asked s.pages (Anyhow asked s.pages) q change → (let left = forks_changed change (record (parts_of s) { pages = q }) in ((g : ForkName) → g.tty.0 ≢ f.name.tty.0 → map.get left.tree.forks g ≡ map.get s.forks g) → Living left)
  unfolding fork_changed
  change_codes_of q forks.Nothing fits others = are
  change_codes_of q (forks.Make g) fits others = still_living s.forks _ s.jobs s.jobs (put_there s.forks g.name g) (same_codes s.jobs) are
  change_codes_of q (forks.Kill k) fits others = narrowed_codes s.forks (fork_changed (forks.Kill k) (record { tree = tree_of s; pages = q })).tree.forks s.jobs k.tty
      (λ g other lives. ap is_some (others g (λ same. other (same ∙ sym (inferior_job s.forks w.tree.slotted.own f.name k fits.0)))) ∙ lives) are
  change_codes_of q (forks.Freeze k on) fits others = still_living s.forks _ s.jobs s.jobs (changed_there s.forks (with_mark on) (map.get s.forks k)) (same_codes s.jobs) are
  change_codes_of q (forks.Become k body) fits others = still_living s.forks _ s.jobs s.jobs (changed_there s.forks (with_body body) (map.get s.forks k)) (same_codes s.jobs) are
  change_codes_of q (forks.Halt k) fits others = by (map.get s.forks k)
    where
      by : (o : Option Fork) → AreOfLiving (option_map_or (with_halted (record { tree = tree_of s; pages = q })) o (record { tree = tree_of s; pages = q })).tree.forks s.jobs
      by None = are
      by (Some g) = (let h = with_status g Halted in still_living s.forks _ s.jobs s.jobs (λ k lives. told_there (map.insert s.forks g.name h) h k (put_there s.forks g.name h k lives)) (same_codes s.jobs) are)
  change_codes_of q (forks.Store k at words) fits others = are

  fork_codes : KeepsCodes (fork_turned s f number)
  unfolding parts_behind
  fork_codes = turned_codes s f.name.tty (behind forks_changed (parts_of s) f.name (fork_came s f number)) (left (λ g other. (let stays = call_stays s w f number g other in stays.stays)))
    where
      q : NamedPages
      q = (fork_came s f number).pages

      by : (e : End ForkChange) → FitsEnd asked s.pages (Anyhow asked s.pages) q e → (let left = parts_behind forks_changed (parts_of s) (record (parts_of s) { pages = q }) e in ((g : ForkName) → g.tty.0 ≢ f.name.tty.0 → map.get left.tree.forks g ≡ map.get s.forks g) → Living left)
      by (Done change regs out post) fits others = change_codes_of q change fits others
      by (Waits on) fits others = are
      by Halts fits others = are
      by (Refused code) fits others = are
      by (Failed code) fits others = are
      by (Trap channel) fits others = are

      left : ((g : ForkName) → g.tty.0 ≢ f.name.tty.0 → map.get (fork_called s f number).forks g ≡ map.get s.forks g) → AreOfLiving (fork_called s f number).forks (fork_called s f number).jobs
      left others = by (fork_came s f number).end (call_names asked s.pages number) others

-- ---- units

module _ (s : PlainState) (w : IsWholeMachine s) (are : AreOfLiving s.forks s.jobs) (f : Fork) (lives : map.contains_key s.forks f.name ≡ true) where
  own_codes : (t : Turn ⊥ (Unit {0})) → MakesNone s.pages t → KeepsCodes (own_turned s f t)
  own_codes t makes = turned_codes s f.name.tty (behind own_changed (parts_of s) f.name (own_came s t)) (behind_codes AnyChange own_changed (parts_of s) (own_came s t).pages (own_came s t).end (ends_any (own_came s t).end) are (λ change any. are))

  map_codes : (number : ℕ) → KeepsCodes (map_turned s f number)
  map_codes number = let c = map_came s f number in turned_codes s f.name.tty (behind (pages_changed (λ name. name)) (parts_of s) f.name c) (behind_codes AnyChange (pages_changed (λ name. name)) (parts_of s) c.pages c.end (ends_any c.end) are (λ change any. are))

  jfn_turned_codes : (number : ℕ) → KeepsCodes (jfn_turned s f number)
  jfn_turned_codes number = let c = jfn_came s f number in turned_codes s f.name.tty (behind (jfns_changed (λ name. name)) (parts_of s) f.name c) (behind_codes AnyChange (jfns_changed (λ name. name)) (parts_of s) c.pages c.end (ends_any c.end) are (λ change any. jfn_codes s are c.pages change))

  byte_turned_codes : (rows : List (ℕ × (ByteAsked → ByteTurn))) (number : ℕ) → KeepsCodes (byte_turned s f rows number)
  byte_turned_codes rows number = let c = byte_came s f rows number in turned_codes s f.name.tty (behind (bytes_changed (λ name. name)) (parts_of s) f.name c) (behind_codes AnyChange (bytes_changed (λ name. name)) (parts_of s) c.pages c.end (ends_any c.end) are (λ change any. byte_codes s are c.pages change))

  interrupt_turned_codes : (number : ℕ) → KeepsCodes (interrupt_turned s f number)
  interrupt_turned_codes number =
      let c = interrupt_came s f number in
      let a = asks (parts_of s) f.name f.body.regs in
      turned_codes s f.name.tty (behind interrupts_changed (parts_of s) f.name c) (behind_codes (ChangesOwn a) interrupts_changed (parts_of s) c.pages c.end (interrupt_names a w.tree.slotted.own s.pages number) are (λ change own. interrupt_codes s are a lives c.pages change own))

  clock_turned_codes : (number : ℕ) → KeepsCodes (clock_turned s f number)
  clock_turned_codes number = let c = clock_came s f number in turned_codes s f.name.tty (behind sleeps_changed (parts_of s) f.name c) (behind_codes AnyChange sleeps_changed (parts_of s) c.pages c.end (ends_any c.end) are (λ change any. sleep_codes s are c.pages change))

  none_codes : KeepsCodes (none_turned s f)
  none_codes = turned_codes s f.name.tty (record { parts = parts_of s; caller = option_map (λ g. posted g ILLEGAL_INSTRUCTION) (map.get s.forks f.name); out = None }) are

  called_codes : (number : ℕ) → KeepsCodes (called s f number)
  called_codes number = called_by KeepsCodes s f number own_codes (fork_codes s w are f number) (interrupt_turned_codes number) (clock_turned_codes number) (map_codes number) (jfn_turned_codes number) (byte_turned_codes byte_calls number) (byte_turned_codes string_calls number) none_codes

  over_codes : (r : Planned name_cmp ⊥) → KeepsCodes (over s f r)
  over_codes (done t e) = let g = posted_if (with_regs f e.regs) e.post in ended_codes (record s { pages = pages_left f.name t e }) are g g.body.status
  over_codes (unit_stopped (trap channel)) = ended_codes s are (posted f channel) (posted f channel).body.status
  over_codes (unit_stopped (need none)) = absurd none
  over_codes (call number) = called_codes number

  pub unit_codes : KeepsCodes (unit_of s f)
  unit_codes = unit_by KeepsCodes s f (λ plain. over_codes (unit_on f.name s.pages f.body.regs)) (λ d takes. with_fork_codes s are (counted (delivered f d))) (λ channel forces. ended_codes s are (with_status f (Forced channel)) (Forced channel))
