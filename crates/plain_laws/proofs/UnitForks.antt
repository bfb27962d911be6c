-- What a unit does to forks: it puts its own fork, and tells where that has ended; all else is done by a fork call.
use Rattle.std.proofs.Common.{◌≡◌, ℕ, Bool, true, false, List, [], ◌∷◌, Option, None, Some, refl, ◌∙◌, ap}
use Rattle.std.specs.Prelude.{is_some}
use Rattle.std.specs.List.{list_any}
use Rattle.std.specs.FinMap as map
use Rattle.std.proofs.lemmas.Bool.{cond_both}
use Rattle.plain_model.specs.declared.call.End.{End}
use Rattle.plain_model.specs.declared.call.End.TheVariants.{Done, Waits, Halts, Refused, Failed, Trap}
use Rattle.plain_units.specs.declared.channel.TheConstants.{ILLEGAL_INSTRUCTION}
use Rattle.machine_names.specs.declared.names.ForkName.{ForkName}
use Rattle.machine_names.specs.declared.names.Tty.{Tty}
use Rattle.plain_model.specs.declared.fork.Fork.{Fork}
use Rattle.script_texts.specs.declared.status.ForkStatus.{ForkStatus}
use Rattle.script_texts.specs.declared.status.ForkStatus.TheVariants.{Run as Running, Wait, Halted, Forced}
use Rattle.script_texts.specs.declared.status.WaitOn.{WaitOn}
use Rattle.script_texts.specs.declared.status.WaitOn.TheVariants as on
use Rattle.plain_model.specs.declared.call.SleepChange.{SleepChange}
use Rattle.plain_model.specs.declared.call.SleepChange.TheVariants.{Awakes, Nothing}
use Rattle.plain_model.specs.ClockCalls.{clock_changed, without_moment}
use Rattle.plain_model.specs.State.{PlainState}
use Rattle.plain_pages.specs.PlainPages.{NamedPages}
use Rattle.machine_names.specs.Orders.{name_cmp}
use Rattle.plain_model.specs.Forks.{ForkMap, with_fork, with_regs, with_status, counted}
use Rattle.plain_model.specs.declared.call.InterruptChange.{InterruptChange}
use Rattle.plain_model.specs.declared.call.InterruptChange.TheVariants.{Become, Post, Assign, Unassign}
use Rattle.plain_model.specs.declared.interrupt.Delivery.{Delivery}
use Rattle.plain_model.specs.Families.{asks, asks_clock, interrupts_changed}
use Rattle.plain_model.specs.Inspections.{delivered, inspected}
use Rattle.plain_model.specs.InterruptCalls.{interrupt_changed}
use Rattle.plain_model.specs.Interrupts.{channels_of, forces, posted, posted_all}
use Rattle.plain_model.specs.Posting.{told_if}
use Rattle.plain_units.specs.Units.{unit_on}
use Rattle.plain_units.specs.Steps.{Planned, Ending, done, call, trap, need, stopped as unit_stopped}
use Rattle.plain_model.specs.Trees.{end_told, tree_of, with_body}
use Rattle.plain_model.specs.Calls.{Asked, Turn, with_error, with_wait, fork_behind, out_of, parts_behind, posted_if}
use Rattle.plain_model.specs.ByteCalls.{byte_calls, ByteAsked, ByteTurn}
use Rattle.plain_model.specs.StringCalls.{string_calls}
use Rattle.plain_model.specs.Unit.{Effect, in_command_mode, stopped, unit_ended, called, went, over, parts_of, taken_up, unit_of}
use Rattle.plain_units.proofs.Lookups.{looked_up}
use Rattle.plain_model.proofs.Calling.{clock_called, clock_came, clock_turned, fork_came, fork_left, fork_called, fork_turned, interrupt_came, interrupt_called, interrupt_left, interrupt_turned, map_came, map_pages, map_turned, own_came, own_turned, none_turned, jfn_came, jfn_called, jfn_turned, byte_came, byte_called, byte_turned, MakesNone, caller_by, called_by, map_by, jfn_by, byte_by, own_by}
use Rattle.plain_model.proofs.ForkMaps.{AreOwn}
use Rattle.plain_model.proofs.Posted.{SameMark, posted_mark}
use Rattle.plain_model.proofs.Turns.{KeepsEnd}
use Rattle.plain_laws.proofs.Inspected.{unit_by}
use Rattle.plain_laws.proofs.ClockTurns.{SleepsOwn, clock_by, clock_names}
use Rattle.plain_laws.proofs.InterruptEnds.{ChangesOwn, interrupt_names}
use Rattle.plain_model.proofs.Shorthands.{with_stopped}

posted_if_mark : (f : Fork) (post : Option ℕ) → SameMark f (posted_if f post)
posted_if_mark f None = (refl, refl)
posted_if_mark f (Some channel) = posted_mark f channel

wait_mark : (f : Fork) (what : WaitOn) → SameMark f (with_wait f what)
wait_mark f on.Input = (refl, refl)
wait_mark f on.Fork = (refl, refl)
wait_mark f (on.Sleep moment) = (refl, refl)

behind_mark : {C : Type 0} (f : Fork) (e : End C) → SameMark f (fork_behind f e)
unfolding fork_behind
behind_mark f (Done change regs out post) = posted_if_mark (with_regs f regs) post
behind_mark f (Waits what) = wait_mark f what
behind_mark f Halts = (refl, refl)
behind_mark f (Refused code) = posted_mark (with_error f code) ILLEGAL_INSTRUCTION
behind_mark f (Failed code) = (refl, refl)
behind_mark f (Trap channel) = posted_mark f channel

posted_all_mark : (f : Fork) (channels : List ℕ) → SameMark f (posted_all f channels)
posted_all_mark f [] = (refl, refl)
posted_all_mark f (channel ∷ channels) = let one = posted_mark f channel in let more = posted_all_mark (posted f channel) channels in (more.0 ∙ one.0, more.1 ∙ one.1)

-- What holds of the forks, where a fork that is good may be put among them, and may end; who is good stays so while its
-- name and mark stay; and those of a job that are there are good.
pub record KeptBy (t : Tty) (Holds : ForkMap → Type 0) (Good : Fork → Type 0) : Type 0 where
  pub own : (m : ForkMap) → Holds m → AreOwn m
  pub found : (m : ForkMap) → Holds m → (k : ForkName) (f : Fork) → k.tty.0 ≡ t.0 → map.get m k ≡ Some f → Good f
  pub same : (f g : Fork) → SameMark f g → Good f → Good g
  pub put : (m : ForkMap) → Holds m → (f : Fork) → Good f → Holds (map.insert m f.name f)
  pub told : (m : ForkMap) → Holds m → (f : Fork) → Good f → Holds (end_told m f)

module _ (job : Tty) (Holds : ForkMap → Type 0) (Good : Fork → Type 0) (keeps : KeptBy job Holds Good) where
  abbrev Leaves : Effect → Type 0
  Leaves e = Holds e.state.forks

  mode_kept : (u : PlainState) → Holds u.forks → (t : Tty) → Holds (in_command_mode u t).forks
  mode_kept u h t = looked_up (λ (v : PlainState). Holds v.forks) _ u (map.get u.jobs t.0) (λ j is. h) (λ none. h)

  stopped_kept : (u : PlainState) → Holds u.forks → (f : Fork) → Good f → Leaves (stopped u f)
  stopped_kept u h f good =
      let m = with_fork u f in
      let told = keeps.told m.forks (keeps.put u.forks h f good) f good in
      cond_both (is_some f.superior) _ _ Leaves (λ below. told) (λ top. mode_kept (with_stopped u f) told f.name.tty)

  counted_good : (f : Fork) → Good f → Good (counted f)
  counted_good f good = keeps.same f (counted f) (refl, refl) good

  pub ended_kept : (u : PlainState) → Holds u.forks → (f : Fork) (status : ForkStatus) → Good f → Leaves (unit_ended u f status)
  ended_kept u h f Running good = keeps.put u.forks h (counted f) (counted_good f good)
  ended_kept u h f (Wait on) good = keeps.put u.forks h (counted f) (counted_good f good)
  ended_kept u h f Halted good = stopped_kept u h (counted f) (counted_good f good)
  ended_kept u h f (Forced channel) good = stopped_kept u h (counted f) (counted_good f good)

  told_if_kept : (ended : Bool) (m : ForkMap) → Holds m → (f : Fork) → Good f → Holds (told_if ended m f)
  told_if_kept true m h f good = keeps.told (map.insert m f.name f) (keeps.put m h f good) f good
  told_if_kept false m h f good = keeps.put m h f good

  module _ (s : PlainState) (h : Holds s.forks) (f : Fork) (good : Good f) (here : f.name.tty.0 ≡ job.0) where
    good_in : (m : ForkMap) → Holds m → (g : Fork) → map.get m f.name ≡ Some g → Good g
    good_in m holds g is = keeps.found m holds f.name g here is

    trapped_kept : (channel : ℕ) → Leaves (unit_ended s (posted f channel) (posted f channel).body.status)
    trapped_kept channel = ended_kept s h (posted f channel) (posted f channel).body.status (keeps.same f (posted f channel) (posted_mark f channel) good)

    went_kept : (q : NamedPages) (e : Ending) → Leaves (went s f q e)
    went_kept q e = by e.post
      where
        g : Fork
        g = with_regs f e.regs

        good_g : Good (with_regs f e.regs)
        good_g = keeps.same f (with_regs f e.regs) (refl, refl) good

        by : (post : Option ℕ) → Leaves (unit_ended (record s { pages = q }) (posted_if (with_regs f e.regs) post) (posted_if (with_regs f e.regs) post).body.status)
        by None = ended_kept (record s { pages = q }) h g g.body.status good_g
        by (Some channel) = ended_kept (record s { pages = q }) h (posted g channel) (posted g channel).body.status (keeps.same g (posted g channel) (posted_mark g channel) good_g)

    -- the fork that called is put among forks of which this holds
    with_caller : (u : PlainState) → Holds u.forks → (g : Fork) → Good g → (k : Fork) → SameMark g k → Leaves (unit_ended u k k.body.status)
    with_caller u left g here k same = ended_kept u left k k.body.status (keeps.same g k same here)

    own_kept : (t : Turn ⊥ (Unit {0})) → MakesNone s.pages t → Leaves (own_turned s f t)
    own_kept t makes = own_by Leaves s f t makes (λ g is. with_caller s h g (good_in s.forks h g is) (fork_behind g (own_came s t).end) (behind_mark g (own_came s t).end)) h

    map_kept : (number : ℕ) → Leaves (map_turned s f number)
    map_kept number = map_by Leaves s f number (λ g is. with_caller (record s { pages = map_pages s f number }) h g (good_in s.forks h g is) (fork_behind g (map_came s f number).end) (behind_mark g (map_came s f number).end)) h

    jfn_kept : (number : ℕ) → Leaves (jfn_turned s f number)
    jfn_kept number = jfn_by Leaves s f number (λ g is. with_caller (jfn_called s f number) h g (good_in s.forks h g is) (fork_behind g (jfn_came s f number).end) (behind_mark g (jfn_came s f number).end)) h

    byte_kept : (rows : List (ℕ × (ByteAsked → ByteTurn))) (number : ℕ) → Leaves (byte_turned s f rows number)
    byte_kept rows number =
        let e = (byte_came s f rows number).end in
        byte_by Leaves s f number rows (λ g is. with_caller (byte_called s f rows number) h g (good_in s.forks h g is) (fork_behind g e) (behind_mark g e)) h

    none_kept : Leaves (none_turned s f)
    none_kept = caller_by Leaves s f.name.tty (parts_of s) f.name (λ g. posted g ILLEGAL_INSTRUCTION) None (λ g is. with_caller s h g (good_in s.forks h g is) (posted g ILLEGAL_INSTRUCTION) (posted_mark g ILLEGAL_INSTRUCTION)) h

    -- the fork that called is put where the call leaves such forks
    pub fork_kept : (number : ℕ) → Holds (fork_called s f number).forks → Leaves (fork_turned s f number)
    fork_kept number left =
        let e = (fork_came s f number).end in
        caller_by Leaves s f.name.tty (fork_left s f number) f.name (λ g. fork_behind g e) (out_of e) (λ g is. with_caller (fork_called s f number) left g (good_in (fork_called s f number).forks left g is) (fork_behind g e) (behind_mark g e)) left

    -- a call on pseudo-interrupts changes forks of the job
    module _ (number : ℕ) where
      abbrev asked : Asked
      asked = asks (parts_of s) f.name f.body.regs

      good_of : (k : ForkName) → k.tty.0 ≡ f.name.tty.0 → (g : Fork) → map.get s.forks k ≡ Some g → Good g
      good_of k same g is = keeps.found s.forks h k g (same ∙ here) is

      change_kept : (q : NamedPages) (change : InterruptChange) → ChangesOwn asked change → Holds (interrupts_changed change (record (parts_of s) { pages = q })).tree.forks
      unfolding interrupt_changed
      change_kept q (Become k body) same = looked_up Holds _ s.forks (map.get s.forks k) (λ g is. keeps.put s.forks h (with_body body g) (keeps.same g (with_body body g) (refl, refl) (good_of k same g is))) (λ none. h)
      change_kept q (Post k word) same = looked_up Holds _ s.forks (map.get s.forks k)
          (λ g is. let all = posted_all g (channels_of word) in told_if_kept (list_any (forces g.body.psi) (channels_of word)) s.forks h all (keeps.same g all (posted_all_mark g (channels_of word)) (good_of k same g is))) (λ none. h)
      change_kept q (Assign code k channel) same = h
      change_kept q (Unassign t code) same = h

      left_kept : Holds (interrupt_called s f number).forks
      unfolding parts_behind
      left_kept = by (interrupt_came s f number).end (interrupt_names asked (keeps.own s.forks h) s.pages number)
        where
          by : (e : End InterruptChange) → KeepsEnd (ChangesOwn asked) e → Holds (parts_behind interrupts_changed (parts_of s) (record (parts_of s) { pages = (interrupt_came s f number).pages }) e).tree.forks
          by (Done change regs out post) fits = change_kept (interrupt_came s f number).pages change fits
          by (Waits on) fits = h
          by Halts fits = h
          by (Refused code) fits = h
          by (Failed code) fits = h
          by (Trap channel) fits = h

      interrupt_kept : Leaves (interrupt_turned s f number)
      interrupt_kept =
          let e = (interrupt_came s f number).end in
          caller_by Leaves s f.name.tty (interrupt_left s f number) f.name (λ g. fork_behind g e) (out_of e) (λ g is. with_caller (interrupt_called s f number) left_kept g (good_in (interrupt_called s f number).forks left_kept g is) (fork_behind g e) (behind_mark g e)) left_kept

    -- a call on the clock changes the fork that called
    module _ (number : ℕ) where
      awake_kept : (change : SleepChange) → SleepsOwn f.name change → Holds (clock_changed change (tree_of s)).forks
      unfolding clock_changed
      awake_kept Nothing own = h
      awake_kept (Awakes k) own = looked_up Holds _ s.forks (map.get s.forks k)
          (λ g is. keeps.put s.forks h (without_moment g) (keeps.same g (without_moment g) (refl, refl) (keeps.found s.forks h k g (ap (λ (n : ForkName). n.tty.0) own ∙ here) is))) (λ none. h)

      slept_kept : Holds (clock_called s f number).forks
      unfolding parts_behind
      slept_kept = by (clock_came s f number).end (clock_names s.pages (asks_clock (parts_of s) f.name f.body.regs) number)
        where
          by : (e : End SleepChange) → KeepsEnd (SleepsOwn f.name) e → Holds (parts_behind clock_changed (tree_of s) (tree_of s) e).forks
          by (Done change regs out post) own = awake_kept change own
          by (Waits what) own = h
          by Halts own = h
          by (Refused code) own = h
          by (Failed code) own = h
          by (Trap channel) own = h

      clock_kept : Leaves (clock_turned s f number)
      clock_kept =
          let e = (clock_came s f number).end in
          clock_by Leaves s f number (λ g is. with_caller (clock_called s f number) slept_kept g (good_in (clock_called s f number).forks slept_kept g is) (fork_behind g e) (behind_mark g e)) slept_kept

    called_kept : (number : ℕ) → Leaves (fork_turned s f number) → Leaves (called s f number)
    called_kept number turns = called_by Leaves s f number own_kept turns (interrupt_kept number) (clock_kept number) (map_kept number) (jfn_kept number) (byte_kept byte_calls number) (byte_kept string_calls number) none_kept

    -- an instruction keeps it, if the turn does of the call that it may be
    pub over_kept : (r : Planned name_cmp ⊥) → ((number : ℕ) → r ≡ call number → Leaves (fork_turned s f number)) → Leaves (over s f r)
    over_kept (done t e) turns = went_kept _ e
    over_kept (unit_stopped (trap channel)) turns = trapped_kept channel
    over_kept (unit_stopped (need none)) turns = absurd none
    over_kept (call number) turns = called_kept number (turns number refl)

    -- so does a channel that is delivered, and a fork that is forced before its instruction
    pub taken_kept : (q : NamedPages) (d : Delivery) → Leaves (taken_up s q f d)
    taken_kept q d = let g = counted (delivered f d) in keeps.put s.forks h g (keeps.same f g (refl, refl) good)

    pub forced_kept : (channel : ℕ) → Leaves (unit_ended s (with_status f (Forced channel)) (Forced channel))
    forced_kept channel = let g = with_status f (Forced channel) in ended_kept s h g (Forced channel) (keeps.same f g (refl, refl) good)

    -- and so a unit
    pub unit_kept : ((number : ℕ) → Leaves (fork_turned s f number)) → Leaves (unit_of s f)
    unit_kept turns = unit_by Leaves s f (λ is. over_kept (unit_on f.name s.pages f.body.regs) (λ number is. turns number)) (λ d is. taken_kept (inspected f s.pages).pages d) (λ channel is. forced_kept channel)

-- how a unit ends says nothing of the pages
stopped_pages : (u : PlainState) (f : Fork) → (stopped u f).state.pages ≡ u.pages
stopped_pages u f = cond_both (is_some f.superior) _ _ (λ (e : Effect). e.state.pages ≡ u.pages) (λ below. refl)
    (λ top. looked_up (λ (v : PlainState). v.pages ≡ u.pages) _ (with_stopped u f) (map.get u.jobs f.name.tty.0) (λ j is. refl) (λ none. refl))

pub ended_pages : (u : PlainState) (f : Fork) (status : ForkStatus) → (unit_ended u f status).state.pages ≡ u.pages
ended_pages u f Running = refl
ended_pages u f (Wait on) = refl
ended_pages u f Halted = stopped_pages u (counted f)
ended_pages u f (Forced channel) = stopped_pages u (counted f)
