-- The plain state is whole wherever a run comes.
use Rattle.std.proofs.Common.{◌≡◌, ℕ, suc, ◌+◌, ◌%◌, ◌<◌, ◌≤◌, Bool, true, false, cond, List, [], ◌∷◌, Option, None, Some, inl, inr, refl, sym, ◌∙◌, ap, subst, arith, All}
use Rattle.std.specs.Option.{option_and_then}
use Rattle.std.specs.Prelude.{is_none, is_some, nat_lt, slice_get, take}
use Rattle.std.specs.List.{find, range_with_len}
use Rattle.std.specs.Ordering.{eq_by_cmp, nat_cmp}
use Rattle.std.specs.Cmp.{nat_cmp_total}
use Rattle.std.specs.Cmp.Lexicographic.{nat_list_cmp_total}
use Rattle.std.specs.FinMap as map
use Rattle.std.specs.FinMap.{nat_cmp-IsAntisymmetric}
use Rattle.std.proofs.lemmas.Bool.{cond_both}
use Rattle.std.proofs.lemmas.Bool.Decides.{nat_tests}
use Rattle.std.proofs.lemmas.List.Elements.{All-head, All-tail}
use Rattle.outside.specs.declared.TheConstants.{PAGE_WORDS}
use Rattle.machine_names.specs.declared.names.TheConstants.{TERMINALS, ACCUMULATORS, LAST_SERIAL}
use Rattle.plain_units.specs.Instructions.{instruction}
use Rattle.machine_names.specs.declared.names.Tty.{Tty}
use Rattle.machine_names.specs.declared.names.ForkName.{ForkName}
use Rattle.machine_names.specs.declared.names.Slot.{Slot}
use Rattle.plain_model.specs.declared.fork.Fork.{Fork}
use Rattle.plain_model.specs.State.{PlainState, PlainJob, opening}
use Rattle.plain_pages.specs.PlainPages.{NamedPages, Map, opening_pages}
use Rattle.machine_names.specs.Orders.{fork_cmp, page_cmp, name_cmp}
use Rattle.plain_pages.specs.Room.{HasRoom, live}
use Rattle.plain_pages.specs.References.{in_map, Referred, granted, denied, full, page_at, reference, stored, slot_at}
use Rattle.machine_names.specs.Bounds.{IsFileName, IsOwner, IsForkName, IsTerminal}
use Rattle.machine_names.specs.declared.names.Kind.TheVariants.{Write}
use Rattle.script_texts.specs.declared.status.ForkStatus.{ForkStatus}
use Rattle.script_texts.specs.declared.status.ForkStatus.TheVariants.{Run as Running, Wait, Halted, Forced}
use Rattle.plain_model.specs.Interrupts.{posted}
use Rattle.plain_model.specs.Unit.{Effect, unit_ended, called, went, over, unit, unit_of, parts_of}
use Rattle.plain_units.specs.Units.{unit_on}
use Rattle.plain_model.specs.Calls.{Turn, fork_behind, out_of, posted_if, with_ac}
use Rattle.plain_model.specs.ByteCalls.{byte_calls, ByteAsked, ByteTurn}
use Rattle.plain_model.specs.StringCalls.{string_calls}
use Rattle.plain_units.specs.Steps.{Planned, Ending, done, call, trap, need, stopped as unit_stopped, begun, pages_left}
use Rattle.script_texts.specs.declared.event.Event.{Event}
use Rattle.script_texts.specs.declared.event.Event.TheVariants.{Login, TypeIn, File, Words, Poke, Start, Run, Tick, Evict, Drum, Auto, Examine, Forks, Page, Trace}
use Rattle.script_texts.specs.declared.event.Step.{Step}
use Rattle.script_texts.specs.declared.event.Step.TheVariants.{Outer, Unit as AUnit, Idle}
use Rattle.plain_model.specs.Run.{apply, state_after}
use Rattle.plain_pages.specs.declared.map.NewMap.TheVariants.{Empty as EmptyMap}
use Rattle.plain_pages.specs.NewMaps.{with_map}
use Rattle.machine_names.specs.declared.names.TheConstants.{MOST_FILES}
use Rattle.plain_files.specs.Sizes.{new_file}
use Rattle.plain_model.specs.FileEvents.{make_file, page_named}
use Rattle.plain_model.specs.Events.{at_job, new_job, with_job, login, poked, poked_at, start, word_seen, examined_in, outer}
use Rattle.script_texts.specs.Limits.{FitsEvent, FitsStep}
use Rattle.plain_model.specs.Trees.{free_slot, next_serial, tree_of, next_name}
use Rattle.plain_pages.specs.declared.map.MapEntry.TheVariants.{Follows}
use Rattle.fork_tree.proofs.Kept.{none_tree}
use Rattle.fork_tree.proofs.Slots.{in_none}
use Rattle.plain_model.specs.Forks.{ForkMap, fork_in, top_fork, with_regs, with_status, counted}
use Rattle.plain_laws.specs.Whole.{AreGiven, IsWholeMachine}
use Rattle.plain_laws.proofs.FilesKept.{file_put, job_put, no_files_whole, none_open, put_tells}
use Rattle.plain_laws.proofs.ByteSizes.{new_fits}
use Rattle.plain_laws.proofs.WordsWritten.{row_within, words_whole}
use Rattle.plain_laws.proofs.GivenSerials.{added_given, poked_given, run_given}
use Rattle.plain_units.proofs.Lookups.{looked_up}
use Rattle.plain_model.proofs.ForkMaps.{get_put}
use Rattle.plain_pages.proofs.Whole.{opening_whole, map_whole, live_whole}
use Rattle.plain_pages.proofs.ReferencesMade.{has_room}
use Rattle.plain_units.proofs.PageRuns.{AreSound, PlanKeeps, PlanLeaves, kept_itself, kept_on, reference_kept, run_kept, stored_kept}
use Rattle.plain_laws.proofs.WholeJfns.{jfn_called_whole}
use Rattle.plain_laws.proofs.WholeMaps.{map_called_whole}
use Rattle.plain_laws.proofs.WholeBytes.{RowsFit, byte_called_whole, bytes_fit, strings_fit}
use Rattle.plain_laws.proofs.WholeCommands.{Leaves, changed_whole, started_whole}
use Rattle.plain_laws.proofs.ClockTurns.{clock_by}
use Rattle.plain_laws.proofs.Inspected.{unit_by}
use Rattle.plain_laws.proofs.WholeInterrupts.{clock_called_whole, interrupt_called_whole, stopped_whole, taken_whole}
use Rattle.plain_laws.proofs.WholeTyped.{typed_whole}
use Rattle.plain_laws.proofs.WholeForks.{sleepers_whole, kept_tops, filed_whole, sound, keeps_whole, behind_same, put, made_whole, next_absent, fork_called_whole}
use Rattle.plain_model.proofs.Posted.{IsSame, posted_same}
use Rattle.plain_model.proofs.Calling.{clock_called, clock_came, clock_turned, fork_came, fork_left, fork_called, fork_turned, interrupt_came, interrupt_called, interrupt_left, interrupt_turned, map_came, map_pages, map_turned, own_came, own_turned, none_turned, jfn_came, jfn_called, jfn_turned, byte_came, byte_called, byte_turned, MakesNone, caller_by, called_by, map_by, jfn_by, byte_by, own_by}
use Rattle.plain_units.specs.declared.channel.TheConstants.{ILLEGAL_INSTRUCTION}
use Rattle.std.proofs.lemmas.Cmp.{eq_by_cmp_equiv}
use Rattle.plain_model.proofs.Shorthands.{is_free}

-- the opening state is whole
pub whole_opening : (limit : ℕ) → IsWholeMachine (opening limit)
unfolding opening opening_pages
whole_opening limit = record {
  pages = opening_whole name_cmp limit;
  room = subst (λ n. n ≤ limit) (sym none_live) (omega arith);
  files = no_files_whole;
  forks = λ f. none f ∙ sym (no_map f);
  tree = none_tree;
  given = λ at serial page a is. (let no : None ≡ Some (Follows serial page a) = sym (ap (λ (o : Option Map). option_and_then (λ (m : Map). slice_get m at.page) o) (map.get-empty fork_cmp at.fork)) ∙ is in absurd (cc no));
  homes = λ f h. absurd (cc (sym (none f) ∙ h));
  tops = λ t j h. absurd (cc (sym (map.get-empty nat_cmp t) ∙ h));
  own_tops = λ t j h. absurd (cc (sym (map.get-empty nat_cmp t) ∙ h));
}
  where
    none_live : live (opening limit).pages ≡ 0
    none_live = live_whole (opening limit).pages (opening_whole name_cmp limit) ∙ ap (λ n. n + map.len (map.empty {X = Map} {R = fork_cmp})) (map.len-empty page_cmp (List ℕ)) ∙ ap (λ n. 0 + n) (map.len-empty fork_cmp Map)

    none : (f : ForkName) → map.contains_key (map.empty {X = Fork} {R = fork_cmp}) f ≡ false
    none f = ap is_some (map.get-empty fork_cmp f)

    no_map : (f : ForkName) → map.contains_key (map.empty {X = Map} {R = fork_cmp}) f ≡ false
    no_map f = ap is_some (map.get-empty fork_cmp f)

module _ (s : PlainState) (w : IsWholeMachine s) (name : ForkName) (f : Fork) (there : map.get s.forks name ≡ Some f) where
  ended_whole_fork : (g : Fork) (status : ForkStatus) → IsSame f g → Leaves (unit_ended s g status)
  ended_whole_fork g Running same = put s w name f there (counted g) same
  ended_whole_fork g (Wait on) same = put s w name f there (counted g) same
  ended_whole_fork g Halted same = stopped_whole s w name f there (counted g) same
  ended_whole_fork g (Forced channel) same = stopped_whole s w name f there (counted g) same

  trapped_whole : (channel : ℕ) → Leaves (unit_ended s (posted f channel) (posted f channel).body.status)
  trapped_whole channel = ended_whole_fork (posted f channel) (posted f channel).body.status (posted_same f channel)

module _ (s : PlainState) (w : IsWholeMachine s) (name : ForkName) (f : Fork) (there : map.get s.forks name ≡ Some f) where
  -- the fork that called, as it is put among the forks
  called_with : (u : PlainState) → IsWholeMachine u → (g : Fork) → map.get u.forks f.name ≡ Some g → (h : Fork) → IsSame g h → Leaves (unit_ended u h h.body.status)
  called_with u whole g is h same = ended_whole_fork u whole f.name g is h h.body.status same

  -- a call may change nothing else
  own_whole : (t : Turn ⊥ (Unit {0})) → MakesNone s.pages t → Leaves (own_turned s f t)
  own_whole t makes = own_by Leaves s f t makes (λ g is. called_with s w g is (fork_behind g (own_came s t).end) (behind_same g (own_came s t).end)) w

  -- the terminal of a fork with a name owns pages
  own_terminal : IsForkName name → IsOwner f.name.tty
  own_terminal fits = inl (subst (λ (n : ForkName). n.tty.0 < TERMINALS) (sym (w.tree.slotted.own name f there)) fits.0)

  -- a call on maps changes pages alone
  map_whole_turn : (number : ℕ) → IsForkName name → Leaves (map_turned s f number)
  map_whole_turn number fits =
      let e = (map_came s f number).end in
      let whole = map_called_whole s w f (own_terminal fits) number in
      map_by Leaves s f number (λ g is. called_with (record s { pages = map_pages s f number }) whole g is (fork_behind g e) (behind_same g e)) whole

  -- a fork call changes forks and pages
  fork_turned_whole : (number : ℕ) → IsForkName name → Leaves (fork_turned s f number)
  fork_turned_whole number fits =
      let e = (fork_came s f number).end in
      let whole = fork_called_whole s w name f there fits number in
      caller_by Leaves s f.name.tty (fork_left s f number) f.name (λ g. fork_behind g e) (out_of e) (λ g is. called_with (fork_called s f number) whole g is (fork_behind g e) (behind_same g e)) whole

  -- a call on JFNs changes pages, files and jobs
  jfn_whole : (number : ℕ) → IsForkName name → Leaves (jfn_turned s f number)
  jfn_whole number fits =
      let e = (jfn_came s f number).end in
      let whole = jfn_called_whole s w f (own_terminal fits) number in
      jfn_by Leaves s f number (λ g is. called_with (jfn_called s f number) whole g is (fork_behind g e) (behind_same g e)) whole

  -- so does a call on bytes, or on strings of them
  byte_whole : (rows : List (ℕ × (ByteAsked → ByteTurn))) → RowsFit s w f rows → (number : ℕ) → IsForkName name → Leaves (byte_turned s f rows number)
  byte_whole rows fit number fits =
      let e = (byte_came s f rows number).end in
      let whole = byte_called_whole s w f (own_terminal fits) rows fit number in
      byte_by Leaves s f number rows (λ g is. called_with (byte_called s f rows number) whole g is (fork_behind g e) (behind_same g e)) whole

  -- a call on pseudo-interrupts changes forks and codes
  interrupt_whole : (number : ℕ) → IsForkName name → Leaves (interrupt_turned s f number)
  interrupt_whole number fits =
      let e = (interrupt_came s f number).end in
      let whole = interrupt_called_whole s w f (own_terminal fits) number in
      caller_by Leaves s f.name.tty (interrupt_left s f number) f.name (λ g. fork_behind g e) (out_of e) (λ g is. called_with (interrupt_called s f number) whole g is (fork_behind g e) (behind_same g e)) whole

  -- a call on the clock changes the fork that called
  clock_whole : (number : ℕ) → Leaves (clock_turned s f number)
  clock_whole number =
      let e = (clock_came s f number).end in
      let whole = clock_called_whole s w f number in
      clock_by Leaves s f number (λ g is. called_with (clock_called s f number) whole g is (fork_behind g e) (behind_same g e)) whole

  none_whole : Leaves (none_turned s f)
  none_whole = caller_by Leaves s f.name.tty (parts_of s) f.name (λ g. posted g ILLEGAL_INSTRUCTION) None (λ g is. called_with s w g is (posted g ILLEGAL_INSTRUCTION) (posted_same g ILLEGAL_INSTRUCTION)) w

  called_whole : (number : ℕ) → IsForkName name → Leaves (called s f number)
  called_whole number fits = called_by Leaves s f number own_whole (fork_turned_whole number fits) (interrupt_whole number fits) (clock_whole number) (map_whole_turn number fits) (jfn_whole number fits) (byte_whole byte_calls (bytes_fit s w f) number fits) (byte_whole string_calls (strings_fit s w f) number fits) none_whole

-- a unit that goes through leaves its fork's name and slot
went_whole : (s : PlainState) (w : IsWholeMachine s) (name : ForkName) (f : Fork) → map.get s.forks name ≡ Some f → (q : NamedPages) → IsWholeMachine (record s { pages = q }) → (e : Ending) → Leaves (went s f q e)
went_whole s w name f there q whole e = by e.post
  where
    g : Fork
    g = with_regs f e.regs

    by : (post : Option ℕ) → Leaves (unit_ended (record s { pages = q }) (posted_if g post) (posted_if g post).body.status)
    by None = ended_whole_fork (record s { pages = q }) whole name f there g g.body.status (refl, refl, refl)
    by (Some channel) = ended_whole_fork (record s { pages = q }) whole name f there (posted g channel) (posted g channel).body.status (posted_same g channel)

-- the first slot is free, where no fork is in it
first_found : (p : ℕ → Bool) (from len : ℕ) → p from ≡ true → find p (range_with_len from (suc len)) ≡ Some from
first_found p from len passes = ap (λ b. cond b (Some from) (find p (range_with_len (from + 1) len))) passes

first_free : (forks : ForkMap) (t : Tty) → fork_in forks t 1 ≡ None → free_slot forks t ≡ Some 1
unfolding free_slot
first_free forks t none = first_found (is_free forks t) 1 29 (ap is_none none)

module _ (s : PlainState) (w : IsWholeMachine s) where
  over_whole : (name : ForkName) (f : Fork) → map.get s.forks name ≡ Some f → IsForkName name → (r : Planned name_cmp ⊥) → PlanKeeps nat_list_cmp_total s.pages f.name r → PlanLeaves (λ (q : NamedPages). AreGiven (next_serial (tree_of s)) q.maps) f.name r → Leaves (over s f r)
  over_whole name f there fits (done t e) left given = went_whole s w name f there (pages_left f.name t e) (keeps_whole s w (pages_left f.name t e) left given) e
  over_whole name f there fits (unit_stopped (trap channel)) left given = trapped_whole s w name f there channel
  over_whole name f there fits (unit_stopped (need none)) left given = absurd none
  over_whole name f there fits (call number) left given = called_whole s w name f there number fits

  unit_whole : (name : ForkName) → IsForkName name → Leaves (unit s name)
  unfolding unit
  unit_whole name fits = looked_up Leaves _ _ (map.get s.forks name) (λ f is. runs f is) (λ none. w)
    where
      runs : (f : Fork) → map.get s.forks name ≡ Some f → Leaves (unit_of s f)
      runs f is =
          let own : IsOwner f.name.tty = inl (subst (λ (n : ForkName). n.tty.0 < TERMINALS) (sym (w.tree.slotted.own name f is)) fits.0) in
          unit_by Leaves s f
          (λ plain. over_whole name f is fits (unit_on f.name s.pages f.body.regs) (run_kept nat_list_cmp_total s.pages f.name own (instruction f.body.regs) (begun s.pages f.body.regs.ac) (kept_itself s.pages (sound s w)))
          (run_given (next_serial (tree_of s)) nat_list_cmp_total f.name (instruction f.body.regs) (begun s.pages f.body.regs.ac) w.given))
          (λ d takes. taken_whole s w f own name is d) (λ channel forces. ended_whole_fork s w name f is (with_status f (Forced channel)) (Forced channel) (refl, refl, refl))

  login_job_whole : (t : Tty) (user : List ℕ) → IsTerminal t → is_some (map.get s.jobs t.0) ≡ false → nat_lt LAST_SERIAL (next_serial (tree_of s) t) ≡ false → HasRoom (with_map s.pages (next_name (tree_of s) t) EmptyMap) t ≡ true → IsWholeMachine (with_job s t user)
  login_job_whole t user terminal no_job few room = made_whole s w t terminal (top_fork f) EmptyMap (with_map s.pages f EmptyMap) sound refl (λ k. refl) jobs (job_put s.files s.pages.files s.jobs w.files t.0 (new_job user f) (none_open s.files)) tops have home (added_given (next_serial (tree_of s)) s.pages.maps f EmptyMap w.given tt) (few_serials few) (first_free s.forks t none_in) none_in own_tops refl
    where
      f : ForkName
      f = next_name (tree_of s) t

      jobs : map.FinMap nat_cmp PlainJob
      jobs = map.insert s.jobs t.0 (new_job user f)

      at : (u : ℕ) → map.get jobs u ≡ cond (eq_by_cmp nat_cmp u t.0) (Some (new_job user f)) (map.get s.jobs u)
      at u = map.get-insert nat_cmp_total s.jobs t.0 (new_job user f) u

      sound : AreSound (with_map s.pages f EmptyMap)
      sound = record { whole = map_whole s.pages w.pages f (next_absent s w t) EmptyMap terminal; room = has_room (with_map s.pages f EmptyMap) t room }

      home : map.contains_key jobs t.0 ≡ true
      home = ap is_some (at t.0) ∙ ap (λ b. is_some (cond b (Some (new_job user f)) (map.get s.jobs t.0))) (let e = eq_by_cmp_equiv nat_cmp_total in e.refl t.0)

      have : (u : ℕ) → map.contains_key s.jobs u ≡ true → map.contains_key jobs u ≡ true
      have u h = ap is_some (at u) ∙ by (eq_by_cmp nat_cmp u t.0)
        where
          by : (b : Bool) → is_some (cond b (Some (new_job user f)) (map.get s.jobs u)) ≡ true
          by true = refl
          by false = h

      few_serials : nat_lt LAST_SERIAL (next_serial (tree_of s) t) ≡ false → next_serial (tree_of s) t ≤ LAST_SERIAL
      few_serials h = grind (arith, nat_tests)

      none_in : fork_in s.forks t 1 ≡ None
      none_in = in_none s.forks w.tree.slotted t 1 (λ g at. let no : true ≡ false = sym (w.homes g.name (ap is_some at.0)) ∙ ap (map.contains_key s.jobs) at.1 ∙ no_job in cc no)

      tops : (u : ℕ) (i : PlainJob) → map.get jobs u ≡ Some i → (x : Fork) × (map.get (map.insert s.forks f (top_fork f)) i.top ≡ Some x) × (x.slot ≡ 1) × (x.superior ≡ None)
      tops u i is = top_of i (eq_by_cmp nat_cmp u t.0) (sym (at u) ∙ is)
        where
          top_of : (i : PlainJob) (b : Bool) → cond b (Some (new_job user f)) (map.get s.jobs u) ≡ Some i → (x : Fork) × (map.get (map.insert s.forks f (top_fork f)) i.top ≡ Some x) × (x.slot ≡ 1) × (x.superior ≡ None)
          top_of i true is =
              let here : new_job user f ≡ i = cc is in
              (top_fork f, ap (λ (j : PlainJob). map.get (map.insert s.forks f (top_fork f)) j.top) (sym here) ∙ get_put s.forks f f (top_fork f) refl, refl, refl)
          top_of i false is = kept_tops s w t (top_fork f) u i is

      own_tops : (u : ℕ) (i : PlainJob) → map.get jobs u ≡ Some i → i.top.tty.0 ≡ u
      own_tops u i is = elim (put_tells nat_cmp_total nat_cmp-IsAntisymmetric s.jobs t.0 (new_job user f) u i is) [
        | inl e ↦ sym (ap (λ (x : PlainJob). x.top.tty.0) e.1) ∙ sym e.0
        | inr was ↦ w.own_tops u i was
      ]

  login_whole : (t : Tty) (user : List ℕ) → IsTerminal t → Leaves (login s t user)
  login_whole t user terminal =
      cond_both (is_some (map.get s.jobs t.0)) _ _ Leaves (λ busy. w) (λ free.
      cond_both (nat_lt LAST_SERIAL (next_serial (tree_of s) t)) _ _ Leaves (λ out. w) (λ few.
      cond_both (HasRoom (with_map s.pages (next_name (tree_of s) t) EmptyMap) t) _ _ Leaves (λ fits. login_job_whole t user terminal free few fits) (λ none. w)))

  poked_whole : (t : Tty) → IsTerminal t → (at : Slot) (offset word : ℕ) (r : Referred name_cmp) → reference s.pages (in_map at) Write t ≡ r → Leaves (poked s t at offset word r)
  poked_whole t terminal at offset word (granted q) is =
      let k = reference_kept nat_list_cmp_total t (inl terminal) s.pages q at Write (sound s w) is in
      let r = stored q (in_map at) offset word in
      keeps_whole s w r (kept_on s.pages q r k (stored_kept q (in_map at) offset word nat_list_cmp_total k.sound)) (poked_given (next_serial (tree_of s)) nat_list_cmp_total t s.pages q at Write offset word w.given is)
  poked_whole t terminal at offset word (denied kind) is = w
  poked_whole t terminal at offset word full is = w

  job_effect : (t : Tty) (act : PlainJob → Effect) → ((j : PlainJob) → map.get s.jobs t.0 ≡ Some j → Leaves (act j)) → Leaves (at_job s t act)
  job_effect t act does = looked_up Leaves act _ (map.get s.jobs t.0) does (λ none. w)

  poke_whole : (t : Tty) (address word : ℕ) → IsTerminal t → Leaves (at_job s t (poked_at s t address word))
  poke_whole t address word terminal = job_effect t (poked_at s t address word) (λ j is.
      let at = slot_at j.top address in
      cond_both (nat_lt address ACCUMULATORS) _ _ Leaves (λ low. changed_whole s w j.top (λ f. with_regs f (with_ac f.body.regs address word)) (λ f. (refl, refl, refl))) (λ high. poked_whole t terminal at (address % PAGE_WORDS) word (reference s.pages (in_map at) Write t) refl))

  start_whole : (t : Tty) (address : ℕ) → Leaves (start s t address)
  start_whole t address = job_effect t _ (λ j is. started_whole s w t j is address)

  file_whole : (name : List ℕ) → IsFileName name → Leaves (make_file s name)
  file_whole name named =
      cond_both (is_some (map.get s.files name)) _ _ Leaves (λ there. w) (λ absent.
      cond_both (nat_lt (map.len s.files) MOST_FILES) _ _ Leaves (λ room.
      filed_whole s w s.pages (map.insert s.files name new_file) w.pages w.room (file_put s.files s.pages.files s.jobs w.files name new_file named new_fits (inr (below room))) (λ f. refl) w.given) (λ none. w))
    where
      below : nat_lt (map.len s.files) MOST_FILES ≡ true → map.len s.files < MOST_FILES
      below h = grind (arith, nat_tests)

  outer_whole : (e : Event) → FitsEvent e → Leaves (outer s e)
  unfolding outer
  outer_whole (Login t user) fits = login_whole t user fits.0
  outer_whole (Poke t address word) fits = poke_whole t address word fits.0
  outer_whole (Start t address) fits = start_whole t address
  outer_whole (Examine t serial address) fits = job_effect t _ (λ j is.
      looked_up Leaves (examined_in s t serial address) _ (map.get s.forks (record { tty = t; serial = serial })) (λ f there. looked_up Leaves _ _ (word_seen s f address) (λ word seen. w) (λ none. w)) (λ none. w))
  outer_whole (Forks t) fits = job_effect t _ (λ j is. w)
  outer_whole Tick fits = let v = sleepers_whole s w (s.clock + 1) in record { pages = v.pages; room = v.room; files = v.files; forks = v.forks; tree = v.tree; given = v.given; homes = v.homes; tops = v.tops; own_tops = v.own_tops }
  outer_whole (Trace on) fits = record { pages = w.pages; room = w.room; files = w.files; forks = w.forks; tree = w.tree; given = w.given; homes = w.homes; tops = w.tops; own_tops = w.own_tops }
  outer_whole (TypeIn t text) fits = job_effect t _ (λ j is. typed_whole s w t text)
  outer_whole (File name) fits = file_whole name fits
  outer_whole (Words name page offset row) fits = words_whole s name page offset (take row.count row.words) w fits.0 fits.1 (row_within offset row fits.2)
  outer_whole (Run n) fits = w
  outer_whole (Evict n) fits = w
  outer_whole (Drum n) fits = w
  outer_whole (Auto on) fits = w
  outer_whole (Page name page) fits = looked_up Leaves _ _ (map.get s.files name) (λ f there. looked_up Leaves _ _ (page_at s.pages (page_named name page)) (λ n is. w) (λ none. w)) (λ none. w)

  -- an entry within its limits leaves a whole state whole
  pub step_whole : (x : Step) → FitsStep x → IsWholeMachine (apply s x).state
  unfolding apply
  step_whole (Outer e) fits = outer_whole e fits.0
  step_whole (AUnit name) fits = unit_whole name fits
  step_whole Idle fits = w

-- and so do entries in order
pub steps_whole : (s : PlainState) (xs : List Step) → IsWholeMachine s → All FitsStep xs → IsWholeMachine (state_after s xs)
steps_whole s [] w fits = w
steps_whole s (x ∷ xs) w fits = steps_whole (apply s x).state xs (step_whole s w x (All-head FitsStep x xs fits)) (All-tail FitsStep x xs fits)
