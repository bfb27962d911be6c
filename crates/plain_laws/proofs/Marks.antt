-- Who has the freeze mark keeps it, until a fork call resumes it.
use Rattle.std.proofs.Common.{◌≡◌, ◌⊎◌, ℕ, zero, suc, ◌||◌, Bool, true, false, List, [], ◌∷◌, Option, None, Some, inl, inr, refl, sym, ◌∙◌, ap, subst}
use Rattle.std.specs.Prelude.{is_some}
use Rattle.std.specs.List.{range_with_len}
use Rattle.std.specs.Option.{option_map_or}
use Rattle.std.specs.FinMap as map
use Rattle.plain_model.specs.declared.call.End.{End}
use Rattle.plain_model.specs.declared.call.End.TheVariants.{Done, Waits, Halts, Refused, Failed, Trap}
use Rattle.plain_model.specs.declared.call.ForkChange.{ForkChange}
use Rattle.plain_model.specs.declared.call.ForkChange.TheVariants.{Nothing, Make, Kill, Freeze, Become, Halt, Store}
use Rattle.plain_units.specs.declared.channel.TheConstants.{INFERIOR_ENDED}
use Rattle.machine_names.specs.declared.names.TheConstants.{MOST_FORKS}
use Rattle.machine_names.specs.declared.names.Tty.{Tty}
use Rattle.machine_names.specs.declared.names.ForkName.{ForkName}
use Rattle.plain_units.specs.declared.registers.Regs.{Regs}
use Rattle.plain_model.specs.declared.fork.Fork.{Fork}
use Rattle.script_texts.specs.declared.status.ForkStatus.TheVariants.{Halted}
use Rattle.plain_model.specs.State.{PlainState}
use Rattle.plain_pages.specs.PlainPages.{NamedPages}
use Rattle.machine_names.specs.Orders.{name_cmp}
use Rattle.plain_model.specs.Forks.{ForkMap, IsRunnable, fork_in, is_frozen, superior_of, with_status}
use Rattle.plain_model.specs.Interrupts.{posted}
use Rattle.plain_model.specs.Inferiors.{is_in_branch}
use Rattle.plain_model.specs.Trees.{tree_of, next_name, changed, with_body, with_mark, unwaited, job_changed, waiters_woken, end_told}
use Rattle.plain_model.proofs.ChangedForks.{changed_from, of_job, of_job_holds}
use Rattle.plain_model.proofs.OtherJobs.{waiters_job}
use Rattle.plain_laws.proofs.Killed.{left_was}
use Rattle.plain_model.specs.Calls.{parts_behind, Asked}
use Rattle.plain_model.specs.ForkCalls.{ForkParts, killed, with_halted, fork_changed}
use Rattle.plain_laws.specs.ForkLaws.{Resumes, UnitResumes}
use Rattle.plain_units.specs.Steps.{Planned, done, call, stopped as unit_stopped}
use Rattle.plain_model.specs.Unit.{Effect, called, instruction_unit, over, unit, unit_of, parts_of}
use Rattle.plain_model.specs.Inspections.{inspected}
use Rattle.plain_model.proofs.Equations.{unit_some}
use Rattle.plain_units.specs.Units.{unit_on}
use Rattle.plain_laws.specs.Whole.{IsWholeMachine}
use Rattle.plain_model.proofs.ForkMaps.{AreOwn, cases_name, get_put, get_put_other, held_there, slot_tells, superior_tells}
use Rattle.plain_model.proofs.ForkEnds.{FitsChange, FitsEnd, call_names}
use Rattle.plain_laws.proofs.Inspected.{unit_by}
use Rattle.plain_laws.proofs.UnitForks.{KeptBy, forced_kept, fork_kept, over_kept, taken_kept}
use Rattle.plain_model.proofs.Posted.{posted_mark}
use Rattle.plain_laws.proofs.WholeForks.{no_fork}
use Rattle.fork_tree.proofs.CanRun.{runs_as}
use Rattle.plain_model.specs.Families.{forks_changed}
use Rattle.plain_model.proofs.Calling.{fork_came, fork_called, fork_turned}

-- whatever a fork with the mark is changed to, it has it
abbrev KeepsMark : (Fork → Fork) → Type 0
KeepsMark change = (f : Fork) → ((change f).name ≡ f.name) × ((change f).frozen ≡ f.frozen)

-- a fork with the mark does not run
pub frozen_waits : (s : PlainState) (name : ForkName) (f : Fork) → map.get s.forks name ≡ Some f → f.frozen ≡ true → IsRunnable s.forks name → ⊥
frozen_waits s name f there mark runs =
    let r = runs_as s.forks name runs in
    let both : Some f ≡ Some r.0 = sym there ∙ r.1 in
    let same : f ≡ r.0 = cc both in
    let on : (r.0).frozen ≡ true = ap (λ (g : Fork). g.frozen) (sym same) ∙ mark in
    let no : true ≡ false = sym (ap (λ b. b || is_frozen 29 s.forks (superior_of s.forks r.0)) on) ∙ r.3 in
    cc no

module _ (name : ForkName) where
  -- each fork under its own name, and this one with the mark, where it is there
  record Marked (m : ForkMap) : Type 0 where
    own : AreOwn m
    mark : (g : Fork) → map.get m name ≡ Some g → g.frozen ≡ true

  put_marked : (m : ForkMap) → Marked m → (f : Fork) → (f.name ≡ name → f.frozen ≡ true) → Marked (map.insert m f.name f)
  put_marked m w f marked = record { own = λ q h is. owned q h is; mark = λ g is. marks g is }
    where
      owned : (q : ForkName) (h : Fork) → map.get (map.insert m f.name f) q ≡ Some h → h.name ≡ q
      owned q h is = elim (cases_name q f.name) [
        | inl e ↦ let both : Some f ≡ Some h = sym (get_put m f.name q f e) ∙ is in let same : f ≡ h = cc both in ap (λ (x : Fork). x.name) (sym same) ∙ sym e
        | inr ne ↦ w.own q h (sym (get_put_other m f.name q f ne) ∙ is)
      ]

      marks : (g : Fork) → map.get (map.insert m f.name f) name ≡ Some g → g.frozen ≡ true
      marks g is = elim (cases_name name f.name) [
        | inl e ↦ let both : Some f ≡ Some g = sym (get_put m f.name name f e) ∙ is in let same : f ≡ g = cc both in ap (λ (x : Fork). x.frozen) (sym same) ∙ marked (sym e)
        | inr ne ↦ w.mark g (sym (get_put_other m f.name name f ne) ∙ is)
      ]

  changed_marked : (m : ForkMap) → Marked m → (change : Fork → Fork) → KeepsMark change → (o : Option Fork) → ((k : Fork) → o ≡ Some k → map.get m k.name ≡ Some k) → Marked (changed m change o)
  changed_marked m w change keeps None there = w
  changed_marked m w change keeps (Some k) there =
      let same = keeps k in
      subst (λ n. Marked (map.insert m n (change k))) same.0
      (put_marked m w (change k) (λ e. same.1 ∙ w.mark k (ap (map.get m) (sym (sym same.0 ∙ e)) ∙ there k refl)))

  waiters_marked : (m : ForkMap) → Marked m → (t : Tty) → Marked (waiters_woken m t)
  unfolding waiters_woken
  waiters_marked m w t = record { own = (waiters_job m w.own t).own; mark = marks }
    where
      same : (f : Fork) → (of_job unwaited t f).frozen ≡ f.frozen
      same f = of_job_holds (λ (x y : Fork). y.frozen ≡ x.frozen) (λ x. refl) unwaited (λ x. refl) t f

      marks : (g : Fork) → map.get (job_changed unwaited t m) name ≡ Some g → g.frozen ≡ true
      marks g is = let was = changed_from (of_job unwaited t) m name g is in ap (λ (x : Fork). x.frozen) (sym was.2) ∙ same was.0 ∙ w.mark was.0 was.1

  told_marked : (m : ForkMap) → Marked m → (f : Fork) → Marked (end_told m f)
  told_marked m w f =
      let v = waiters_woken m f.name.tty in
      let u = waiters_marked m w f.name.tty in
      changed_marked v u (λ k. posted k INFERIOR_ENDED) (λ j. posted_mark j INFERIOR_ENDED) (superior_of v f) (λ k is. let at = superior_tells v u.own f k is in at.0)

  killed_marked : (v : ForkParts name_cmp) (k : ForkName) → Marked v.tree.forks → Marked (killed v k).tree.forks
  unfolding killed
  killed_marked v k w = record { own = λ q h is. w.own q h (left q h is); mark = λ g is. w.mark g (left name g is) }
    where
      left : (q : ForkName) (h : Fork) → map.get (killed v k).tree.forks q ≡ Some h → map.get v.tree.forks q ≡ Some h
      left q h is = left_was v.tree.forks (is_in_branch v.tree.forks k) q h is

  module _ (s : PlainState) (w : IsWholeMachine s) (f : Fork) (there : map.get s.forks name ≡ Some f) (mark : f.frozen ≡ true) where
    marked : Marked s.forks
    marked = record { own = w.tree.slotted.own; mark = λ g is. let both : Some f ≡ Some g = sym there ∙ is in let same : f ≡ g = cc both in ap (λ (x : Fork). x.frozen) (sym same) ∙ mark }

    -- it has it still, or this change takes it
    abbrev Stays : ForkChange → ForkMap → Type 0
    Stays change m = Marked m ⊎ (change ≡ Freeze name false)

    held : (k : ForkName) (h : Fork) → map.get s.forks k ≡ Some h → map.get s.forks h.name ≡ Some h
    held k h is = held_there s.forks w.tree.slotted.own k h is

    frozen_stays : (k : ForkName) (on : Bool) → Stays (Freeze k on) (changed s.forks (with_mark on) (map.get s.forks k))
    frozen_stays k true = inl (by (map.get s.forks k))
      where
        by : (o : Option Fork) → Marked (changed s.forks (with_mark true) o)
        by None = marked
        by (Some h) = put_marked s.forks marked (with_mark true h) (λ e. refl)
    frozen_stays k false = by (map.get s.forks k) refl
      where
        by : (o : Option Fork) → map.get s.forks k ≡ o → Stays (Freeze k false) (changed s.forks (with_mark false) o)
        by None none = inl marked
        by (Some h) some = elim (cases_name name h.name) [
          | inl e ↦ inr (ap (λ (x : ForkName). Freeze x false) (sym (w.tree.slotted.own k h some) ∙ sym e))
          | inr ne ↦ inl (put_marked s.forks marked (with_mark false h) (λ e. absurd (ne (sym e))))
        ]

    not_next : (t : Tty) → next_name (tree_of s) t ≡ name → ⊥
    not_next t e = let no : true ≡ false = sym (ap is_some there) ∙ ap (map.contains_key s.forks) (sym e) ∙ no_fork s w t in cc no

    module _ (who : ForkName) (regs : Regs) (p q : NamedPages) where
      abbrev caller_asked : Asked
      caller_asked = record { who = who; regs = regs; tree = tree_of s }

      abbrev parts : ForkParts name_cmp
      parts = record { tree = tree_of s; pages = q }

      change_stays : (change : ForkChange) → FitsChange caller_asked p (λ x y. Unit {0}) q change → Stays change (fork_changed change parts).tree.forks
      unfolding fork_changed
      change_stays Nothing fits = inl marked
      change_stays (Make h) fits = inl (put_marked s.forks marked h (λ e. absurd (not_next who.tty (sym fits.name ∙ e))))
      change_stays (Kill k) fits =
          inl (waiters_marked (killed parts k).tree.forks (killed_marked parts k marked) k.tty)
      change_stays (Freeze k on) fits = frozen_stays k on
      change_stays (Become k body) fits = inl (changed_marked s.forks marked (with_body body) (λ f. (refl, refl)) (map.get s.forks k) (λ h at. held k h at))
      change_stays (Halt k) fits = inl (by (map.get s.forks k) (λ h at. held k h at))
        where
          by : (o : Option Fork) → ((h : Fork) → o ≡ Some h → map.get s.forks h.name ≡ Some h) → Marked (option_map_or (with_halted (record { tree = tree_of s; pages = q })) o (record { tree = tree_of s; pages = q })).tree.forks
          by None at = marked
          by (Some h) at = let k = with_status h Halted in told_marked (map.insert s.forks h.name k) (put_marked s.forks marked k (λ e. marked.mark h (ap (map.get s.forks) (sym e) ∙ at h refl))) k
      change_stays (Store k at words) fits = inl marked

    call_stays : (caller : Fork) (number : ℕ) → Marked (fork_called s caller number).forks ⊎ Resumes s caller number name
    unfolding parts_behind
    call_stays caller number = by (fork_came s caller number).end refl (call_names (record { who = caller.name; regs = caller.body.regs; tree = tree_of s }) s.pages number)
      where
        q : NamedPages
        q = (fork_came s caller number).pages

        by : (e : End ForkChange) → (fork_came s caller number).end ≡ e → FitsEnd (record { who = caller.name; regs = caller.body.regs; tree = tree_of s }) s.pages (λ x y. Unit {0}) q e
            → Marked (parts_behind forks_changed (parts_of s) (record (parts_of s) { pages = q }) e).tree.forks ⊎ Resumes s caller number name
        by (Done change regs out post) ends fits = elim (change_stays caller.name caller.body.regs s.pages q change fits) [
          | inl m ↦ inl m
          | inr c ↦ inr (regs, out, post, ends ∙ ap (λ (x : ForkChange). Done x regs out post) c)
        ]
        by (Waits on) ends fits = inl marked
        by Halts ends fits = inl marked
        by (Refused code) ends fits = inl marked
        by (Failed code) ends fits = inl marked
        by (Trap channel) ends fits = inl marked

    -- a fork is good that has the mark, if it is this one
    abbrev Good : Fork → Type 0
    Good g = g.name ≡ name → g.frozen ≡ true

    good_in : (m : ForkMap) → Marked m → (k : ForkName) (g : Fork) → map.get m k ≡ Some g → Good g
    good_in m u k g is e = u.mark g (ap (map.get m) (sym e ∙ u.own k g is) ∙ is)

    by_mark : (t : Tty) → KeptBy t Marked Good
    by_mark t = record {
      own = λ m u. u.own;
      found = λ m u k g job is. good_in m u k g is;
      same = λ g h is good e. is.1 ∙ good (sym is.0 ∙ e);
      put = λ m u g good. put_marked m u g good;
      told = λ m u g good. told_marked m u g;
    }

    -- a unit of a fork leaves the mark, or its call takes it
    module _ (who : ForkName) (caller : Fork) (living : map.get s.forks who ≡ Some caller) where
      good : Good caller
      good = good_in s.forks marked who caller living

      over_marks : (r : Planned name_cmp ⊥) → Marked (over s caller r).state.forks ⊎ ((number : ℕ) × (r ≡ call number) × Resumes s caller number name)
      over_marks (done t e) = inl (over_kept caller.name.tty Marked Good (by_mark caller.name.tty) s marked caller good refl (done t e) (λ number is. absurd (cc is)))
      over_marks (unit_stopped why) = inl (over_kept caller.name.tty Marked Good (by_mark caller.name.tty) s marked caller good refl (unit_stopped why) (λ number is. absurd (cc is)))
      over_marks (call number) = elim (call_stays caller number) [
        | inr resumes ↦ inr (number, refl, resumes)
        | inl u ↦
            let turns = fork_kept caller.name.tty Marked Good (by_mark caller.name.tty) s marked caller good refl number u in
            inl (over_kept caller.name.tty Marked Good (by_mark caller.name.tty) s marked caller good refl (call number) (λ n is.
            let same : number ≡ n = cc is in subst (λ m. Marked (fork_turned s caller m).state.forks) same turns))
      ]

      -- a unit that is its instruction, with the call that it is where that takes the mark
      abbrev Left : Effect → Type 0
      Left e = Marked e.state.forks ⊎ ((number : ℕ) × (unit_on caller.name s.pages caller.body.regs ≡ call number) × Resumes s caller number name × (unit_of s caller ≡ called s caller number))

      plainly_left : unit_of s caller ≡ instruction_unit s caller → Left (instruction_unit s caller)
      plainly_left plain = elim (over_marks (unit_on caller.name s.pages caller.body.regs)) [
        | inl u ↦ inl u
        | inr r ↦ inr (r.0, r.1, r.2, plain ∙ ap (over s caller) r.1)
      ]

      unit_marks : Left (unit_of s caller)
      unit_marks = unit_by Left s caller plainly_left (λ d takes. inl (taken_kept caller.name.tty Marked Good (by_mark caller.name.tty) s marked caller good refl (inspected caller s.pages).pages d))
          (λ channel forced. inl (forced_kept caller.name.tty Marked Good (by_mark caller.name.tty) s marked caller good refl channel))

    pub mark_stays : (who : ForkName) (g : Fork) → map.get (unit s who).state.forks name ≡ Some g → (g.frozen ≡ true) ⊎ UnitResumes s who name
    unfolding unit
    mark_stays who g is = by (map.get s.forks who) refl is
      where
        by : (o : Option Fork) → map.get s.forks who ≡ o → map.get (option_map_or (unit_of s) o (record { state = s; items = [] })).state.forks name ≡ Some g → (g.frozen ≡ true) ⊎ UnitResumes s who name
        by None none at = inl (marked.mark g at)
        by (Some c) some at = elim (unit_marks who c some) [
          | inl u ↦ inl (u.mark g at)
          | inr r ↦ inr (record { caller = c; living = some; number = r.0; calls = r.1; resumes = r.2; does = unit_some s who c some ∙ r.3 })
        ]
