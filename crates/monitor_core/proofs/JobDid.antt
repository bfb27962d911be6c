-- An event of a terminal's job, as the event of the plain machine.
use Rattle.std.proofs.Common.{◌≡◌, inl, inr, ℕ, ◌+◌, ◌<◌, ◌≤◌, ◌%◌, [], ◌∷◌, List, get_or, set, map, cond, Option, None, Some, refl, sym, ◌∙◌, ap, subst, arith, nat_lt}
use Rattle.std.specs.Prelude.{Result, Ok, Err, OnErr, IfErr}
use Rattle.std.proofs.lemmas.List.{set-get_or}
use Rattle.std.specs.Ordering.{nat_cmp}
use Rattle.std.specs.Option.{option_map, option_map_or}
use Rattle.word36.specs.Words.{right}
use Rattle.std.specs.FinMap as fin
use Rattle.outside.specs.declared.TheConstants.{PAGE_WORDS}
use Rattle.machine_names.specs.declared.names.TheConstants.{ACCUMULATORS}
use Rattle.machine_names.specs.declared.names.Tty.{Tty}
use Rattle.machine_names.specs.declared.names.Slot.{Slot}
use Rattle.machine_names.specs.declared.names.PageName.{PageName}
use Rattle.machine_names.specs.declared.names.Kind.TheVariants.{Write}
use Rattle.plain_model.specs.declared.fork.Fork.{Fork}
use Rattle.plain_model.specs.declared.fork.TerminalMode.TheVariants.{Program}
use Rattle.script_texts.specs.declared.event.Event.{Event}
use Rattle.script_texts.specs.declared.event.Step.TheVariants.{Outer}
use Rattle.script_texts.specs.declared.event.Item.{Item}
use Rattle.script_texts.specs.declared.event.Item.TheVariants.{Examined, ForkLine, Refusal}
use Rattle.script_texts.specs.declared.event.Refusal.{Refusal as Cause}
use Rattle.script_texts.specs.declared.event.Refusal.TheVariants.{NoJob, NoFork, NoPage}
use Rattle.plain_model.specs.State.{PlainState, PlainJob}
use Rattle.plain_pages.specs.PlainPages.{NumberedPages}
use Rattle.page_contracts.specs.DrumWords.{DrumWords}
use Rattle.page_contracts.specs.Pages.{MayLose}
use Rattle.script_texts.specs.Limits.{FitsCause, FitsItem}
use Rattle.machine_names.specs.Bounds.{IsTerminal}
use Rattle.plain_model.specs.Run.{apply}
use Rattle.plain_pages.specs.References.{Referred, granted, denied, full, in_map, reference, stored, with_word, page_at, slot_at}
use Rattle.plain_model.specs.Forks.{change_fork, fork_line, forks_by_slot}
use Rattle.plain_model.specs.Trees.{PlainTree, with_changed_of}
use Rattle.plain_model.specs.Unit.{Effect, refused}
use Rattle.plain_model.specs.Commands.{in_program, restarted, started, with_job_at}
use Rattle.plain_model.specs.Events.{poked, word_seen, outer}
use Rattle.plain_model.proofs.Equations.{apply_outer, outer_poke, outer_start, outer_examine, outer_forks}
use Rattle.plain_pages.proofs.Refiled.{refiled_result, reference_leaves}
use Rattle.machine_names.specs.Orders.{name_cmp}
use Rattle.plain_units.proofs.RefiledUnits.{stored_leaves}
use Rattle.fork_tree.specs.Trees.{IsTree}
use Rattle.monitor_core.specs.declared.panel.Panel.{Panel}
use Rattle.monitor_calls.specs.declared.job.Job.{Job}
use Rattle.monitor_core.specs.declared.job_event.JobEvent.{JobEvent}
use Rattle.monitor_core.specs.declared.job_event.JobEvent.TheVariants.{Poke as ToPoke, Start as ToStart, Examine as ToExamine, Forks as ToShow}
use Rattle.step_shown.specs.declared.reply.Reply.{Reply}
use Rattle.step_shown.specs.declared.reply.Reply.TheVariants.{Nothing, One, Forks}
use Rattle.monitor_core.specs.declared.system.System.{System}
use Rattle.monitor_core.specs.JobEvents.{event_at}
use Rattle.monitor_calls.specs.Jobs.{jobs_of, job_at, plain_job}
use Rattle.monitor_calls.specs.Typings.{typing_at}
use Rattle.console_access.specs.Looking.{word_in, examined_in, item_of}
use Rattle.step_shown.specs.Replies.{reply_items, FitsReply}
use Rattle.plain_files.specs.NamedFiles.{pages_named}
use Rattle.plain_files.specs.OpenFiles.{open_at}
use Rattle.file_tables.specs.Tables.{files_of, open_of}
use Rattle.monitor_core.specs.Systems.{named, state_of, FitsPages, Did}
use Rattle.console_access.specs.declared.writing.Barred.{Barred}
use Rattle.console_access.specs.declared.writing.Barred.TheVariants.{ByMap, ByDrum}
use Rattle.monitor_calls.specs.Makings.{Makes}
use Rattle.console_access.specs.Writing.{write_of, left_by, poke_refusal, refused_by, IsWritten, Writes, with_accumulator}
use Rattle.console_access.proofs.Looks.{below, not_below}
use Rattle.monitor_calls.proofs.Lookups.{job_found, job_missing, jobs_set}
use Rattle.monitor_calls.proofs.Sounds.{split_at}
use Rattle.monitor_core.proofs.Systems.{change_is, fits_left, fits_still, lost_still, serials_made, state_left, units_change}
use Rattle.monitor_core.proofs.Filed.{NamedFiles, keyed, reference_keyed}
use Rattle.monitor_core.proofs.NamedPages.{alike_named, named_left}

-- what was read is put back
pub put_back : {X : Type 0} (xs : List X) (i : ℕ) (x y : X) → x ≡ get_or xs i x → x ≡ y → set xs i y ≡ xs
put_back xs i x y read is = ap (set xs i) (sym is ∙ read) ∙ set-get_or xs i x

-- without a job each is refused
no_job_event : (s : PlainState) (t : Tty) (e : JobEvent) → fin.get s.jobs t.0 ≡ None → outer s (event_at t e) ≡ refused s (NoJob t)
no_job_event s t (ToPoke address word) h = outer_poke s t address word ∙ rw h
no_job_event s t (ToStart address) h = outer_start s t address ∙ rw h
no_job_event s t (ToExamine serial address) h = outer_examine s t serial address ∙ rw h
no_job_event s t ToShow h = outer_forks s t ∙ rw h

module _ {P : Type 0} {b : _} (m m' : System P b) (files : m'.files ≡ m.files) (same : m'.pages ≡ m.pages) (tree : m'.tree ≡ m.tree) (jobs : m'.jobs.items ≡ m.jobs.items) (typed : m'.typed.items ≡ m.typed.items) (panel : m'.panel ≡ m.panel) where
  -- an event that changes nothing
  pub did_still : (e : Event) (reply : Reply) → FitsReply reply → ((d : DrumWords) → FitsPages m d → ◌≡◌ {A = Effect} (outer (state_of m d) e) (record { state = state_of m d; items = reply_items (state_of m d) reply })) → Did m m' (Outer e) reply
  did_still e reply fits shows = record {
    each = λ d f.
        let old = state_of m d in
        let new : state_of m' d ≡ old = state_left m m' files same tree jobs typed panel d in
        let effect = apply_outer old e ∙ shows d f in (
          fits_still m m' files same d f,
          new ∙ ap (λ x. x.state) (sym effect),
          ap (λ s. reply_items s reply) new ∙ ap (λ x. x.items) (sym effect),
        );
    shown = fits;
    within = λ entries w. record {
      ticks = omega (arith, ap (λ (x : Panel). x.clock) panel, w.ticks);
      units = λ f e. omega (arith, w.units f (ap (λ (x : PlainTree). fin.get x.forks f.name) (sym tree) ∙ e));
      serials = λ t. omega (arith, ap (λ p. b.means.serial p t) same, w.serials t);
    };
    most = ap b.means.most same;
    loses = lost_still m m' same;
  }

  pub did_no_job : (t : Tty) (e : JobEvent) → IsTerminal t → job_at m.jobs.items t.0 ≡ None → Did m m' (Outer (event_at t e)) (One (Refusal (NoJob t)))
  did_no_job t e terminal free = did_still (event_at t e) (One (Refusal (NoJob t))) terminal (λ d f. no_job_event (state_of m d) t e (job_missing (open_of m.files) m.typed.items m.jobs.items t.0 free))

  module _ (t : Tty) (e : JobEvent) (j : Job) (at : job_at m.jobs.items t.0 ≡ Some j) where
    -- the word that is there, as the state has it
    seen_word : (d : DrumWords) (f : Fork) (address : ℕ) → word_seen (state_of m d) f address ≡ word_in (b.means.plain m.pages d) f address
    unfolding page_at
    seen_word d f address = refl

    shown_word : (s : PlainState) (serial address : ℕ) (o : Option ℕ) → ◌≡◌ {A = Effect} (option_map_or (λ word. record { state = s; items = Examined t serial address word ∷ [] }) o (refused s (NoPage t)))
        (record { state = s; items = item_of (option_map_or (λ word. Ok (Examined t serial address word)) o (Err (NoPage t))) ∷ [] })
    shown_word s serial address None = refl
    shown_word s serial address (Some word) = refl

    examines : (d : DrumWords) (serial address : ℕ) → ◌≡◌ {A = Effect} (outer (state_of m d) (event_at t (ToExamine serial address))) (record { state = state_of m d; items = item_of (examined_in (b.means.plain m.pages d) m.tree.forks t serial address) ∷ [] })
    examines d serial address =
        outer_examine s t serial address ∙ ap (λ (o : Option PlainJob). option_map_or (λ i. of_fork (fin.get s.forks (record { tty = t; serial = serial }))) o (refused s (NoJob t))) (job_found (open_of m.files) m.typed.items m.jobs.items t.0 j at)
        ∙ by (fin.get s.forks (record { tty = t; serial = serial }))
      where
        s : PlainState
        s = state_of m d

        of_fork : Option Fork → Effect
        of_fork o = option_map_or (λ f. option_map_or (λ word. record { state = s; items = Examined t serial address word ∷ [] }) (word_seen s f address) (refused s (NoPage t))) o (refused s (NoFork t))

        by : (o : Option Fork) → ◌≡◌ {A = Effect} (of_fork o) (record { state = s; items = item_of (option_map_or (λ f. option_map_or (λ word. Ok (Examined t serial address word)) (word_in (b.means.plain m.pages d) f address) (Err (NoPage t))) o (Err (NoFork t))) ∷ [] })
        by None = refl
        by (Some f) =
            ap (λ w. option_map_or (λ word. record { state = s; items = Examined t serial address word ∷ [] }) w (refused s (NoPage t))) (seen_word d f address)
            ∙ shown_word s serial address (word_in (b.means.plain m.pages d) f address)

    pub did_examine : (serial address : ℕ) (r : Result Item Cause) (reply : Reply) → e ≡ ToExamine serial address → One (item_of r) ≡ reply → FitsItem (item_of r) → ((d : DrumWords) → b.means.fits m.pages d → r ≡ examined_in (b.means.plain m.pages d) m.tree.forks t serial address) → Did m m' (Outer (event_at t e)) reply
    did_examine serial address r reply is shows fits told =
        subst (λ x. Did m m' (Outer (event_at t x)) reply) (sym is) (subst (Did m m' (Outer (event_at t (ToExamine serial address)))) shows
        (did_still (event_at t (ToExamine serial address)) (One (item_of r)) fits (λ d f. examines d serial address ∙ ap (λ x. record { state = state_of m d; items = item_of x ∷ [] }) (sym (told d f.pages)))))

    pub did_forks : e ≡ ToShow → FitsReply (Forks t) → Did m m' (Outer (event_at t e)) (Forks t)
    did_forks is fits =
        subst (λ x. Did m m' (Outer (event_at t x)) (Forks t)) (sym is)
        (did_still (event_at t ToShow) (Forks t) fits
        (λ d f. let s = state_of m d in outer_forks s t ∙ ap (λ (o : Option PlainJob). option_map_or (λ i. record { state = s; items = map (λ k. ForkLine (fork_line s.forks k)) (forks_by_slot s.forks t) }) o (refused s (NoJob t))) (job_found (open_of m.files) m.typed.items m.jobs.items t.0 j at)))

-- what a poke shows: nothing, or why it is refused
abbrev pub poke_reply : {X : Type 0} → Result X Cause → Reply
poke_reply (Ok done) = Nothing
poke_reply (Err cause) = One (Refusal cause)

-- a word that is stored in the pages of a state
stored_keyed : (filed : NamedFiles) (p : NumberedPages) (at : Slot) (offset word : ℕ) → stored (keyed filed p) (in_map at) offset word ≡ keyed filed (stored p (in_map at) offset word)
unfolding page_at
stored_keyed filed p at offset word = by (page_at p (in_map at))
  where
    by : (n : Option PageName) → option_map_or (with_word (keyed filed p) offset word) n (keyed filed p) ≡ keyed filed (option_map_or (with_word p offset word) n p)
    by None = refl
    by (Some n) = refl

-- a poke of a page, by what its reference came to
poked_by : (filed : NamedFiles) (s : PlainState) (t : Tty) (at : Slot) (offset word : ℕ) (p ready q : NumberedPages) (r : Referred nat_cmp) (tried : Result (Unit {0}) Barred) → write_of r ≡ left_by ready tried
    → ((done : Unit {0}) → refused_by (poke_refusal t) tried ≡ Ok done → q ≡ stored ready (in_map at) offset word) → OnErr (refused_by (poke_refusal t) tried) (q ≡ p)
    → ◌≡◌ {A = Effect} (poked (record s { pages = keyed filed p }) t at offset word (refiled_result name_cmp r filed)) (record { state = record s { pages = keyed filed q }; items = reply_items s (poke_reply (refused_by (poke_refusal t) tried)) })
poked_by filed s t at offset word p ready q (granted g) (Ok done) refers store stays =
    let is : g ≡ ready = cc refers in
    ap (λ x. record { state = record s { pages = x }; items = [] }) (stored_keyed filed g at offset word ∙ ap (keyed filed) (ap (λ x. stored x (in_map at) offset word) is ∙ sym (store done refl)))
poked_by filed s t at offset word p ready q (granted g) (Err barred) refers store stays = absurd (cc refers)
poked_by filed s t at offset word p ready q (denied kind) (Ok done) refers store stays = absurd (cc refers)
poked_by filed s t at offset word p ready q (denied kind) (Err barred) refers store stays =
    let is : ByMap ≡ barred = cc refers in λ i. record { state = record s { pages = keyed filed (sym stays i) }; items = Refusal (poke_refusal t (is i)) ∷ [] }
poked_by filed s t at offset word p ready q full (Ok done) refers store stays = absurd (cc refers)
poked_by filed s t at offset word p ready q full (Err barred) refers store stays =
    let is : ByDrum ≡ barred = cc refers in λ i. record { state = record s { pages = keyed filed (sym stays i) }; items = Refusal (poke_refusal t (is i)) ∷ [] }

-- no write through a map changes the pages of files
pub was_granted : (r : Referred nat_cmp) (q : NumberedPages) → write_of r ≡ Ok q → r ≡ granted q
was_granted (granted g) q h = let is : g ≡ q = cc h in ap granted is
was_granted (denied kind) q h = absurd (cc h)
was_granted full q h = absurd (cc h)

went_on : (t : Tty) (ready : NumberedPages) (r : Result NumberedPages Barred) (tried : Result (Unit {0}) Barred) (done : Unit {0}) → Ok done ≡ refused_by (poke_refusal t) tried → r ≡ left_by ready tried → r ≡ Ok ready
went_on t ready r (Ok x) done is refers = refers
went_on t ready r (Err barred) done is refers = absurd (cc is)

written_files : {p q : NumberedPages} {at : Slot} {offset word : ℕ} (r : Result (Unit {0}) Cause) → IsWritten p q at offset word r → q.files ≡ p.files
written_files {p} {q} {at} {offset} {word} (Ok done) w =
    let refers = went_on at.fork.tty w.ready (write_of (reference p (in_map at) Write at.fork.tty)) w.tried done w.is w.readied.refers in
    ap (λ x. x.files) (w.store done refl) ∙ stored_leaves w.ready at offset word ∙ reference_leaves at.fork.tty p w.ready at Write (was_granted (reference p (in_map at) Write at.fork.tty) w.ready refers)
written_files (Err cause) w = ap (λ x. x.files) w.stays

module _ {P : Type 0} {b : _} (m m' : System P b) (is_tree : IsTree m.tree) (t : Tty) (e : JobEvent) (j : Job) (at : job_at m.jobs.items t.0 ≡ Some j) (files : m'.files ≡ m.files) (typed : m'.typed.items ≡ m.typed.items) (panel : m'.panel ≡ m.panel) where
  -- a job's top fork is of its terminal
  owner : j.top.tty ≡ t
  owner = λ i. record { 0 = (m.sound.each_job t.0 j at).terminal i }

  module _ (jobs : m'.jobs.items ≡ m.jobs.items) where
    -- a word was put into an accumulator
    poked_low : (address word : ℕ) (d : DrumWords) → address < ACCUMULATORS → m'.tree ≡ with_changed_of m.tree j.top (with_accumulator address word) → m'.pages ≡ m.pages
        → ◌≡◌ {A = Effect} (outer (state_of m d) (event_at t (ToPoke address word))) (record { state = state_of m' d; items = [] })
    poked_low address word d low is same =
        let old = state_of m d in
        let paged : Effect = poked old t (slot_at j.top address) (address % PAGE_WORDS) word (reference old.pages (in_map (slot_at j.top address)) Write t) in
        let mine : state_of m' d ≡ change_fork old j.top (with_accumulator address word) =
        (λ i. record old { pages = named (files i).dir (b.means.plain (same i) d); files = files_of (files i); jobs = jobs_of (open_of (files i)) (typed i) (jobs i); forks = (is i).forks; fork_serials = (is i).serials; clock = (panel i).clock; trace = (panel i).trace })
        ∙ sym (change_is old j.top (with_accumulator address word) (λ f. refl)) in
        outer_poke old t address word
        ∙ ap (λ (o : Option PlainJob). option_map_or (λ i. cond (nat_lt address ACCUMULATORS) (record { state = change_fork old i.top (with_accumulator address word); items = [] }) (poked old t (slot_at i.top address) (address % PAGE_WORDS) word (reference old.pages (in_map (slot_at i.top address)) Write t))) o (refused old (NoJob t))) (job_found (open_of m.files) m.typed.items m.jobs.items t.0 j at)
        ∙ ap (λ c. cond c (record { state = change_fork old j.top (with_accumulator address word); items = [] }) paged) (below address low)
        ∙ ap (λ s. record { state = s; items = [] }) (sym mine)

    -- a word was written into a page, or the write was refused
    poked_high : (address word : ℕ) (d : DrumWords) (result : Result (Unit {0}) Cause) → FitsPages m d → ACCUMULATORS ≤ address → m'.tree ≡ m.tree → IsWritten (b.means.plain m.pages d) (b.means.plain m'.pages d) (slot_at j.top address) (address % PAGE_WORDS) word result
        → ◌≡◌ {A = Effect} (outer (state_of m d) (event_at t (ToPoke address word))) (record { state = state_of m' d; items = reply_items (state_of m' d) (poke_reply result) })
    poked_high address word d result f high is wrote =
        let old = state_of m d in
        let p = b.means.plain m.pages d in
        let q = b.means.plain m'.pages d in
        let slot = slot_at j.top address in
        let filed = pages_named m.files.dir p.files in
        let alike = alike_named m.files.dir p m.files.sound.numbers f.filed in
        let refers : write_of (reference p (in_map slot) Write t) ≡ left_by wrote.ready wrote.tried = subst (λ u. write_of (reference p (in_map slot) Write u) ≡ left_by wrote.ready wrote.tried) owner wrote.readied.refers in
        let refused_is : result ≡ refused_by (poke_refusal t) wrote.tried = subst (λ u. result ≡ refused_by (poke_refusal u) wrote.tried) owner wrote.is in
        let mine : state_of m' d ≡ record old { pages = keyed filed q } =
        (λ i. record old { pages = named (files i).dir q; files = files_of (files i); jobs = jobs_of (open_of (files i)) (typed i) (jobs i); forks = (is i).forks; fork_serials = (is i).serials; clock = (panel i).clock; trace = (panel i).trace })
        ∙ ap (λ x. record old { pages = x }) (named_left m.files.dir p q (written_files result wrote)) in
        outer_poke old t address word
        ∙ ap (λ (o : Option PlainJob). option_map_or (λ i. cond (nat_lt address ACCUMULATORS) (record { state = change_fork old i.top (with_accumulator address word); items = [] }) (poked old t (slot_at i.top address) (address % PAGE_WORDS) word (reference old.pages (in_map (slot_at i.top address)) Write t))) o (refused old (NoJob t))) (job_found (open_of m.files) m.typed.items m.jobs.items t.0 j at)
        ∙ ap (λ c. cond c (record { state = change_fork old j.top (with_accumulator address word); items = [] }) (poked old t slot (address % PAGE_WORDS) word (reference old.pages (in_map slot) Write t))) (not_below address high)
        ∙ ap (poked old t slot (address % PAGE_WORDS) word) (reference_keyed filed p alike slot Write t)
        ∙ poked_by filed old t slot (address % PAGE_WORDS) word p wrote.ready q (reference p (in_map slot) Write t) wrote.tried refers (λ done e. wrote.store done (refused_is ∙ e)) (subst (λ r. OnErr r (q ≡ p)) refused_is wrote.stays)
        ∙ (λ i. record { state = record old { pages = keyed filed q }; items = reply_items old (poke_reply (sym refused_is i)) })
        ∙ (λ i. record { state = sym mine i; items = reply_of_poke result i })
      where
        reply_of_poke : (r : Result (Unit {0}) Cause) → reply_items (state_of m d) (poke_reply r) ≡ reply_items (state_of m' d) (poke_reply r)
        reply_of_poke (Ok done) = refl
        reply_of_poke (Err cause) = refl

    pub did_poke : (address word : ℕ) (result : Result (Unit {0}) Cause) (reply : Reply) → e ≡ ToPoke address word → poke_reply result ≡ reply → IfErr result FitsCause
        → (address < ACCUMULATORS → (result ≡ Ok tt) × (m'.tree ≡ with_changed_of m.tree j.top (with_accumulator address word)) × (m'.pages ≡ m.pages))
        → (ACCUMULATORS ≤ address → (m'.tree ≡ m.tree) × Writes b.means m.pages m'.pages (slot_at j.top address) (address % PAGE_WORDS) word result)
        → Makes b.means m.pages m'.pages j.top.tty 2 → MayLose b.means m.pages m'.pages → Did m m' (Outer (event_at t e)) reply
    did_poke address word result reply is shows fits low high made loses =
        subst (λ x. Did m m' (Outer (event_at t x)) reply) (sym is) (subst (Did m m' (Outer (event_at t (ToPoke address word)))) shows (record {
          each = λ d f. elim (split_at address ACCUMULATORS) [
            | inl small ↦
                let done = low small in
                let effect = apply_outer (state_of m d) (event_at t (ToPoke address word)) ∙ poked_low address word d small done.1 done.2 in (
                  fits_still m m' files done.2 d f,
                  ap (λ x. x.state) (sym effect),
                  ap (λ r. reply_items (state_of m' d) (poke_reply r)) done.0 ∙ ap (λ x. x.items) (sym effect),
                )
            | inr above ↦
                let done = high above in
                let wrote = done.1.each d f.pages in
                let effect = apply_outer (state_of m d) (event_at t (ToPoke address word)) ∙ poked_high address word d result f above done.0 wrote.1 in (
                  fits_left m m' files d wrote.0 (written_files result wrote.1) f,
                  ap (λ x. x.state) (sym effect),
                  ap (λ x. x.items) (sym effect),
                )
          ];
          shown = reply_fits result fits;
          within = λ entries w. record {
            ticks = omega (arith, ap (λ (x : Panel). x.clock) panel, w.ticks);
            units = λ f lives. elim (split_at address ACCUMULATORS) [
              | inl small ↦ units_change m entries (entries + 1) j.top (with_accumulator address word) is_tree (λ k. refl) w (omega arith) f (ap (λ (x : PlainTree). fin.get x.forks f.name) (sym (low small).1) ∙ lives)
              | inr above ↦ omega (arith, w.units f (ap (λ (x : PlainTree). fin.get x.forks f.name) (sym (high above).0) ∙ lives))
            ];
            serials = serials_made m m' entries j.top.tty w made;
          };
          most = made.most;
          loses = loses;
        }))
      where
        reply_fits : (r : Result (Unit {0}) Cause) → IfErr r FitsCause → FitsReply (poke_reply r)
        reply_fits (Ok done) h = tt
        reply_fits (Err cause) h = h

  -- the top fork was started
  pub did_start : (k : Job) (address : ℕ) → m'.jobs.items ≡ set m.jobs.items t.0 (Some k) → e ≡ ToStart address → k.user ≡ j.user → k.mode ≡ Program → k.top ≡ j.top → k.start ≡ j.start → m'.tree ≡ with_changed_of m.tree j.top (restarted address) → m'.pages ≡ m.pages → Did m m' (Outer (event_at t e)) Nothing
  did_start k address set_to is user mode top start changes same = subst (λ x. Did m m' (Outer (event_at t x)) Nothing) (sym is) (record {
    each = λ d f.
        let old = state_of m d in
        let job = m.sound.each_job t.0 j at in
        let was : PlainJob = plain_job (open_at (open_of m.files) t.0) (typing_at m.typed.items t.0) j in
        let plain_k : plain_job (open_at (open_of m.files) t.0) (typing_at m.typed.items t.0) k ≡ record was { mode = Program } = λ i. record was { user = user i; mode = mode i; top = top i; start = option_map right (start i) } in
        let jobs : jobs_of (open_of m'.files) m'.typed.items m'.jobs.items ≡ fin.insert old.jobs t.0 (record was { mode = Program }) =
        (λ i. jobs_of (open_of (files i)) (typed i) (set_to i)) ∙ jobs_set (open_of m.files) m.typed.items m.jobs.items t.0 k (omega (arith, m.sound.job_room, job.low)) ∙ ap (fin.insert old.jobs t.0) plain_k in
        let mine : state_of m' d ≡ started old t address was =
        (λ i. record old { pages = named (files i).dir (b.means.plain (same i) d); files = files_of (files i); jobs = jobs i; forks = (changes i).forks; fork_serials = (changes i).serials; clock = (panel i).clock; trace = (panel i).trace })
        ∙ ap (λ (s : PlainState). with_job_at s t (in_program was)) (sym (change_is old j.top (restarted address) (λ x. refl))) in
        let effect : ◌≡◌ {A = Effect} (apply old (Outer (event_at t (ToStart address)))) (record { state = state_of m' d; items = [] }) =
        apply_outer old (event_at t (ToStart address)) ∙ outer_start old t address
        ∙ ap (λ (o : Option PlainJob). option_map_or (λ i. record { state = started old t address i; items = [] }) o (refused old (NoJob t))) (job_found (open_of m.files) m.typed.items m.jobs.items t.0 j at)
        ∙ ap (λ s. record { state = s; items = [] }) (sym mine) in (
          fits_still m m' files same d f,
          ap (λ x. x.state) (sym effect),
          ap (λ x. x.items) (sym effect),
        );
    shown = tt;
    within = λ entries w. record {
      ticks = omega (arith, ap (λ (x : Panel). x.clock) panel, w.ticks);
      units = λ f lives. units_change m entries (entries + 1) j.top (restarted address) is_tree (λ k. refl) w (omega arith) f (ap (λ (x : PlainTree). fin.get x.forks f.name) (sym changes) ∙ lives);
      serials = λ u. omega (arith, ap (λ p. b.means.serial p u) same, w.serials u);
    };
    most = ap b.means.most same;
    loses = lost_still m m' same;
  })
