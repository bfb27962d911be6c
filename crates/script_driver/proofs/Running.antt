-- A run of events goes on.
use Rattle.std.proofs.Common.{◌≡◌, inl, inr, ℕ, ◌+◌, ◌*◌, ◌<◌, ◌≤◌, List, [], ◌∷◌, ◌++◌, length, All, Bool, true, false, ◌||◌, Option, Some, refl, sym, ◌∙◌, ap, subst, arith, append_assoc, length-append}
use Rattle.std.proofs.lemmas.List.{append-nil}
use Rattle.std.proofs.lemmas.List.Elements.{All-append, All-cons, All-nil}
use Rattle.script_texts.specs.declared.event.Event.{Event}
use Rattle.script_texts.specs.declared.event.Item.{Item}
use Rattle.script_texts.specs.declared.event.Step.{Step}
use Rattle.plain_model.specs.State.{PlainState, opening}
use Rattle.script_texts.specs.Limits.{FitsEvent}
use Rattle.script_texts.specs.Follows.{Follows, Begins, Unfinished, auto_after, auto_behind}
use Rattle.plain_model.specs.Run.{AreLegal, IsLegal, ShownFirst, state_after, items_of}
use Rattle.script_texts.specs.Script.{turns_of}
use Rattle.script_texts.specs.Taker.{GoesOn, IsCut, max_steps}
use Rattle.fork_lists.specs.declared.lists.ForkLists.{ForkLists}
use Rattle.job_sched.specs.Schedules.{empty}
use Rattle.page_contracts.specs.DrumWords.{DrumWords, Stands}
use Rattle.page_contracts.specs.Stores.{members_of}
use Rattle.event_items.specs.Outcome.{Stopped, CutOff, judged_by}
use Rattle.page_waits.specs.Calm.{AreRoomy, IsCalmlyFair}
use Rattle.page_waits.specs.InCore.{IsInCore}
use Rattle.page_waits.specs.Placed.{AreOnDrum}
use Rattle.page_waits.specs.Systems.{SystemMeaning}
use Rattle.paged_events.specs.Events.{Went}
use Rattle.paged_events.specs.Turns.{TakesTurnsOver}
use Rattle.paged_events.proofs.Taking.{turns_join}
use Rattle.plain_model.proofs.Runs.{IsLegal-push, state_after-append, items_of-append}
use Rattle.script_texts.proofs.Takers.{Follows-push, goes_on_nil, goes_on_append, cut_behind}
use Rattle.script_driver.specs.declared.driver.Driven.{Driven}
use Rattle.script_driver.specs.declared.driver.Driven.TheVariants.{Done, DrumFault, TakerFault}
use Rattle.script_driver.specs.Runs.{AreEntries, BreaksOff, FollowsTo, RunsTo}
use Rattle.script_driver.specs.Driving.{Handed, OpensOver, RanTo, StandsFor}
use Rattle.script_driver.proofs.Fairness.{AreRoomy-split, IsOwed, IsOwed-push, NoneEvicts, none_evicts-split, owed_all}
use Rattle.script_driver.proofs.Turns.{follows_few, begins_few, unfinished_few, auto_push}

-- what stands on a drum over which something depends on its words is what it tells
told_by : {flat : Bool} {held : Option DrumWords} {d : DrumWords} → Stands flat held d → flat ≡ false → held ≡ Some d
told_by (inl told) framed = told
told_by (inr none) framed = absurd (cc (none, framed))

module _ {S D K : Type 0} (means : SystemMeaning S) (held : D → Option DrumWords) (stands : K → K → List Item → List Step → Type 0) (s0 : S) (drum0 : D) where
  -- over some words of the drum, what holds of the machine, of the entries so far, which took their turns, and of the taker; and while these are calm and no EVICT stood, all is in core
  pub record ToldSoFar (s : S) (l : ForkLists) (drum : D) (out out' : K) (events : List Event) (entries : List Step) (follows : Follows events entries) : Type 0 where
    pub words : DrumWords
    pub stood : Stands means.store.flat (held drum) words
    pub opened : StandsFor means s words (state_after (opening (means.limit s0)) entries)
    pub legal : IsLegal means.store.flat true (opening (means.limit s0)) events entries follows
    pub turns : TakesTurnsOver (empty (members_of (means.store.frames s0))) (opening (means.limit s0)) entries l.sched
    pub owed : IsOwed (means.store.frames s0) (opening (means.limit s0)) events entries follows
    pub core : NoneEvicts events → AreRoomy (means.store.frames s0) (opening (means.limit s0)) entries → IsInCore means (means.store.frames s0) s l
    pub given_is : GoesOn stands out out' (items_of (opening (means.limit s0)) entries) entries

  -- what holds after some events, which are of this kind, and of which there are at most so many entries
  pub record SoFar (AreThey : List Event → Type 0) (most : ℕ) (out out' : K) (s : S) (l : ForkLists) (drum : D) (auto : Bool) (done : ℕ) : Type 0 where
    pub events : List Event
    pub entries : List Step
    pub fit : All FitsEvent events
    pub follows : Follows events entries
    pub mark : auto ≡ auto_behind true events
    pub are : AreThey events
    pub few : length entries ≤ most
    pub done_few : done ≤ 2 * most
    pub told : (d : DrumWords) → OpensOver means held s0 drum0 d → ToldSoFar s l drum out out' events entries follows

module _ {S D K : Type 0} {means : SystemMeaning S} {held : D → Option DrumWords} {stands : K → K → List Item → List Step → Type 0} {s0 : S} {drum0 : D} where
  pub so_far_none : {AreThey : List Event → Type 0} {most : ℕ} {out : K} {l : ForkLists} {auto : Bool} {done : ℕ} → IsInCore means (means.store.frames s0) s0 l → l.sched ≡ empty (members_of (means.store.frames s0)) → AreThey [] → auto ≡ true → done ≡ 0
      → SoFar means held stands s0 drum0 AreThey most out out s0 l drum0 auto done
  so_far_none {AreThey} {most} {out} core new are on none = record {
    events = [];
    entries = [];
    fit = All-nil FitsEvent;
    follows = refl;
    mark = on;
    are = are;
    few = omega arith;
    done_few = omega (arith, none);
    told = λ d opens. record { words = d; stood = opens.stood; opened = opens.opened; legal = tt; turns = record { silent = []; are = new }; owed = tt; core = λ none roomy. core; given_is = goes_on_nil stands out };
  }

  -- the events are seen as of another kind, and the taker handed on what it kept
  pub so_far_shown : {AreThey AreNow : List Event → Type 0} {most now : ℕ} {a b c : K} {s : S} {l : ForkLists} {drum : D} {auto : Bool} {done : ℕ} → SoFar means held stands s0 drum0 AreThey most a b s l drum auto done
      → ((es : List Event) → AreThey es → AreNow es) → most ≤ now → GoesOn stands b c [] [] → SoFar means held stands s0 drum0 AreNow now a c s l drum auto done
  so_far_shown {AreThey} {AreNow} {most} {now} {a} {b} {c} f seen further on = record {
    events = f.events;
    entries = f.entries;
    fit = f.fit;
    follows = f.follows;
    mark = f.mark;
    are = seen f.events f.are;
    few = omega (arith, f.few, further);
    done_few = omega (arith, f.done_few, further);
    told = λ d opens.
        let so = f.told d opens in
        let items = items_of (opening (means.limit s0)) f.entries in
        let both : GoesOn stands a c (items ++ []) (f.entries ++ []) = goes_on_append stands a b c items [] f.entries [] so.given_is on in
        record {
          words = so.words;
          stood = so.stood;
          opened = so.opened;
          legal = so.legal;
          turns = so.turns;
          owed = so.owed;
          core = so.core;
          given_is = subst (λ is. GoesOn stands a c is f.entries) (append-nil items) (subst (λ ss. GoesOn stands a c (items ++ []) ss) (append-nil f.entries) both);
        };
  }

  module _ {AreThey : List Event → Type 0} {most : ℕ} {a b : K} {s : S} {l : ForkLists} {drum : D} {auto : Bool} {done : ℕ} (f : SoFar means held stands s0 drum0 AreThey most a b s l drum auto done) where
    -- what the entries of the events before leave
    abbrev here : PlainState
    here = state_after (opening (means.limit s0)) f.entries

    legal_more : (d : DrumWords) (opens : OpensOver means held s0 drum0 d) (ss : List Step) → AreLegal (judged_by means.store.flat auto) (means.plain s (f.told d opens).words) ss → AreLegal (means.store.flat || auto_behind true f.events) here ss
    legal_more d opens ss legal = subst (λ x. AreLegal (means.store.flat || x) here ss) f.mark (subst (λ x. AreLegal (judged_by means.store.flat auto) x ss) (f.told d opens).opened.state legal)

    module _ (e : Event) (fit : FitsEvent e) where
      fit_more : All FitsEvent (f.events ++ e ∷ [])
      fit_more = All-append FitsEvent f.events (e ∷ []) f.fit (All-cons FitsEvent e [] fit (All-nil FitsEvent))

      not_many : most + turns_of e + 1 < max_steps → (ss : List Step) → length ss ≤ turns_of e + 1 → length (f.entries ++ ss) < max_steps
      not_many bound ss few = omega (arith, f.few, few, length-append f.entries ss, bound)

      pub so_far_more : {AreNow : List Event → Type 0} {now : ℕ} {cut : K → K → List Item → List Step → Type 0} {c : K} {s' : S} {l' : ForkLists} {drum' : D} {auto' : Bool} {done' : ℕ} → AreNow (f.events ++ e ∷ [])
          → most + turns_of e + 1 ≤ now → auto' ≡ auto_after auto e
          → Went means held stands cut auto e done done' s s' l l' drum drum' b c → SoFar means held stands s0 drum0 AreNow now a c s' l' drum' auto' done'
      so_far_more {AreNow} {now} {cut} {c} {s'} {l'} are further next went =
          let ss = went.steps in
          let more = follows_few e ss went.follows in
          let count = length-append f.entries ss in
          record {
            events = f.events ++ e ∷ [];
            entries = f.entries ++ ss;
            fit = fit_more;
            follows = Follows-push f.events e f.entries ss f.follows went.follows;
            mark = next ∙ ap (λ x. auto_after x e) f.mark ∙ sym (auto_push true f.events e);
            are = are;
            few = omega (arith, f.few, more, count, further);
            done_few = omega (arith, f.done_few, went.count, more, further);
            told = λ d opens.
                let old = f.told d opens in
                let new = went.told.each old.words old.stood old.opened.fit in
                let gave = new.3 in
                let given_now : GoesOn stands b c (items_of here ss) ss = subst (λ x. GoesOn stands b c (items_of x ss) ss) old.opened.state gave.given in
                let both = goes_on_append stands a b c (items_of (opening (means.limit s0)) f.entries) (items_of here ss) f.entries ss old.given_is given_now in
                record {
                  words = new.0;
                  stood = new.1;
                  opened = record {
                    fit = new.2;
                    state = gave.state ∙ ap (λ x. state_after x ss) old.opened.state ∙ sym (state_after-append (opening (means.limit s0)) f.entries ss);
                  };
                  legal = IsLegal-push means.store.flat true (opening (means.limit s0)) f.events e f.entries ss f.follows went.follows old.legal (legal_more d opens ss gave.legal);
                  turns = turns_join (empty (members_of (means.store.frames s0))) l.sched l'.sched (opening (means.limit s0)) f.entries ss old.turns (subst (λ x. TakesTurnsOver l.sched x ss l'.sched) old.opened.state (went.turns old.words old.stood old.opened.fit));
                  owed = IsOwed-push (means.store.frames s0) (opening (means.limit s0)) f.events e f.entries ss f.follows went.follows old.owed
                      (λ none roomy this. subst (λ x. IsCalmlyFair (means.store.frames s0) x ss) old.opened.state (went.calm (means.store.frames s0) old.words old.stood old.opened.fit (old.core none roomy) this).fair);
                  core = λ none roomy.
                      let events = none_evicts-split f.events e none in
                      let rooms = AreRoomy-split (means.store.frames s0) (opening (means.limit s0)) f.entries ss roomy in
                      (went.calm (means.store.frames s0) old.words old.stood old.opened.fit (old.core events.0 rooms.0) events.1).core (subst (λ x. AreRoomy (means.store.frames s0) x ss) (sym old.opened.state) rooms.1);
                  given_is = subst (λ is. GoesOn stands a c is (f.entries ++ ss)) (sym (items_of-append (opening (means.limit s0)) f.entries ss)) both;
                };
          }

      abbrev broken_off : (Part : Event → List Step → Type 0) (ss : List Step) → Part e ss → BreaksOff Part (f.events ++ e ∷ []) (f.entries ++ ss)
      broken_off Part ss part = record { whole = f.events; last = e; before = f.entries; more = ss; events_are = refl; entries_are = refl; follows = f.follows; part = part }

      -- the drum failed within the next event
      pub ran_stopped : {AreNow : List Event → Type 0} {cut : K → K → List Item → List Step → Type 0} {c : K} {drum' : D} → AreNow (f.events ++ e ∷ []) → most + turns_of e + 1 < max_steps → Stopped means.store.flat means.fits means.plain held stands s drum b c auto e
          → RanTo means held s0 drum0 drum' stands cut DrumFault a c AreNow
      ran_stopped {AreNow} {cut} {c} are bound stopped =
          let ss = stopped.steps in
          record {
            events = f.events ++ e ∷ [];
            entries = f.entries ++ ss;
            fit = fit_more;
            follows = broken_off Unfinished ss stopped.unfinished;
            few = not_many bound ss (unfinished_few e ss stopped.unfinished);
            found = are;
            placed = λ is. absurd (cc is);
            told = λ d opens.
                let old = f.told d opens in
                let gave = stopped.told.each old.words old.stood old.opened.fit in
                let given_now : GoesOn stands b c (items_of here ss ++ gave.shown) ss = subst (λ x. GoesOn stands b c (items_of x ss ++ gave.shown) ss) old.opened.state gave.given in
                let items = items_of (opening (means.limit s0)) f.entries in
                let there : state_after (means.plain s old.words) ss ≡ state_after (opening (means.limit s0)) (f.entries ++ ss) = ap (λ x. state_after x ss) old.opened.state ∙ sym (state_after-append (opening (means.limit s0)) f.entries ss) in
                record {
                  items = items ++ (items_of here ss ++ gave.shown);
                  run = record {
                    broken = record { breaks = broken_off Unfinished ss stopped.unfinished; legal = old.legal; last_legal = legal_more d opens ss gave.legal };
                    later = gave.shown;
                    first = subst (λ x. ShownFirst x e gave.shown) there gave.first;
                    shown = sym (append_assoc items (items_of here ss) gave.shown) ∙ ap (λ is. is ++ gave.shown) (sym (items_of-append (opening (means.limit s0)) f.entries ss));
                  };
                  given = goes_on_append stands a b c items (items_of here ss ++ gave.shown) f.entries ss old.given_is given_now;
                };
          }

      -- the taker failed within the next event
      pub ran_cut : {AreNow : List Event → Type 0} {cut : K → K → List Item → List Step → Type 0} {c : K} {drum' : D} → AreNow (f.events ++ e ∷ []) → most + turns_of e + 1 < max_steps → CutOff means.store.flat means.fits means.plain held stands cut s drum b c auto e
          → RanTo means held s0 drum0 drum' stands cut TakerFault a c AreNow
      ran_cut {AreNow} {cut} {c} are bound off =
          let ss = off.steps in
          record {
            events = f.events ++ e ∷ [];
            entries = f.entries ++ ss;
            fit = fit_more;
            follows = inr (broken_off Begins ss off.begins);
            few = not_many bound ss (begins_few e ss off.begins);
            found = are;
            placed = λ is. absurd (cc is);
            told = λ d opens.
                let old = f.told d opens in
                let gave = off.told.each old.words old.stood old.opened.fit in
                let given_now : IsCut stands cut b c (items_of here ss) ss = subst (λ x. IsCut stands cut b c (items_of x ss) ss) old.opened.state gave.given in
                let items = items_of (opening (means.limit s0)) f.entries in
                record {
                  items = items ++ items_of here ss;
                  run = inr (record {
                    broken = record { breaks = broken_off Begins ss off.begins; legal = old.legal; last_legal = legal_more d opens ss gave.legal };
                    shown = sym (items_of-append (opening (means.limit s0)) f.entries ss);
                  });
                  given = cut_behind stands cut a b c items (items_of here ss) f.entries ss old.given_is given_now;
                };
          }

  module _ {AreThey : List Event → Type 0} {most : ℕ} {a b : K} {s : S} {l : ForkLists} {drum : D} {auto : Bool} {done : ℕ} (f : SoFar means held stands s0 drum0 AreThey most a b s l drum auto done) (bound : most < max_steps) where
    few_entries : length f.entries < max_steps
    few_entries = omega (arith, f.few, bound)

    entries_told : (d : DrumWords) → OpensOver means held s0 drum0 d → AreEntries means.store.flat (means.store.frames s0) (means.limit s0) f.events f.entries (items_of (opening (means.limit s0)) f.entries)
    entries_told d opens = record {
      follows = f.follows;
      legal = (f.told d opens).legal;
      calm = owed_all (means.store.frames s0) (opening (means.limit s0)) f.events f.entries f.follows (f.told d opens).owed;
      turns = record { behind = l.sched; turns = (f.told d opens).turns };
      shown = refl;
    }

    -- the driving ended between two events
    pub ran : {AreNow : List Event → Type 0} {cut : K → K → List Item → List Step → Type 0} (driven : Driven) → ((es : List Event) (ss : List Step) → Follows es ss → FollowsTo driven es ss)
        → ((items : List Item) → AreEntries means.store.flat (means.store.frames s0) (means.limit s0) f.events f.entries items → RunsTo means.store.flat (means.store.frames s0) (means.limit s0) driven f.events f.entries items)
        → ((items : List Item) → GoesOn stands a b items f.entries → Handed stands cut a b driven items f.entries)
        → (driven ≡ Done → (d : DrumWords) → means.store.flat ≡ false → means.fits s d → AreOnDrum (means.store.frames s0) (means.plain s d) d)
        → AreNow f.events → RanTo means held s0 drum0 drum stands cut driven a b AreNow
    ran {AreNow} {cut} driven follows runs handed placed are = record {
      events = f.events;
      entries = f.entries;
      fit = f.fit;
      follows = follows f.events f.entries f.follows;
      few = few_entries;
      found = are;
      told = λ d opens.
          let items = items_of (opening (means.limit s0)) f.entries in
          record { items = items; run = runs items (entries_told d opens); given = handed items (f.told d opens).given_is };
      placed = λ is framed d opens.
          let so = f.told d opens in
          (so.words, told_by so.stood framed, subst (λ p. AreOnDrum (means.store.frames s0) p so.words) so.opened.state (placed is so.words framed so.opened.fit));
    }

    -- the taker failed between two events
    pub ran_unshown : {AreNow : List Event → Type 0} {cut : K → K → List Item → List Step → Type 0} {c : K} → AreNow f.events → IsCut stands cut b c [] [] → RanTo means held s0 drum0 drum stands cut TakerFault a c AreNow
    ran_unshown {AreNow} {cut} {c} are off = record {
      events = f.events;
      entries = f.entries;
      fit = f.fit;
      follows = inl f.follows;
      few = few_entries;
      found = are;
      placed = λ is. absurd (cc is);
      told = λ d opens.
          let old = f.told d opens in
          let items = items_of (opening (means.limit s0)) f.entries in
          let both : IsCut stands cut a c (items ++ []) (f.entries ++ []) = cut_behind stands cut a b c items [] f.entries [] old.given_is off in
          record {
            items = items;
            run = inl (entries_told d opens);
            given = subst (λ is. IsCut stands cut a c is f.entries) (append-nil items) (subst (λ ss. IsCut stands cut a c (items ++ []) ss) (append-nil f.entries) both);
          };
    }
