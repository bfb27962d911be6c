-- Events that were acted on, and runs turn by turn.
use Rattle.std.proofs.Common.{◌≡◌, ℕ, ◌+◌, ◌-◌, ◌≤◌, List, [], ◌∷◌, ◌++◌, Bool, Option, None, ⊎_elim, inl, length, length-append, refl, sym, subst, arith}
use Rattle.std.specs.Prelude.{Result, Ok, Err, IfOk, OnOk}
use Rattle.fork_lists.specs.declared.lists.ForkLists.{ForkLists}
use Rattle.page_contracts.specs.DrumWords.{DrumWords}
use Rattle.page_waits.specs.Acts.{Quiet}
use Rattle.page_waits.specs.Calm.{AreRoomy, IsRoomy}
use Rattle.page_waits.specs.InCore.{IsInCore}
use Rattle.page_waits.specs.Systems.{StaysState, SystemMeaning}
use Rattle.page_waits.proofs.Silence.{silent_nil}
use Rattle.page_waits.specs.Told.{MovesSilently}
use Rattle.page_waits.specs.Waits.{ListsMeaning, the_lists}
use Rattle.plain_model.specs.Run.{ShownFirst, state_after}
use Rattle.plain_model.specs.State.{PlainState}
use Rattle.script_texts.specs.Follows.{AreOfShape, AreTurns, Begins, FollowsOne, Unfinished, shape_of, silent, single}
use Rattle.script_texts.specs.declared.event.Event.{Event}
use Rattle.script_texts.specs.declared.event.Event.TheVariants.{Drum as ADrum, Run}
use Rattle.script_texts.specs.declared.event.Item.{Item}
use Rattle.script_texts.specs.declared.event.Step.{Step}
use Rattle.script_texts.specs.declared.event.Step.TheVariants.{Outer}
use Rattle.script_texts.proofs.Takers.{AreTurns-append, goes_on_nil}
use Rattle.paged_events.specs.Calmly.{ComeCalmly, GoesCalmly, TurnsCalmly, WhereInCore}
use Rattle.paged_events.specs.Given.{Acted, Adds, GivenTurns, Gives, Standing, TookTurns}
use Rattle.event_items.specs.Outcome.{CutOff, CutOver, GaveBefore, Stopped}
use Rattle.paged_events.specs.Turns.{AreTurnsOver}
use Rattle.paged_events.specs.declared.fault.Fault.{Fault}
use Rattle.paged_events.specs.declared.fault.Fault.TheVariants.{Drum, Taker}
use Rattle.paged_events.proofs.Calmness.{calmly_append, calmly_fair, none_fair, one_fair, roomy_apart}
use Rattle.paged_events.proofs.Entries.{entries_join, no_entry}
use Rattle.paged_events.proofs.Over.{over_append, over_before, over_cut, over_none, over_quiet, so_far}

-- the entries of an event that is one
pub follows_single : (e : Event) → shape_of e ≡ single → FollowsOne e (Outer e ∷ [])
follows_single e is = subst (λ s. AreOfShape (λ m n. m ≡ n) (Outer e ∷ []) s (Outer e ∷ [])) (sym is) refl

pub begins_single : (e : Event) → shape_of e ≡ single → Begins e (Outer e ∷ [])
begins_single e is = subst (λ s. AreOfShape (λ m n. m ≤ n) (Outer e ∷ []) s (Outer e ∷ [])) (sym is) refl

pub unfinished_single : (e : Event) → shape_of e ≡ single → Unfinished e []
unfinished_single e is = subst (λ s. AreOfShape (λ m n. m ≤ n) [] s []) (sym is) refl

-- and of one that is none
pub follows_silent : (e : Event) → shape_of e ≡ silent → FollowsOne e []
follows_silent e is = subst (λ s. AreOfShape (λ m n. m ≡ n) (Outer e ∷ []) s []) (sym is) refl

pub unfinished_silent : (e : Event) → shape_of e ≡ silent → Unfinished e []
unfinished_silent e is = subst (λ s. AreOfShape (λ m n. m ≤ n) [] s []) (sym is) refl

module _ {S : Type 0} (means : SystemMeaning S) where
  pub adds_then : (j k : ℕ) (a b c : S) → Adds means j a b → Adds means k b c → Adds means (j + k) a c
  adds_then j k a b c f g m within n low = g (m + j) (f m within) n (omega (arith, low))

  pub adds_none : (s : S) → Adds means 0 s s
  adds_none s m within n low = within n (omega (arith, low))

  -- what stays within stays so
  pub adds_some : (j : ℕ) (a b : S) → ((k : ℕ) → means.within a k → means.within b k) → Adds means j a b
  adds_some j a b stays m within n low = stays n (within n (omega (arith, low)))

  -- so many entries more let the counts be higher
  pub adds_counted : (j : ℕ) (a b : S) → ((k : ℕ) → means.within a k → means.within b (k + j)) → Adds means j a b
  adds_counted j a b counted m within n low =
      let all : n - j + j ≡ n = omega (arith, low) in
      subst (means.within b) all (counted (n - j) (within (n - j) (omega (arith, low))))

  -- where no entry is given, or one that is an event, all is calm
  module _ {D : Type 0} (held : D → Option DrumWords) (e : Event) (s s' : S) (l l' : ForkLists) (drum : D) where
    pub nothing_goes : ((frames : ℕ) → IsInCore means frames s l → IsInCore means frames s' l') → GoesCalmly means held e [] s s' l l' drum
    nothing_goes stays frames d st fits core evict = record { fair = none_fair frames (means.plain s d); core = λ roomy. stays frames core }

    pub one_goes : WhereInCore means held (λ frames p. IsRoomy frames p → IsInCore means frames s' l') s l drum → GoesCalmly means held e (Outer e ∷ []) s s' l l' drum
    one_goes stays frames d st fits core evict = record { fair = one_fair frames (means.plain s d) e; core = λ roomy. stays frames d st fits core roomy.0 }

  module _ {D T : Type 0} (held : D → Option DrumWords) (stands cut : Standing T) (auto : Bool) where
    module _ (e : Event) (s s' : S) (l l' : ForkLists) (drum drum' : D) (out out' : T) where
      pub event_given : (count : ℕ) (steps : List Step) → FollowsOne e steps → length steps ≡ count → Adds means count s s' → Gives means held stands cut auto s s' drum drum' out out' steps → AreTurnsOver means held steps s l l' drum → GoesCalmly means held e steps s s' l l' drum
          → Acted means held stands cut auto e (Ok count) s s' l l' drum drum' out out'
      event_given count steps follows counts adds told turns calm = record {
        ok = record { given = record { steps = steps; follows = follows; counts = counts; adds = adds; told = told }; turns = turns; calm = calm };
        stopped = λ is. absurd (cc is);
        cutoff = λ is. absurd (cc is);
      }

      pub event_stopped : (steps : List Step) → Unfinished e steps → GaveBefore means.store.flat means.fits means.plain held stands s drum out out' auto e steps → Acted means held stands cut auto e (Err Drum) s s' l l' drum drum' out out'
      event_stopped steps unfinished told = record { ok = tt; stopped = λ is. record { steps = steps; unfinished = unfinished; told = told }; cutoff = λ is. absurd (cc is) }

      pub event_cut : (steps : List Step) → Begins e steps → CutOver means.store.flat means.fits means.plain held stands cut s drum out out' auto steps → Acted means held stands cut auto e (Err Taker) s s' l l' drum drum' out out'
      event_cut steps begins told = record { ok = tt; stopped = λ is. absurd (cc is); cutoff = λ is. record { steps = steps; begins = begins; told = told } }

    -- nothing was given before the drum failed
    pub nothing_given : (e : Event) (s s' : S) (l l' : ForkLists) (drum drum' : D) (out : T) → Unfinished e [] → Acted means held stands cut auto e (Err Drum) s s' l l' drum drum' out out
    nothing_given e s s' l l' drum drum' out unfinished = event_stopped e s s' l l' drum drum' out out [] unfinished (so_far means held stands cut auto e s s drum drum out out [] (over_none means held stands cut auto s drum out))

    -- no entry is given where the plain state stays
    pub state_gave : (s s' : S) (drum : D) (out : T) → StaysState means s s' → Gives means held stands cut auto s s' drum drum out out []
    state_gave s s' drum out state = record {
      each = λ d st fits. let x = state.each d fits in (d, st, x.fits, record { legal = tt; state = x.plain; given = goes_on_nil stands out });
    }

    pub quiet_gave : {L : Type 0} (lists : ListsMeaning L) (s s' : S) (l l' : L) (drum drum' : D) (out : T) → Quiet means lists held None None None 0 s s' l l' drum drum' → Gives means held stands cut auto s s' drum drum' out out []
    quiet_gave lists s s' l l' drum drum' out quiet = over_quiet means held stands cut auto lists 0 s s s' l l' drum drum drum' out out [] (over_none means held stands cut auto s drum out) quiet

    -- ---- turns of a run

    abbrev pub TurnsGiven : ℕ → S → S → ForkLists → ForkLists → D → D → T → T → Type 0
    TurnsGiven n s s' l l' drum drum' out out' = GivenTurns means held stands cut auto n s s' l l' drum drum' out out'

    pub no_turns : (s : S) (l : ForkLists) (drum : D) (out : T) → TurnsCalmly means held [] s s l l drum → TurnsGiven 0 s s l l drum drum out out
    no_turns s l drum out calm = record { given = record { steps = []; follows = (refl, tt); counts = refl; adds = adds_none s; told = over_none means held stands cut auto s drum out }; turns = no_entry means held s l l drum (silent_nil l.sched); calm = calm }

    -- turns that come calmly behind such
    calm_more : (s0 s1 s2 : S) (l0 l1 l2 : ForkLists) (d0 d1 : D) (o0 o1 : T) (xs ys : List Step) → Gives means held stands cut auto s0 s1 d0 d1 o0 o1 xs → TurnsCalmly means held xs s0 s1 l0 l1 d0 → TurnsCalmly means held ys s1 s2 l1 l2 d1
        → TurnsCalmly means held (xs ++ ys) s0 s2 l0 l2 d0
    calm_more s0 s1 s2 l0 l1 l2 d0 d1 o0 o1 xs ys told first second frames d st fits core =
        let x = told.each d st fits in
        let p = means.plain s0 d in
        let f = first frames d st fits core in
        let same : means.plain s1 x.0 ≡ state_after p xs = x.3.state in
        let g = λ (roomy : AreRoomy frames p xs). second frames x.0 x.1 x.2 (f.core roomy) in
        record {
          closer = calmly_append frames l0.sched p xs ys l1.sched l2.sched f.closer (λ roomy. subst (λ (q : PlainState). ComeCalmly frames l1.sched q ys l2.sched) same (g roomy).closer);
          core = λ roomy.
              let both = roomy_apart frames p xs ys roomy in (g both.0).core (subst (λ (q : PlainState). AreRoomy frames q ys) (sym same) both.1);
        }

    pub turns_more : (j k : ℕ) (s0 s1 s2 : S) (l0 l1 l2 : ForkLists) (d0 d1 d2 : D) (o0 o1 o2 : T) → TurnsGiven j s0 s1 l0 l1 d0 d1 o0 o1 → TurnsGiven k s1 s2 l1 l2 d1 d2 o1 o2 → TurnsGiven (j + k) s0 s2 l0 l2 d0 d2 o0 o2
    turns_more j k s0 s1 s2 l0 l1 l2 d0 d1 d2 o0 o1 o2 first second =
        let f = first.given in
        let g = second.given in
        let many : length (f.steps ++ g.steps) ≡ j + k = omega (arith, length-append f.steps g.steps, f.counts, g.counts) in
        record {
          given = record {
            steps = f.steps ++ g.steps;
            follows = (many, AreTurns-append f.steps g.steps f.follows.1 g.follows.1);
            counts = many;
            adds = adds_then j k s0 s1 s2 f.adds g.adds;
            told = over_append means held stands cut auto s0 s1 s2 d0 d1 d2 o0 o1 o2 f.steps g.steps f.told g.told;
          };
          turns = entries_join means held stands cut auto s0 s1 l0 l1 l2 d0 d1 o0 o1 f.steps g.steps f.told first.turns second.turns;
          calm = calm_more s0 s1 s2 l0 l1 l2 d0 d1 o0 o1 f.steps g.steps f.told first.calm second.calm;
        }

    -- all turns of a run were given
    pub turns_given : (n : ℕ) (s s' : S) (l l' : ForkLists) (drum drum' : D) (out out' : T) → TurnsGiven n s s' l l' drum drum' out out' → Acted means held stands cut auto (Run n) (Ok n) s s' l l' drum drum' out out'
    turns_given n s s' l l' drum drum' out out' turns =
        let f = turns.given in
        event_given (Run n) s s' l l' drum drum' out out' n f.steps f.follows f.counts f.adds f.told turns.turns (λ frames d st fits core evict.
        let came = turns.calm frames d st fits core in
        record { fair = calmly_fair frames l.sched (means.plain s d) f.steps l'.sched came.closer; core = came.core })

    run_first : (s : PlainState) (j k : ℕ) (shown : List Item) → ShownFirst s (Run j) shown → ShownFirst s (Run k) shown
    run_first s j k shown first = ⊎_elim (λ e. inl e) (λ typed. absurd (cc typed.3)) first

    pub turns_stopped : (j k n : ℕ) (s0 s1 : S) (l0 l1 : ForkLists) (d0 d1 : D) (o0 o1 o2 : T) → j + k ≤ n → TurnsGiven j s0 s1 l0 l1 d0 d1 o0 o1 → Stopped means.store.flat means.fits means.plain held stands s1 d1 o1 o2 auto (Run k)
        → Stopped means.store.flat means.fits means.plain held stands s0 d0 o0 o2 auto (Run n)
    turns_stopped j k n s0 s1 l0 l1 d0 d1 o0 o1 o2 few first g =
        let f = first.given in
        let both = over_before means held stands cut auto (Run k) s0 s1 d0 d1 o0 o1 o2 f.steps g.steps f.told g.told in
        record {
          steps = f.steps ++ g.steps;
          unfinished = (omega (arith, length-append f.steps g.steps, f.counts, g.unfinished.0, few), AreTurns-append f.steps g.steps f.follows.1 g.unfinished.1);
          told = record {
            each = λ d st fits. let x = both.each d st fits in record { shown = x.shown; legal = x.legal; first = run_first _ k n x.shown x.first; given = x.given };
          };
        }

    pub turns_cut : (j k n : ℕ) (s0 s1 : S) (l0 l1 : ForkLists) (d0 d1 : D) (o0 o1 o2 : T) → j + k ≤ n → TurnsGiven j s0 s1 l0 l1 d0 d1 o0 o1 → CutOff means.store.flat means.fits means.plain held stands cut s1 d1 o1 o2 auto (Run k)
        → CutOff means.store.flat means.fits means.plain held stands cut s0 d0 o0 o2 auto (Run n)
    turns_cut j k n s0 s1 l0 l1 d0 d1 o0 o1 o2 few first g =
        let f = first.given in
        record {
          steps = f.steps ++ g.steps;
          begins = (omega (arith, length-append f.steps g.steps, f.counts, g.begins.0, few), AreTurns-append f.steps g.steps f.follows.1 g.begins.1);
          told = over_cut means held stands cut auto s0 s1 d0 d1 o0 o1 o2 f.steps g.steps f.told g.told;
        }

    -- the next turns, given, or not
    module _ (left : ℕ) (s s' : S) (l l' : ForkLists) (drum drum' : D) (out out' : T) (steps : List Step) (turns : AreTurns steps) where
      pub took_given : (n : ℕ) → 1 ≤ n → n ≤ left → length steps ≡ n → Adds means n s s' → Gives means held stands cut auto s s' drum drum' out out' steps → AreTurnsOver means held steps s l l' drum → TurnsCalmly means held steps s s' l l' drum
          → TookTurns means held stands cut auto left (Ok n) s s' l l' drum drum' out out'
      took_given n some few counts adds told taken calm = record {
        some = some;
        few = few;
        ok = record { given = record { steps = steps; follows = (counts, turns); counts = counts; adds = adds; told = told }; turns = taken; calm = calm };
        stopped = λ is. absurd (cc is);
        cutoff = λ is. absurd (cc is);
      }

      pub took_stopped : length steps ≤ left → GaveBefore means.store.flat means.fits means.plain held stands s drum out out' auto (Run left) steps → TookTurns means held stands cut auto left (Err Drum) s s' l l' drum drum' out out'
      took_stopped few told = record { some = tt; few = tt; ok = tt; stopped = λ is. record { steps = steps; unfinished = (few, turns); told = told }; cutoff = λ is. absurd (cc is) }

      pub took_cut : length steps ≤ left → CutOver means.store.flat means.fits means.plain held stands cut s drum out out' auto steps → TookTurns means held stands cut auto left (Err Taker) s s' l l' drum drum' out out'
      took_cut few told = record { some = tt; few = tt; ok = tt; stopped = λ is. absurd (cc is); cutoff = λ is. record { steps = steps; begins = (few, turns); told = told } }

    -- DRUM, which gives nothing
    pub transfers_acted : (n : ℕ) (r : Result ℕ Fault) (s s' : S) (l l' : ForkLists) (drum drum' : D) (out : T) → IfOk r (λ k. k ≡ 0) → OnOk r (Quiet means the_lists held None None None 0 s s' l l' drum drum') → (r ≡ Err Taker → ⊥)
        → OnOk r (MovesSilently l.sched l'.sched) → ((frames : ℕ) → IsInCore means frames s l → OnOk r (IsInCore means frames s' l')) → Acted means held stands cut auto (ADrum n) r s s' l l' drum drum' out out
    transfers_acted n (Ok k) s s' l l' drum drum' out none quiet fails moved core =
        subst (λ i. Acted means held stands cut auto (ADrum n) (Ok i) s s' l l' drum drum' out out) (sym none)
        (event_given (ADrum n) s s' l l' drum drum' out out 0 [] refl refl (adds_some 0 s s' quiet.told.within) (quiet_gave the_lists s s' l l' drum drum' out quiet) (no_entry means held s l l' drum moved) (nothing_goes held (ADrum n) s s' l l' drum core))
    transfers_acted n (Err Drum) s s' l l' drum drum' out none quiet fails moved core = nothing_given (ADrum n) s s' l l' drum drum' out refl
    transfers_acted n (Err Taker) s s' l l' drum drum' out none quiet fails moved core = absurd (fails refl)
