-- Where all is in core a task needs nothing first, and what is done leaves all there.
use Rattle.std.proofs.Common.{◌≡◌, ℕ, ◌+◌, ◌<◌, ◌≤◌, List, [], ◌∷◌, Bool, true, false, ◌||◌, cond, Option, None, refl, sym, ◌∙◌, ap, subst, arith}
use Rattle.std.specs.Prelude.{◌&&◌, MatchOption, count_by}
use Rattle.std.specs.List.{list_any}
use Rattle.std.proofs.lemmas.Bool.Decides.{nat_tests}
use Rattle.event_deeds.specs.Deeds.{Task, deed_of, unit_of}
use Rattle.fork_lists.specs.Following.{last_counted}
use Rattle.fork_lists.specs.declared.lists.ForkLists.{ForkLists}
use Rattle.job_sched.specs.Schedules.{Schedule, heads}
use Rattle.job_sched.specs.Ties.{WaitsLess}
use Rattle.job_sched.specs.Units.{row_ran}
use Rattle.job_sched.proofs.Units.{rows_waiting}
use Rattle.job_sched.proofs.Waits.{less_none}
use Rattle.machine_names.specs.declared.names.ForkName.{ForkName}
use Rattle.page_contracts.specs.DrumWords.{DrumWords}
use Rattle.page_contracts.specs.declared.answers.Need.{Need}
use Rattle.page_contracts.specs.declared.answers.Need.TheVariants.{Page, Frame}
use Rattle.page_contracts.specs.Stores.{HomePlace, free, away, here, IsNeeded, IsSound, Loses, StaysThere, Traffic, is_arrival, is_here, is_taken, need_of, place, same_need, traffic, without}
use Rattle.page_contracts.proofs.Sums.{count_cons, one_if}
use Rattle.plain_model.specs.State.{PlainState}
use Rattle.plain_pages.specs.Room.{live}
use Rattle.page_waits.specs.Calm.{IsRoomy}
use Rattle.page_waits.specs.InCore.{IdledCalmly, IsInCore, RanCalmly}
use Rattle.page_waits.specs.Systems.{Needs, SystemMeaning, most_framed}
use Rattle.page_waits.specs.declared.turn.Done.{Done}

-- no more homes have their pages in frames than are taken
here_taken : (ps : List HomePlace) → count_by is_here ps ≤ count_by is_taken ps
here_taken [] = omega arith
here_taken (p ∷ ps) = omega (arith, one p, here_taken ps, count_cons is_here p ps, count_cons is_taken p ps)
  where
    one : (q : HomePlace) → one_if (is_here q) ≤ one_if (is_taken q)
    one free = omega arith
    one away = omega arith
    one (here words) = omega arith

-- where nothing was queued, and nothing was to be told, nothing is to be told
none_told : (t u : Traffic) → Loses t u → t.queue ≡ [] → t.untold ≡ [] → u.untold ≡ []
none_told t u lost queue untold = by u.untold (λ need. lost.untold need
    ∙ ap (λ (ns : List Need). list_any (same_need need) ns || list_any (λ x. lost.these x && same_need need (need_of x)) t.queue) untold
    ∙ ap (list_any (λ x. lost.these x && same_need need (need_of x))) queue)
  where
    itself : (need : Need) → same_need need need ≡ true
    itself (Page home) = grind (arith, nat_tests)
    itself Frame = refl

    by : (ns : List Need) → ((need : Need) → list_any (same_need need) ns ≡ false) → ns ≡ []
    by [] none = refl
    by (n ∷ ns) none = absurd (let z : true ≡ false = sym (ap (λ b. b || list_any (same_need n) ns) (itself n)) ∙ none n in cc z)

-- the last unit of a row is counted: who waits waits on
pub counted_waiting : (f : ForkName) (s : Schedule) → (last_counted f s).waiting ≡ s.waiting
counted_waiting f s = by (heads f s.ready)
  where
    by : (b : Bool) → (cond b (row_ran 1 s) s).waiting ≡ s.waiting
    by true = rows_waiting 1 s
    by false = refl

module _ {S : Type 0} (means : SystemMeaning S) (frames : ℕ) where
  -- what a task needs first is no page, since none is away; so it is a frame, or the task needs nothing
  module _ (x : Task) (s s1 : S) (l : ForkLists) (need : Need) (core : IsInCore means frames s l) (needs : Needs means x s s1 need) where
    pub none_needed : (need ≡ Frame → ⊥) → ⊥
    none_needed framed = by need refl
      where
        by : (n : Need) → need ≡ n → ⊥
        by (Page home) is = core.here home.0 (ap (λ (ps : List HomePlace). place ps home.0) (sym needs.stored.homes) ∙ subst (IsNeeded means.store (most_framed x) s1) is needs.needed)
        by Frame is = framed is

    -- nor is it a frame, where few pages and forks live
    pub no_frame : (d : DrumWords) → IsSound means.store s → count_by is_taken (means.store.homes s) ≤ live (means.plain s d).pages → IsRoomy frames (means.plain s d) → need ≡ Frame → ⊥
    no_frame d sound lives roomy is =
        let low : means.store.spare s1 < most_framed x = subst (IsNeeded means.store (most_framed x) s1) is needs.needed in
        let few : most_framed x ≤ 32 = most x in
        let same = needs.stored.spare in
        let none : count_by is_arrival (means.store.queue s) ≡ 0 = ap (count_by is_arrival) core.still in
        let shared = sound.shared in
        let size = core.size in
        let room : live (means.plain s d).pages + 128 ≤ frames = roomy in
        omega (arith, low, few, same, none, shared, size, here_taken (means.store.homes s), lives, room)
      where
        most : (task : Task) → most_framed task ≤ 32
        most (deed_of d) = omega arith
        most (unit_of f) = omega arith

  -- what takes transfers from the queue, uses, makes or gives up pages, and lets no fork wait more, leaves all in core
  pub core_kept : (s s' : S) (l l' : ForkLists) → IsInCore means frames s l → Loses (traffic means.store s) (traffic means.store s') → WaitsLess l.sched.waiting l'.sched.waiting → IsInCore means frames s' l'
  core_kept s s' l l' core lost less = record {
    size = lost.frames ∙ core.size;
    here = λ home gone. core.here home (lost.left home gone);
    still = lost.queue ∙ ap (without lost.these) core.still;
    told = none_told (traffic means.store s) (traffic means.store s') lost core.still core.told;
    none = less_none l'.sched.waiting (subst (λ ws. WaitsLess ws l'.sched.waiting) core.none less);
  }

  -- so does what moves no page and queues nothing
  pub core_there : (s s' : S) (l l' : ForkLists) → IsInCore means frames s l → StaysThere means.store s s' → means.store.queue s' ≡ means.store.queue s → means.store.untold s' ≡ [] → l'.sched.waiting ≡ l.sched.waiting
      → IsInCore means frames s' l'
  core_there s s' l l' core there queue told waiting = record {
    size = there.framed.frames ∙ core.size;
    here = λ home gone. core.here home (ap (λ (ps : List HomePlace). place ps home) (sym there.homes) ∙ gone);
    still = queue ∙ core.still;
    told = told;
    none = waiting ∙ core.none;
  }

  -- so does what changes nothing
  pub core_same : (s s' : S) (l l' : ForkLists) → IsInCore means frames s l → s' ≡ s → l' ≡ l → IsInCore means frames s' l'
  core_same s s' l l' core system lists = subst (λ t. IsInCore means frames t l') (sym system) (subst (λ m. IsInCore means frames s m) (sym lists) core)

module _ {S : Type 0} (means : SystemMeaning S) where
  -- where all is in core, and the frames have so much room, nothing has changed yet
  abbrev pub Untouched : (ℕ → PlainState → Type 0) → S → S → ForkLists → ForkLists → Type 0
  Untouched HasRoom s s' l l' = (frames : ℕ) (d : DrumWords) → means.fits s d → IsInCore means frames s l → HasRoom frames (means.plain s d) → (s' ≡ s) × (l' ≡ l)

  module _ (HasRoom : ℕ → PlainState → Type 0) (s s' : S) (l l' : ForkLists) (untouched : Untouched HasRoom s s' l l') (frames : ℕ) (d : DrumWords) (fits : means.fits s d) (core : IsInCore means frames s l) (room : HasRoom frames (means.plain s d)) where
    -- what follows there of what is now follows of what was
    pub from_calm : (A : S → ForkLists → Type 0) → (means.fits s' d → IsInCore means frames s' l' → HasRoom frames (means.plain s' d) → A s' l') → A s l
    from_calm A then =
        let same = untouched frames d fits core room in
        subst (λ t. A t l) same.0
        (subst (A s') same.1 (then (subst (λ t. means.fits t d) (sym same.0) fits) (core_same means frames s s' l l' core same.0 same.1) (subst (λ t. HasRoom frames (means.plain t d)) (sym same.0) room)))

    -- nobody was ready
    pub from_idle : (s'' : S) (l'' : ForkLists) (came : Option Done)
        → (means.fits s' d → IsInCore means frames s' l' → HasRoom frames (means.plain s' d) → MatchOption came (IdledCalmly means s' s'' l' l'') (λ u. RanCalmly means frames u s' s'' l' l''))
        → came ≡ None → IdledCalmly means s s'' l l''
    from_idle s'' l'' came then none =
        from_calm (λ t m. IdledCalmly means t s'' m l'')
        (λ f k r. subst (λ (o : Option Done). MatchOption o (IdledCalmly means s' s'' l' l'') (λ u. RanCalmly means frames u s' s'' l' l'')) none (then f k r))

  -- nothing is queued then
  pub still_idle : (frames : ℕ) (s s' : S) (l l' : ForkLists) → IsInCore means frames s l → IdledCalmly means s s' l l' → means.store.queue s' ≡ []
  still_idle frames s s' l l' core idled = ap means.store.queue idled.system ∙ core.still
