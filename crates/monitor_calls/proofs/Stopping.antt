-- Units in a row behind which one needs something first.
use Rattle.std.proofs.Common.{◌≡◌, ◌⊎◌, ℕ, ◌+◌, ◌≤◌, cond, ◌==◌, List, length, None, refl, sym, ◌∙◌, ap, subst, arith, inl, inr}
use Rattle.std.specs.Prelude.{Result, Ok, Err, IfOk, IfErr, IsSome}
use Rattle.std.specs.Ordering.{nat_cmp}
use Rattle.std.specs.FinMap as map
use Rattle.std.proofs.lemmas.Bool.Decides.{eqb_tells}
use Rattle.machine_names.specs.declared.names.TheConstants.{TERMINALS}
use Rattle.plain_model.specs.declared.fork.Body.{Body}
use Rattle.plain_model.specs.declared.fork.Fork.{Fork}
use Rattle.page_contracts.specs.declared.answers.Need.{Need}
use Rattle.page_contracts.specs.DrumWords.{DrumWords}
use Rattle.page_contracts.specs.Pages.{MayLose, PagesMeaning}
use Rattle.page_contracts.specs.Stores.{IsNeeded, StaysPlanned}
use Rattle.page_contracts.proofs.Planning.{planned_still}
use Rattle.plain_pages.specs.PlainPages.{NumberedPages}
use Rattle.plain_model.specs.Trees.{PlainTree, with_body}
use Rattle.plain_model.proofs.ForkMaps.{put_itself}
use Rattle.ka10_spots.specs.Once.{After, in_a_row}
use Rattle.ka10_spots.proofs.Stored.{lost_on}
use Rattle.ka10_unit.specs.Gathers.{framed}
use Rattle.fork_tree.specs.Trees.{IsTree, Lives}
use Rattle.fork_tree.proofs.Slots.{get_put}
use Rattle.job_forks.specs.Holding.{Holds, MakesPages, StaysHomed}
use Rattle.job_forks.proofs.Branch.{homed_still, made_on}
use Rattle.file_tables.specs.declared.tables.FileTables.{FileTables}
use Rattle.file_tables.specs.Tables.{open_of}
use Rattle.file_tables.specs.Keys.{key_of}
use Rattle.monitor_calls.specs.Limits.{unit_frames}
use Rattle.monitor_calls.specs.Jobs.{AreUnheld}
use Rattle.monitor_calls.specs.declared.typing.Typing.{Typing}
use Rattle.step_shown.specs.declared.reach.Reach.{Reach}
use Rattle.monitor_calls.specs.declared.units.Units.{Units}
use Rattle.monitor_calls.specs.declared.row.Last.{Last}
use Rattle.monitor_calls.specs.declared.row.Last.TheVariants.{Calls, Needs}
use Rattle.monitor_calls.specs.Reasons.{CallNeeds, UnitStops}
use Rattle.monitor_calls.specs.ForkUnit.{CallWaits, Kept, LeavesForks, RanUnits, RanUpTo, Rest, Tables, UnitReason, UnitWaits, UnitsRan, left_so, parts_in, put_back, ran_on, rest_of}
use Rattle.step_shown.specs.Shown.{nothing}
use Rattle.monitor_calls.specs.Makings.{Makes, most_makings}
use Rattle.monitor_calls.proofs.JfnsAsked.{dir_stays}
use Rattle.monitor_calls.proofs.Leaving.{came_less, leaves_one, leaves_then}
use Rattle.monitor_calls.proofs.UnitRan.{row_ran}
use Rattle.monitor_calls.proofs.WhyNeeded.{call_needs, unit_needs}

-- those that are done before it alone, if there are any
abbrev before : ℕ → Need → Reach → Result Units Need
before count n reach = cond (count == 0) (Err n) (Ok (record { count = count; shown = nothing; reach = reach }))

by_count : (count : ℕ) (n : Need) (reach : Reach) (r : Result Units Need) → r ≡ before count n reach → ((count ≡ 0) × (r ≡ Err n)) ⊎ ((1 ≤ count) × (r ≡ Ok (record { count = count; shown = nothing; reach = reach })))
by_count count n reach r is = elim (eqb_tells count 0) [
  | inl none ↦ inl (none.1, is ∙ ap (λ b. cond b (Err n) (Ok (record { count = count; shown = nothing; reach = reach }))) none.0)
  | inr some ↦ inr (omega (arith, some.1), is ∙ ap (λ b. cond b (Err n) (Ok (record { count = count; shown = nothing; reach = reach }))) some.0)
]

-- no unit changes nothing
pub up_to_none : (f g : Fork) (p q : NumberedPages) → RanUpTo f p 0 g q → (g ≡ f) × (q ≡ p)
unfolding in_a_row
up_to_none f g p q r =
    let same : ◌≡◌ {A = After nat_cmp} (record { pages = p; regs = f.body.regs; post = None }) r.after = cc r.row in
    let none : f.body.units + 0 ≡ f.body.units = omega arith in (
      sym r.fork ∙ ap (λ (a : After nat_cmp). ran_on f 0 a.regs) (sym same) ∙ ap (λ n. record f { body = record f.body { units = n } }) none,
      sym r.pages ∙ ap (λ (a : After nat_cmp). a.pages) (sym same),
    )

-- some units are a row that shows nothing
pub up_to_some : (key : List ℕ → ℕ) (rest : Rest) (f g : Fork) (p q : NumberedPages) (n : ℕ) → 1 ≤ n → RanUpTo f p n g q → RanUnits key rest f p n (left_so rest g q nothing)
up_to_some key rest f g p q n some r = subst (RanUnits key rest f p n) (λ i. left_so rest (r.fork i) (r.pages i) nothing) (row_ran key rest f p n r.after (r.alone some) some r.row)

-- the tables, where these are others
abbrev pub with_tree : Tables → PlainTree → FileTables → List Typing → Tables
with_tree was tree files typed = record was { tree = tree; files = files; typed = typed }

-- so many units of a fork were done, and the next needs this first
pub record StopsBehind {P : Type 0} (means : PagesMeaning P) (old new : P) (was : Tables) (tree : PlainTree) (files : FileTables) (typed : List Typing) (f g : Fork) (count : ℕ) (n : Need) : Type 0 where
  pub told : (d : DrumWords) → means.fits old d → means.fits new d × RanUpTo f (means.plain old d) count g (means.plain new d)
  pub stands : tree ≡ put_back was.tree g
  pub still : count ≡ 0 → g ≡ f
  pub same : files ≡ was.files
  pub same_typed : typed ≡ was.typed
  pub keeps : Kept f g count
  pub leaves : LeavesForks means old new was.tree tree f count
  pub unmade : MakesPages means f.name.tty 0 old new
  pub loses : MayLose means old new
  pub planned : count ≡ 0 → StaysPlanned means.store old new
  pub homed : count ≡ 0 → StaysHomed means old new
  pub needed : IsNeeded means.store unit_frames new n
  pub reason : count ≡ 0 → UnitReason means old was f n

module _ {P : Type 0} (means : PagesMeaning P) (old new : P) (was : Tables) (tree : PlainTree) (files : FileTables) (typed : List Typing) (f g : Fork) (n : Need) (lives : Lives was.tree.forks f) (unheld : AreUnheld (open_of was.files) was.jobs) (room : length was.typed ≡ TERMINALS) where
  none_done : StopsBehind means old new was tree files typed f g 0 n → UnitWaits means old new was (with_tree was tree files typed) f n
  none_done s = record {
    told = record {
      files = s.same;
      typed = s.same_typed;
      tree = s.stands ∙ ap (put_back was.tree) (s.still refl) ∙ ap (λ m. record was.tree { forks = m }) (put_itself was.tree.forks f.name f lives);
      each = λ d fits. (let t = s.told d fits in (t.0, (up_to_none f g (means.plain old d) (means.plain new d) t.1).1));
    };
    leaves = s.leaves;
    unmade = record { made = s.unmade; planned = s.planned refl; homed = s.homed refl };
    needed = s.needed;
    reason = s.reason refl;
  }

  some_done : (count : ℕ) (reach : Reach) → 1 ≤ count → StopsBehind means old new was tree files typed f g count n → UnitsRan means old new was (with_tree was tree files typed) f (record { count = count; shown = nothing; reach = reach })
  some_done count reach some s = record {
    after = g;
    there = λ d fits. subst (λ (x : PlainTree). Lives x.forks g) (sym s.stands) (get_put was.tree.forks g.name g.name g refl);
    told = λ d fits.
        let t = s.told d fits in (
          t.0,
          subst (λ (x : Rest). RanUnits (key_of was.files) (rest_of was) f (means.plain old d) count (record { rest = x; fork = g; pages = means.plain new d; shown = nothing })) (λ i. rest_of (with_tree was (sym s.stands i) (sym s.same i) (sym s.same_typed i)))
              (up_to_some (key_of was.files) (rest_of was) f g (means.plain old d) (means.plain new d) count some t.1),
        );
    numbers = λ d fits. dir_stays was.files files (ap (λ (t : FileTables). t.dir) s.same);
    keeps = s.keeps;
    leaves = s.leaves;
    loses = s.loses;
    unheld = subst (λ (t : FileTables). AreUnheld (open_of t) was.jobs) (sym s.same) unheld;
    typing_room = ap length s.same_typed ∙ room;
    shown = (tt, tt);
  }

  pub stops_ran : (count : ℕ) (reach : Reach) (r : Result Units Need) → r ≡ before count n reach → StopsBehind means old new was tree files typed f g count n → IfOk r (UnitsRan means old new was (with_tree was tree files typed) f)
  stops_ran count reach r is s = elim (by_count count n reach r is) [
    | inl none ↦ subst (λ x. IfOk x (UnitsRan means old new was (with_tree was tree files typed) f)) (sym none.1) tt
    | inr some ↦ subst (λ x. IfOk x (UnitsRan means old new was (with_tree was tree files typed) f)) (sym some.1) (some_done count reach some.0 s)
  ]

  pub stops_waits : (count : ℕ) (reach : Reach) (r : Result Units Need) → r ≡ before count n reach → StopsBehind means old new was tree files typed f g count n → IfErr r (UnitWaits means old new was (with_tree was tree files typed) f)
  stops_waits count reach r is s = elim (by_count count n reach r is) [
    | inl none ↦ subst (λ x. IfErr x (UnitWaits means old new was (with_tree was tree files typed) f)) (sym none.1) (none_done (subst (λ k. StopsBehind means old new was tree files typed f g k n) none.0 s))
    | inr some ↦ subst (λ x. IfErr x (UnitWaits means old new was (with_tree was tree files typed) f)) (sym some.1) tt
  ]

-- how many they are
pub before_some : (count : ℕ) (n : Need) (reach : Reach) (r : Result Units Need) → r ≡ before count n reach → IfOk r (λ units. 1 ≤ units.count)
before_some count n reach r is = elim (by_count count n reach r is) [
  | inl none ↦ subst (λ x. IfOk x (λ (units : Units). 1 ≤ units.count)) (sym none.1) tt
  | inr some ↦ subst (λ x. IfOk x (λ (units : Units). 1 ≤ units.count)) (sym some.1) some.0
]

pub before_few : (count most : ℕ) (n : Need) (reach : Reach) (r : Result Units Need) → count ≤ most → r ≡ before count n reach → IfOk r (λ units. units.count ≤ most)
before_few count most n reach r few is = elim (by_count count n reach r is) [
  | inl none ↦ subst (λ x. IfOk x (λ (units : Units). units.count ≤ most)) (sym none.1) tt
  | inr some ↦ subst (λ x. IfOk x (λ (units : Units). units.count ≤ most)) (sym some.1) few
]

-- how far they have reached
pub before_reach : (P : Reach → Type 0) (count : ℕ) (n : Need) (reach : Reach) (r : Result Units Need) → P reach → r ≡ before count n reach → IfOk r (λ units. P units.reach)
before_reach P count n reach r reaches is = elim (by_count count n reach r is) [
  | inl none ↦ subst (λ x. IfOk x (λ (units : Units). P units.reach)) (sym none.1) tt
  | inr some ↦ subst (λ x. IfOk x (λ (units : Units). P units.reach)) (sym some.1) reaches
]

-- none that made no page
made_none : {P : Type 0} {means : PagesMeaning P} {p q : P} {t : _} → Makes means p q t 0 → MakesPages means t 0 p q
made_none m = record { most = m.most; serial = m.own; serials = m.others }

made_less : {P : Type 0} {means : PagesMeaning P} {p q : P} {t : _} → Makes means p q t 0 → Makes means p q t most_makings
made_less m = record { lives = m.lives; forks = m.forks; most = m.most; own = omega (arith, m.own); others = m.others }

-- one fork has another body, behind so many units that made no page
module _ (was : Tables) (is : IsTree was.tree) (f : Fork) (lives : Lives was.tree.forks f) (body : Body) (count : ℕ) (keeps : Kept f (with_body body f) count) {P : Type 0} (means : PagesMeaning P) (old mid : P) (made : Makes means old mid f.name.tty 0) (undone : count ≡ 0 → (with_body body f ≡ f) × (mid ≡ old)) (lost : MayLose means old mid) (holds : Holds means old was.tree.forks) where
  abbrev g : Fork
  g = with_body body f

  same_fork : ((d : DrumWords) → means.fits old d → means.fits mid d × RanUpTo f (means.plain old d) count g (means.plain mid d)) → count ≡ 0 → (d : DrumWords) → means.fits old d → g ≡ f
  same_fork told none d fits = (up_to_none f g (means.plain old d) (means.plain mid d) (subst (λ k. RanUpTo f (means.plain old d) k g (means.plain mid d)) none (told d fits).1)).0

  -- where none was done, the unit that stops behind them is the first
  stops_here : (last : Last) → ((d : DrumWords) → means.fits old d → means.fits mid d × RanUpTo f (means.plain old d) count g (means.plain mid d)) → ((d : DrumWords) → means.fits old d → UnitStops (framed means mid d) g last) → count ≡ 0
      → (d : DrumWords) → means.fits old d → UnitStops (framed means old d) f last
  stops_here last told stops none d fits =
      subst (λ (k : Fork). UnitStops (framed means old d) k last) (same_fork told none d fits)
      (subst (λ (x : P). UnitStops (framed means x d) g last) (undone none).1 (stops d fits))

  -- and a unit needs something first
  pub unit_stops : (n : Need) → ((d : DrumWords) → means.fits old d → means.fits mid d × RanUpTo f (means.plain old d) count g (means.plain mid d)) → ((d : DrumWords) → means.fits old d → UnitStops (framed means mid d) g (Needs n)) → IsNeeded means.store unit_frames mid n
      → StopsBehind means old mid was (put_back was.tree g) was.files was.typed f g count n
  unit_stops n told stops needed = record {
    told = told;
    stands = refl;
    still = λ none. (undone none).0;
    same = refl;
    same_typed = refl;
    keeps = keeps;
    leaves = leaves_one was.tree is f lives body count keeps means old mid holds (made_less made);
    unmade = made_none made;
    loses = lost;
    planned = λ none. subst (StaysPlanned means.store old) (sym (undone none).1) (planned_still means.store old);
    homed = λ none. subst (StaysHomed means old) (sym (undone none).1) (homed_still means old);
    needed = needed;
    reason = λ none d fits. unit_needs was.files (means.scene old) (parts_in (rest_of was) (means.plain old d)) f n (stops_here (Needs n) told stops none d fits);
  }

  -- or a call does
  pub call_stops : (new : P) (tree : PlainTree) (files : FileTables) (typed : List Typing) (number : ℕ) (n : Need) → ((d : DrumWords) → means.fits old d → means.fits mid d × RanUpTo f (means.plain old d) count g (means.plain mid d)) → ((d : DrumWords) → means.fits old d → UnitStops (framed means mid d) g (Calls number))
      → CallWaits means mid new (record was { tree = put_back was.tree g }) (with_tree was tree files typed) f.name number n
      → StopsBehind means old new was tree files typed f g count n
  call_stops new tree files typed number n told stops waits = record {
    told = λ d fits.
        let t = told d fits in
        let w = waits.told.each d t.0 in
        (w.0, subst (RanUpTo f (means.plain old d) count g) (sym w.1) t.1);
    stands = waits.told.tree;
    still = λ none. (undone none).0;
    same = waits.told.files;
    same_typed = waits.told.typed;
    keeps = keeps;
    leaves = subst (LeavesForks means old new was.tree tree f) none
        (leaves_then was.tree is f lives body count keeps means old mid new tree 0 made
        (record { holds = waits.left.holds; kept = λ x e. elim (waits.left.kept x e) [ inl came ↦ inl (came_less (put_back was.tree g).forks x 0 came) | inr new ↦ inr new ]; caller = there; tops = waits.left.tops; made = waits.left.made }));
    unmade = made_on means f.name.tty 0 0 old mid new (made_none made) waits.unmade.made;
    loses = lost_on means old mid new lost waits.left.loses;
    planned = λ none. subst (λ (s : P). StaysPlanned means.store s new) (undone none).1 waits.unmade.planned;
    homed = λ none. subst (λ (s : P). StaysHomed means s new) (undone none).1 waits.unmade.homed;
    needed = waits.needed;
    reason = λ none d fits. call_needs was.files (means.scene old) (parts_in (rest_of was) (means.plain old d)) f n number (stops_here (Calls number) told stops none d fits) (turn_needs none d fits);
  }
    where
      none : count + 0 ≡ count
      none = omega arith

      -- the turn of the call is that of the fork as it was
      turn_needs : count ≡ 0 → (d : DrumWords) → means.fits old d → CallNeeds was.files (means.scene old) (parts_in (rest_of was) (means.plain old d)) f.name f.body.regs number n
      turn_needs none d fits =
          let behind : CallNeeds was.files (means.scene mid) (parts_in (rest_of (record was { tree = put_back was.tree g })) (means.plain mid d)) f.name g.body.regs number n = waits.reason g (get_put was.tree.forks g.name g.name g refl) d (told d fits).0 in
          let before : CallNeeds was.files (means.scene old) (parts_in (rest_of (record was { tree = put_back was.tree g })) (means.plain old d)) f.name g.body.regs number n =
          subst (λ (x : P). CallNeeds was.files (means.scene x) (parts_in (rest_of (record was { tree = put_back was.tree g })) (means.plain x d)) f.name g.body.regs number n) (undone none).1 behind in
          subst (λ (x : PlainTree). CallNeeds was.files (means.scene old) (parts_in (rest_of (record was { tree = x })) (means.plain old d)) f.name f.body.regs number n) (ap (λ m. record was.tree { forks = m }) (put_itself was.tree.forks f.name f lives))
          (subst (λ (k : Fork). CallNeeds was.files (means.scene old) (parts_in (rest_of (record was { tree = put_back was.tree k })) (means.plain old d)) f.name k.body.regs number n) (same_fork told none d fits) before)

      there : IsSome (map.get tree.forks g.name)
      there = waits.left.caller (leaves_one was.tree is f lives body count keeps means old mid holds (made_less made)).caller
