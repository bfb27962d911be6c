-- A job begins: its top fork is made, in the first slot.
use Rattle.std.proofs.Common.{◌≡◌, ◌≢◌, ℕ, ◌+◌, ◌<◌, ◌≤◌, ◌||◌, List, length, set, Bool, true, false, cond, Option, None, Some, refl, sym, ◌∙◌, ap, subst, arith, nat_lt, nat_le, length-set, get_or-set_same, get_or-set_other, inl, inr}
use Rattle.std.specs.Prelude.{Result, Ok, Err, find, is_none, is_some}
use Rattle.std.specs.List.{range_with_len}
use Rattle.std.specs.Option.{option_map, option_map_or}
use Rattle.std.proofs.lemmas.Bool.{cases_eq}
use Rattle.std.proofs.lemmas.Bool.Decides.{nat_tests}
use Rattle.machine_names.specs.declared.names.TheConstants.{TERMINALS, LAST_SERIAL}
use Rattle.machine_names.specs.declared.names.Tty.{Tty}
use Rattle.machine_names.specs.declared.names.ForkName.{ForkName}
use Rattle.plain_model.specs.declared.fork.Fork.{Fork}
use Rattle.page_contracts.specs.declared.store.Room.TheVariants.{Enough, NeedFrame, Full}
use Rattle.plain_model.specs.Forks.{fork_in, top_fork, first_regs, psi_at_rest}
use Rattle.page_contracts.specs.Pages.{PagesMeaning, room_for as frames_for}
use Rattle.machine_names.specs.Orders.{same_fork}
use Rattle.plain_model.specs.Trees.{free_slot, next_name, PlainTree, next_serial}
use Rattle.fork_tree.specs.declared.tree.NoFork.{NoFork}
use Rattle.fork_tree.specs.declared.tree.NoFork.TheVariants.{ForksFull, SerialsOut}
use Rattle.fork_tree.specs.Making.{room_for, with_new, with_new_in}
use Rattle.fork_tree.specs.Trees.{IsTree}
use Rattle.fork_tree.proofs.Kept.{name_unused}
use Rattle.fork_tree.proofs.Slots.{get_put, get_put_other, in_none}
use Rattle.fork_calls.proofs.Added.{added_holds, few_forks}
use Rattle.monitor_calls.specs.declared.job.Job.{Job}
use Rattle.plain_files.specs.OpenFiles.{OpenFiles}
use Rattle.monitor_calls.specs.Jobs.{AreUnheld, job_at}
use Rattle.monitor_calls.specs.Limits.{IsBody}
use Rattle.monitor_calls.specs.Sound.{AreSound}
use Rattle.monitor_calls.proofs.Sounds.{lives_now}
use Rattle.plain_model.proofs.Shorthands.{is_free}

-- a fork is made where no slot is in use
module _ (tree : PlainTree) (t : Tty) (none : fork_in tree.forks t 1 ≡ None) where
  pub first_free : free_slot tree.forks t ≡ Some 1
  unfolding free_slot
  first_free = ap (λ o. cond (is_none o) (Some 1) (find (is_free tree.forks t) (range_with_len 2 29))) none

  pub new_tree : with_new tree t None ≡ with_new_in tree t None 1
  new_tree = ap (λ o. option_map_or (with_new_in tree t None) o tree) first_free

  room_is : room_for tree t ≡ cond (nat_lt LAST_SERIAL (next_serial tree t)) (Err SerialsOut) (Ok (let u : Unit {0} = tt in u))
  room_is = ap (λ o. cond (is_none o) (Err ForksFull) (cond (nat_lt LAST_SERIAL (next_serial tree t)) (Err SerialsOut) (Ok (let u : Unit {0} = tt in u)))) first_free

  -- no job without a fork is full
  pub never_full : room_for tree t ≡ Err ForksFull → ⊥
  never_full h = by (nat_lt LAST_SERIAL (next_serial tree t)) (sym room_is ∙ h)
    where
      by : (b : Bool) → ◌≡◌ {A = Result (Unit {0}) NoFork} (cond b (Err SerialsOut) (Ok tt)) (Err ForksFull) → ⊥
      by true e = let f : SerialsOut ≡ ForksFull = cc e in cc f
      by false e = cc e

  -- there is a serial more
  pub unused : room_for tree t ≡ Ok tt → next_serial tree t ≤ LAST_SERIAL
  unused h = by (nat_lt LAST_SERIAL (next_serial tree t)) refl (sym room_is ∙ h)
    where
      by : (b : Bool) → nat_lt LAST_SERIAL (next_serial tree t) ≡ b → ◌≡◌ {A = Result (Unit {0}) NoFork} (cond b (Err SerialsOut) (Ok tt)) (Ok tt) → next_serial tree t ≤ LAST_SERIAL
      by true is e = absurd (cc e)
      by false is e = grind (arith, nat_tests)

  -- or the serials are used up
  pub used_up : room_for tree t ≡ Err SerialsOut → LAST_SERIAL < next_serial tree t
  used_up h = by (nat_lt LAST_SERIAL (next_serial tree t)) refl (sym room_is ∙ h)
    where
      by : (b : Bool) → nat_lt LAST_SERIAL (next_serial tree t) ≡ b → ◌≡◌ {A = Result (Unit {0}) NoFork} (cond b (Err SerialsOut) (Ok tt)) (Err SerialsOut) → LAST_SERIAL < next_serial tree t
      by true is e = grind (arith, nat_tests)
      by false is e = absurd (cc e)

-- room for one page more, in a frame
pub enough : (live limit frames : ℕ) → Enough ≡ frames_for live limit frames 1 → (live < limit) × (0 < frames)
enough live limit frames h = by (nat_le (live + 1) limit) (nat_le 1 frames) refl refl h
  where
    by : (b c : Bool) → nat_le (live + 1) limit ≡ b → nat_le 1 frames ≡ c → Enough ≡ cond b (cond c Enough NeedFrame) Full → (live < limit) × (0 < frames)
    by true true is in_frame e = (grind (arith, nat_tests), grind (arith, nat_tests))
    by true false is in_frame e = absurd (cc e)
    by false c is in_frame e = absurd (cc e)

-- or none
pub filled : (live limit frames : ℕ) → Full ≡ frames_for live limit frames 1 → limit ≤ live
filled live limit frames h = by (nat_le (live + 1) limit) (nat_le 1 frames) refl h
  where
    by : (b c : Bool) → nat_le (live + 1) limit ≡ b → Full ≡ cond b (cond c Enough NeedFrame) Full → limit ≤ live
    by true true is e = absurd (cc e)
    by true false is e = absurd (cc e)
    by false c is e = grind (arith, nat_tests)

-- a new top fork is within its limits
top_body : (name : ForkName) → IsBody (top_fork name).body
unfolding first_regs psi_at_rest
top_body name = record { status = λ c h. absurd (cc h); pc = omega arith; accumulators = refl }

-- no JFN is held where no job is, once there is a job more
pub unheld_begun : (held : List OpenFiles) (jobs : List (Option Job)) (t : ℕ) (k : Job) → AreUnheld held jobs → t < length jobs → AreUnheld held (set jobs t (Some k))
unheld_begun held jobs t k none within u gone = elim (cases_eq u t) [
  | inl same ↦ absurd (let there : Some k ≡ None = sym (get_or-set_same jobs t (Some k) None within) ∙ ap (job_at (set jobs t (Some k))) (sym same) ∙ gone in cc there)
  | inr ne ↦ none u (sym (get_or-set_other jobs t u (Some k) None ne) ∙ gone)
]

module _ {P : Type 0} (means : PagesMeaning P) (p : P) (tree : PlainTree) (jobs : List (Option Job)) (s : AreSound means p tree jobs) (t : Tty) (free : job_at jobs t.0 ≡ None) (low : t.0 < TERMINALS) where
  -- no fork is in the first slot of a terminal without a job
  pub none_first : IsTree tree → fork_in tree.forks t 1 ≡ None
  none_first is = in_none tree.forks is.slotted t 1 (λ f at. s.nobody t.0 f free at.0 at.1)

  -- so its next fork has no map
  pub none_held : IsTree tree → means.lives p (next_name tree t) ≡ false
  none_held is = s.holds.living (next_name tree t) ∙ ap is_some (name_unused tree t is)

  -- and there is room for its fork
  pub room_held : IsTree tree → means.forks_of p t < means.most_forks
  room_held is =
      let few = few_forks tree.forks t 1 (first_free tree t (none_first is)) in
      omega (arith, s.holds.counts t low, few, s.holds.roomy)

  -- a new job, with its fork
  pub sound_begun : (q : P) (k : Job) → k.top ≡ next_name tree t → ((g : ForkName) → means.lives q g ≡ (same_fork g (next_name tree t) || means.lives p g)) → means.forks_of q t ≡ means.forks_of p t + 1
      → ((u : Tty) → u ≢ t → means.forks_of q u ≡ means.forks_of p u) → IsTree tree → IsTree (with_new_in tree t None 1) → AreSound means q (with_new_in tree t None 1) (set jobs t.0 (Some k))
  sound_begun q k top alive own others trees now =
      let name = next_name tree t in
      let within : t.0 < length jobs = omega (arith, s.job_room, low) in
      let here : job_at (set jobs t.0 (Some k)) t.0 ≡ Some k = get_or-set_same jobs t.0 (Some k) None within in
      let other : (u : ℕ) → (u ≡ t.0 → ⊥) → job_at (set jobs t.0 (Some k)) u ≡ job_at jobs u = λ u ne. get_or-set_other jobs t.0 u (Some k) None ne in
      let found : (u : ℕ) (i : Job) → u ≡ t.0 → job_at (set jobs t.0 (Some k)) u ≡ Some i → k ≡ i = λ u i same e. let f : Some k ≡ Some i = sym here ∙ ap (job_at (set jobs t.0 (Some k))) (sym same) ∙ e in cc f in
      let there : (u : ℕ) → u ≡ t.0 → job_at (set jobs t.0 (Some k)) u ≡ None → ⊥ = λ u same e. let f : Some k ≡ None = sym here ∙ ap (job_at (set jobs t.0 (Some k))) (sym same) ∙ e in cc f in
      record {
        holds = added_holds means p q name alive own others tree.forks (top_fork name) refl (name_unused tree t trees) trees.slotted now.slotted s.holds;
        job_room = length-set jobs t.0 (Some k) ∙ s.job_room;
        each_fork = λ f e. elim (lives_now tree.forks name (top_fork name) f e) [
          | inl is ↦ subst (λ (x : Fork). IsBody x.body) is (top_body name)
          | inr old ↦ s.each_fork f old
        ];
        each_job = λ u i e. elim (cases_eq u t.0) [
          | inl same ↦
              let is : i.top ≡ name = ap (λ x. x.top) (sym (found u i same e)) ∙ top in
              record { terminal = ap (λ n. n.tty.0) is ∙ sym same; low = omega (arith, low, same); top = ap (option_map (λ f. f.slot)) (get_put tree.forks name i.top (top_fork name) is) }
          | inr ne ↦
              let job = s.each_job u i (sym (other u ne) ∙ e) in
              record { terminal = job.terminal; low = job.low; top = ap (option_map (λ f. f.slot)) (get_put_other tree.forks name i.top (top_fork name) (λ h. ne (sym job.terminal ∙ ap (λ n. n.tty.0) h))) ∙ job.top }
        ];
        nobody = λ u f e lives at. elim (cases_eq u t.0) [
          | inl same ↦ there u same e
          | inr ne ↦ elim (lives_now tree.forks name (top_fork name) f lives) [
            | inl is ↦ ne (sym at ∙ ap (λ x. x.name.tty.0) (sym is))
            | inr old ↦ s.nobody u f (sym (other u ne) ∙ e) old at
          ]
        ];
      }
