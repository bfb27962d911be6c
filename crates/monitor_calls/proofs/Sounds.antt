-- What is always true of a system's tables, before and after.
use Rattle.std.proofs.Common.{◌≡◌, ◌⊎◌, ℕ, ◌<◌, ◌≤◌, List, length, get_or, set, Option, None, Some, refl, sym, ◌∙◌, ap, subst, arith, nat_lt, length-set, get_or-set_same, get_or-set_other, inl, inr}
use Rattle.std.specs.Option.{option_map}
use Rattle.std.specs.FinMap as map
use Rattle.std.proofs.lemmas.Bool.{cases_eq, cases_Bool}
use Rattle.std.proofs.lemmas.Bool.Decides.{nat_tests}
use Rattle.std.proofs.lemmas.List.{get_or_default}
use Rattle.machine_names.specs.declared.names.TheConstants.{TERMINALS}
use Rattle.machine_names.specs.declared.names.ForkName.{ForkName}
use Rattle.plain_model.specs.declared.fork.Fork.{Fork}
use Rattle.plain_model.specs.Forks.{ForkMap}
use Rattle.page_contracts.specs.Pages.{PagesMeaning}
use Rattle.plain_model.specs.Trees.{changed, PlainTree, with_changed_of}
use Rattle.fork_tree.specs.Trees.{IsTree, Lives}
use Rattle.fork_tree.proofs.Kept.{changed_tree}
use Rattle.fork_tree.proofs.Slots.{cases_name, get_put, get_put_other, held_lives}
use Rattle.job_forks.specs.Holding.{SamePlaces}
use Rattle.job_forks.proofs.Holdings.{holds_same, holds_still}
use Rattle.monitor_calls.specs.declared.job.Job.{Job}
use Rattle.monitor_calls.specs.declared.typing.Typing.{Typing}
use Rattle.monitor_calls.specs.Jobs.{job_at}
use Rattle.monitor_calls.specs.Typings.{new_typing, typing_at}
use Rattle.monitor_calls.specs.Limits.{IsBody}
use Rattle.monitor_calls.specs.Sound.{AreSound}

-- what stands in a list stands there whatever is beyond it
pub stands : {X : Type 0} (xs : List X) (i : ℕ) (a b : X) → i < length xs → get_or xs i a ≡ get_or xs i b
stands xs i a b h = get_or_default xs i a b h

-- an entry that was read by its index is what the terminal has
pub entry_read : (jobs : List (Option Job)) (t : ℕ) (o : Option Job) → length jobs ≡ TERMINALS → t < TERMINALS → o ≡ get_or jobs t o → job_at jobs t ≡ o
entry_read jobs t o room low read = stands jobs t None o (omega (arith, room, low)) ∙ sym read

pub job_read : (jobs : List (Option Job)) (t : ℕ) (o : Option Job) (j : Job) → length jobs ≡ TERMINALS → t < TERMINALS → o ≡ get_or jobs t o → o ≡ Some j → job_at jobs t ≡ Some j
job_read jobs t o j room low read is = entry_read jobs t o room low read ∙ is

-- so is what was typed there
pub typing_read : (typed : List Typing) (t : ℕ) (y : Typing) → length typed ≡ TERMINALS → t < TERMINALS → y ≡ get_or typed t y → typing_at typed t ≡ y
typing_read typed t y room low read = stands typed t new_typing y (omega (arith, room, low)) ∙ sym read

-- a number is below another or not
pub split_at : (a b : ℕ) → (a < b) ⊎ (b ≤ a)
split_at a b = elim (cases_Bool (nat_lt a b)) [ inl e ↦ inl (grind (arith, nat_tests)) | inr e ↦ inr (grind (arith, nat_tests)) ]

-- tables of jobs in which each terminal has the same top fork, if it has a job
pub record SameTops (jobs jobs' : List (Option Job)) : Type 0 where
  pub room : length jobs' ≡ length jobs
  pub tops : (t : ℕ) (k : Job) → job_at jobs' t ≡ Some k → (j : Job) × (job_at jobs t ≡ Some j) × (k.top ≡ j.top)
  pub none : (t : ℕ) → job_at jobs' t ≡ None → job_at jobs t ≡ None

pub same_tops : (jobs jobs' : List (Option Job)) → jobs' ≡ jobs → SameTops jobs jobs'
same_tops jobs jobs' same = record {
  room = ap length same;
  tops = λ t k e. (k, ap (λ js. job_at js t) (sym same) ∙ e, refl);
  none = λ t e. ap (λ js. job_at js t) (sym same) ∙ e;
}

-- another job with the same top fork in a terminal's place
pub same_tops_set : (jobs : List (Option Job)) (t : ℕ) (j k : Job) → t < length jobs → job_at jobs t ≡ Some j → k.top ≡ j.top → SameTops jobs (set jobs t (Some k))
same_tops_set jobs t j k within at top =
    let here : job_at (set jobs t (Some k)) t ≡ Some k = get_or-set_same jobs t (Some k) None within in
    let other : (u : ℕ) → (u ≡ t → ⊥) → job_at (set jobs t (Some k)) u ≡ job_at jobs u = λ u ne. get_or-set_other jobs t u (Some k) None ne in
    record {
      room = length-set jobs t (Some k);
      tops = λ u i e. elim (cases_eq u t) [
        | inl same ↦
            let f : Some k ≡ Some i = sym here ∙ ap (job_at (set jobs t (Some k))) (sym same) ∙ e in
            let is : k ≡ i = cc f in (j, ap (job_at jobs) same ∙ at, ap (λ x. x.top) (sym is) ∙ top)
        | inr ne ↦ (i, sym (other u ne) ∙ e, refl)
      ];
      none = λ u e. elim (cases_eq u t) [
        | inl same ↦ absurd (let f : Some k ≡ None = sym here ∙ ap (job_at (set jobs t (Some k))) (sym same) ∙ e in cc f)
        | inr ne ↦ sym (other u ne) ∙ e
      ];
    }

-- the fork that lives now is the one that was changed, or lived before
pub lives_now : (forks : ForkMap) (name : ForkName) (k f : Fork) → Lives (map.insert forks name k) f → (k ≡ f) ⊎ Lives forks f
lives_now forks name k f e = elim (cases_name f.name name) [
  | inl same ↦ (let h : Some k ≡ Some f = sym (get_put forks name f.name k same) ∙ e in inl (cc h))
  | inr ne ↦ inr (sym (get_put_other forks name f.name k ne) ∙ e)
]

module _ {P : Type 0} (means : PagesMeaning P) (p q : P) (tree : PlainTree) (jobs jobs' : List (Option Job)) (s : AreSound means p tree jobs) (lives_same : means.lives q ≡ means.lives p) (forks_same : means.forks_of q ≡ means.forks_of p) (tops : SameTops jobs jobs') where
  -- the forks stay
  pub sound_same : AreSound means q tree jobs'
  sound_same = record {
    holds = holds_still means p q tree.forks lives_same forks_same s.holds;
    job_room = tops.room ∙ s.job_room;
    each_fork = s.each_fork;
    each_job = λ t k e.
        let j = tops.tops t k e in
        let job = s.each_job t j.0 j.1 in
        record { terminal = ap (λ n. n.tty.0) j.2 ∙ job.terminal; low = job.low; top = ap (λ n. option_map (λ f. f.slot) (map.get tree.forks n)) j.2 ∙ job.top };
    nobody = λ t f e lives. s.nobody t f (tops.none t e) lives;
  }

  module _ (trees : IsTree tree) where
    -- one fork is another of its name, slot and superior
    module _ (k g : Fork) (lives : Lives tree.forks k) (name : g.name ≡ k.name) (slot : g.slot ≡ k.slot) (superior : g.superior ≡ k.superior) (body : IsBody g.body) where
      abbrev forks' : ForkMap
      forks' = map.insert tree.forks k.name g

      places : SamePlaces tree.forks forks'
      places n = elim (cases_name n k.name) [
        | inl same ↦ ap (option_map (λ f. f.slot)) (get_put tree.forks k.name n g same) ∙ ap Some slot ∙ ap (option_map (λ f. f.slot)) (sym lives ∙ ap (map.get tree.forks) (sym same))
        | inr ne ↦ ap (option_map (λ f. f.slot)) (get_put_other tree.forks k.name n g ne)
      ]

      pub sound_changed : AreSound means q (record tree { forks = forks' }) jobs'
      sound_changed = let still = sound_same in record {
        holds = holds_same means q tree.forks forks' trees.slotted (changed_tree tree k g trees lives name slot superior).slotted places still.holds;
        job_room = still.job_room;
        each_fork = λ f e. elim (lives_now tree.forks k.name g f e) [
          | inl is ↦ subst (λ (x : Fork). IsBody x.body) is body
          | inr old ↦ s.each_fork f old
        ];
        each_job = λ t i e. let job = still.each_job t i e in record { terminal = job.terminal; low = job.low; top = places i.top ∙ job.top };
        nobody = λ t f e there at. elim (lives_now tree.forks k.name g f there) [
          | inl is ↦ still.nobody t k e lives (ap (λ n. n.tty.0) (sym name ∙ ap (λ x. x.name) is) ∙ at)
          | inr old ↦ still.nobody t f e old at
        ];
      }

    -- a fork of a name is changed, if it lives
    pub sound_change : (n : ForkName) (change : Fork → Fork) → ((f : Fork) → (change f).name ≡ f.name) → ((f : Fork) → (change f).slot ≡ f.slot) → ((f : Fork) → (change f).superior ≡ f.superior) → ((f : Fork) → IsBody f.body → IsBody (change f).body)
        → AreSound means q (with_changed_of tree n change) jobs'
    sound_change n change name slot superior body = by (map.get tree.forks n) refl
      where
        by : (o : Option Fork) → map.get tree.forks n ≡ o → AreSound means q (record tree { forks = changed tree.forks change o }) jobs'
        by None e = sound_same
        by (Some k) e = let lives = held_lives tree.forks trees.slotted n k e in sound_changed k (change k) lives (name k) (slot k) (superior k) (body k (s.each_fork k lives))
