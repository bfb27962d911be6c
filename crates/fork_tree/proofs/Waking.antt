-- The forks of a job changed: it is the same where they are changed slot by slot. So who waits for a fork runs again when one ends, and who
-- waits for a character when one is stored.
use Rattle.std.proofs.Common.{◌≡◌, ℕ, zero, suc, ◌+◌, ◌<◌, ◌≤◌, List, [], ◌∷◌, Option, None, Some, refl, sym, ◌∙◌, ap, subst, arith, inl, inr, ◌⊎◌}
use Rattle.std.specs.List.{range_with_len}
use Rattle.std.specs.Option.{option_map}
use Rattle.std.specs.FinMap as map
use Rattle.std.proofs.lemmas.Bool.{cases_eq, cases_lt}
use Rattle.plain_model.specs.Forks.{ForkMap, fork_in}
use Rattle.machine_names.specs.declared.names.ForkName.{ForkName}
use Rattle.machine_names.specs.declared.names.Tty.{Tty}
use Rattle.machine_names.specs.declared.names.TheConstants.{MOST_FORKS}
use Rattle.plain_model.specs.declared.fork.Fork.{Fork}
use Rattle.plain_model.specs.Trees.{PlainTree, changed, job_changed, unread, unwaited, readers_woken, waiters_woken, without_read}
use Rattle.plain_model.proofs.ChangedForks.{changed_from, get_changed, of_job, others_alone, own_changed}
use Rattle.plain_model.proofs.Posted.{IsSame}
use Rattle.fork_tree.specs.Trees.{IsIn, IsTree, Lives}
use Rattle.fork_tree.specs.Waking.{NoneWaits}
use Rattle.fork_tree.specs.declared.notes.Awaited.TheVariants.{Character}
use Rattle.fork_tree.proofs.Reading.{read_once}
use Rattle.fork_tree.proofs.Kept.{changed_tree}
use Rattle.fork_tree.proofs.Slots.{cases_name, get_put, get_put_other, held_lives, in_found, in_tells, same_forks}

-- the forks in these slots of a job changed, in order
abbrev pub changed_in : (Fork → Fork) → ForkMap → Tty → List ℕ → ForkMap
changed_in change forks t [] = forks
changed_in change forks t (slot ∷ slots) = changed_in change (changed forks change (fork_in forks t slot)) t slots

-- a change that keeps names, slots and superiors
module _ (change : Fork → Fork) (same : (f : Fork) → IsSame f (change f)) (t : Tty) where
  -- the forks with that in a slot changed
  abbrev changed_at : PlainTree → Option Fork → PlainTree
  changed_at tree o = record tree { forks = changed tree.forks change o }

  -- a fork is changed where it is in the slot
  record Changes (tree : PlainTree) (slot : ℕ) (o : Option Fork) : Type 0 where
    tree_still : IsTree (changed_at tree o)
    others : (f : Fork) → Lives tree.forks f → (IsIn tree.forks t slot f → ⊥) → Lives (changed_at tree o).forks f
    here : (f : Fork) → IsIn tree.forks t slot f → Lives (changed_at tree o).forks (change f)
    gone : (name : ForkName) → map.get tree.forks name ≡ None → map.get (changed_at tree o).forks name ≡ None

  changes : (tree : PlainTree) → IsTree tree → (slot : ℕ) (o : Option Fork) → fork_in tree.forks t slot ≡ o → Changes tree slot o
  changes tree is slot None none = record {
    tree_still = is;
    others = λ f lives apart. lives;
    here = λ f at. absurd (let no : None ≡ Some f = sym none ∙ in_found tree.forks is.slotted t slot f at in cc no);
    gone = λ name none. none;
  }
  changes tree is slot (Some j) some =
      let at = in_tells tree.forks is.slotted t slot j some in
      let still = same j in
      record {
        tree_still = changed_tree tree j (change j) is at.0 still.0 still.1 still.2;
        others = λ f lives apart. elim (cases_name f.name j.name) [
          | inl e ↦
              let both : Some f ≡ Some j = sym lives ∙ ap (map.get tree.forks) e ∙ at.0 in
              let one : f ≡ j = cc both in
              absurd (apart (lives, ap (λ (x : Fork). x.name.tty.0) one ∙ at.1, ap (λ (x : Fork). x.slot) one ∙ at.2))
          | inr ne ↦ get_put_other tree.forks j.name f.name (change j) ne ∙ lives
        ];
        here = λ f is_in.
            let one : f ≡ j = is.slotted.once t slot f j is_in at in
            get_put tree.forks j.name (change f).name (change j) ((same f).0 ∙ ap (λ (x : Fork). x.name) one) ∙ ap (λ (x : Fork). Some (change x)) (sym one);
        gone = λ name none. elim (cases_name name j.name) [
          | inl same ↦ (let both : None ≡ Some j = sym none ∙ (ap (map.get tree.forks) same ∙ at.0) in absurd (cc both))
          | inr ne ↦ get_put_other tree.forks j.name name (change j) ne ∙ none
        ];
      }

  -- the forks stay a tree
  pub in_order : (n from : ℕ) (tree : PlainTree) → IsTree tree → IsTree (record tree { forks = changed_in change tree.forks t (range_with_len from n) })
  in_order zero from tree is = is
  in_order (suc n) from tree is = in_order n (from + 1) (changed_at tree (fork_in tree.forks t from)) (changes tree is from (fork_in tree.forks t from) refl).tree_still

  -- a fork in none of these slots stays
  pub apart_stays : (n from : ℕ) (tree : PlainTree) → IsTree tree → (f : Fork) → Lives tree.forks f → (f.name.tty.0 ≡ t.0 → from ≤ f.slot → f.slot < from + n → ⊥)
      → map.get (changed_in change tree.forks t (range_with_len from n)) f.name ≡ Some f
  apart_stays zero from tree is f lives apart = lives
  apart_stays (suc n) from tree is f lives apart =
      let w = changes tree is from (fork_in tree.forks t from) refl in
      apart_stays n (from + 1) (changed_at tree (fork_in tree.forks t from)) w.tree_still f (w.others f lives (λ at. apart at.1 (omega (arith, at.2)) (omega (arith, at.2)))) (λ job low high. apart job (omega (arith, low)) (omega (arith, high)))

  -- a name of which no fork lives stays so
  pub absent_stays : (n from : ℕ) (tree : PlainTree) → IsTree tree → (name : ForkName) → map.get tree.forks name ≡ None → map.get (changed_in change tree.forks t (range_with_len from n)) name ≡ None
  absent_stays zero from tree is name none = none
  absent_stays (suc n) from tree is name none =
      let w = changes tree is from (fork_in tree.forks t from) refl in
      absent_stays n (from + 1) (changed_at tree (fork_in tree.forks t from)) w.tree_still name (w.gone name none)

  -- a fork in one of them is changed
  pub each_changed : (n from : ℕ) (tree : PlainTree) → IsTree tree → (f : Fork) → Lives tree.forks f → f.name.tty.0 ≡ t.0 → from ≤ f.slot → f.slot < from + n
      → map.get (changed_in change tree.forks t (range_with_len from n)) f.name ≡ Some (change f)
  each_changed zero from tree is f lives job low high = absurd (omega (arith, low, high))
  each_changed (suc n) from tree is f lives job low high = by (λ u k there. each_changed n (from + 1) u k f there job) (cases_lt from f.slot)
    where
      o : Option Fork
      o = fork_in tree.forks t from

      by : ((u : PlainTree) → IsTree u → Lives u.forks f → from + 1 ≤ f.slot → f.slot < from + 1 + n → map.get (changed_in change u.forks t (range_with_len (from + 1) n)) f.name ≡ Some (change f))
          → (from < f.slot) ⊎ (f.slot ≤ from) → map.get (changed_in change (changed tree.forks change (fork_in tree.forks t from)) t (range_with_len (from + 1) n)) f.name ≡ Some (change f)
      by rest (inl later) =
          let w = changes tree is from (fork_in tree.forks t from) refl in
          rest (changed_at tree (fork_in tree.forks t from)) w.tree_still (w.others f lives (λ at. omega (arith, at.2, later))) (omega (arith, later)) (omega (arith, high))
      by rest (inr at) =
          let w = changes tree is from (fork_in tree.forks t from) refl in
          let slot : f.slot ≡ from = omega (arith, low, at) in
          let still = same f in
          ap (map.get (changed_in change (changed tree.forks change (fork_in tree.forks t from)) t (range_with_len (from + 1) n))) (sym still.0)
          ∙ apart_stays n (from + 1) (changed_at tree (fork_in tree.forks t from)) w.tree_still (change f) (w.here f (lives, job, slot)) (λ j above below. omega (arith, above, slot, still.1))

  -- all slots are all forks of the job
  pub by_slots : (tree : PlainTree) → IsTree tree → changed_in change tree.forks t (range_with_len 1 MOST_FORKS) ≡ job_changed change t tree.forks
  by_slots tree is = same_forks _ _ (λ q. by q (map.get tree.forks q) refl ∙ sym (get_changed (of_job change t) tree.forks q))
    where
      all : ForkMap
      all = changed_in change tree.forks t (range_with_len 1 MOST_FORKS)

      by : (q : ForkName) (o : Option Fork) → map.get tree.forks q ≡ o → map.get all q ≡ option_map (of_job change t) (map.get tree.forks q)
      by q None none = absent_stays MOST_FORKS 1 tree is q none ∙ sym (ap (option_map (of_job change t)) none)
      by q (Some f) there =
          let own = is.slotted.own q f there in
          let lives = held_lives tree.forks is.slotted q f there in
          ap (map.get all) (sym own)
          ∙ elim (cases_eq f.name.tty.0 t.0) [
            | inl job ↦ each_changed MOST_FORKS 1 tree is f lives job (is.slotted.first f lives) (omega (arith, is.slotted.last f lives)) ∙ ap Some (sym (own_changed change t f job))
            | inr other ↦ apart_stays MOST_FORKS 1 tree is f lives (λ job low high. other job) ∙ ap Some (sym (others_alone change t f other))
          ]
          ∙ sym (ap (option_map (of_job change t)) there)

-- a fork of the job is changed, and any other stays
module _ (change : Fork → Fork) (t : Tty) (forks : ForkMap) (f : Fork) (lives : Lives forks f) where
  pub job_here : f.name.tty.0 ≡ t.0 → map.get (job_changed change t forks) f.name ≡ Some (change f)
  job_here job = get_changed (of_job change t) forks f.name ∙ ap (option_map (of_job change t)) lives ∙ ap Some (own_changed change t f job)

  pub job_other : (f.name.tty.0 ≡ t.0 → ⊥) → map.get (job_changed change t forks) f.name ≡ Some f
  job_other other = get_changed (of_job change t) forks f.name ∙ ap (option_map (of_job change t)) lives ∙ ap Some (others_alone change t f other)

-- a name of which no fork lives stays so
pub job_none : (change : Fork → Fork) (t : Tty) (forks : ForkMap) (name : ForkName) → map.get forks name ≡ None → map.get (job_changed change t forks) name ≡ None
job_none change t forks name none = get_changed (of_job change t) forks name ∙ ap (option_map (of_job change t)) none

module _ (tree : PlainTree) (is : IsTree tree) (t : Tty) (f : Fork) (lives : Lives tree.forks f) where
  -- each fork of the job
  pub all_woken : f.name.tty.0 ≡ t.0 → map.get (waiters_woken tree.forks t) f.name ≡ Some (unwaited f)
  unfolding waiters_woken
  all_woken job = job_here unwaited t tree.forks f lives job

  -- and no other
  pub others_stay : (f.name.tty.0 ≡ t.0 → ⊥) → map.get (waiters_woken tree.forks t) f.name ≡ Some f
  unfolding waiters_woken
  others_stay other = job_other unwaited t tree.forks f lives other

  -- so it is with who waits for a character
  pub all_read : f.name.tty.0 ≡ t.0 → map.get (readers_woken tree.forks t) f.name ≡ Some (unread f)
  unfolding readers_woken
  all_read job = job_here unread t tree.forks f lives job

  pub others_keep : (f.name.tty.0 ≡ t.0 → ⊥) → map.get (readers_woken tree.forks t) f.name ≡ Some f
  unfolding readers_woken
  others_keep other = job_other unread t tree.forks f lives other

-- and so none waits for one any more
pub none_reads : (tree : PlainTree) → IsTree tree → (t : Tty) → NoneWaits Character (readers_woken tree.forks t) t
unfolding readers_woken
none_reads tree is t f lives job =
    let was = changed_from (of_job unread t) tree.forks f.name f lives in
    let own = is.slotted.own f.name was.0 was.1 in
    let same : unread was.0 ≡ f = sym (own_changed unread t was.0 (ap (λ (n : ForkName). n.tty.0) own ∙ job)) ∙ was.2 in
    subst (λ (k : Fork). without_read k.body.status ≡ k.body.status) same (read_once (was.0).body.status)
