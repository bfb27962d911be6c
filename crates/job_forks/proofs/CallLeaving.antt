-- What a call of a fork leaves, where the forks stay or keep their places.
use Rattle.std.proofs.Common.{◌≡◌, ℕ, sym, ◌∙◌, ap, inl, arith}
use Rattle.machine_names.specs.declared.names.ForkName.{ForkName}
use Rattle.machine_names.specs.declared.names.Tty.{Tty}
use Rattle.page_contracts.specs.Pages.{PagesMeaning}
use Rattle.plain_model.specs.Forks.{ForkMap, OthersStay}
use Rattle.plain_model.specs.Inferiors.{is_inferior}
use Rattle.plain_model.specs.Trees.{PlainTree}
use Rattle.plain_model.proofs.OtherJobs.{others_alike, others_itself}
use Rattle.ka10_unit.specs.Carrying.{Grows}
use Rattle.ka10_unit.proofs.Carried.{grows_none, grows_within}
use Rattle.fork_tree.specs.Trees.{AreSlotted, IsTree}
use Rattle.fork_tree.proofs.Leaves.{inferior_lives, inferior_over}
use Rattle.fork_tree.proofs.Slots.{held_lives}
use Rattle.job_forks.specs.Asking.{IsBelow}
use Rattle.job_forks.specs.Holding.{CallLeaves, ComeFrom, Holds, SamePlaces}
use Rattle.job_forks.proofs.Holdings.{grown_made, holds_same, holds_still}
use Rattle.job_forks.proofs.Places.{came_itself, still_living}
use Rattle.job_forks.proofs.Tops.{same_tops}

-- no page was made, and so no more than a block's words may have made
pub none_grown : {P : Type 0} (means : PagesMeaning P) (t : Tty) (p : P) → Grows means t 128 p p
none_grown means t p = grows_within means t 0 128 p p (omega arith) (grows_none means t p)

-- an inferior is of its caller's job
pub below_job : (tree : PlainTree) → IsTree tree → (who name : ForkName) → IsBelow tree.forks who name → name.tty.0 ≡ who.tty.0
below_job tree is who name below =
    let f = inferior_lives tree is who name below in
    let named = is.slotted.own name f.0 f.1 in
    let over = inferior_over tree is who f.0 (held_lives tree.forks is.slotted name f.0 f.1) (ap (is_inferior tree.forks who) named ∙ below) in
    sym (ap (λ (n : ForkName). n.tty.0) named) ∙ over.2

pub below_others : (tree : PlainTree) → IsTree tree → (who name : ForkName) → IsBelow tree.forks who name → (new : ForkMap) → OthersStay name.tty tree.forks new → OthersStay who.tty tree.forks new
below_others tree is who name below new others = others_alike who.tty name.tty tree.forks new (below_job tree is who name below) others

module _ {P : Type 0} (means : PagesMeaning P) (who : ForkName) (tree : PlainTree) where
  module _ (pages : ℕ) (old new : P) (grown : Grows means who.tty pages old new) (holds : Holds means old tree.forks) where
    still : Holds means new tree.forks
    still = holds_still means old new tree.forks grown.lives grown.forks holds

    -- pages were made
    pub grown_leaves : CallLeaves means old new tree tree who pages
    grown_leaves = record {
      holds = still;
      kept = λ f lives. inl (came_itself tree.forks f lives);
      caller = λ lives. lives;
      tops = λ name top. top;
      others = others_itself who.tty tree.forks;
      made = grown_made means who.tty pages old new grown;
      loses = grown.loses;
    }

    -- and forks changed that keep their places
    pub places_leave : (tree' : PlainTree) → AreSlotted tree.forks → AreSlotted tree'.forks → SamePlaces tree.forks tree'.forks → ComeFrom tree.forks tree'.forks → OthersStay who.tty tree.forks tree'.forks
        → CallLeaves means old new tree tree' who pages
    places_leave tree' was is same come others = record {
      holds = holds_same means new tree.forks tree'.forks was is same still;
      kept = λ f lives. inl (come f lives);
      caller = λ lives. still_living tree.forks tree'.forks same who ∙ lives;
      tops = same_tops tree.forks tree'.forks same;
      others = others;
      made = grown_made means who.tty pages old new grown;
      loses = grown.loses;
    }

  -- nothing was changed
  pub none_leaves : (p : P) → Holds means p tree.forks → CallLeaves means p p tree tree who 0
  none_leaves p holds = grown_leaves 0 p p (grows_none means who.tty p) holds
