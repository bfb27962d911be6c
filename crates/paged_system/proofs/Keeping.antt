-- What is always so of a system over pages stays so.
use Rattle.std.proofs.Common.{◌≡◌, ◌≤◌, ℕ, false, refl, sym, ap, subst, arith}
use Rattle.std.specs.Prelude.{Result, Ok, Err, IfErr, IfOk}
use Rattle.std.proofs.Props.{props}
use Rattle.fork_tree.specs.Trees.{IsTree}
use Rattle.monitor_core.specs.declared.system.System.{System}
use Rattle.page_contracts.specs.Stores.{Completes, StoreMeaning}
use Rattle.page_contracts.specs.declared.store.Completed.{Completed}
use Rattle.page_contracts.specs.declared.store.Completed.TheVariants.{Done, DrumFault, Nothing}
use Rattle.page_waits.specs.Seats.{UNHELD_FRAMES}
use Rattle.plain_model.specs.Trees.{PlainTree}
use Rattle.paged_system.specs.declared.paged.Paged.{Paged}

module _ {P : Type 0} {b : _} (old : Paged P b) where
  -- the forks of each job are a tree
  pub tree_stays : (new : System P b) → new.tree ≡ old.system.tree → ∥ IsTree new.tree ∥₁
  tree_stays new same = subst (λ (t : PlainTree). ∥ IsTree t ∥₁) (sym same) old.trees

  -- there are as many frames
  pub many_stay : (new : System P b) → b.means.store.frames new.pages ≡ b.means.store.frames old.system.pages → b.means.store.flat ≡ false → UNHELD_FRAMES ≤ b.means.store.frames new.pages
  many_stay new same framed = (let many = old.many framed in omega (arith, many, same))

  -- the same system is the same over pages
  pub same_paged : (new : Paged P b) → new.system ≡ old.system → new ≡ old
  same_paged new same =
      let one_tree : IsProp (∥ IsTree old.system.tree ∥₁) = hlevel props in
      let one_many : IsProp (b.means.store.flat ≡ false → UNHELD_FRAMES ≤ b.means.store.frames old.system.pages) = hlevel props in
      subst
      (λ (x : System P b). (t : ∥ IsTree x.tree ∥₁) (m : b.means.store.flat ≡ false → UNHELD_FRAMES ≤ b.means.store.frames x.pages) → ◌≡◌ {A = Paged P b} (record { system = x; trees = t; many = m }) old)
      (sym same) (λ t m. λ i. record { system = old.system; trees = one_tree t old.trees i; many = one_many m old.many i }) new.trees new.many

-- the end of a transfer leaves as many frames
pub frames_completed : {S D : Type 0} (means : StoreMeaning S) (faults reads writes pages : D → ℕ) (result : Completed) (old new : S) (drum drum' : D) → Completes means faults reads writes pages result old new drum drum'
    → means.frames new ≡ means.frames old
frames_completed means faults reads writes pages Nothing old new drum drum' c = ap (λ s. means.frames s) (c.same refl).0
frames_completed means faults reads writes pages (Done need) old new drum drum' c = (c.done need refl).frames
frames_completed means faults reads writes pages DrumFault old new drum drum' c = (c.failed refl).there.framed.frames

-- what holds whether a call has done its work or needs something first
pub either_way : {X E A : Type 0} (Q : X → Type 0) (R : E → Type 0) (r : Result X E) → IfOk r Q → IfErr r R → ((x : X) → Q x → A) → ((e : E) → R e → A) → A
either_way Q R (Ok x) done waits f g = f x done
either_way Q R (Err e) done waits f g = g e waits
