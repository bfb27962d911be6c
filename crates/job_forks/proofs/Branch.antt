-- A branch is killed, fork by fork, with their maps.
use Rattle.std.proofs.Common.{◌≡◌, ◌≢◌, ℕ, zero, suc, ◌+◌, ◌-◌, ◌<◌, Bool, true, false, not, ◌&&◌, Option, None, Some, length, refl, sym, ◌∙◌, ap, subst, arith, inl, inr}
use Rattle.std.specs.Prelude.{is_some}
use Rattle.std.specs.Ordering.{nat_cmp}
use Rattle.std.specs.FinMap as map
use Rattle.std.proofs.lemmas.Bool.{cases_eq}
use Rattle.plain_model.specs.declared.call.ForkChange.TheVariants.{Kill}
use Rattle.machine_names.specs.declared.names.Tty.{Tty}
use Rattle.machine_names.specs.declared.names.ForkName.{ForkName}
use Rattle.machine_names.specs.declared.names.TheConstants.{MOST_FORKS}
use Rattle.plain_model.specs.declared.fork.Fork.{Fork}
use Rattle.plain_model.specs.Forks.{ForkMap, forks_by_slot}
use Rattle.machine_names.specs.Orders.{same_fork}
use Rattle.plain_model.specs.Inferiors.{is_inferior}
use Rattle.machine_names.specs.Bounds.{IsTerminal}
use Rattle.page_contracts.specs.Pages.{PagesMeaning}
use Rattle.page_contracts.specs.Stores.{StaysPlanned}
use Rattle.page_contracts.proofs.Planning.{planned_still}
use Rattle.plain_pages.specs.References.{without_fork}
use Rattle.plain_pages.specs.PlainPages.{NumberedPages}
use Rattle.plain_model.specs.Trees.{PlainTree, waiters_woken}
use Rattle.plain_model.specs.ForkCalls.{ForkParts, fork_changed, killed, without_inferiors}
use Rattle.plain_model.proofs.ForkMaps.{cases_name, get_gone, same_itself, names_same}
use Rattle.fork_tree.specs.Inferiors.{without}
use Rattle.fork_tree.specs.Trees.{AreSlotted, IsTree, Lives}
use Rattle.fork_tree.proofs.Killing.{killed_last}
use Rattle.fork_tree.proofs.Leaves.{inferior_is}
use Rattle.fork_tree.proofs.Upward.{ancestor_lives, any_ancestor}
use Rattle.job_forks.specs.Holding.{Holds, MakesPages, PlansOnly, StaysHomed, parts}
use Rattle.job_forks.proofs.Places.{fewer_living, one_fewer, others_same}

-- an inferior is younger
pub below_younger : (tree : PlainTree) → IsTree tree → (who : ForkName) (f : Fork) → Lives tree.forks f → is_inferior tree.forks who f.name ≡ true → who.serial < f.name.serial
below_younger tree is who f lives below =
    let p = λ (k : Fork). same_fork k.name who in
    let a = any_ancestor tree is p MOST_FORKS f (sym (inferior_is tree.forks who f.name f lives) ∙ below) in
    let over = ancestor_lives tree is p a.1.0 f a.0 lives a.1.1 in
    let name : a.0.name ≡ who = names_same a.0.name who a.2 in
    omega (arith, over.2, ap (λ (n : ForkName). n.serial) name)

-- ---- pages and forks, without one

module _ {P : Type 0} (means : PagesMeaning P) (old new : P) (forks : ForkMap) (f : Fork) (a : AreSlotted forks) (b : AreSlotted (map.remove forks f.name)) (there : Lives forks f) (holds : Holds means old forks) where
  pub dropped_holds : ((name : ForkName) → means.lives new name ≡ (not (same_fork name f.name) && means.lives old name)) → means.forks_of new f.name.tty + 1 ≡ means.forks_of old f.name.tty
      → ((t : Tty) → t ≢ f.name.tty → means.forks_of new t ≡ means.forks_of old t) → Holds means new (map.remove forks f.name)
  dropped_holds lives own others = record { living = living; counts = counts; roomy = holds.roomy }
    where
      living : (name : ForkName) → means.lives new name ≡ map.contains_key (map.remove forks f.name) name
      living name = elim (cases_name name f.name) [
        | inl same ↦ lives name ∙ ap (λ b. not b && means.lives old name) (ap (λ n. same_fork n f.name) same ∙ same_itself f.name) ∙ sym (ap is_some (get_gone forks f.name name same))
        | inr ne ↦ lives name ∙ ap (λ b. not b && means.lives old name) (apart (same_fork name f.name) refl ne) ∙ holds.living name ∙ sym (fewer_living forks f a b there name ne)
      ]
        where
          apart : (b : Bool) → same_fork name f.name ≡ b → (name ≢ f.name) → same_fork name f.name ≡ false
          apart true is ne = absurd (ne (names_same name f.name is))
          apart false is ne = is

      counts : (t : Tty) → IsTerminal t → means.forks_of new t ≡ length (forks_by_slot (map.remove forks f.name) t)
      counts t terminal = elim (cases_eq t.0 f.name.tty.0) [
        | inl e ↦
            let same : t ≡ f.name.tty = λ i. record { 0 = e i } in
            let one = one_fewer forks f a b there in
            let before : means.forks_of old f.name.tty ≡ length (forks_by_slot forks f.name.tty) = holds.counts f.name.tty (subst IsTerminal same terminal) in
            let here : means.forks_of new f.name.tty ≡ length (forks_by_slot (map.remove forks f.name) f.name.tty) = omega (arith, one, before, own) in
            subst (λ (u : Tty). means.forks_of new u ≡ length (forks_by_slot (map.remove forks f.name) u)) (sym same) here
        | inr ne ↦
            let apart : t ≢ f.name.tty = λ same. ne (ap (λ (u : Tty). u.0) same) in
            others t apart ∙ holds.counts t terminal ∙ sym (others_same forks f a b there t apart)
      ]

-- pages of which no serial moved
pub none_made : {P : Type 0} (means : PagesMeaning P) (old new : P) (t : Tty) → means.serial new ≡ means.serial old → means.most new ≡ means.most old → MakesPages means t 0 old new
none_made means old new t serials most = record {
  most = most;
  serial = omega (arith, ap (λ (s : Tty → ℕ). s t) serials);
  serials = λ u ne. ap (λ (s : Tty → ℕ). s u) serials;
}

pub homed_still : {P : Type 0} (means : PagesMeaning P) (p : P) → StaysHomed means p p
homed_still means p = record { maps = λ f. refl; pages = λ n. refl; filed = refl }

-- pages that are as they were
pub plans_none : {P : Type 0} (means : PagesMeaning P) (old new : P) (t : Tty) → new ≡ old → PlansOnly means t old new
plans_none means old new t same = record {
  made = none_made means old new t (ap means.serial same) (ap means.most same);
  planned = subst (StaysPlanned means.store old) (sym same) (planned_still means.store old);
  homed = subst (StaysHomed means old) (sym same) (homed_still means old);
}

pub made_on : {P : Type 0} (means : PagesMeaning P) (t : Tty) (m n : ℕ) (old mid new : P) → MakesPages means t m old mid → MakesPages means t n mid new → MakesPages means t (m + n) old new
made_on means t m n old mid new g h = record {
  most = h.most ∙ g.most;
  serial = omega (arith, g.serial, h.serial);
  serials = λ u ne. h.serials u ne ∙ g.serials u ne;
}

-- the fork itself goes last, and who waits for one goes on
pub kill_changes : (v : ForkParts nat_cmp) (who : ForkName) (u : ForkParts nat_cmp) (tree : PlainTree) (p : NumberedPages) → without_inferiors v who ≡ u → tree ≡ record u.tree { forks = map.remove u.tree.forks who } → p ≡ without_fork u.pages who
    → parts (record tree { forks = waiters_woken tree.forks who.tty }) p ≡ fork_changed (Kill who) v
unfolding fork_changed
kill_changes v who u tree p below gone left =
    let k : ForkParts nat_cmp = record { tree = tree; pages = p } in
    let same : k ≡ killed v who = (λ i. record { tree = gone i; pages = left i }) ∙ ap (λ (w : ForkParts nat_cmp). without w who) (sym below) ∙ sym (killed_last v who) in
    ap (λ (w : ForkParts nat_cmp). parts (record w.tree { forks = waiters_woken w.tree.forks who.tty }) w.pages) same
