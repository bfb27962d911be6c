-- A fork is killed with all below it: it is the same where they go one after another, an inferior that has none itself first.
use Rattle.std.proofs.Common.{◌≡◌, ℕ, ◌<◌, ◌≤◌, Bool, true, false, ◌||◌, Option, None, Some, refl, sym, ◌∙◌, ap, arith, ◌⊎◌, inl, inr, Ordering}
use Rattle.std.specs.Prelude.{find}
use Rattle.std.specs.List.{range_with_len}
use Rattle.std.specs.Option.{option_map_or}
use Rattle.std.specs.FinMap as map
use Rattle.std.proofs.lemmas.Bool.{cases_Bool}
use Rattle.machine_names.specs.Orders.{same_fork}
use Rattle.machine_names.specs.declared.names.ForkName.{ForkName}
use Rattle.machine_names.specs.declared.names.TheConstants.{MOST_FORKS}
use Rattle.plain_model.specs.declared.fork.Fork.{Fork}
use Rattle.plain_model.specs.Forks.{ForkMap, fork_in}
use Rattle.plain_model.specs.Inferiors.{is_inferior}
use Rattle.plain_model.specs.Trees.{PlainTree, next_serial}
use Rattle.plain_model.specs.ForkCalls.{ForkParts, killed, without_all, without_inferiors}
use Rattle.plain_model.proofs.MapsGone.{gone_none, gone_one, gone_twice, left_all, left_one, left_twice}
use Rattle.fork_tree.specs.Inferiors.{HasNoInferior, IsLeafBelow, without, without_branch}
use Rattle.fork_tree.specs.Trees.{IsTree, Lives}
use Rattle.fork_tree.proofs.Branches.{inferior_stays}
use Rattle.fork_tree.proofs.Kept.{IsNobodysSuperior, killed_tree}
use Rattle.fork_tree.proofs.Leaves.{inferior_lives, inferior_over, leaf_lives, leafless, nobodys_superior}
use Rattle.fork_tree.proofs.Ranges.{first_tells, none_tells}
use Rattle.fork_tree.proofs.Slots.{cases_name, get_gone, get_gone_other, held_lives, in_found, in_none, in_tells, names_same, same_itself}
use Rattle.fork_tree.proofs.Upward.{tally, tally_above}

-- ---- the forks and their maps, without some of them

module _ {K : Type 0} {file_cmp : K → K → Ordering} where
  all_twice : (v : ForkParts file_cmp) (a b : ForkName → Bool) → without_all (without_all v a) b ≡ without_all v (λ f. a f || b f)
  all_twice v a b = λ i. record { tree = record v.tree { forks = left_twice v.tree.forks a b i }; pages = gone_twice v.pages a b i }

  all_one : (v : ForkParts file_cmp) (f : ForkName) → without_all v (λ k. same_fork k f) ≡ without v f
  all_one v f = λ i. record { tree = record v.tree { forks = left_one v.tree.forks f i }; pages = gone_one v.pages f i }

  all_none : (v : ForkParts file_cmp) → without_all v (λ f. false) ≡ v
  all_none v = λ i. record { tree = record v.tree { forks = left_all v.tree.forks i }; pages = gone_none v.pages i }

  module _ (v : ForkParts file_cmp) (who : ForkName) where
    -- who has no inferior stays as it is
    pub without_none : HasNoInferior v.tree.forks who → without_inferiors v who ≡ v
    unfolding without_inferiors
    without_none none = ap (without_all v) (λ i name. none name i) ∙ all_none v

    -- the fork itself may go last
    pub killed_last : killed v who ≡ without (without_inferiors v who) who
    unfolding killed without_inferiors
    killed_last =
        ap (without_all v) (λ i q. turned (same_fork q who) (is_inferior v.tree.forks who q) i) ∙ sym (all_twice v (is_inferior v.tree.forks who) (λ k. same_fork k who))
        ∙ all_one (without_all v (is_inferior v.tree.forks who)) who
      where
        turned : (a b : Bool) → (a || b) ≡ (b || a)
        turned true true = refl
        turned true false = refl
        turned false true = refl
        turned false false = refl

    -- who is killed takes the branch
    pub killed_branch : (killed v who).tree.forks ≡ without_branch v.tree.forks who
    unfolding killed without_branch
    killed_branch = refl

    -- an inferior that has none itself may go first
    pub leaf_first : (leaf : Fork) → IsTree v.tree → IsLeafBelow v.tree.forks who leaf → without_inferiors (without v leaf.name) who ≡ without_inferiors v who
    unfolding without_inferiors
    leaf_first leaf is below =
        ap (λ (u : ForkParts file_cmp). without_all u later) (sym (all_one v leaf.name)) ∙ all_twice v (λ k. same_fork k leaf.name) later
        ∙ ap (without_all v) (λ i q. each q (cases_name q leaf.name) i)
      where
        later : ForkName → Bool
        later = is_inferior (map.remove v.tree.forks leaf.name) who

        not_it : (q : ForkName) → (q ≡ leaf.name → ⊥) → (b : Bool) → same_fork q leaf.name ≡ b → b ≡ false
        not_it q ne true same = absurd (ne (names_same q leaf.name same))
        not_it q ne false same = refl

        each : (q : ForkName) → (q ≡ leaf.name) ⊎ (q ≡ leaf.name → ⊥) → (same_fork q leaf.name || later q) ≡ is_inferior v.tree.forks who q
        each q (inl e) = ap (λ b. b || later q) (ap (λ n. same_fork n leaf.name) e ∙ same_itself leaf.name) ∙ sym (ap (is_inferior v.tree.forks who) e ∙ below.below)
        each q (inr ne) =
            ap (λ b. b || later q) (not_it q ne (same_fork q leaf.name) refl)
            ∙ inferior_stays v.tree is leaf below.lives (nobodys_superior v.tree is leaf below.lives below.leaf) who q ne

-- ---- how many inferiors there are

-- whether the fork in a slot of a fork's job is an inferior of that
abbrev pub below_in : ForkMap → ForkName → ℕ → Bool
below_in forks who slot = option_map_or (λ g. is_inferior forks who g.name) (fork_in forks who.tty slot) false

module _ (who : ForkName) where
  -- an inferior is counted
  counted : (tree : PlainTree) (is : IsTree tree) (g : Fork) → Lives tree.forks g → is_inferior tree.forks who g.name ≡ true → below_in tree.forks who g.slot ≡ true
  counted tree is g lives below =
      let job = (inferior_over tree is who g lives below).2 in
      ap (λ o. option_map_or (λ (k : Fork). is_inferior tree.forks who k.name) o false) (in_found tree.forks is.slotted who.tty g.slot g (lives, job, refl)) ∙ below

  -- there is an inferior that has none itself, or there is no inferior
  pub leaf_or_none : (tree : PlainTree) (is : IsTree tree) → ((f : Fork) × IsLeafBelow tree.forks who f) ⊎ HasNoInferior tree.forks who
  leaf_or_none tree is = by (find (below_in tree.forks who) (range_with_len 1 MOST_FORKS)) refl
    where
      here : (slot : ℕ) → below_in tree.forks who slot ≡ true → (o : Option Fork) → fork_in tree.forks who.tty slot ≡ o → (f : Fork) × IsLeafBelow tree.forks who f
      here slot passes None none = absurd (let no : true ≡ false = sym passes ∙ ap (λ o. option_map_or (λ (k : Fork). is_inferior tree.forks who k.name) o false) none in cc no)
      here slot passes (Some f) some =
          let below : is_inferior tree.forks who f.name ≡ true = sym (ap (λ o. option_map_or (λ (k : Fork). is_inferior tree.forks who k.name) o false) some) ∙ passes in
          leaf_lives tree is who (next_serial tree f.name.tty) f (in_tells tree.forks is.slotted who.tty slot f some).0 below (omega arith)

      by : (o : Option ℕ) → find (below_in tree.forks who) (range_with_len 1 MOST_FORKS) ≡ o → ((f : Fork) × IsLeafBelow tree.forks who f) ⊎ HasNoInferior tree.forks who
      by (Some slot) e = inl (here slot (first_tells (below_in tree.forks who) 1 MOST_FORKS slot e).2 (fork_in tree.forks who.tty slot) refl)
      by None e = inr (leafless tree is who (λ g tty leaf.
          let no : true ≡ false = sym (counted tree is g leaf.lives leaf.below) ∙ none_tells (below_in tree.forks who) 1 MOST_FORKS e g.slot (is.slotted.first g leaf.lives) (omega (arith, is.slotted.last g leaf.lives)) in cc no))

  pub none_counted : (tree : PlainTree) (is : IsTree tree) → tally (below_in tree.forks who) 1 MOST_FORKS ≤ 0 → HasNoInferior tree.forks who
  none_counted tree is few = λ name. elim (cases_Bool (is_inferior tree.forks who name)) [
    | inr fails ↦ fails
    | inl below ↦
        let g = inferior_lives tree is who name below in
        let lives = held_lives tree.forks is.slotted name g.0 g.1 in
        let here : is_inferior tree.forks who g.0.name ≡ true = ap (is_inferior tree.forks who) (is.slotted.own name g.0 g.1) ∙ below in
        let more = tally_above (λ k. false) (below_in tree.forks who) (λ k e. absurd (cc e)) 1 MOST_FORKS g.0.slot (is.slotted.first g.0 lives) (omega (arith, is.slotted.last g.0 lives)) refl (counted tree is g.0 lives here) in
        absurd (omega (arith, few, more))
  ]

  -- without a leaf one fewer is counted
  module _ (tree : PlainTree) (is : IsTree tree) (leaf : Fork) (below : IsLeafBelow tree.forks who leaf) where
    alone : IsNobodysSuperior tree.forks leaf
    alone = nobodys_superior tree is leaf below.lives below.leaf

    abbrev fewer : PlainTree
    fewer = record tree { forks = map.remove tree.forks leaf.name }

    is_fewer : IsTree fewer
    is_fewer = killed_tree tree leaf is below.lives alone

    gone : Lives fewer.forks leaf → ⊥
    gone lives = let no : None ≡ Some leaf = sym (get_gone tree.forks leaf.name leaf.name refl) ∙ lives in cc no

    pub fewer_counted : tally (below_in fewer.forks who) 1 MOST_FORKS < tally (below_in tree.forks who) 1 MOST_FORKS
    fewer_counted = tally_above (below_in fewer.forks who) (below_in tree.forks who) each 1 MOST_FORKS leaf.slot (is.slotted.first leaf below.lives) (omega (arith, is.slotted.last leaf below.lives)) not_here (counted tree is leaf below.lives below.below)
      where
        job : leaf.name.tty.0 ≡ who.tty.0
        job = (inferior_over tree is who leaf below.lives below.below).2

        was : (g : Fork) → Lives fewer.forks g → (g.name ≡ leaf.name → ⊥) × Lives tree.forks g
        was g lives = elim (cases_name g.name leaf.name) [
          | inl e ↦ absurd (let no : None ≡ Some g = sym (get_gone tree.forks leaf.name g.name e) ∙ lives in cc no)
          | inr ne ↦ (ne, sym (get_gone_other tree.forks leaf.name g.name ne) ∙ lives)
        ]

        not_here : below_in fewer.forks who leaf.slot ≡ false
        not_here = ap (λ o. option_map_or (λ (k : Fork). is_inferior fewer.forks who k.name) o false) (in_none fewer.forks is_fewer.slotted who.tty leaf.slot (λ g at.
            let w = was g at.0 in
            let same : g ≡ leaf = is.slotted.once who.tty leaf.slot g leaf (w.1, at.1, at.2) (below.lives, job, refl) in
            w.0 (ap (λ (x : Fork). x.name) same)))

        each : (slot : ℕ) → below_in fewer.forks who slot ≡ true → below_in tree.forks who slot ≡ true
        each slot passes = by (fork_in fewer.forks who.tty slot) refl passes
          where
            by : (o : Option Fork) → fork_in fewer.forks who.tty slot ≡ o → option_map_or (λ g. is_inferior fewer.forks who g.name) o false ≡ true → below_in tree.forks who slot ≡ true
            by None none h = absurd (cc h)
            by (Some g) some h =
                let at = in_tells fewer.forks is_fewer.slotted who.tty slot g some in
                let w = was g at.0 in
                ap (λ o. option_map_or (λ (k : Fork). is_inferior tree.forks who k.name) o false) (in_found tree.forks is.slotted who.tty slot g (w.1, at.1, at.2))
                ∙ sym (inferior_stays tree is leaf below.lives alone who g.name w.0) ∙ h
