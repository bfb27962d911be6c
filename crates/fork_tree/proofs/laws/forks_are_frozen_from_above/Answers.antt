use Rattle.std.proofs.Common.{◌≡◌, ◌∙◌, ap, sym, refl, Bool, true, false, ◌||◌, Some, inl, inr}
use Rattle.std.proofs.lemmas.Bool.{cases_Bool}
use Rattle.plain_model.specs.Forks.{is_frozen, superior_of, any_upward}
use Rattle.machine_names.specs.declared.names.TheConstants.{MOST_FORKS}
use Rattle.plain_model.specs.declared.fork.Fork.{Fork}
use Rattle.plain_model.specs.Trees.{PlainTree}
use Rattle.fork_tree.specs.Trees.{IsTree, Lives}
use Rattle.fork_tree.proofs.Upward.{ancestor_any, any_ancestor, any_whole, or_true}
use Rattle.fork_tree.proofs.CanRun.{named_runs, runs_as, runs_can}
use Rattle.fork_tree.proofs.laws.forks_are_frozen_from_above.Goals as goal

abbrev marked : Fork → Bool
marked f = f.frozen

-- a fork is frozen by its mark, or from above
frozen_is : (tree : PlainTree) (f : Fork) → IsTree tree → Lives tree.forks f → is_frozen MOST_FORKS tree.forks (Some f) ≡ (f.frozen || any_upward marked MOST_FORKS tree.forks (superior_of tree.forks f))
frozen_is tree f is lives = ap (λ b. f.frozen || b) (any_whole tree is marked f lives)

false_first : (b c : Bool) → (b || c) ≡ false → b ≡ false
false_first true c h = h
false_first false c h = refl

both_false : (b c : Bool) → b ≡ false → c ≡ false → (b || c) ≡ false
both_false true c h k = h
both_false false c h k = k

pub returns-clause-frozen : goal.returns-clause-frozen
returns-clause-frozen c = λ tree f is lives.
    let up = any_upward marked MOST_FORKS tree.forks (superior_of tree.forks f) in (
      λ fails. (
        false_first f.frozen up (sym (frozen_is tree f is lives) ∙ fails),
        λ g over. elim (cases_Bool g.frozen) [
          | inr free ↦ free
          | inl frozen ↦
              let frozen_f = frozen_is tree f is lives ∙ or_true f.frozen up (ancestor_any tree is marked over.0 f g lives over.1 frozen) in
              absurd (cc (frozen_f, fails))
        ],
      ),
      λ h.
          frozen_is tree f is lives
          ∙ both_false f.frozen up h.0 (elim (cases_Bool up) [
            | inr free ↦ free
            | inl found ↦
                let a = any_ancestor tree is marked MOST_FORKS f found in
                let free = h.1 a.0 a.1 in
                let frozen = a.2 in
                absurd (cc (frozen, free))
          ]),
    )

pub returns-clause-runs : goal.returns-clause-runs
returns-clause-runs c = λ forks name. (runs_as forks name, λ h. named_runs forks name h.0 h.1 (runs_can forks h.0 (h.2, h.3)))
