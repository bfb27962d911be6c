-- What units of a fork, and a turn of a call, leave of the forks of all jobs.
use Rattle.std.proofs.Common.{◌≡◌, ℕ, ◌+◌, None, Some, refl, sym, ◌∙◌, ap, subst, arith, inl, inr}
use Rattle.std.specs.Prelude.{IsSome}
use Rattle.std.specs.Option.{option_map}
use Rattle.std.specs.FinMap as map
use Rattle.plain_model.specs.declared.fork.Body.{Body}
use Rattle.plain_model.specs.declared.fork.Fork.{Fork}
use Rattle.plain_model.specs.Forks.{ForkMap}
use Rattle.page_contracts.specs.Pages.{PagesMeaning}
use Rattle.plain_model.specs.Trees.{PlainTree, with_body}
use Rattle.fork_tree.specs.Trees.{IsTree, Lives}
use Rattle.fork_tree.proofs.Kept.{changed_tree, name_unused}
use Rattle.fork_tree.proofs.Slots.{cases_name, get_put, get_put_other, held_lives}
use Rattle.job_forks.specs.Holding.{CallLeaves, CameFrom, ComeOrNew, Holds, SamePlaces}
use Rattle.job_forks.specs.Limits.{IsBody}
use Rattle.job_forks.proofs.Holdings.{holds_same, holds_still}
use Rattle.job_forks.proofs.Places.{came_itself}
use Rattle.monitor_calls.specs.ForkUnit.{CameOn, ComeOn, Kept, LeavesForks, put_back}
use Rattle.monitor_calls.specs.Makings.{Makes, most_makings}
use Rattle.monitor_calls.proofs.Keeping.{kept_body, more_keeps}
use Rattle.monitor_calls.proofs.Sounds.{lives_now}

pub came_less : (forks : ForkMap) (f : Fork) (n : ℕ) → CameFrom forks f → CameOn forks n f
came_less forks f n c = record { before = c.before; lived = c.lived; name = c.name; slot = c.slot; units = omega (arith, c.units); within = c.within }

came_more : (forks : ForkMap) (g h : Fork) (n : ℕ) → CameFrom forks g → Kept g h n → CameOn forks n h
came_more forks g h n c k = record {
  before = c.before;
  lived = c.lived;
  name = k.name ∙ c.name;
  slot = k.slot ∙ c.slot;
  units = omega (arith, k.units, c.units);
  within = λ b. kept_body g h n k (c.within b);
}

-- one fork has another body, behind so many units
module _ (tree : PlainTree) (is : IsTree tree) (g : Fork) (lives : Lives tree.forks g) (body : Body) (n : ℕ) (keeps : Kept g (with_body body g) n) where
  abbrev h : Fork
  h = with_body body g

  abbrev left : PlainTree
  left = put_back tree h

  left_is : IsTree left
  left_is = changed_tree tree g h is lives refl refl refl

  same_places : SamePlaces tree.forks left.forks
  same_places q = elim (cases_name q g.name) [
    | inl at ↦ ap (option_map (λ (f : Fork). f.slot)) (get_put tree.forks g.name q h at) ∙ sym (ap (option_map (λ (f : Fork). f.slot)) (ap (map.get tree.forks) at ∙ lives))
    | inr ne ↦ ap (option_map (λ (f : Fork). f.slot)) (get_put_other tree.forks g.name q h ne)
  ]

  pub left_holds : {P : Type 0} (means : PagesMeaning P) (p : P) → Holds means p tree.forks → Holds means p left.forks
  left_holds means p holds = holds_same means p tree.forks left.forks is.slotted left_is.slotted same_places holds

  left_there : IsSome (map.get left.forks g.name)
  left_there = subst IsSome (sym (get_put tree.forks g.name g.name h refl)) refl

  pub left_came : (x : Fork) → Lives left.forks x → CameOn tree.forks n x
  left_came x e = elim (lives_now tree.forks g.name h x e) [
    | inl same ↦ subst (CameOn tree.forks n) same (came_more tree.forks g h n (came_itself tree.forks g lives) keeps)
    | inr old ↦ came_less tree.forks x n (came_itself tree.forks x old)
  ]

  -- units of it alone
  pub leaves_one : {P : Type 0} (means : PagesMeaning P) (p q : P) → Holds means p tree.forks → Makes means p q g.name.tty most_makings → LeavesForks means p q tree left g n
  leaves_one means p q holds made = record {
    holds = left_holds means q (holds_still means p q tree.forks made.lives made.forks holds);
    kept = λ x e. inl (left_came x e);
    caller = left_there;
    tops = λ name top. same_places name ∙ top;
    made = record { most = made.most; serial = made.own; serials = made.others };
  }

  -- and then a turn of a call of it
  pub leaves_then : {P : Type 0} (means : PagesMeaning P) (p q r : P) (last : PlainTree) (m : ℕ) → Makes means p q g.name.tty 0 → LeavesForks means q r left last h m → LeavesForks means p r tree last g (n + m)
  leaves_then means p q r last m made then = record {
    holds = then.holds;
    kept = λ x e. elim (then.kept x e) [
      | inl came ↦
          let first = left_came came.before came.lived in
          inl (record {
            before = first.before;
            lived = first.lived;
            name = came.name ∙ first.name;
            slot = came.slot ∙ first.slot;
            units = omega (arith, came.units, first.units);
            within = λ b. came.within (first.within b);
          })
      | inr new ↦ inr (record { name = new.name; units = new.units; within = new.within; below = new.below })
    ];
    caller = then.caller;
    tops = λ name top. then.tops name (same_places name ∙ top);
    made = record {
      most = then.made.most ∙ made.most;
      serial = omega (arith, then.made.serial, made.own);
      serials = λ t ne. then.made.serials t ne ∙ made.others t ne;
    };
  }

-- the fork that called, behind a change that keeps it
module _ (old new : PlainTree) (was : IsTree old) (is : IsTree new) (come : ComeOrNew old new.forks) (f g : Fork) (lived : Lives old.forks f) (fits : IsBody f.body) (there : map.get new.forks f.name ≡ Some g) where
  named : g.name ≡ f.name
  named = is.slotted.own f.name g there

  pub caller_lives : Lives new.forks g
  caller_lives = held_lives new.forks is.slotted f.name g there

  caller_came : CameFrom old.forks g
  caller_came = elim (come g caller_lives) [
    | inl came ↦ came
    | inr made ↦
        let unused : map.get old.forks f.name ≡ None = ap (map.get old.forks) (sym named ∙ made.name) ∙ name_unused old g.name.tty was in
        absurd (let no : Some f ≡ None = sym lived ∙ unused in cc no)
  ]

  caller_same : caller_came.before ≡ f
  caller_same = let both : Some caller_came.before ≡ Some f = sym caller_came.lived ∙ ap (map.get old.forks) (sym caller_came.name ∙ named) ∙ lived in cc both

  pub caller_within : IsBody g.body
  caller_within = caller_came.within (subst (λ (x : Fork). IsBody x.body) (sym caller_same) fits)

  -- it has run as many units
  pub caller_keeps : Kept f g 0
  caller_keeps = record {
    name = named;
    slot = caller_came.slot ∙ ap (λ (x : Fork). x.slot) caller_same;
    superior = caller_came.superior ∙ ap (λ (x : Fork). x.superior) caller_same;
    status = λ s. caller_within.status;
    pc = caller_within.pc;
    accumulators = caller_within.accumulators;
    units = omega (arith, caller_came.units, ap (λ (x : Fork). x.body.units) caller_same);
  }

  module _ (body : Body) (keeps : Kept g (with_body body g) 1) where
    abbrev after : Fork
    after = with_body body g

    pub after_keeps : Kept f after 1
    after_keeps = more_keeps f g after 0 1 caller_keeps keeps

    after_come : ComeOn old 1 (put_back new after).forks
    after_come x e = elim (lives_now new.forks g.name after x e) [
      | inl same ↦ inl (subst (CameOn old.forks 1) same (came_more old.forks g after 1 caller_came keeps))
      | inr other ↦ elim (come x other) [ inl came ↦ inl (came_less old.forks x 1 came) | inr made ↦ inr made ]
    ]

    -- and then counts its turn
    pub turn_leaves : {P : Type 0} (means : PagesMeaning P) (p q : P) → CallLeaves means p q old new f.name most_makings → LeavesForks means p q old (put_back new after) f 1
    turn_leaves means p q left = record {
      holds = left_holds new is g caller_lives body 1 keeps means q left.holds;
      kept = after_come;
      caller = subst (λ name. IsSome (map.get (put_back new after).forks name)) named (left_there new is g caller_lives body 1 keeps);
      tops = λ name top. same_places new is g caller_lives body 1 keeps name ∙ left.tops name top;
      made = left.made;
    }
