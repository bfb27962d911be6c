use Rattle.std.proofs.Common.{IsSome, ◌∙◌, sym, subst}
use Rattle.std.specs.FinMap as map
use Rattle.plain_model.specs.Trees.{PlainTree}
use Rattle.paged_system.proofs.ListsTied.{awoken_live, can_follow_all, tied_all}
use Rattle.paged_system.proofs.Awoken.{runs_on, slots_on, waits_on}
use Rattle.paged_system.proofs.following.follow_awoken.Goals as goal

pub follow_all-requires : goal.follow_all-requires
follow_all-requires c =
    let h = c.requires.had in
    record {
      can = can_follow_all h.old.forks h.trees.slotted c.args.lists.now h.tied c.args.tree.now.forks
          (λ g lives. subst (λ (x : PlainTree). IsSome (map.get x.forks g)) (sym h.changed.1) (awoken_live h.old h.trees h.changed.0 g lives));
    }

pub returns-clause-moved : goal.returns-clause-moved
returns-clause-moved c old trees tied awoke =
    let now = c.args.tree.now in
    c.follow_all.ensures.schedule ∙ c.following_is_moving.ensures.all old.forks now.forks c.args.lists.now trees.slotted c.are_trees.ensures.slotted tied (slots_on awoke.0 old now trees c.are_trees.ensures awoke.1)
    (runs_on awoke.0 old now trees c.are_trees.ensures awoke.1) (waits_on awoke.0 old now trees c.are_trees.ensures awoke.1)

pub returns-clause-tied : goal.returns-clause-tied
returns-clause-tied c =
    let h = c.requires.had in
    tied_all h.old.forks h.trees.slotted c.args.lists.now h.tied c.args.tree.now.forks c.follow_all.new.self c.follow_all.ensures.follows
