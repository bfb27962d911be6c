use Rattle.std.proofs.Common.{◌≡◌, Option, Some, None, sym, ◌∙◌, ap, subst}
use Rattle.std.specs.Prelude.{is_some}
use Rattle.std.specs.Option.{option_map_or}
use Rattle.std.specs.Ordering.{nat_cmp}
use Rattle.machine_names.specs.declared.names.ForkName.{ForkName}
use Rattle.plain_model.specs.declared.fork.Fork.{Fork}
use Rattle.plain_model.specs.ForkCalls.{ForkParts}
use Rattle.plain_model.specs.Inferiors.{is_inferior}
use Rattle.plain_model.specs.Trees.{PlainTree}
use Rattle.fork_tree.specs.Inferiors.{without}
use Rattle.event_deeds.proofs.Leaves.{last_is, last_none}
use Rattle.job_forks.specs.Holding.{parts}
use Rattle.job_commands.specs.Needing.{NeedsLast, NeedsMap}
use Rattle.job_commands.proofs.Parts.{gone_apart, gone_stay, left_alone}
use Rattle.job_commands.proofs.leaving.kill_next.Goals as goal

pub returns-in_default-clause-some : goal.returns-in_default-clause-some
returns-in_default-clause-some g c = ap is_some (sym (last_none c.args.tree.now c.are_trees.ensures c.args.who c.in_default.ensures))

pub returns-in_default-clause-told : goal.returns-in_default-clause-told
returns-in_default-clause-told g c d fits =
    let v : ForkParts nat_cmp = parts c.args.tree.now (g.P.Pages.means.plain c.args.pages.now d) in
    (fits, sym (ap (λ (o : Option Fork). option_map_or (λ f. without v f.name) o v) (last_none c.args.tree.now c.are_trees.ensures c.args.who c.in_default.ensures)))

pub returns-in_default-clause-leaves : goal.returns-in_default-clause-leaves
returns-in_default-clause-leaves g c = left_alone g.P.Pages.means c.args.pages.now c.args.tree.now c.args.who c.requires.holds

pub returns-in-Err-clause-needs : goal.returns-in-Err-clause-needs
returns-in-Err-clause-needs g c =
    let means = g.P.Pages.means in
    let k = c.in-Some.ensures in
    subst (λ (o : Option Fork). NeedsLast means c.args.pages.now o c.in-Err.need) (sym (last_is c.args.tree.now c.are_trees.ensures c.args.who c.in-Some.name k))
    (subst (λ (n : ForkName). NeedsMap means c.args.pages.now n c.in-Err.need) (sym k.named) c.in-Err.ensures.needs)

pub returns-in-Ok-clause-some : goal.returns-in-Ok-clause-some
returns-in-Ok-clause-some g c = ap is_some (sym (last_is c.args.tree.now c.are_trees.ensures c.args.who c.in-Some.name c.in-Some.ensures))

pub returns-in-Ok-clause-told : goal.returns-in-Ok-clause-told
returns-in-Ok-clause-told g c d fits =
    let k = c.in-Some.ensures in
    let v : ForkParts nat_cmp = parts c.args.tree.now (g.P.Pages.means.plain c.args.pages.now d) in
    let n = c.kill_bare.ensures.told d fits in
    let after : parts c.kill_bare.new.tree (g.P.Pages.means.plain c.kill_bare.new.pages d) ≡ without v c.in-Some.name = λ i. record { tree = c.kill_bare.ensures.tree i; pages = n.1 i } in
    (n.0, after ∙ ap (without v) (sym k.named) ∙ sym (ap (λ (o : Option Fork). option_map_or (λ f. without v f.name) o v) (last_is c.args.tree.now c.are_trees.ensures c.args.who c.in-Some.name k)))

pub returns-in-Ok-clause-leaves : goal.returns-in-Ok-clause-leaves
returns-in-Ok-clause-leaves g c =
    let tree = c.args.tree.now in
    let who = c.args.who in
    let name = c.in-Some.name in
    let is = c.are_trees.ensures in
    let below = ap (is_inferior tree.forks who) (sym c.in-Some.ensures.named) ∙ c.in-Some.ensures.leaf.below in
    let gone = ap (λ (t : PlainTree). t.forks) c.kill_bare.ensures.tree in
    record {
      holds = c.kill_bare.ensures.holds;
      kept = c.kill_bare.ensures.kept;
      tops = gone_stay tree c.kill_bare.new.tree is who name below gone;
      others = gone_apart tree c.kill_bare.new.tree is who name below gone;
      made = c.kill_bare.ensures.made who.tty;
      loses = c.kill_bare.ensures.loses;
    }
