use Rattle.std.proofs.Common.{◌∙◌, ap, sym}
use Rattle.std.specs.FinMap as map
use Rattle.plain_model.specs.Interrupts.{channels_of}
use Rattle.fork_tree.proofs.Posted.{all_put, all_told, whether}
use Rattle.fork_tree.proofs.tree.Tree.post_channels.Goals as goal

pub returns-then-forced-clause-forks : goal.returns-then-forced-clause-forks
returns-then-forced-clause-forks c =
    let tree = c.args.self.now in
    let name = c.args.name in
    c.tell_end.ensures
    ∙ ap (λ m. record tree { forks = m })
    (all_told tree.forks name (channels_of c.args.channels) c.in-Some.body.now c.post_all-forced.new.body c.in-Some.ensures.body (c.are_trees.ensures.slotted.own name) c.post_all-forced.ensures.fork
    (sym c.post_all-forced.ensures.forced ∙ c.if-forced.true))

pub returns-then-forced-clause-forced : goal.returns-then-forced-clause-forced
returns-then-forced-clause-forced c =
    c.post_all-forced.ensures.forced
    ∙ whether (map.get c.args.self.now.forks c.args.name) c.in-Some.body.now (channels_of c.args.channels) c.in-Some.ensures.body

pub returns-else-forced-clause-forks : goal.returns-else-forced-clause-forks
returns-else-forced-clause-forks c =
    let tree = c.args.self.now in
    let name = c.args.name in
    ap (λ m. record tree { forks = m })
    (all_put tree.forks name (channels_of c.args.channels) c.in-Some.body.now c.post_all-forced.new.body c.in-Some.ensures.body (c.are_trees.ensures.slotted.own name) c.post_all-forced.ensures.fork
    (sym c.post_all-forced.ensures.forced ∙ c.if-forced.false))

pub returns-else-forced-clause-forced : goal.returns-else-forced-clause-forced
returns-else-forced-clause-forced c =
    c.post_all-forced.ensures.forced
    ∙ whether (map.get c.args.self.now.forks c.args.name) c.in-Some.body.now (channels_of c.args.channels) c.in-Some.ensures.body
