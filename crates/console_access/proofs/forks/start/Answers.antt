use Rattle.std.proofs.Common.{◌∙◌, ap}
use Rattle.std.specs.Option.{option_map}
use Rattle.std.specs.FinMap as map
use Rattle.fork_tree.specs.Changes.{with_body_of}
use Rattle.plain_model.specs.Trees.{PlainTree}
use Rattle.plain_model.specs.declared.fork.Body.{Body}
use Rattle.script_texts.specs.declared.status.ForkStatus.TheVariants.{Run}
use Rattle.console_access.proofs.Changing.{started_tree, still_there}
use Rattle.console_access.proofs.forks.start.Goals as goal

pub returns-in-Some : goal.returns-in-Some
returns-in-Some c =
    let b = c.in-Some.body.now in
    let left : Body = record b { status = Run; regs = record b.regs { pc = c.args.address } } in
    ap (λ (x : PlainTree). with_body_of x c.args.fork left) c.freeze.ensures
    ∙ started_tree c.args.tree.now c.requires.tree c.args.fork c.requires.lives c.args.address b (c.in-Some.ensures.body ∙ ap (λ (x : PlainTree). option_map (λ f. f.body) (map.get x.forks c.args.fork)) c.freeze.ensures)

pub returns-in_default : goal.returns-in_default
returns-in_default c =
    absurd (still_there c.args.tree.now c.requires.tree c.args.fork c.requires.lives (c.in_default.ensures.body ∙ ap (λ (x : PlainTree). option_map (λ f. f.body) (map.get x.forks c.args.fork)) c.freeze.ensures))
