use Rattle.std.proofs.Common.{◌∙◌, ap}
use Rattle.std.specs.Option.{option_map}
use Rattle.std.specs.FinMap as map
use Rattle.plain_model.specs.declared.fork.Body.{Body}
use Rattle.plain_model.specs.Commands.{without_halt}
use Rattle.plain_model.specs.Trees.{PlainTree}
use Rattle.fork_tree.specs.Changes.{with_body_of}
use Rattle.job_commands.proofs.Changing.{goes_on, still_there}
use Rattle.job_commands.proofs.going.resume.Goals as goal

pub returns-in-Some : goal.returns-in-Some
returns-in-Some c =
    let b = c.in-Some.body.now in
    let tree = c.args.tree.now in
    let left : Body → Body = λ x. record x { status = without_halt x.status } in
    ap (λ status. with_body_of c.freeze.new.self c.args.top (record b { status = status })) c.without_halt-body.ensures
    ∙ ap (λ (x : PlainTree). with_body_of x c.args.top (left b)) c.freeze.ensures
    ∙ goes_on tree c.requires.tree c.args.top c.requires.lives left b (c.in-Some.ensures.body ∙ ap (λ (x : PlainTree). option_map (λ f. f.body) (map.get x.forks c.args.top)) c.freeze.ensures)

pub returns-in_default : goal.returns-in_default
returns-in_default c =
    absurd (still_there c.args.tree.now c.requires.tree c.args.top c.requires.lives (c.in_default.ensures.body ∙ ap (λ (x : PlainTree). option_map (λ f. f.body) (map.get x.forks c.args.top)) c.freeze.ensures))
