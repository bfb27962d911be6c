use Rattle.std.proofs.Common.{◌∙◌, ap}
use Rattle.std.specs.Option.{option_map}
use Rattle.std.specs.FinMap as map
use Rattle.plain_model.specs.Trees.{PlainTree}
use Rattle.fork_tree.specs.Changes.{with_body_of}
use Rattle.job_commands.proofs.Changing.{goes_on, still_there}
use Rattle.job_commands.proofs.running.begin_at.Goals as goal
use Rattle.std.specs.Prelude.{None}
use Rattle.script_texts.specs.declared.status.ForkStatus.TheVariants.{Run as Running}
use Rattle.plain_model.specs.Forks.{first_regs, psi_at_rest}

pub returns-in-Some : goal.returns-in-Some
returns-in-Some c =
    let b = c.in-Some.body.now in
    ap (with_body_of c.freeze.new.self c.args.top) c.begin.ensures
    ∙ ap (λ (x : PlainTree). with_body_of x c.args.top (record b { status = Running; regs = record first_regs { pc = c.args.address }; psi = psi_at_rest; sleep = None })) c.freeze.ensures
    ∙ goes_on c.args.tree.now c.requires.tree c.args.top c.requires.lives (λ body. record body { status = Running; regs = record first_regs { pc = c.args.address }; psi = psi_at_rest; sleep = None }) b
    (c.in-Some.ensures.body ∙ ap (λ (x : PlainTree). option_map (λ f. f.body) (map.get x.forks c.args.top)) c.freeze.ensures)

pub returns-in_default : goal.returns-in_default
returns-in_default c =
    absurd (still_there c.args.tree.now c.requires.tree c.args.top c.requires.lives (c.in_default.ensures.body ∙ ap (λ (x : PlainTree). option_map (λ f. f.body) (map.get x.forks c.args.top)) c.freeze.ensures))
