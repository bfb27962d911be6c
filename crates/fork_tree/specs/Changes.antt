-- A fork with another body, or with the freeze mark or without it.
use Rattle.std.specs.Prelude.{ℕ, Bool, Option, None}
use Rattle.std.specs.Option.{option_map_or}
use Rattle.machine_names.specs.declared.names.Tty.{Tty}
use Rattle.machine_names.specs.declared.names.ForkName.{ForkName}
use Rattle.plain_model.specs.declared.fork.Fork.{Fork}
use Rattle.plain_model.specs.declared.fork.Body.{Body}
use Rattle.script_texts.specs.declared.status.ForkStatus.TheVariants.{Halted}
use Rattle.plain_model.specs.Forks.{fork_in, first_regs, psi_at_rest}
use Rattle.plain_model.specs.Trees.{PlainTree, changed, with_body, with_changed_of, with_mark}

-- the fork of a name has another body; nothing changes where none lives
abbrev pub with_body_of : PlainTree → ForkName → Body → PlainTree
with_body_of tree name body = with_changed_of tree name (with_body body)

-- the fork in a slot of a job has another body; nothing changes where none is
abbrev pub with_body_at : PlainTree → Tty → ℕ → Body → PlainTree
with_body_at tree t slot body = record tree { forks = changed tree.forks (with_body body) (fork_in tree.forks t slot) }

-- the fork of a name has the freeze mark, or not
abbrev pub with_mark_of : PlainTree → ForkName → Bool → PlainTree
with_mark_of tree name on = with_changed_of tree name (with_mark on)

-- the body of a fork, where there is one
abbrev pub body_in : Option Fork → Body
body_in f = option_map_or (λ k. k.body) f (record { status = Halted; regs = first_regs; psi = psi_at_rest; sleep = None; units = 0; error = 0 })
