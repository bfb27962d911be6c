-- The body of one fork is lent out of those of all.
use Rattle.std.specs.Prelude.{ℕ, Option}
use Rattle.std.specs.Option.{option_map}
use Rattle.std.specs.Borrow.{Fml, Lends, LendsIf, MutBor}
use Rattle.std.specs.contracts.option.Option.{the_row as option_row}
use Rattle.machine_names.specs.declared.names.Tty.{Tty}
use Rattle.machine_names.specs.declared.names.ForkName.{ForkName}
use Rattle.plain_model.specs.declared.fork.Fork.{Fork}
use Rattle.plain_model.specs.declared.fork.Body.{Body}
use Rattle.plain_model.specs.contracts.fork.Fork.{the_row as fork_row}
use Rattle.plain_model.specs.contracts.fork.Body.{the_row as body_row}
use Rattle.plain_model.specs.Forks.{ForkMap, fork_in}
use Rattle.plain_model.specs.Trees.{PlainTree, changed, with_body}
use Rattle.fork_tree.specs.contracts.fork_table.ForkTable.{the_row as table_row}
use Rattle.fork_tree.specs.contracts.tree.Tree.{the_row as tree_row}
use Rattle.fork_tree.specs.Changes.{with_body_at, with_body_of}

-- the fork in a place then has the body that was left there
abbrev pub LendsPlace : MutBor (Option Fork) → MutBor Body → Fml
LendsPlace place body = Lends (option_row fork_row) body_row place body (λ b. option_map (with_body b) place.now)

-- the fork in a slot of a job then has the body that was left there, and all else stays
abbrev pub LendsIn : MutBor ForkMap → Tty → ℕ → MutBor Body → Fml
LendsIn forks t slot body = Lends table_row body_row forks body (λ b. changed forks.now (with_body b) (fork_in forks.now t slot))

-- the same of a tree
abbrev pub LendsAt : MutBor PlainTree → Tty → ℕ → MutBor Body → Fml
LendsAt tree t slot body = Lends tree_row body_row tree body (with_body_at tree.now t slot)

-- the fork of a name then has the body that was left there, and all else stays
abbrev pub LendsOf : MutBor PlainTree → ForkName → Option (MutBor Body) → Fml
LendsOf tree name body = LendsIf tree_row body_row tree body (with_body_of tree.now name) tree.now
