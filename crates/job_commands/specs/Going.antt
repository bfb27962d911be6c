-- Which forks go on.
use Rattle.std.specs.Prelude.{Bool, ◌&&◌, ◌==◌, not}
use Rattle.plain_model.specs.declared.fork.Fork.{Fork}
use Rattle.plain_model.specs.Commands.{is_forced}

-- a fork can go on: it wasn't forced, and has run
abbrev pub can_continue : Fork → Bool
can_continue f = not (is_forced f.body.status) && not (f.body.units == 0)
