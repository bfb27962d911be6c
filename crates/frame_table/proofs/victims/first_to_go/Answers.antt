use Rattle.std.proofs.Common.{rules, sym, ◌∙◌}
use Rattle.frame_table.proofs.Reaching.{first_is}
use Rattle.frame_table.proofs.victims.first_to_go.Goals as goal

pub returns-then-eq : goal.returns-then-eq
returns-then-eq c = first_is c.args.reached.now c.args.seats.now c.requires.reached c.in-Some.f (search rules) (sym c.key.ensures ∙ (search rules) ∙ c.leaving_age.ensures)
