use Rattle.ka10_unit.proofs.Stepping.{steps_stop, steps_on}
use Rattle.machine_names.specs.declared.names.Kind.TheVariants.{Execute}
use Rattle.plain_units.specs.Steps.{refers}
use Rattle.ka10_unit.proofs.plans.go_on.Goals as goal

pub returns-in-Err-clause-told : goal.returns-in-Err-clause-told
returns-in-Err-clause-told g c d f fits stands = steps_stop _ _ _ _ _ (refers c.args.at Execute) (λ next. next c.args.is_local) _ (c.in-Err.ensures.told d f fits stands)

pub returns-in-Ok-clause-told : goal.returns-in-Ok-clause-told
returns-in-Ok-clause-told g c d f fits stands = steps_on _ _ _ _ _ c.args.at c.in-Ok.word c.args.is_local (c.in-Ok.ensures.told d f fits stands)
