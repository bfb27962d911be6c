use Rattle.std.proofs.Common.{refl, true}
use Rattle.machine_names.specs.declared.names.Kind.TheVariants.{Execute, Write}
use Rattle.plain_units.specs.Steps.{refers, keeps}
use Rattle.plain_units.specs.Instructions.{local_word, LOCAL_CALL, LOCAL_HANDLER}
use Rattle.ka10_unit.proofs.Stepping.{steps_stop, local_stands, local_goes}
use Rattle.ka10_unit.proofs.plans.call_local.Goals as goal

pub returns-in-Err-clause-told : goal.returns-in-Err-clause-told
returns-in-Err-clause-told g c d f fits stands =
    steps_stop _ _ _ _ _ (refers LOCAL_CALL Write) (λ next v. keeps LOCAL_CALL (local_word c.args.word c.args.e) (refers LOCAL_HANDLER Execute (next true))) _ (c.in-Err.ensures.told d f fits stands)

pub returns-in-Ok-clause-told : goal.returns-in-Ok-clause-told
returns-in-Ok-clause-told g c d f fits stands =
    let first = c.in-Ok.ensures.told d f fits stands in
    let may = c.in-Ok.ensures.writes d f fits stands refl in
    local_goes _ _ _ _ c.refer.new.taken _ _ c.args.word c.args.e _ c.stored_call.result _ refl refl refl c.stored_call.ensures first (c.go_on.ensures.told d f fits (local_stands _ _ c.args.regs.now.ac c.refer.new.taken _ 0 c.stored_call.result refl refl refl first.stands may))
