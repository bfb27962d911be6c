use Rattle.ka10_deeds.proofs.Acting.{act_is}
use Rattle.ka10_deeds.proofs.acts.act_at.Goals as goal

pub returns : goal.returns
returns c = act_is c.args.op _ c.requires
