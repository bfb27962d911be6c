use Rattle.std.proofs.Common.{◌∙◌, ap}
use Rattle.script_lang.specs.Stages.{rest_of}
use Rattle.script_lang.specs.declared.stages.ScriptStage.TheVariants as at
use Rattle.script_lang.proofs.Moves.{opens}
use Rattle.script_lang.proofs.big.big_from.Goals as goal

pub returns : goal.returns
returns c = ap (rest_of (at.Login 0)) c.new.ensures ∙ opens c.args.seed
