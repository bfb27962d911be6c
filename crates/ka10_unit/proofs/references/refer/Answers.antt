use Rattle.std.proofs.Common.{arith}
use Rattle.ka10_unit.proofs.Referring.{refer_full}
use Rattle.ka10_unit.proofs.references.refer.Goals as goal

pub returns-then-len-clause-told : goal.returns-then-len-clause-told
returns-then-len-clause-told g c d f fits stands = refer_full _ _ _ c.args.taken.now _ _ stands (omega arith)
