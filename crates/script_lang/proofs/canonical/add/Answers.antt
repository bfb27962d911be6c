use Rattle.std.proofs.Common.{arith}
use Rattle.script_lang.proofs.CanonicalRoom.{adds_part}
use Rattle.script_lang.proofs.canonical.add.Goals as goal

pub returns : goal.returns
returns c = adds_part c.args.room.now _ c.args.text.now c.args.at _ c.copy_from_slice.ensures.after (omega arith) (omega (arith, c.requires))
