use Rattle.plain_units.specs.Deeds.{in_ac}
use Rattle.plain_laws.proofs.ByteBack.{read_back}
use Rattle.plain_laws.proofs.byte_laws.bytes_are_read_back.Goals as goal

pub returns : goal.returns
returns c = λ s u f g i j q w own held grants pages files whole lives named ready together. read_back s u f i j (in_ac f.body.regs 2) s.pages q w.machine w.machine.pages own held grants pages files together g whole.machine lives named ready
