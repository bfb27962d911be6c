use Rattle.ka10_unit.proofs.Stepping.{steps_call, steps_ended, steps_ordinary}
use Rattle.ka10_unit.proofs.plans.do_at.Goals as goal

pub returns-in-Monitor-clause-told : goal.returns-in-Monitor-clause-told
returns-in-Monitor-clause-told g c d f fits stands = rw c.in-Monitor.is (steps_call _ _ _ c.args.taken.now c.args.address.now.e stands)

pub returns-in-Xct-clause-told : goal.returns-in-Xct-clause-told
returns-in-Xct-clause-told g c d f fits stands = rw c.in-Xct.is (c.go_on.ensures.told d f fits stands)

pub returns-in-Local-clause-told : goal.returns-in-Local-clause-told
returns-in-Local-clause-told g c d f fits stands = rw c.in-Local.is (c.call_local.ensures.told d f fits stands)

pub returns-in-ByteOp-clause-told : goal.returns-in-ByteOp-clause-told
returns-in-ByteOp-clause-told g c d f fits stands =
    let ended = steps_ended _ _ _ c.args.taken.now c.byte_instruction.new.taken _ _ (c.byte_instruction.ensures.told d f fits stands) in
    rw (c.in-ByteOp.is, c.ended.ensures) (rw c.ac_field-ac.ensures.value at ended)

pub returns-in_default-clause-told : goal.returns-in_default-clause-told
returns-in_default-clause-told g c d f fits stands =
    let ended = steps_ended _ _ _ c.args.taken.now c.ordinary.new.taken _ _ (c.ordinary.ensures.told d f fits stands) in
    let fields = rw (c.opcode.ensures.value, c.ac_field-ac.ensures.value) at ended in
    rw c.ended-in_default.ensures (steps_ordinary _ _ _ c.args.taken.now c.ordinary.new.taken c.args.row c.args.is_local c.args.regs.now c.args.word c.args.address.now _ c.in_default.not-Monitor c.in_default.not-Xct c.in_default.not-Local c.in_default.not-ByteOp fields)
