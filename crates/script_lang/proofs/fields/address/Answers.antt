use Rattle.std.proofs.Common.{arith, sym}
use Rattle.script_lang.proofs.Fronts.{octal_below}
use Rattle.script_lang.proofs.fields.address.Goals as goal

pub overflow_cast-result : goal.overflow_cast-result
overflow_cast-result c =
    let h = c.in_ok-read_octal.ensures in
    let small = octal_below 6 c.args.text.now c.in_ok-read_octal.field-0 (h.0, sym h.1) in
    omega arith
