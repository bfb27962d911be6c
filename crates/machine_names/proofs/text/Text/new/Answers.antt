use Rattle.machine_names.proofs.Fixed.{padded_text}
use Rattle.machine_names.proofs.text.Text.new.Goals as goal

pub invariant_of-result : goal.invariant_of-result
invariant_of-result g c = padded_text g.row.N c.args.text.now c.copy_from_slice.new.self c.copy_from_slice.ensures.after c.requires
