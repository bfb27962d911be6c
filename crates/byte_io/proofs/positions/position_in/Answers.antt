use Rattle.std.proofs.Common.{Bool, cond, sym, ◌∙◌, ap}
use Rattle.plain_files.specs.NamedFiles.{open_file}
use Rattle.plain_units.specs.Deeds.{in_ac}
use Rattle.plain_model.specs.ByteCalls.{end_for}
use Rattle.plain_model.specs.MapCalls.{ALL_ONES}
use Rattle.file_bytes.specs.Asking.{asked}
use Rattle.file_bytes.proofs.Tests.{is_same}
use Rattle.byte_io.proofs.positions.position_in.Goals as goal

pub returns-then-value-eq-MASK : goal.returns-then-value-eq-MASK
returns-then-value-eq-MASK c who input pages =
    let a = asked who c.args.regs.now c.args.tables.now input pages in
    let w = in_ac c.args.regs.now 2 in
    let e = end_for a (open_file c.args.tables.now.dir c.args.jfn) in
    c.end_of.ensures.end ∙ ap (λ (b : Bool). cond b e w) (sym (is_same w ALL_ONES (sym c.accumulator-word.ensures ∙ sym c.value.ensures.value ∙ c.if-value-eq-MASK.true)))
