use Rattle.std.proofs.Common.{sym, ◌∙◌, ap}
use Rattle.plain_files.specs.NamedFiles.{open_file}
use Rattle.plain_units.specs.declared.registers.Regs.{Regs}
use Rattle.plain_model.specs.declared.call.ByteChange.TheVariants.{Nothing}
use Rattle.plain_model.specs.Calls.{with_ac}
use Rattle.plain_model.specs.FileCalls.{skipping}
use Rattle.plain_model.specs.ByteCalls.{is_open, jfn_open}
use Rattle.file_bytes.specs.Asking.{asked}
use Rattle.file_bytes.proofs.Ending.{ends_with, fails_with, is_word}
use Rattle.byte_io.proofs.positions.rfptr.Goals as goal

pub returns-in-Ok-clause-turn : goal.returns-in-Ok-clause-turn
returns-in-Ok-clause-turn c input pages =
    let a = asked c.args.who c.args.regs.now c.args.tables.now input pages in
    let j = open_file c.args.tables.now.dir c.in-Ok.jfn in
    let usable = c.in-Ok.ensures.fits.0.0 in
    ends_with (λ k. skipping Nothing (with_ac a.regs 2 k.at)) (jfn_open is_open a) j c.skipping.result (c.in-Ok.ensures.held input pages)
    (c.skipping.ensures.end ∙ ap (λ (r : Regs). skipping Nothing r) (c.with_ac.ensures.with ∙ ap (with_ac a.regs 2) (c.wrapped.ensures ∙ sym (is_word c.in-Ok.jfn usable.1.1 usable.1.2))))

pub returns-in-Err-clause-turn : goal.returns-in-Err-clause-turn
returns-in-Err-clause-turn c input pages =
    let a = asked c.args.who c.args.regs.now c.args.tables.now input pages in
    fails_with (λ k. skipping Nothing (with_ac a.regs 2 k.at)) (jfn_open is_open a) c.in-Err.code (c.in-Err.ensures.held input pages)
