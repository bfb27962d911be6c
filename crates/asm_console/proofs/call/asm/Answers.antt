use Rattle.std.proofs.Common.{subst, sym}
use Rattle.std.specs.Prelude.{All}
use Rattle.asm_console.specs.Endings.{Assembled, Judges}
use Rattle.asm_console.proofs.Below.{IsBelow, program_below}
use Rattle.asm_console.proofs.Judging.{judged}
use Rattle.asm_console.proofs.Whole.{whole}
use Rattle.asm_console.proofs.call.asm.Goals as goal

pub write_program-requires-clause-below : goal.write_program-requires-clause-below
write_program-requires-clause-below g c =
    let is = c.in-Ok.ensures.program in
    subst (λ l. All IsBelow l) (sym c.as_slice.ensures.value) (program_below is.text c.in-Ok.program.items is.assembled)

pub returns-in-Ok-clause-assembled : goal.returns-in-Ok-clause-assembled
returns-in-Ok-clause-assembled g c =
    let left = g.S.Source.left c.args.source.now in
    let left' = g.S.Source.left c.read_program.new.source in
    let taken = g.T.Sink.taken c.args.out.now in
    let taken' = g.T.Sink.taken c.write_program.new.out in
    subst (λ h. Assembled c.args.terminal left left' h taken taken') (sym c.end_behind.ensures)
    (whole c.args.terminal left left' taken taken' c.in-Ok.program.items c.as_slice.result.now c.write_program.result c.as_slice.ensures.value c.in-Ok.ensures.program
    c.write_program.ensures.fits c.write_program.ensures.ok c.write_program.ensures.err)

pub returns-in-Err-clause-judged : goal.returns-in-Err-clause-judged
returns-in-Err-clause-judged g c bytes told =
    subst (Judges bytes) (sym c.end_behind-in-Err.ensures) (judged _ _ bytes c.in-Err.why c.write_stopped.result told c.in-Err.ensures.why)
