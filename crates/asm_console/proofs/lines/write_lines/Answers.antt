use Rattle.std.proofs.Common.{◌∙◌, ap, arith, sym, take, drop, subst, ◌+◌, ◌<◌, ◌^◌}
use Rattle.std.proofs.lemmas.List.Elements.{All-get_or}
use Rattle.asm_core.specs.declared.line.Placed.{Placed}
use Rattle.script_lang.proofs.FlatMaps.{flat_more, flat_split}
use Rattle.asm_console.specs.Lines.{lines_text, placed_line}
use Rattle.asm_console.proofs.Below.{IsBelow}
use Rattle.asm_console.proofs.Scripts.{fits_all, fits_more}
use Rattle.asm_console.proofs.Writes.{any_err, grows_same, grows_then, partly_longer, partly_same, partly_then}
use Rattle.asm_console.proofs.lines.write_lines.Goals as goal

pub returns-in_err-write_placed-clause-err : goal.returns-in_err-write_placed-clause-err
returns-in_err-write_placed-clause-err g c =
    let i = c.loop-placed.placed-index in
    let p = c.placed-item.result in
    let program = c.args.program.now in
    let t = c.args.t in
    let partly = partly_same _ _ _ _ (ap (placed_line t) c.placed-item.is) c.in_err-write_placed.ensures.err in
    any_err c.from_residual.result
    (partly_same _ _ _ _ (sym (flat_split (placed_line t) program i p c.loop-placed-test.true))
    (partly_then _ _ _ (lines_text t (take i program)) _ c.loop-placed.invariant.grows (partly_longer _ _ _ (lines_text t (drop (i + 1) program)) partly)))

pub loop-placed-preserved : goal.loop-placed-preserved
loop-placed-preserved g c =
    let i = c.loop-placed.placed-index in
    let p = c.placed-item.result in
    let program = c.args.program.now in
    let t = c.args.t in
    let done = c.in_ok-write_placed.ensures in
    record {
      unfaulted = done.unfaulted ∙ c.loop-placed.invariant.unfaulted;
      fits = fits_more t program i p c.loop-placed-test.true c.loop-placed.invariant.fits (c.requires.terminal, All-get_or IsBelow program i p c.loop-placed-test.true c.requires.below, subst (λ (q : Placed). q.word < 2 ^ 36) c.placed-item.is done.small);
      grows = grows_same _ _ _ _ (sym (flat_more (placed_line t) program i p c.loop-placed-test.true))
          (grows_then _ _ _ _ _ c.loop-placed.invariant.grows (grows_same _ _ _ _ (ap (placed_line t) c.placed-item.is) done.ok));
    }

pub returns-clause-fits : goal.returns-clause-fits
returns-clause-fits g c = fits_all c.args.t c.args.program.now c.loop-placed.placed-index (omega (arith, c.loop-placed-test.false)) c.loop-placed.invariant.fits
