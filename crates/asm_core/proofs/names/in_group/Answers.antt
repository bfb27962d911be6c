use Rattle.std.proofs.Common.{◌+◌, ℕ, arith, sym, ◌∙◌, ap, Option}
use Rattle.asm_core.specs.Cutting.{pieces}
use Rattle.asm_core.specs.Names.{meaning, of_group, of_stems, or_else}
use Rattle.asm_core.proofs.Naming.{stems_cut, stems_uncut}
use Rattle.asm_core.proofs.names.in_group.Goals as goal

pub returns-in-Some-of_stem : goal.returns-in-Some-of_stem
unfolding of_group
returns-in-Some-of_stem c =
    let l = c.loop-stem in
    let word = c.args.word.now in
    let ends = pieces 32 c.args.endings.now in
    let others = c.in-Some.others.now in
    let step = stems_cut c.args.ending_step ends c.args.stem_step l.op l.left.now word c.in-Some.stem.now others c.in-Some.ensures.cut in
    let here = ap (λ (o : Option ℕ). or_else o (meaning (of_stems c.args.ending_step ends c.args.stem_step (l.op + c.args.stem_step) (pieces 32 others)) word)) (sym c.in-Some-of_stem.ensures) in
    sym (step ∙ here) ∙ l.invariant.same

pub loop-stem-preserved : goal.loop-stem-preserved
loop-stem-preserved c =
    let l = c.loop-stem in
    let word = c.args.word.now in
    let ends = pieces 32 c.args.endings.now in
    let others = c.in-Some.others.now in
    let step = stems_cut c.args.ending_step ends c.args.stem_step l.op l.left.now word c.in-Some.stem.now others c.in-Some.ensures.cut in
    let there = ap (λ (o : Option ℕ). or_else o (meaning (of_stems c.args.ending_step ends c.args.stem_step (l.op + c.args.stem_step) (pieces 32 others)) word)) (sym c.in_default-of_stem.ensures) in
    record {
      small = omega (arith, c.in-Some.ensures.shorter, l.invariant.small, c.requires.stem_step);
      same = sym (step ∙ there) ∙ l.invariant.same;
    }

pub returns : goal.returns
unfolding of_group
returns c =
    let l = c.loop-stem in
    sym (stems_uncut c.args.ending_step (pieces 32 c.args.endings.now) c.args.stem_step l.op l.left.now c.args.word.now c.in_default.ensures.cut) ∙ l.invariant.same
