use Rattle.std.proofs.Common.{◌≡◌, ◌+◌, ◌++◌, List, ℕ, arith, sym, ◌∙◌, ap, Some, None, Bool}
use Rattle.std.specs.Prelude.{if◌then◌else◌}
use Rattle.std.proofs.lemmas.Bool.Decides.{Decides-eqb}
use Rattle.std.proofs.lemmas.Slice.Eq.{strip_prefix_is}
use Rattle.asm_core.specs.Cutting.{pieces}
use Rattle.asm_core.specs.Names.{meaning, of_stem}
use Rattle.asm_core.proofs.Naming.{stem_cut, stem_other, stem_uncut}
use Rattle.asm_core.proofs.names.of_stem.Goals as goal

pub returns-in_err-ending : goal.returns-in_err-ending
returns-in_err-ending c =
    rw c.from_residual.ensures (sym (stem_other c.args.step c.args.stem.now c.args.first (pieces 32 c.args.endings.now) c.args.word.now
    (strip_prefix_is Decides-eqb c.args.word.now c.args.stem.now None c.in_err-ending.ensures.cases)))

pub returns-then-eq : goal.returns-then-eq
returns-then-eq c =
    let l = c.loop-name in
    let word : List ℕ = c.args.word.now in
    let stem : List ℕ = c.args.stem.now in
    let whole : word ≡ stem ++ c.in_ok-ending.ending.now = strip_prefix_is Decides-eqb word stem (Some c.in_ok-ending.ending) c.in_ok-ending.ensures.cases in
    let others = c.in-Some.others.now in
    let step = stem_cut c.args.step stem l.op l.left.now word c.in_ok-ending.ending.now whole c.in-Some.name.now others c.in-Some.ensures.cut in
    let here = ap (λ (b : Bool). if b then Some l.op else meaning (of_stem c.args.step stem (l.op + c.args.step) (pieces 32 others)) word) (sym c.if-eq.ensures) in
    sym (step ∙ here) ∙ l.invariant.same

pub loop-name-preserved : goal.loop-name-preserved
loop-name-preserved c =
    let l = c.loop-name in
    let word : List ℕ = c.args.word.now in
    let stem : List ℕ = c.args.stem.now in
    let whole : word ≡ stem ++ c.in_ok-ending.ending.now = strip_prefix_is Decides-eqb word stem (Some c.in_ok-ending.ending) c.in_ok-ending.ensures.cases in
    let others = c.in-Some.others.now in
    let step = stem_cut c.args.step stem l.op l.left.now word c.in_ok-ending.ending.now whole c.in-Some.name.now others c.in-Some.ensures.cut in
    let there = ap (λ (b : Bool). if b then Some l.op else meaning (of_stem c.args.step stem (l.op + c.args.step) (pieces 32 others)) word) (sym c.if-eq.ensures) in
    record {
      small = omega (arith, c.in-Some.ensures.shorter, l.invariant.small, c.requires.step);
      same = sym (step ∙ there) ∙ l.invariant.same;
    }

pub returns : goal.returns
returns c =
    let l = c.loop-name in
    let word : List ℕ = c.args.word.now in
    let stem : List ℕ = c.args.stem.now in
    let whole : word ≡ stem ++ c.in_ok-ending.ending.now = strip_prefix_is Decides-eqb word stem (Some c.in_ok-ending.ending) c.in_ok-ending.ensures.cases in
    sym (stem_uncut c.args.step stem l.op l.left.now word c.in_ok-ending.ending.now whole c.in_default.ensures.cut) ∙ l.invariant.same
