use Rattle.std.proofs.Common.{◌≡◌, ℕ, true, false, nat_le, sym, ◌∙◌, ap, arith, refl, subst}
use Rattle.std.proofs.lemmas.Bool.Decides.{nat_tests}
use Rattle.plain_files.specs.Bytes.{most_bytes}
use Rattle.plain_files.specs.NamedFiles.{open_file}
use Rattle.plain_units.specs.Deeds.{in_ac}
use Rattle.plain_model.specs.declared.call.ByteChange.TheVariants.{Move}
use Rattle.plain_model.specs.FileCalls.{skipping}
use Rattle.plain_model.specs.ByteCalls.{is_open, jfn_open, moving, position_in}
use Rattle.call_turns.specs.Turns.{FitsEnd}
use Rattle.file_bytes.specs.Asking.{IsOpenAs, asked}
use Rattle.file_bytes.specs.Planning.{CanTurn}
use Rattle.file_bytes.proofs.Ending.{can_move, ends_with, fails_with, moves_there, too_far}
use Rattle.byte_io.proofs.positions.sfptr.Goals as goal

pub returns-then-at-most_bytes-clause-turn : goal.returns-then-at-most_bytes-clause-turn
returns-then-at-most_bytes-clause-turn c input pages =
    let a = asked c.args.who c.args.regs.now c.args.tables.now input pages in
    let j = open_file c.args.tables.now.dir c.in-Ok.jfn in
    let at = c.position_in-at.result in
    let few : nat_le at (most_bytes c.in-Ok.jfn.size) ≡ true = grind (arith, nat_tests, c.if-at-most_bytes.true, c.most_bytes.ensures) in
    ends_with (λ k. moving a k (position_in a k (in_ac a.regs 2))) (jfn_open is_open a) j c.skipping.result (c.in-Ok.ensures.held input pages)
    (c.skipping.ensures.end ∙ ap (λ (n : ℕ). skipping (Move c.args.who.tty n at) c.args.regs.now) c.jfn_number.ensures.number ∙ moves_there a j at few
    ∙ ap (moving a j) (c.position_in-at.ensures c.args.who input pages))

pub returns-then-at-most_bytes-clause-fits : goal.returns-then-at-most_bytes-clause-fits
returns-then-at-most_bytes-clause-fits c =
    let tables = c.args.tables.now in
    let t = c.args.who.tty in
    let jfn = c.in-Ok.jfn in
    let n = c.jfn_number.result in
    let held : IsOpenAs tables t n jfn = subst (λ (k : ℕ). IsOpenAs tables t k jfn) (sym c.jfn_number.ensures.number) c.in-Ok.ensures.fits in
    subst (FitsEnd (CanTurn tables t)) (sym c.skipping.ensures.end) ((refl, can_move tables t n jfn c.position_in-at.result held (omega (arith, c.if-at-most_bytes.true, c.most_bytes.ensures))), c.skipping.ensures.fits, tt, tt)

pub returns-else-at-most_bytes-clause-turn : goal.returns-else-at-most_bytes-clause-turn
returns-else-at-most_bytes-clause-turn c input pages =
    let a = asked c.args.who c.args.regs.now c.args.tables.now input pages in
    let j = open_file c.args.tables.now.dir c.in-Ok.jfn in
    let at = c.position_in-at.result in
    let far : nat_le at (most_bytes c.in-Ok.jfn.size) ≡ false = grind (arith, nat_tests, c.if-at-most_bytes.false, c.most_bytes.ensures) in
    ends_with (λ k. moving a k (position_in a k (in_ac a.regs 2))) (jfn_open is_open a) j _ (c.in-Ok.ensures.held input pages)
    (too_far a j at far ∙ ap (moving a j) (c.position_in-at.ensures c.args.who input pages))

pub returns-in-Err-clause-turn : goal.returns-in-Err-clause-turn
returns-in-Err-clause-turn c input pages =
    let a = asked c.args.who c.args.regs.now c.args.tables.now input pages in
    fails_with (λ k. moving a k (position_in a k (in_ac a.regs 2))) (jfn_open is_open a) c.in-Err.code (c.in-Err.ensures.held input pages)
