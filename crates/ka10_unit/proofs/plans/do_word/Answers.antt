use Rattle.std.proofs.Common.{◌≡◌, ◌∙◌, sym, ap, true, false}
use Rattle.ka10_table.specs.declared.families.TableRow.{TableRow}
use Rattle.ka10_table.specs.Rows.{row_of}
use Rattle.plain_units.specs.Addressing.{ac_field, opcode}
use Rattle.ka10_unit.specs.Planning.{does_at, is_illegal, reached}
use Rattle.ka10_unit.proofs.Stepping.{refuses, takes_address, steps_stop, steps_at}
use Rattle.ka10_unit.proofs.plans.do_word.Goals as goal

pub returns-then-is_illegal-clause-told : goal.returns-then-is_illegal-clause-told
returns-then-is_illegal-clause-told g c d f fits stands =
    let row : TableRow = c.row-row.result in
    let is : row ≡ row_of (opcode c.args.word) = c.row-row.ensures.row ∙ ap row_of c.opcode.ensures.value in
    let illegal : is_illegal row.family c.args.is_local (ac_field c.args.word) ≡ true = ap (is_illegal row.family c.args.is_local) (sym c.ac_field.ensures.value) ∙ sym c.is_illegal.ensures ∙ c.if-is_illegal.true in
    rw (← is) (refuses _ _ _ c.args.regs.now c.args.word c.args.is_local row c.args.taken.now stands illegal)

pub returns-in-Err-clause-told : goal.returns-in-Err-clause-told
returns-in-Err-clause-told g c d f fits stands =
    let row : TableRow = c.row-row.result in
    let is : row ≡ row_of (opcode c.args.word) = c.row-row.ensures.row ∙ ap row_of c.opcode.ensures.value in
    let legal : is_illegal row.family c.args.is_local (ac_field c.args.word) ≡ false = ap (is_illegal row.family c.args.is_local) (sym c.ac_field.ensures.value) ∙ sym c.is_illegal.ensures ∙ c.if-is_illegal.false in
    rw (← is) (takes_address _ _ _ c.args.regs.now c.args.word c.args.is_local row c.args.taken.now _ _ legal
    (steps_stop _ _ _ c.args.taken.now _ (reached c.args.regs.now.ac c.args.word) (λ next a. does_at row.family row c.args.is_local c.args.regs.now c.args.word a next) c.in-Err.stop (c.in-Err.ensures.told d f fits stands)))

pub returns-in-Ok-clause-told : goal.returns-in-Ok-clause-told
returns-in-Ok-clause-told g c d f fits stands =
    let row : TableRow = c.row-row.result in
    let is : row ≡ row_of (opcode c.args.word) = c.row-row.ensures.row ∙ ap row_of c.opcode.ensures.value in
    let legal : is_illegal row.family c.args.is_local (ac_field c.args.word) ≡ false = ap (is_illegal row.family c.args.is_local) (sym c.ac_field.ensures.value) ∙ sym c.is_illegal.ensures ∙ c.if-is_illegal.false in
    let first = c.in-Ok.ensures.told d f fits stands in
    rw (← is) (takes_address _ _ _ c.args.regs.now c.args.word c.args.is_local row c.args.taken.now _ _ legal
    (steps_at _ _ _ c.args.taken.now c.address_of.new.taken _ (reached c.args.regs.now.ac c.args.word) (λ next a. does_at row.family row c.args.is_local c.args.regs.now c.args.word a next) c.in-Ok.address _ first (c.do_at.ensures.told d f fits first.stands)))
