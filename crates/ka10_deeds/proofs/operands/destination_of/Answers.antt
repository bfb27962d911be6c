use Rattle.std.proofs.Common.{◌≡◌, IsSome, inl, inr, subst, sym}
use Rattle.word36.specs.Arithmetic.{arithmetic}
use Rattle.word36.specs.Boolean.{boolean_of}
use Rattle.ka10_table.specs.declared.families.Family.{Family}
use Rattle.plain_units.specs.Deeds.{Operands, deed_of, in_ac, operand_of, operands, taken_by, taken_of}
use Rattle.ka10_deeds.specs.Done.{store_at, stored_word}
use Rattle.ka10_deeds.proofs.operands.destination_of.Goals as goal
use Rattle.plain_units.proofs.Shorthands.{done_by}

pub returns-in-Imul-clause-value : goal.returns-in-Imul-clause-value
unfolding deed_of
returns-in-Imul-clause-value c = λ op last m.
    let regs = c.args.regs.now in
    let o : Operands = operands regs c.args.ac c.args.e last m in
    let at = c.result_destination in
    let P : Family → Type 0 = λ f.
    store_at at.result (stored_word (done_by f c.args.row.mode c.args.row.code op o).store)
    ≡ (done_by f c.args.row.mode c.args.row.code op o).store in
    elim c.in-Imul.is [
      | inl h ↦ subst P (sym h) (at.ensures.operations regs c.args.ac (arithmetic op o.a o.a1 m))
      | inr x ↦ elim x [
        | inl h ↦ subst P (sym h) (at.ensures.operations regs c.args.ac (arithmetic op o.a o.a1 m))
        | inr x ↦ elim x [
          | inl h ↦ subst P (sym h) (at.ensures.operations regs c.args.ac (arithmetic op o.a o.a1 m))
          | inr x ↦ elim x [
            | inl h ↦ subst P (sym h) (at.ensures.operations regs c.args.ac (arithmetic op o.a o.a1 m))
            | inr x ↦ elim x [
              | inl h ↦ subst P (sym h) (at.ensures.operations regs c.args.ac (arithmetic op o.a o.a1 m))
              | inr x ↦ elim x [
                | inl h ↦ subst P (sym h) (at.ensures.booleans regs c.args.ac (boolean_of op o.a m))
                | inr h ↦ subst P (sym h) (at.ensures.halves op regs c.args.ac last m)
              ]
            ]
          ]
        ]
      ]
    ]

pub returns-in-Imul-clause-back : goal.returns-in-Imul-clause-back
unfolding taken_of
returns-in-Imul-clause-back c = λ back.
    let regs = c.args.regs.now in
    let some : IsSome (operand_of c.args.row.mode c.args.e) = c.result_destination.ensures.back back in
    let P : Family → Type 0 = λ f. IsSome (taken_by f c.args.row.mode c.args.row.code (in_ac regs c.args.ac) c.args.e) in
    elim c.in-Imul.is [
      | inl h ↦ subst P (sym h) some
      | inr x ↦ elim x [
        | inl h ↦ subst P (sym h) some
        | inr x ↦ elim x [
          | inl h ↦ subst P (sym h) some
          | inr x ↦ elim x [
            | inl h ↦ subst P (sym h) some
            | inr x ↦ elim x [
              | inl h ↦ subst P (sym h) some
              | inr x ↦ elim x [
                | inl h ↦ subst P (sym h) some
                | inr h ↦ subst P (sym h) some
              ]
            ]
          ]
        ]
      ]
    ]
