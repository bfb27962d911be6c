use Rattle.std.proofs.Common.{◌≡◌, true, false, sym, ◌∙◌}
use Rattle.psi_system.proofs.Wanting.{looks, no_channel, no_table, off, zero_is}
use Rattle.psi_system.proofs.channels.is_interrupted.Goals.{else-ne, else-psi, then-ne, then-psi}
use Rattle.psi_system.proofs.channels.is_interrupted.Goals as goal

pub returns-then-is_some : goal.returns-then-is_some
returns-then-is_some c = elim c.if-ne.branch [
  | then-ne w ↦ elim c.if-psi.branch [
    | then-psi v ↦ c.wants_one.ensures ∙ looks c.args.psi.now v.if-psi.true (sym w.is_some.ensures ∙ (sym w.value-is ∙ c.if-is_some.true))
    | else-psi v ↦ absurd (let other : true ≡ false = sym w.if-ne.true ∙ (v.value-is ∙ v.if-psi.false) in cc other)
  ]
  | else-ne w ↦ absurd (let other : true ≡ false = sym c.if-is_some.true ∙ (w.value-is ∙ w.if-ne.false) in cc other)
]

pub returns-else-is_some : goal.returns-else-is_some
returns-else-is_some c = elim c.if-ne.branch [
  | then-ne w ↦ c.if-is_some.false ∙ no_table c.args.psi.now (sym w.is_some.ensures ∙ (sym w.value-is ∙ c.if-is_some.false))
  | else-ne w ↦ elim c.if-psi.branch [
    | then-psi v ↦ c.if-is_some.false ∙ no_channel c.args.psi.now (zero_is c.args.psi.now.pending (sym v.ne.ensures ∙ (sym v.value-is ∙ w.if-ne.false)))
    | else-psi v ↦ c.if-is_some.false ∙ off c.args.psi.now v.if-psi.false
  ]
]
