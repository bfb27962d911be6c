use Rattle.std.proofs.Common.{◌<◌, ◌∙◌, ap, arith, length}
use Rattle.std.specs.Ordering.{nat_cmp}
use Rattle.std.specs.BTreeMap.{get}
use Rattle.asm_core.specs.Passes.{kept}
use Rattle.asm_core.proofs.Keys.{kept_is, kept_long}
use Rattle.asm_core.proofs.symbols.Symbols.get.Goals as goal

pub returns-then-symbol-gt-SYMBOL_CHARACTERS : goal.returns-then-symbol-gt-SYMBOL_CHARACTERS
returns-then-symbol-gt-SYMBOL_CHARACTERS c =
    let long : 6 < length c.args.symbol.now = omega (arith, ap length c.as_slice-symbol.ensures) in
    kept_long c.args.self.now c.args.symbol.now long

pub returns : goal.returns
returns c =
    let table = c.args.self.now in
    let found = c.copied.ensures ∙ (c.get.ensures.value ∙ ap (λ k. get nat_cmp table.values k) c.key.ensures.value) in
    found ∙ (kept_is table c.as_slice-symbol.result.now c.if-symbol-gt-SYMBOL_CHARACTERS.false c.key.ensures.bytes ∙ ap (kept table) c.as_slice-symbol.ensures)
