use Rattle.std.proofs.Common.{◌≤◌, ◌∙◌, ap, arith, length, subst, Some, List, ℕ}
use Rattle.std.specs.Prelude.{if◌then◌else◌}
use Rattle.std.specs.Ordering.{nat_cmp}
use Rattle.std.specs.BTreeMap.{Updates}
use Rattle.std.specs.Str.{bytes_eq}
use Rattle.asm_core.specs.Passes.{kept}
use Rattle.asm_core.proofs.Keys.{kept_put}
use Rattle.asm_core.proofs.symbols.Symbols.insert.Goals as goal

pub returns-in-Ok-clause-put : goal.returns-in-Ok-clause-put
returns-in-Ok-clause-put c other =
    let s = c.as_slice.result.now in
    let few : length s ≤ 6 = omega (arith, ap length c.as_slice.ensures, c.requires) in
    let updates = subst (λ (k : ℕ). Updates nat_cmp c.args.self.now.values c.insert.new.self k (Some c.args.value)) c.key.ensures.value c.in-Ok.ensures.updates in
    kept_put c.args.self.now (record { values = c.insert.new.self }) s c.args.value few c.key.ensures.bytes updates other
    ∙ ap (λ (l : List ℕ). if bytes_eq l other then Some c.args.value else kept c.args.self.now other) c.as_slice.ensures
