use Rattle.std.proofs.Common.{◌-◌, length, get_or, arith}
use Rattle.asm_core.proofs.Keys.{bytes_read, key_small, key_step, power_small}
use Rattle.asm_core.proofs.symbols.key.Goals as goal

pub overflow_mul-number : goal.overflow_mul-number
overflow_mul-number c = let most = power_small (length c.args.symbol.now) c.loop-place.place c.requires in omega (arith, c.loop-place.invariant.below)

pub overflow_add-number : goal.overflow_add-number
overflow_add-number c = let byte = (c.type_inv.symbol (c.loop-place.place - 1)).fits in omega arith

pub overflow_add-number-in-loop-place : goal.overflow_add-number-in-loop-place
overflow_add-number-in-loop-place c =
    let most = power_small (length c.args.symbol.now) c.loop-place.place c.requires in
    let byte = (c.type_inv.symbol (c.loop-place.place - 1)).fits in
    omega (arith, c.loop-place.invariant.below)

pub loop-place-preserved : goal.loop-place-preserved
loop-place-preserved c =
    let l = c.loop-place in
    let s = c.args.symbol.now in
    record {
      value = key_step s l.place l.number c.loop-place-test.true l.auto.place l.invariant.value;
      below = key_small (length s) l.place l.number (get_or s (l.place - 1) 0) c.loop-place-test.true l.auto.place (c.type_inv.symbol (l.place - 1)).fits l.invariant.below;
    }

pub returns-clause-bytes : goal.returns-clause-bytes
returns-clause-bytes c = bytes_read c.args.symbol.now c.type_inv.symbol
