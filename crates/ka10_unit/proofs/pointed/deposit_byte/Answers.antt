use Rattle.std.proofs.Common.{refl}
use Rattle.std.proofs.lemmas.Result.{err_from_is_err_and}
use Rattle.machine_names.specs.declared.names.Kind.TheVariants.{Read}
use Rattle.plain_units.specs.Steps.{refers}
use Rattle.plain_units.specs.Instructions.{finishes}
use Rattle.ka10_deeds.specs.Bytes.{byte_deposited}
use Rattle.ka10_unit.specs.Planning.{reached}
use Rattle.ka10_unit.proofs.Parts.{then_stops, then_ends, done_back}
use Rattle.ka10_unit.proofs.pointed.deposit_byte.Goals as goal

pub returns-in_err-address-clause-told : goal.returns-in_err-address-clause-told
returns-in_err-address-clause-told g c d f fits stands =
    let p = err_from_is_err_and c.from_residual.result c.from_residual.ensures.1 in
    rw (p.1, p.2) (then_stops _ _ _ _ _ (reached c.args.regs.now.ac c.args.pointer) (λ a. refers a.e Read (λ w. finishes c.args.regs.now c.args.ac (byte_deposited c.args.regs.now c.args.ac c.args.pointer a.e w))) _ (c.in_err-address.ensures.told d f fits stands))

pub returns-in_err-word-clause-told : goal.returns-in_err-word-clause-told
returns-in_err-word-clause-told g c d f fits stands =
    let p = err_from_is_err_and c.from_residual-in_err-word.result c.from_residual-in_err-word.ensures.1 in
    let first = c.in_ok-address.ensures.told d f fits stands in
    rw (p.1, p.2) (then_ends _ _ _ _ c.address_of.new.taken _ (reached c.args.regs.now.ac c.args.pointer) (λ a. refers a.e Read (λ w. finishes c.args.regs.now c.args.ac (byte_deposited c.args.regs.now c.args.ac c.args.pointer a.e w))) _ _ first
    (then_stops _ _ _ c.address_of.new.taken _ (refers c.in_ok-address.address.e Read) (λ w. finishes c.args.regs.now c.args.ac (byte_deposited c.args.regs.now c.args.ac c.args.pointer c.in_ok-address.address.e w)) _ (c.in_err-word.ensures.told d f fits first.stands)))

pub returns-clause-told : goal.returns-clause-told
returns-clause-told g c d f fits stands =
    let first = c.in_ok-address.ensures.told d f fits stands in
    let second = c.in_ok-word.ensures.told d f fits first.stands in
    then_ends _ _ _ _ c.address_of.new.taken _ (reached c.args.regs.now.ac c.args.pointer) (λ a. refers a.e Read (λ w. finishes c.args.regs.now c.args.ac (byte_deposited c.args.regs.now c.args.ac c.args.pointer a.e w))) _ _ first
    (then_ends _ _ _ c.address_of.new.taken _ _ (refers c.in_ok-address.address.e Read) (λ w. finishes c.args.regs.now c.args.ac (byte_deposited c.args.regs.now c.args.ac c.args.pointer c.in_ok-address.address.e w)) _ _ second
    (c.finish.ensures.told d f _ c.args.regs.now fits second.stands (done_back _ c.args.ac c.in_ok-address.address.e _ c.args.regs.now _ _ c.do_deposit-told.ensures refl)))
