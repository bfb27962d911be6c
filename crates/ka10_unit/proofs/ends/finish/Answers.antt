use Rattle.std.proofs.Common.{◌≡◌, ◌≢◌, Some, None, refl, arith, true}
use Rattle.std.proofs.lemmas.Result.{err_from_is_err_and}
use Rattle.std.proofs.lemmas.Bool.Decides.{nat_tests}
use Rattle.plain_units.specs.Steps.{is_accumulator}
use Rattle.ka10_deeds.specs.declared.operands.Destination.TheVariants.{Nowhere, Back, Into, Before}
use Rattle.ka10_unit.proofs.UnitEnds.{goes_to, end_is, end_bare, ends_nowhere, ends_back, stops_back, ends_into, stops_into, ends_before, ends_overwritten, stops_before}
use Rattle.ka10_unit.proofs.ends.finish.Goals as goal

pub returns-in_default-clause-told : goal.returns-in_default-clause-told
returns-in_default-clause-told g c d f deed old fits stands done =
    ends_nowhere _ _ _ old c.args.ac deed _ _ stands (goes_to c.args.to c.args.to c.args.told.stored None deed.store done.store refl c.in_default.is)
    (end_bare _ c.args.after _ c.args.told.post _ c.end_with.ensures.regs c.end_with.ensures.put c.end_with.ensures.post done.leaves.regs done.leaves.post)

pub returns-in-Nowhere-clause-told : goal.returns-in-Nowhere-clause-told
returns-in-Nowhere-clause-told g c d f deed old fits stands done =
    ends_nowhere _ _ _ old c.args.ac deed _ _ stands (goes_to c.args.to Nowhere c.args.told.stored (Some c.in-Some.word) deed.store done.store c.in-Nowhere.is c.in-Some.is)
    (end_bare _ c.args.after _ c.args.told.post _ c.end_with-in-Nowhere.ensures.regs c.end_with-in-Nowhere.ensures.put c.end_with-in-Nowhere.ensures.post done.leaves.regs done.leaves.post)

pub returns-in_ok-widen-in-Back-clause-told : goal.returns-in_ok-widen-in-Back-clause-told
returns-in_ok-widen-in-Back-clause-told g c d f deed old fits stands done =
    ends_back _ _ _ old c.args.ac deed _ _ _ c.in-Back.at c.in-Some.word _ (goes_to c.args.to (Back c.in-Back.at) c.args.told.stored (Some c.in-Some.word) deed.store done.store c.in-Back.is c.in-Some.is)
    (c.in_ok-widen-in-Back.ensures.told d f fits stands) (c.in_ok-widen-in-Back.ensures.writes d f fits stands)
    (end_is _ c.args.after _ c.in-Back.at c.in-Some.word _ _ c.end_storing.ensures.is done.leaves.regs done.leaves.post)

pub returns-in_err-widen-in-Back-clause-told : goal.returns-in_err-widen-in-Back-clause-told
returns-in_err-widen-in-Back-clause-told g c d f deed old fits stands done =
    let p = err_from_is_err_and c.from_residual.result c.from_residual.ensures.1 in
    rw (p.1, p.2) (stops_back _ _ _ old c.args.ac deed _ _ _ c.in-Back.at c.in-Some.word (goes_to c.args.to (Back c.in-Back.at) c.args.told.stored (Some c.in-Some.word) deed.store done.store c.in-Back.is c.in-Some.is) (c.in_err-widen-in-Back.ensures.told d f fits stands))

pub returns-in_ok-refer-in-Into-clause-told : goal.returns-in_ok-refer-in-Into-clause-told
returns-in_ok-refer-in-Into-clause-told g c d f deed old fits stands done =
    ends_into _ _ _ old c.args.ac deed _ _ _ c.in-Into.at c.in-Some.word _ (goes_to c.args.to (Into c.in-Into.at) c.args.told.stored (Some c.in-Some.word) deed.store done.store c.in-Into.is c.in-Some.is)
    (c.in_ok-refer-in-Into.ensures.told d f fits stands) (c.in_ok-refer-in-Into.ensures.writes d f fits stands refl)
    (end_is _ c.args.after _ c.in-Into.at c.in-Some.word _ _ c.end_storing-in-Into.ensures.is done.leaves.regs done.leaves.post)

pub returns-in_err-refer-in-Into-clause-told : goal.returns-in_err-refer-in-Into-clause-told
returns-in_err-refer-in-Into-clause-told g c d f deed old fits stands done =
    let p = err_from_is_err_and c.from_residual-in_err-refer-in-Into.result c.from_residual-in_err-refer-in-Into.ensures.1 in
    rw (p.1, p.2) (stops_into _ _ _ old c.args.ac deed _ _ _ c.in-Into.at c.in-Some.word (goes_to c.args.to (Into c.in-Into.at) c.args.told.stored (Some c.in-Some.word) deed.store done.store c.in-Into.is c.in-Some.is) (c.in_err-refer-in-Into.ensures.told d f fits stands))

pub returns-in_err-refer-in-Before-clause-told : goal.returns-in_err-refer-in-Before-clause-told
returns-in_err-refer-in-Before-clause-told g c d f deed old fits stands done =
    let p = err_from_is_err_and c.from_residual-in_err-refer-in-Before.result c.from_residual-in_err-refer-in-Before.ensures.1 in
    rw (p.1, p.2) (stops_before _ _ _ old c.args.ac deed _ _ _ c.in-Before.at c.in-Some.word (goes_to c.args.to (Before c.in-Before.at) c.args.told.stored (Some c.in-Some.word) deed.store done.store c.in-Before.is c.in-Some.is) (c.in_err-refer-in-Before.ensures.told d f fits stands))

pub returns-then-at-from-clause-told : goal.returns-then-at-from-clause-told
returns-then-at-from-clause-told g c d f deed old fits stands done =
    let store = goes_to c.args.to (Before c.in-Before.at) c.args.told.stored (Some c.in-Some.word) deed.store done.store c.in-Before.is c.in-Some.is in
    let block = done.block c.in-Before.at c.in-Some.word store in
    let same : c.in-Before.at ≡ c.args.ac = omega arith in
    let low : is_accumulator c.in-Before.at ≡ true = grind (arith, nat_tests) in
    ends_overwritten _ _ _ old c.args.ac deed block.1.0 block.0 block.1.1 c.in-Before.at c.in-Some.word _ _ _ _ same low store (c.in_ok-refer-in-Before.ensures.told d f fits stands)
    (end_bare _ c.args.after _ c.args.told.post _ c.end_with-then-at-from.ensures.regs c.end_with-then-at-from.ensures.put c.end_with-then-at-from.ensures.post done.leaves.regs done.leaves.post)

pub returns-else-at-from-clause-told : goal.returns-else-at-from-clause-told
returns-else-at-from-clause-told g c d f deed old fits stands done =
    let store = goes_to c.args.to (Before c.in-Before.at) c.args.told.stored (Some c.in-Some.word) deed.store done.store c.in-Before.is c.in-Some.is in
    let block = done.block c.in-Before.at c.in-Some.word store in
    let other : c.in-Before.at ≢ c.args.ac = omega arith in
    ends_before _ _ _ old c.args.ac deed block.1.0 block.0 block.1.1 c.in-Before.at c.in-Some.word _ _ _ _ other store (c.in_ok-refer-in-Before.ensures.told d f fits stands) (c.in_ok-refer-in-Before.ensures.writes d f fits stands refl)
    (end_is _ c.args.after _ c.in-Before.at c.in-Some.word _ _ c.end_storing-in-Before.ensures.is done.leaves.regs done.leaves.post)
