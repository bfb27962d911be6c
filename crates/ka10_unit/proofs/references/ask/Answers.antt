use Rattle.std.proofs.Common.{◌≡◌, false, inl, refl, arith}
use Rattle.std.proofs.lemmas.Bool.Decides.{nat_tests}
use Rattle.plain_pages.specs.References.{slot_at}
use Rattle.plain_units.specs.Steps.{is_accumulator}
use Rattle.ka10_unit.specs.Gathers.{framed}
use Rattle.ka10_unit.proofs.Adding.{asks_went, asks_need, asks_denied, asks_full}
use Rattle.ka10_unit.proofs.references.ask.Goals as goal

pub returns-in-Went-clause-told : goal.returns-in-Went-clause-told
returns-in-Went-clause-told g c d fits gathers =
    let high : is_accumulator c.args.at ≡ false = grind (arith, nat_tests) in
    asks_went c.args.fork (inl c.requires.serves.terminal) (framed g.P.Pages.means c.args.pages.now d) _ _ c.requires.own.owner c.args.at c.args.kind high gathers _ (c.in-Went.ensures.told d fits gathers (slot_at c.args.fork c.args.at) c.page_of_address.ensures)

pub returns-in-Need-clause-told : goal.returns-in-Need-clause-told
returns-in-Need-clause-told g c d fits gathers =
    let high : is_accumulator c.args.at ≡ false = grind (arith, nat_tests) in
    asks_need c.args.fork (inl c.requires.serves.terminal) (framed g.P.Pages.means c.args.pages.now d) _ _ c.requires.own.owner c.args.at c.args.kind high gathers c.in-Need.need (c.in-Need.ensures.told d fits gathers (slot_at c.args.fork c.args.at) c.page_of_address.ensures)
    (c.in-Need.ensures.stopped (λ no. cc no))

pub returns-in-Denied-clause-told : goal.returns-in-Denied-clause-told
returns-in-Denied-clause-told g c d fits gathers =
    let high : is_accumulator c.args.at ≡ false = grind (arith, nat_tests) in
    asks_denied c.args.fork (inl c.requires.serves.terminal) (framed g.P.Pages.means c.args.pages.now d) _ _ c.requires.own.owner c.args.at c.args.kind high gathers c.in-Denied.kind _ (c.in-Denied.ensures.told d fits gathers (slot_at c.args.fork c.args.at) c.page_of_address.ensures)
    (c.in-Denied.ensures.stopped (λ no. cc no)) c.denied.ensures

pub returns-in-Full-clause-told : goal.returns-in-Full-clause-told
returns-in-Full-clause-told g c d fits gathers =
    let high : is_accumulator c.args.at ≡ false = grind (arith, nat_tests) in
    asks_full c.args.fork (inl c.requires.serves.terminal) (framed g.P.Pages.means c.args.pages.now d) _ _ c.requires.own.owner c.args.at c.args.kind high gathers _ (c.in-Full.ensures.told d fits gathers (slot_at c.args.fork c.args.at) c.page_of_address.ensures)
    (c.in-Full.ensures.stopped (λ no. cc no)) refl
