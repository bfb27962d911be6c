use Rattle.std.proofs.Common.{◌≡◌, true, false, inl, refl, sym, ap, arith}
use Rattle.std.proofs.lemmas.Bool.Decides.{nat_tests}
use Rattle.machine_names.specs.declared.names.Kind.TheVariants.{Write}
use Rattle.plain_pages.specs.References.{slot_at}
use Rattle.plain_units.specs.declared.channel.TheConstants.{DENIED_WRITE}
use Rattle.plain_units.specs.Steps.{denied_channel, is_accumulator}
use Rattle.ka10_unit.specs.Gathers.{framed}
use Rattle.ka10_unit.proofs.Adding.{asks_denied, asks_full, asks_need, asks_went}
use Rattle.text_pointers.proofs.Opening.{accumulator_opens, open_stops, word_opens}
use Rattle.text_pointers.proofs.Readable.{answered_as}
use Rattle.text_pointers.proofs.reader.Reader.writable.Goals as goal

pub returns-then-at-lt-ACCUMULATORS-clause-told : goal.returns-then-at-lt-ACCUMULATORS-clause-told
returns-then-at-lt-ACCUMULATORS-clause-told g c d fits stands =
    let low : is_accumulator c.args.at ≡ true = grind (arith, nat_tests) in
    accumulator_opens c.args.self.now.fork (framed g.P.Pages.means c.args.pages.now d) c.args.self.now c.args.at _ low stands

pub returns-in-Went-clause-told : goal.returns-in-Went-clause-told
returns-in-Went-clause-told g c d fits stands =
    let f = c.args.self.now.fork in
    let p = framed g.P.Pages.means c.args.pages.now d in
    let high : is_accumulator c.args.at ≡ false = grind (arith, nat_tests) in
    let asked = asks_went f (inl c.requires.serves.terminal) p _ _ c.args.self.now.own.owner c.args.at Write high stands.gathers tt (c.in-Went.ensures.told d fits stands.gathers (slot_at f c.args.at) c.place-place.ensures) in
    word_opens f p c.args.self.now _ c.args.at _ asked (record { fork = refl; gathers = asked.gathers; page = tt })

pub returns-in-Need-clause-told : goal.returns-in-Need-clause-told
returns-in-Need-clause-told g c d fits stands =
    let f = c.args.self.now.fork in
    let p = framed g.P.Pages.means c.args.pages.now d in
    let high : is_accumulator c.args.at ≡ false = grind (arith, nat_tests) in
    open_stops f p c.args.self.now _ c.args.at _ (asks_need f (inl c.requires.serves.terminal) p _ _ c.args.self.now.own.owner c.args.at Write high stands.gathers c.in-Need.need (c.in-Need.ensures.told d fits stands.gathers (slot_at f c.args.at) c.place-place.ensures)
    (c.in-Need.ensures.stopped (λ no. cc no)))

pub returns-in-Denied-clause-told : goal.returns-in-Denied-clause-told
returns-in-Denied-clause-told g c d fits stands =
    let f = c.args.self.now.fork in
    let p = framed g.P.Pages.means c.args.pages.now d in
    let high : is_accumulator c.args.at ≡ false = grind (arith, nat_tests) in
    let adds = c.in-Denied.ensures.told d fits stands.gathers (slot_at f c.args.at) c.place-place.ensures in
    let same : c.in-Denied.field-0 ≡ Write = answered_as _ _ _ _ _ _ adds.is in
    open_stops f p c.args.self.now _ c.args.at _ (asks_denied f (inl c.requires.serves.terminal) p _ _ c.args.self.now.own.owner c.args.at Write high stands.gathers c.in-Denied.field-0 DENIED_WRITE adds (c.in-Denied.ensures.stopped (λ no. cc no)) (sym (ap denied_channel same)))

pub returns-in-Full-clause-told : goal.returns-in-Full-clause-told
returns-in-Full-clause-told g c d fits stands =
    let f = c.args.self.now.fork in
    let p = framed g.P.Pages.means c.args.pages.now d in
    let high : is_accumulator c.args.at ≡ false = grind (arith, nat_tests) in
    open_stops f p c.args.self.now _ c.args.at _ (asks_full f (inl c.requires.serves.terminal) p _ _ c.args.self.now.own.owner c.args.at Write high stands.gathers _ (c.in-Full.ensures.told d fits stands.gathers (slot_at f c.args.at) c.place-place.ensures)
    (c.in-Full.ensures.stopped (λ no. cc no)) refl)
