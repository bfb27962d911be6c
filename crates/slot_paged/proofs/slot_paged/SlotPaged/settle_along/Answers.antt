use Rattle.std.proofs.Common.{◌≡◌, true, Some, sym, ◌∙◌, subst}
use Rattle.page_homes.specs.declared.homes.Home.{Home}
use Rattle.page_contracts.specs.Stores.{is_here, place}
use Rattle.slot_paged.proofs.SettledPages.{alone_is_one, alone_settled, copied_is_here, copy_settled, used_is_here, used_settled, zero_settled}
use Rattle.slot_paged.proofs.slot_paged.SlotPaged.settle_along.Goals as goal

pub returns-in_default : goal.returns-in_default
returns-in_default g c =
    let r = c.requires in
    zero_settled g.met.S.Store.sound c.args.self.now c.args.at c.args.way c.args.kind c.args.owner r.owner r.lives r.page r.walks r.stands r.ready c.make_named.new.self c.in_default.is c.make_named.ensures

pub used-requires : goal.used-requires
used-requires g c =
    let r = c.requires in
    used_is_here g.met.S.Store.sound c.args.self.now c.args.at c.args.way c.args.kind c.args.owner r.owner r.lives r.page r.walks r.stands r.ready c.in-Some.home c.in-Some.is (sym c.copy_for.ensures ∙ c.in_default-copy_for.is)

pub returns-in_default-copy_for : goal.returns-in_default-copy_for
returns-in_default-copy_for g c =
    let r = c.requires in
    used_settled g.met.S.Store.sound c.args.self.now c.args.at c.args.way c.args.kind c.args.owner r.owner r.lives r.page r.walks r.stands r.ready c.in-Some.home c.in-Some.is c.used.new.self (sym c.copy_for.ensures ∙ c.in_default-copy_for.is) c.used.ensures.used c.used.ensures.homes

pub copy_alone-requires-clause-one : goal.copy_alone-requires-clause-one
copy_alone-requires-clause-one g c =
    let r = c.requires in
    alone_is_one g.met.S.Store.sound c.args.self.now c.args.at c.args.way c.args.kind c.args.owner r.owner r.lives r.page r.walks r.stands r.ready c.in-Some.home c.in-Some.is c.in-Some-copy_for.to (sym c.copy_for.ensures ∙ c.in-Some-copy_for.is) (sym c.is_alone.ensures ∙ c.if-is_alone.true)

pub copy_alone-requires-clause-here : goal.copy_alone-requires-clause-here
copy_alone-requires-clause-here g c =
    let r = c.requires in
    copied_is_here g.met.S.Store.sound c.args.self.now c.args.at c.args.way c.args.kind c.args.owner r.owner r.lives r.page r.walks r.stands r.ready c.in-Some.home c.in-Some.is c.in-Some-copy_for.to (sym c.copy_for.ensures ∙ c.in-Some-copy_for.is)

pub make_named-requires-else-is_alone-clause-from : goal.make_named-requires-else-is_alone-clause-from
make_named-requires-else-is_alone-clause-from g c k is =
    let r = c.requires in
    let same : c.in-Some.home ≡ k = (let z : Some c.in-Some.home ≡ Some k = is in cc z) in
    subst (λ (y : Home). is_here (place (g.S.Store.means.homes c.args.self.now.store) y.0) ≡ true) same
    (copied_is_here g.met.S.Store.sound c.args.self.now c.args.at c.args.way c.args.kind c.args.owner r.owner r.lives r.page r.walks r.stands r.ready c.in-Some.home c.in-Some.is c.in-Some-copy_for.to (sym c.copy_for.ensures ∙ c.in-Some-copy_for.is))

pub returns-then-is_alone : goal.returns-then-is_alone
returns-then-is_alone g c =
    let r = c.requires in
    alone_settled g.met.S.Store.sound c.args.self.now c.args.at c.args.way c.args.kind c.args.owner r.owner r.lives r.page r.walks r.stands r.ready c.in-Some.home c.in-Some.is c.in-Some-copy_for.to (sym c.copy_for.ensures ∙ c.in-Some-copy_for.is)
    c.copy_alone.new.self (sym c.is_alone.ensures ∙ c.if-is_alone.true) c.copy_alone.ensures

pub returns-else-is_alone : goal.returns-else-is_alone
returns-else-is_alone g c =
    let r = c.requires in
    copy_settled g.met.S.Store.sound c.args.self.now c.args.at c.args.way c.args.kind c.args.owner r.owner r.lives r.page r.walks r.stands r.ready c.in-Some.home c.in-Some.is c.in-Some-copy_for.to (sym c.copy_for.ensures ∙ c.in-Some-copy_for.is)
    c.make_named-else-is_alone.new.self (sym c.is_alone.ensures ∙ c.if-is_alone.false) c.make_named-else-is_alone.ensures
