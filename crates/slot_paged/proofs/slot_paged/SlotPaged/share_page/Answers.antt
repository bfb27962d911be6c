use Rattle.std.proofs.Common.{refl, sym, subst, arith}
use Rattle.paged_tables.specs.FiledSteps.{got, had}
use Rattle.paged_tables.specs.PagedTables.{AreKept, Beside, beside_of}
use Rattle.paged_tables.proofs.FiledKept.{room_there, share_kept}
use Rattle.paged_tables.proofs.FiledShares.{name_below}
use Rattle.slot_paged.proofs.slot_paged.SlotPaged.share_page.Goals as goal

pub give_share-share-requires-clause-room : goal.give_share-share-requires-clause-room
give_share-share-requires-clause-room g c =
    let s = c.args.self.now in
    let b = beside_of s.tables in
    let below = name_below b.tables.names c.args.home.0 c.requires in
    omega (arith, room_there b.shared c.args.home.0 (omega (arith, below, s.kept.shared.homes)) (sym c.in-None.ensures), s.kept.shared.room, s.kept.shared.homes, s.kept.shared.count)

pub invariant_of-self : goal.invariant_of-self
invariant_of-self g c =
    let s = c.args.self.now in
    let places = g.S.Store.means.homes s.store in
    let k = c.give_share-share.ensures in
    record { kept = subst (λ (x : Beside). AreKept x places) (sym k.given) (share_kept (beside_of s.tables) places s.kept c.args.home c.give_share-share.result (sym c.in-None.ensures) k.fresh k.below c.requires) }

pub returns-in-Some-clause-shared : goal.returns-in-Some-clause-shared
returns-in-Some-clause-shared g c = had c.in-Some.field-0 (sym c.in-Some.ensures) refl

pub returns-in-None-clause-shared : goal.returns-in-None-clause-shared
returns-in-None-clause-shared g c = (let k = c.give_share-share.ensures in got c.give_share-share.result (sym c.in-None.ensures) k.fresh k.below k.given)
