use Rattle.std.proofs.Common.{Some, sym, subst}
use Rattle.machine_names.specs.Orders.{file_page}
use Rattle.paged_tables.specs.FiledSteps.{SetsFiled}
use Rattle.paged_tables.specs.PagedTables.{AreKept, beside_of}
use Rattle.paged_tables.proofs.FiledKept.{filed_small}
use Rattle.paged_tables.proofs.FilingSteps.{joined_after}
use Rattle.slot_paged.proofs.slot_paged.SlotPaged.join_file.Goals as goal

pub join_file-requires-clause-few : goal.join_file-requires-clause-few
join_file-requires-clause-few g c = (let mid = c.share_page.new.self in filed_small (beside_of mid.tables) (g.S.Store.means.homes mid.store) mid.kept c.args.home.0)

pub invariant_of-self : goal.invariant_of-self
invariant_of-self g c =
    let s = c.args.self.now in
    let mid = c.share_page.new.self in
    let store = g.S.Store.means in
    let k = joined_after store s.store (beside_of s.tables) s.kept (g.met.S.Store.sound s.store) (file_page c.args.file.0 c.args.page) c.args.home c.requires.named c.requires.none c.requires.page (beside_of mid.tables) (beside_of c.join_file.new.self) c.share_page.ensures.shared c.join_file.ensures in
    record { kept = subst (λ x. AreKept (beside_of c.join_file.new.self) (store.homes x)) (sym c.share_page.ensures.store) k.0 }

pub returns : goal.returns
returns g c =
    let s = c.args.self.now in
    let mid = c.share_page.new.self in
    let store = g.S.Store.means in
    let k = joined_after store s.store (beside_of s.tables) s.kept (g.met.S.Store.sound s.store) (file_page c.args.file.0 c.args.page) c.args.home c.requires.named c.requires.none c.requires.page (beside_of mid.tables) (beside_of c.join_file.new.self) c.share_page.ensures.shared c.join_file.ensures in
    subst (λ x. SetsFiled store s.store x (beside_of s.tables) (beside_of c.join_file.new.self) (file_page c.args.file.0 c.args.page) (Some c.args.home)) (sym c.share_page.ensures.store) k.1
