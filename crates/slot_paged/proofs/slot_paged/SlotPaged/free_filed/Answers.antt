use Rattle.std.proofs.Common.{List, None, sym, subst}
use Rattle.machine_names.specs.Orders.{file_page}
use Rattle.page_contracts.specs.Stores.{HomePlace}
use Rattle.paged_tables.specs.FiledSteps.{SetsFiled}
use Rattle.paged_tables.specs.PagedTables.{AreKept, Beside, beside_of}
use Rattle.paged_tables.proofs.FiledKept.{gone_kept}
use Rattle.paged_tables.proofs.FilingSteps.{gone_step}
use Rattle.slot_paged.proofs.slot_paged.SlotPaged.free_filed.Goals as goal

pub invariant_of-self : goal.invariant_of-self
invariant_of-self g c =
    let s = c.args.self.now in
    let b = beside_of s.tables in
    let places = g.S.Store.means.homes s.store in
    let f = file_page c.args.file.0 c.args.page in
    let kept = gone_kept b places s.kept f c.args.home c.requires.there c.requires.alone in
    record { kept = subst (λ (x : Beside × List HomePlace). AreKept x.0 x.1) (λ i. (sym c.free_file.ensures i, sym c.free.ensures.homes i)) kept }

pub returns : goal.returns
returns g c =
    let s = c.args.self.now in
    let b = beside_of s.tables in
    let f = file_page c.args.file.0 c.args.page in
    subst (λ (x : Beside). SetsFiled g.S.Store.means s.store c.free.new.self b x f None) (sym c.free_file.ensures)
    (gone_step g.S.Store.means s.store b s.kept (g.met.S.Store.sound s.store) f c.free.new.self c.args.home c.requires.there c.requires.alone c.free.ensures)
