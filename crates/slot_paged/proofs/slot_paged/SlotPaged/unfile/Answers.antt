use Rattle.std.proofs.Common.{◌≤◌, ◌∙◌, None, sym, subst, arith}
use Rattle.machine_names.specs.Orders.{file_page}
use Rattle.paged_tables.specs.FiledSteps.{SetsFiled}
use Rattle.paged_tables.specs.PagedTables.{AreKept, Beside, beside_of}
use Rattle.paged_tables.specs.PagedTouches.{names_at}
use Rattle.paged_tables.proofs.FiledKept.{filed_least, left_kept}
use Rattle.paged_tables.proofs.FilingSteps.{left_step, none_step}
use Rattle.slot_paged.proofs.slot_paged.SlotPaged.unfile.Goals as goal

pub returns-in_default : goal.returns-in_default
returns-in_default g c =
    let s = c.args.self.now in
    none_step g.S.Store.means s.store (beside_of s.tables) s.kept (g.met.S.Store.sound s.store) (file_page c.args.file.0 c.args.page) (sym c.filed.ensures ∙ c.in_default.is)

pub leave_file-requires-clause-some : goal.leave_file-requires-clause-some
leave_file-requires-clause-some g c =
    let s = c.args.self.now in
    filed_least (beside_of s.tables) (g.S.Store.means.homes s.store) s.kept (file_page c.args.file.0 c.args.page) c.in-Some.home (sym c.filed.ensures ∙ c.in-Some.is)

pub invariant_of-self : goal.invariant_of-self
invariant_of-self g c =
    let s = c.args.self.now in
    let b = beside_of s.tables in
    let places = g.S.Store.means.homes s.store in
    let f = file_page c.args.file.0 c.args.page in
    let there = sym c.filed.ensures ∙ c.in-Some.is in
    let two : 2 ≤ names_at b c.in-Some.home.0 = omega (arith, filed_least b places s.kept f c.in-Some.home there, s.kept.files.few c.in-Some.home.0, c.names_of.ensures, c.if-names_of-eq1.false) in
    record { kept = subst (λ (x : Beside). AreKept x places) (sym c.leave_file.ensures) (left_kept b places s.kept f c.in-Some.home there two) }

pub returns : goal.returns
returns g c =
    let s = c.args.self.now in
    let b = beside_of s.tables in
    let places = g.S.Store.means.homes s.store in
    let f = file_page c.args.file.0 c.args.page in
    let there = sym c.filed.ensures ∙ c.in-Some.is in
    let two : 2 ≤ names_at b c.in-Some.home.0 = omega (arith, filed_least b places s.kept f c.in-Some.home there, s.kept.files.few c.in-Some.home.0, c.names_of.ensures, c.if-names_of-eq1.false) in
    subst (λ (x : Beside). SetsFiled g.S.Store.means s.store s.store b x f None) (sym c.leave_file.ensures) (left_step g.S.Store.means s.store b s.kept (g.met.S.Store.sound s.store) f c.in-Some.home there two)
