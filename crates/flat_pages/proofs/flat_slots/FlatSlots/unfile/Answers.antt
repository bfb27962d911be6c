use Rattle.std.proofs.Common.{ap, ◌∙◌, sym, refl, is_some}
use Rattle.flat_tables.specs.TableSteps.{tables_of}
use Rattle.flat_pages.proofs.Agreement.{filed_named}
use Rattle.flat_pages.proofs.FileSetting.{file_none_step, file_left_step, filed_share, join_below}
use Rattle.flat_pages.proofs.flat_slots.FlatSlots.unfile.Goals as goal

pub returns-in_default : goal.returns-in_default
returns-in_default g c =
    let s = c.args.self.now in
    let store = g.S.Store.means in
    let sound = g.met.S.Store.sound s.store in
    file_none_step store s.store s.store sound sound s.tables s.tables _ s.agree refl (sym c.filed.ensures ∙ c.in_default.is) refl

pub returns-then-share-eq1 : goal.returns-then-share-eq1
returns-then-share-eq1 g c = c.free_filed.ensures

pub invariant_of-self : goal.invariant_of-self
invariant_of-self g c =
    let s = c.args.self.now in
    let store = g.S.Store.means in
    let sound = g.met.S.Store.sound s.store in
    let step = file_left_step store s.store s.store sound sound s.tables c.leave_file.new.self _ s.agree refl c.in-Some.home (sym c.filed.ensures ∙ c.in-Some.is) (λ one. c.if-share-eq1.false (c.share.ensures ∙ one)) (c.leave_file.ensures (store.homes s.store)) in
    record { agree = step.0; told = step.1 }

pub returns : goal.returns
returns g c =
    let s = c.args.self.now in
    let store = g.S.Store.means in
    let sound = g.met.S.Store.sound s.store in
    (file_left_step store s.store s.store sound sound s.tables c.leave_file.new.self _ s.agree refl c.in-Some.home (sym c.filed.ensures ∙ c.in-Some.is) (λ one. c.if-share-eq1.false (c.share.ensures ∙ one)) (c.leave_file.ensures (store.homes s.store))).2

pub leave_file-requires-clause-share : goal.leave_file-requires-clause-share
leave_file-requires-clause-share g c =
    let s = c.args.self.now in
    let t = tables_of (g.S.Store.means.homes s.store) s.tables in
    join_below t s.agree c.in-Some.home (ap is_some (filed_named t s.agree _ c.in-Some.home (sym c.filed.ensures ∙ c.in-Some.is)).1)

pub leave_file-requires-clause-some : goal.leave_file-requires-clause-some
leave_file-requires-clause-some g c =
    let s = c.args.self.now in
    let t = tables_of (g.S.Store.means.homes s.store) s.tables in
    filed_share t s.agree _ c.in-Some.home (sym c.filed.ensures ∙ c.in-Some.is)
