use Rattle.std.proofs.Common.{◌∙◌, sym, ap, is_some, subst, List, refl}
use Rattle.machine_names.specs.Orders.{file_page}
use Rattle.page_contracts.specs.Stores.{HomePlace}
use Rattle.flat_tables.specs.SlotTables.{AreTables}
use Rattle.flat_tables.specs.TableSteps.{tables_of}
use Rattle.flat_pages.proofs.Agreement.{filed_named}
use Rattle.flat_pages.proofs.FileSettles.{file_bounds, file_settled, near, ready_at, settled_at, zero_frame, zero_room}
use Rattle.flat_pages.proofs.Rooming.{here_when}
use Rattle.flat_pages.proofs.SlotSettles.{can_copy_apart, can_rename, can_use, can_zero, copied_apart, copied_in_place, mark_held, used_ready, zero_made}
use Rattle.flat_pages.proofs.flat_slots.FlatSlotsPages.settle.Goals as goal
use Rattle.flat_pages.proofs.flat_slots.FlatSlotsPages.settle.Goals.{in_default-entry-via-in-Page+else-share-eq1, in_default-entry-via-in_default-entry}

pub make_zero-requires : goal.make_zero-requires
make_zero-requires g c =
    let can = can_zero g.S.Store.means (λ p. p.store) (λ p. p.tables) c.args.self.now (g.met.S.Store.sound c.args.self.now.store) c.args.self.now.agree c.args.at c.in-Fork.slot c.in-Fork.is c.args.kind c.in-Some.walk c.requires.place (sym c.walk.ensures ∙ c.in-Some.is) c.requires.ready c.in_default-home.is in
    record { empty = can.empty; lives = can.lives; owner = c.requires.owner; serial = c.requires.serial; room = can.room; frame = can.frame }

pub returns-in_default-home : goal.returns-in_default-home
returns-in_default-home g c = zero_made g.S.Store.means (λ p. p.store) (λ p. p.tables) c.args.self.now (g.met.S.Store.sound c.args.self.now.store) c.args.self.now.agree c.args.at c.in-Fork.slot c.in-Fork.is c.args.kind c.in-Some.walk c.requires.place (sym c.walk.ensures ∙ c.in-Some.is) c.requires.ready c.make_zero.new.self (g.met.S.Store.sound c.make_zero.new.self.store) c.make_zero.new.self.agree c.args.owner c.requires.owner c.in_default-home.is c.make_zero.ensures

pub used-requires : goal.used-requires
used-requires g c = can_use g.S.Store.means (λ p. p.store) (λ p. p.tables) c.args.self.now (g.met.S.Store.sound c.args.self.now.store) c.args.self.now.agree c.args.at c.in-Fork.slot c.in-Fork.is c.args.kind c.in-Some.walk c.requires.place (sym c.walk.ensures ∙ c.in-Some.is) c.requires.ready c.in-Some-home.home c.in-Some-home.is (sym c.copy_for.ensures ∙ c.in_default-copy_for.is)

pub returns-in_default-copy_for : goal.returns-in_default-copy_for
returns-in_default-copy_for g c = used_ready g.S.Store.means (λ p. p.store) (λ p. p.tables) c.args.self.now (g.met.S.Store.sound c.args.self.now.store) c.args.self.now.agree c.args.at c.in-Fork.slot c.in-Fork.is c.args.kind c.in-Some.walk c.requires.place (sym c.walk.ensures ∙ c.in-Some.is) c.requires.ready _ (g.met.S.Store.sound c.used.new.self) (subst (λ (ps : List HomePlace). AreTables (tables_of ps c.args.self.now.tables)) (sym c.used.ensures.homes) c.args.self.now.agree) c.args.owner c.requires.owner c.in-Some-home.home c.in-Some-home.is (sym c.copy_for.ensures ∙ c.in_default-copy_for.is) c.used.ensures.homes refl c.used.ensures.used

pub entry-requires : goal.entry-requires
entry-requires g c = mark_held g.S.Store.means (λ p. p.store) (λ p. p.tables) c.args.self.now (g.met.S.Store.sound c.args.self.now.store) c.args.self.now.agree c.args.at c.in-Fork.slot c.in-Fork.is c.args.kind c.in-Some.walk c.requires.place (sym c.walk.ensures ∙ c.in-Some.is) c.requires.ready c.in-Some-copy_for.to (sym c.copy_for.ensures ∙ c.in-Some-copy_for.is)

pub copy_alone-requires : goal.copy_alone-requires
copy_alone-requires g c =
    let can = can_rename g.S.Store.means (λ p. p.store) (λ p. p.tables) c.args.self.now (g.met.S.Store.sound c.args.self.now.store) c.args.self.now.agree c.args.at c.in-Fork.slot c.in-Fork.is c.args.kind c.in-Some.walk c.requires.place (sym c.walk.ensures ∙ c.in-Some.is) c.requires.ready c.in-Some-home.home c.in-Some-home.is c.in-Some-copy_for.to (sym c.copy_for.ensures ∙ c.in-Some-copy_for.is) c.entry.result c.entry.ensures c.in-Page.field-0 c.in-Page.old c.in-Page.is (sym c.share.ensures ∙ c.if-share-eq1.true) in
    record { entry = can.entry; lives = can.lives; alone = can.alone; from = can.from; owner = c.requires.owner; serial = c.requires.serial }

pub returns-in-Page : goal.returns-in-Page
returns-in-Page g c = copied_in_place g.S.Store.means (λ p. p.store) (λ p. p.tables) c.args.self.now (g.met.S.Store.sound c.args.self.now.store) c.args.self.now.agree c.args.at c.in-Fork.slot c.in-Fork.is c.args.kind c.in-Some.walk c.requires.place (sym c.walk.ensures ∙ c.in-Some.is) c.requires.ready c.copy_alone.new.self (g.met.S.Store.sound c.copy_alone.new.self.store) c.copy_alone.new.self.agree c.args.owner c.requires.owner c.in-Some-home.home c.in-Some-home.is c.in-Some-copy_for.to (sym c.copy_for.ensures ∙ c.in-Some-copy_for.is) c.entry.result c.entry.ensures c.in-Page.field-0 c.in-Page.old c.in-Page.is (sym c.share.ensures ∙ c.if-share-eq1.true) c.copy_alone.ensures.tables c.copy_alone.ensures.homes c.copy_alone.ensures.used

pub copy_new-requires : goal.copy_new-requires
copy_new-requires g c =
    let can = can_copy_apart g.S.Store.means (λ p. p.store) (λ p. p.tables) c.args.self.now (g.met.S.Store.sound c.args.self.now.store) c.args.self.now.agree c.args.at c.in-Fork.slot c.in-Fork.is c.args.kind c.in-Some.walk c.requires.place (sym c.walk.ensures ∙ c.in-Some.is) c.requires.ready c.in-Some-home.home c.in-Some-home.is c.in-Some-copy_for.to (sym c.copy_for.ensures ∙ c.in-Some-copy_for.is) c.entry.result c.entry.ensures (λ h b is. elim c.in_default-entry.branch [
      | in_default-entry-via-in-Page+else-share-eq1 v ↦ (λ one. v.if-share-eq1.false (v.share.ensures ∙ one))
      | in_default-entry-via-in_default-entry v ↦ absurd (v.in_default-entry.not-Page h b is)
    ]) in
    record { there = ap is_some c.entry.ensures; lives = can.lives; shared = can.shared; from = can.from; owner = c.requires.owner; serial = c.requires.serial; room = can.room; frame = can.frame }

pub returns-in_default-entry : goal.returns-in_default-entry
returns-in_default-entry g c = copied_apart g.S.Store.means (λ p. p.store) (λ p. p.tables) c.args.self.now (g.met.S.Store.sound c.args.self.now.store) c.args.self.now.agree c.args.at c.in-Fork.slot c.in-Fork.is c.args.kind c.in-Some.walk c.requires.place (sym c.walk.ensures ∙ c.in-Some.is) c.requires.ready c.copy_new.new.self (g.met.S.Store.sound c.copy_new.new.self.store) c.copy_new.new.self.agree c.args.owner c.requires.owner c.in-Some-home.home c.in-Some-home.is c.in-Some-copy_for.to (sym c.copy_for.ensures ∙ c.in-Some-copy_for.is) c.entry.result c.entry.ensures (λ h b is. elim c.in_default-entry.branch [
  | in_default-entry-via-in-Page+else-share-eq1 v ↦ (λ one. v.if-share-eq1.false (v.share.ensures ∙ one))
  | in_default-entry-via-in_default-entry v ↦ absurd (v.in_default-entry.not-Page h b is)
]) c.copy_new.ensures

pub settle_filed-requires : goal.settle_filed-requires
settle_filed-requires g c =
    let s = c.args.self.now in
    let frames = g.S.Store.means.spare s.store in
    let pages = (g.met.S.Store.sound s.store).pages in
    let t = tables_of (g.S.Store.means.homes s.store) s.tables in
    let at = ready_at t frames c.args.at c.in-File.file c.in-File.page c.args.kind c.in-File.is c.requires.ready in record {
      page = file_bounds _ c.args.at c.in-File.file c.in-File.page c.in-File.is c.requires.place;
      here = λ h there. here_when t.places h.0 (s.agree.is_taken h.0 ∙ ap is_some (filed_named t s.agree (file_page c.in-File.file.0 c.in-File.page) h there).1) (near t s.agree pages frames c.in-File.file c.in-File.page c.args.kind at h there);
      owner = c.requires.owner;
      serial = c.requires.serial;
      room = zero_room t s.agree pages frames c.in-File.file c.in-File.page c.args.kind at;
      frame = zero_frame t s.agree pages frames c.in-File.file c.in-File.page c.args.kind at;
    }

pub returns-in-File : goal.returns-in-File
returns-in-File g c =
    let s = c.args.self.now in
    let store = g.S.Store.means in
    let new = c.settle_filed.new.self in
    let at = ready_at (tables_of (store.homes s.store) s.tables) (store.spare s.store) c.args.at c.in-File.file c.in-File.page c.args.kind c.in-File.is c.requires.ready in
    settled_at store (λ p. p.store) (λ p. p.tables) s new s.agree new.agree c.in-File.file c.in-File.page c.args.kind c.args.owner c.args.at c.in-File.is
    (file_settled store s.store new.store (g.met.S.Store.sound s.store) (g.met.S.Store.sound new.store) s.tables new.tables s.agree new.agree c.in-File.file c.in-File.page c.args.kind c.args.owner c.requires.owner at c.settle_filed.ensures)
