use Rattle.std.proofs.Common.{◌≡◌, true, is_some, refl, ◌∙◌, ap}
use Rattle.std.specs.FinMap as fin
use Rattle.share_table.specs.Pointers.{pointer_word}
use Rattle.pager_walk.specs.declared.paged_entry.PagedEntry.TheVariants as paged
use Rattle.pager_walk.specs.PagedMaps.{is_near, name_at}
use Rattle.paged_tables.specs.MadePages.{pointer_to}
use Rattle.paged_tables.specs.PagedTables.{Beside, beside_of}
use Rattle.paged_tables.proofs.EntryChanged.{set_on}
use Rattle.paged_tables.proofs.HomesKept.{words_keep}
use Rattle.paged_tables.proofs.JoinDone.{join_done}
use Rattle.paged_tables.proofs.Joining.{join_beside}
use Rattle.slot_paged.proofs.slot_paged.SlotPaged.set_page.Goals as goal

pub put_joined-requires-clause-near : goal.put_joined-requires-clause-near
put_joined-requires-clause-near g c = ap is_near (c.set_unnamed.ensures.sets paged.Empty refl).look

pub put_joined-requires-clause-named : goal.put_joined-requires-clause-named
put_joined-requires-clause-named g c =
    let mid = c.set_unnamed.new.self in
    let emptied = c.set_unnamed.ensures.sets paged.Empty refl in
    mid.kept.filed c.requires.filed.at c.args.home (ap (λ m. fin.get m c.requires.filed.at) emptied.files ∙ c.requires.filed.there)

pub returns-clause-sets : goal.returns-clause-sets
returns-clause-sets g c =
    let s = c.args.self.now in
    let b = beside_of s.tables in
    let store = g.S.Store.means in
    let mid = c.set_unnamed.new.self in
    let b1 = beside_of mid.tables in
    let new = c.put_joined.new.self in
    let f = c.requires.filed.at in
    let emptied = c.set_unnamed.ensures.sets paged.Empty refl in
    let named : is_some (name_at b1.tables.names c.args.home.0) ≡ true = mid.kept.filed f c.args.home (ap (λ m. fin.get m f) emptied.files ∙ c.requires.filed.there) in
    let pages1 = (g.met.S.Store.sound mid.store).pages in
    let sets = join_done store mid.store new.store b1 (beside_of new.tables) mid.kept new.kept pages1 (g.met.S.Store.sound new.store).pages c.args.home named c.args.at (record { page = c.requires.page; near = ap is_near emptied.look }) emptied.look c.args.access c.put_joined.ensures in
    set_on store s.store mid.store new.store b b1 (beside_of new.tables) s.kept mid.kept (g.met.S.Store.sound s.store).pages pages1 c.args.at c.requires.page c.requires.seen.entry c.requires.seen.is f c.args.home c.requires.filed.there c.args.access emptied sets

pub returns-clause-keeps : goal.returns-clause-keeps
returns-clause-keeps g c =
    let s = c.args.self.now in
    let b = beside_of s.tables in
    let store = g.S.Store.means in
    let mid = c.set_unnamed.new.self in
    let b1 = beside_of mid.tables in
    let new = c.put_joined.new.self in
    let f = c.requires.filed.at in
    let emptied = c.set_unnamed.ensures.sets paged.Empty refl in
    let named : is_some (name_at b1.tables.names c.args.home.0) ≡ true = mid.kept.filed f c.args.home (ap (λ m. fin.get m f) emptied.files ∙ c.requires.filed.there) in
    let z = c.put_joined.ensures in
    words_keep store s.store mid.store new.store b b1 (beside_of new.tables) mid.kept c.args.at emptied.maps c.set_unnamed.ensures.frees.keeps z.number z.numbered (pointer_word (pointer_to (beside_of new.tables) c.args.home c.args.access)) z.homes
    (ap (λ (x : Beside). x.tables.names) (join_beside b1 (store.homes mid.store) mid.kept c.args.home named (beside_of new.tables) z.joins))
