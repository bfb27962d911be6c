use Rattle.std.proofs.Common.{◌≡◌, ◌∙◌, sym, ap, subst}
use Rattle.page_contracts.specs.Stores.{IsMade}
use Rattle.share_table.specs.declared.pointer.Pointer.TheVariants.{Private}
use Rattle.pager_walk.specs.PagedMaps.{FitsMaps, look_at}
use Rattle.paged_tables.specs.LeftShares.{left_of}
use Rattle.paged_tables.specs.MadePages.{page_like, page_named, with_shares}
use Rattle.paged_tables.specs.PagedTables.{Beside, beside_of}
use Rattle.paged_tables.specs.SetEntries.{PutsPointer}
use Rattle.paged_tables.proofs.LeftOnce.{look_fits}
use Rattle.slot_paged.proofs.slot_paged.SlotPaged.make_named.Goals as goal

pub returns : goal.returns
returns g c =
    let s = c.args.self.now in
    let b = beside_of s.tables in
    let store = g.S.Store.means in
    let seen = look_at b.tables (store.homes s.store) c.args.at in
    let left = c.leave.ensures in
    let home = c.add_page-home.result in
    let mid = c.add_page-home.new.self in
    let m = c.add_page-home.ensures in
    let new = c.put_pointer.new.self in
    let same : beside_of mid.tables ≡ page_named (with_shares b (left_of b seen)) home c.args.owner = m.beside ∙ ap (λ (x : Beside). page_named x home c.args.owner) left.beside in
    let puts = subst (λ (x : Beside). PutsPointer store mid.store new.store x (beside_of new.tables) x.tables.shares x.shared c.args.at (Private home c.args.access)) same c.put_pointer.ensures in
    record {
      home = home;
      mid = mid.store;
      number = puts.number;
      numbered = puts.numbered;
      made = subst (λ x. IsMade store home.0 (page_like (store.homes x) c.args.from) x mid.store) left.store m.made;
      homes = puts.homes;
      used = puts.used;
      beside = puts.beside;
      fits = λ d fits. puts.fits d (subst (λ (x : Beside). FitsMaps x.tables (store.homes mid.store) d) same (m.fits d (subst (λ x. FitsMaps (beside_of c.leave.new.self.tables).tables (store.homes x) d) (sym left.store)
          (subst (λ (x : Beside). FitsMaps x.tables (store.homes s.store) d) (sym left.beside) (look_fits b (store.homes s.store) s.kept seen d fits)))));
    }
