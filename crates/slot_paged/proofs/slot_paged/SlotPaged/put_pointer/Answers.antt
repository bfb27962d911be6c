use Rattle.std.proofs.Common.{◌≡◌, List, sym, subst}
use Rattle.std.specs.Prelude.{slice_set}
use Rattle.page_contracts.specs.Stores.{HomePlace, place, with_word_in}
use Rattle.share_table.specs.Pointers.{pointer_word}
use Rattle.pager_walk.specs.MapPages.{root_at}
use Rattle.pager_walk.proofs.Changing.{taken_still}
use Rattle.paged_tables.specs.PagedTables.{AreKept, beside_of}
use Rattle.paged_tables.proofs.Moved.{kept_moved}
use Rattle.paged_tables.proofs.PagesMade.{near_number, taken_word}
use Rattle.slot_paged.proofs.slot_paged.SlotPaged.put_pointer.Goals as goal

pub invariant_of-self : goal.invariant_of-self
invariant_of-self g c =
    let s = c.args.self.now in
    let b = beside_of s.tables in
    let places = g.S.Store.means.homes s.store in
    let at = c.args.at in
    let x = near_number b.tables places at c.requires.near in
    let root = (root_at b.tables.maps x.0).0 in
    let homes : g.S.Store.means.homes c.set.new.store ≡ slice_set places root (with_word_in (place places root) at.page (pointer_word c.args.pointer)) = c.set.ensures.homes x.0 x.1 in
    let kept = kept_moved b places _ s.kept (taken_still places root (with_word_in (place places root) at.page (pointer_word c.args.pointer)) (taken_word (place places root) at.page (pointer_word c.args.pointer))) in
    record { kept = subst (λ (ps : List HomePlace). AreKept b ps) (sym homes) kept }
