use Rattle.std.proofs.Common.{◌∙◌, List, is_some, sym, ap, subst}
use Rattle.page_contracts.specs.Stores.{HomePlace, place, with_word_in}
use Rattle.std.specs.Prelude.{slice_set}
use Rattle.share_table.specs.Pointers.{pointer_word}
use Rattle.pager_walk.specs.MapPages.{root_at}
use Rattle.pager_walk.specs.PagedMaps.{FitsMaps, name_at}
use Rattle.paged_tables.specs.MadePages.{page_renamed, pointer_to}
use Rattle.paged_tables.specs.PagedTables.{Beside, AreKept, beside_of}
use Rattle.paged_tables.specs.SetEntries.{PutsPointer}
use Rattle.paged_tables.proofs.RenamedPages.{below, fits_renamed, one_named, renamed_kept, some_still, tables'}
use Rattle.slot_paged.proofs.slot_paged.SlotPaged.copy_alone.Goals as goal

pub rename-requires-clause-home : goal.rename-requires-clause-home
rename-requires-clause-home g c =
    let s = c.args.self.now in
    let b = beside_of s.tables in
    below b (g.S.Store.means.homes s.store) s.kept c.args.home c.args.owner c.requires.owner (one_named b c.args.home.0 c.requires.one)

pub put_page-requires-clause-named : goal.put_page-requires-clause-named
put_page-requires-clause-named g c =
    let s = c.args.self.now in
    let b = beside_of s.tables in
    let home = c.args.home in
    let some = one_named b home.0 c.requires.one in
    ap (λ (x : Beside). is_some (name_at x.tables.names home.0)) c.rename.ensures ∙ some_still b (g.S.Store.means.homes s.store) s.kept home c.args.owner c.requires.owner some home.0 ∙ some

pub invariant_of-self : goal.invariant_of-self
invariant_of-self g c =
    let s = c.args.self.now in
    let b = beside_of s.tables in
    let home = c.args.home in
    let kept = renamed_kept b (g.S.Store.means.homes s.store) s.kept home c.args.owner c.requires.owner (one_named b home.0 c.requires.one) in
    record { kept = subst (λ (x : Beside). AreKept x (g.S.Store.means.homes c.used.new.self)) (sym c.rename.ensures) (subst (λ (ps : List HomePlace). AreKept (page_renamed b home c.args.owner) ps) (sym c.used.ensures.homes) kept) }

pub returns : goal.returns
returns g c =
    let s = c.args.self.now in
    let b = beside_of s.tables in
    let store = g.S.Store.means in
    let at = c.args.at in
    let home = c.args.home in
    let some = one_named b home.0 c.requires.one in
    let new = c.put_page.new.self in
    let pointer = pointer_to b home c.args.access in
    let puts = subst (λ (x : Beside). PutsPointer store c.used.new.self new.store x (beside_of new.tables) x.tables.shares x.shared at (pointer_to x home c.args.access)) c.rename.ensures c.put_page.ensures in
    let root = (root_at b.tables.maps puts.number).0 in
    record {
      mid = c.used.new.self;
      number = puts.number;
      numbered = puts.numbered;
      page_used = c.used.ensures.used;
      same = c.used.ensures.homes;
      homes = puts.homes ∙ ap (λ ps. slice_set ps root (with_word_in (place ps root) at.page (pointer_word pointer))) c.used.ensures.homes;
      used = puts.used;
      beside = puts.beside;
      fits = λ d fits. puts.fits d (subst (λ (ps : List HomePlace). FitsMaps (tables' b (store.homes s.store) s.kept home c.args.owner c.requires.owner some) ps d) (sym c.used.ensures.homes) (fits_renamed b (store.homes s.store) s.kept home c.args.owner c.requires.owner some d fits));
    }
