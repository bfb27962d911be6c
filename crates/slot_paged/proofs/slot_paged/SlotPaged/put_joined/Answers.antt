use Rattle.std.proofs.Common.{◌∙◌, sym, ap, subst}
use Rattle.std.specs.Prelude.{slice_set}
use Rattle.page_contracts.specs.Stores.{IsUsed, place, with_word_in}
use Rattle.share_table.specs.Pointers.{pointer_word}
use Rattle.pager_walk.specs.MapPages.{index_of, root_at}
use Rattle.paged_tables.specs.MadePages.{pointer_to}
use Rattle.paged_tables.specs.PagedTables.{Beside, beside_of}
use Rattle.paged_tables.specs.SetEntries.{JoinsPage}
use Rattle.paged_tables.proofs.Joining.{join_beside, join_kept, join_room, join_there, join_within}
use Rattle.slot_paged.proofs.slot_paged.SlotPaged.put_joined.Goals as goal

pub join-requires-clause-home : goal.join-requires-clause-home
join-requires-clause-home g c = let s = c.args.self.now in join_within (beside_of s.tables) (g.S.Store.means.homes s.store) s.kept c.args.home c.requires.named

pub join-requires-clause-room : goal.join-requires-clause-room
join-requires-clause-room g c none = let s = c.args.self.now in join_room (beside_of s.tables) (g.S.Store.means.homes s.store) s.kept c.args.home c.requires.named none

pub join-requires-clause-there : goal.join-requires-clause-there
join-requires-clause-there g c share is = let s = c.args.self.now in join_there (beside_of s.tables) (g.S.Store.means.homes s.store) s.kept c.args.home c.requires.named share is

pub invariant_of-self : goal.invariant_of-self
invariant_of-self g c = let s = c.args.self.now in record { kept = join_kept (beside_of s.tables) (g.S.Store.means.homes s.store) s.kept c.args.home c.requires.named (beside_of c.join.new.self) c.join.ensures }

pub returns : goal.returns
returns g c =
    let s = c.args.self.now in
    let b = beside_of s.tables in
    let store = g.S.Store.means in
    let places = store.homes s.store in
    let at = c.args.at in
    let home = c.args.home in
    let puts = c.put_page.ensures in
    let maps = ap (λ (x : Beside). x.tables.maps) (join_beside b places s.kept home c.requires.named (beside_of c.join.new.self) c.join.ensures) in
    record {
      joins = subst (λ (x : Beside). JoinsPage b x home) (sym puts.beside) c.join.ensures;
      number = puts.number;
      numbered = sym (ap (λ ms. index_of ms at.fork) maps) ∙ puts.numbered;
      homes = puts.homes ∙ (λ i. slice_set places (root_at (maps i) puts.number).0 (with_word_in (place places (root_at (maps i) puts.number).0) at.page (pointer_word (pointer_to (sym puts.beside i) home c.args.access))));
      used = subst (λ ms. IsUsed store (root_at ms puts.number).0 s.store c.put_page.new.self.store) maps puts.used;
    }
