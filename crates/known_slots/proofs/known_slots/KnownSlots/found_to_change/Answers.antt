use Rattle.std.proofs.Common.{sym}
use Rattle.paged_tables.specs.PagedTables.{beside_of}
use Rattle.paged_tables.proofs.KnownTouches.{known_taken}
use Rattle.known_slots.proofs.known_slots.KnownSlots.found_to_change.Goals as goal

pub found_at-requires : goal.found_at-requires
found_at-requires g c =
    let s = c.args.self.now in
    known_taken (beside_of s.pages.tables) (g.S.Store.means.homes s.pages.store) s.pages.kept c.requires.space.fork c.args.space c.requires.space.is c.args.page c.requires.page c.in-Some.known
    (s.known c.args.space.0 c.args.page c.in-Some.known c.requires.page (sym c.in-Some.ensures))
