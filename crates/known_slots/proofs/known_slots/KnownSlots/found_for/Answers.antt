use Rattle.std.proofs.Common.{◌≡◌, ◌∙◌, Bool, None, Some, ap, cond, sym}
use Rattle.paged_tables.specs.KnownPages.{found_known, known_over, lets_known}
use Rattle.paged_tables.specs.PagedTables.{beside_of}
use Rattle.paged_tables.proofs.KnownTouches.{known_taken}
use Rattle.known_slots.proofs.known_slots.KnownSlots.found_for.Goals as goal

pub found_at-requires : goal.found_at-requires
found_at-requires g c =
    let s = c.args.self.now in
    known_taken (beside_of s.pages.tables) (g.S.Store.means.homes s.pages.store) s.pages.kept c.requires.space.fork c.args.space c.requires.space.is c.args.page c.requires.page c.in-Some.known
    (s.known c.args.space.0 c.args.page c.in-Some.known c.requires.page (sym c.in-Some.ensures))

pub returns-in-Some : goal.returns-in-Some
returns-in-Some g c =
    let s = c.args.self.now in
    let found = g.S.Store.means.found s.pages.store in
    let known = c.in-Some.known in
    let is : known_over (beside_of s.pages.tables) (g.S.Store.means.homes s.pages.store) c.args.space c.args.page ≡ Some known = s.known c.args.space.0 c.args.page known c.requires.page (sym c.in-Some.ensures) in
    c.found_at.ensures ∙ ap (λ (b : Bool). cond b (found known.home.0) None) c.lets.ensures ∙ sym (ap (found_known found (lets_known c.args.kind)) is)
