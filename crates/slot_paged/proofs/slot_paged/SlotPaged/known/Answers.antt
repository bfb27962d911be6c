use Rattle.std.proofs.Common.{◌≡◌, ◌∙◌, Some, sym, ap}
use Rattle.machine_names.specs.declared.names.ForkName.{ForkName}
use Rattle.pager_walk.specs.Walks.{walk_at}
use Rattle.paged_tables.specs.KnownPages.{known_along, known_of}
use Rattle.paged_tables.specs.PagedTables.{beside_of}
use Rattle.paged_tables.proofs.KnownTouches.{known_taken, space_fork}
use Rattle.slot_paged.proofs.slot_paged.SlotPaged.known.Goals as goal

pub returns-in-Some-clause-taken : goal.returns-in-Some-clause-taken
returns-in-Some-clause-taken g c k is =
    let s = c.args.self.now in
    let b = beside_of s.tables in
    let places = g.S.Store.means.homes s.store in
    let forked = space_fork b places s.kept c.requires.space.fork c.args.space c.requires.space.is in
    let same : c.requires.space.fork ≡ c.in-Some.fork = (let z : Some c.requires.space.fork ≡ Some c.in-Some.fork = sym forked ∙ sym c.in-Some.ensures in cc z) in
    known_taken b places s.kept c.requires.space.fork c.args.space c.requires.space.is c.args.page c.requires.page k
    (ap (λ o. known_of b places o c.args.page) forked ∙ ap (λ (f : ForkName). known_along (walk_at b.tables places (record { fork = f; page = c.args.page }))) same
    ∙ sym (c.along.ensures ∙ ap known_along c.walk.ensures.answer) ∙ is)
