use Rattle.std.proofs.Common.{sym, ◌∙◌}
use Rattle.paged_tables.specs.PagedTables.{beside_of}
use Rattle.known_slots.proofs.AwayHomes.{touch_away}
use Rattle.known_slots.proofs.pages.KnownSlotsPages.touch.Goals as goal

pub returns-clause-away : goal.returns-clause-away
returns-clause-away g c home is =
    let s = c.args.self.now in
    touch_away g.S.Store.means (λ p. p.pages.store) (λ p. beside_of p.pages.tables) s s.pages.kept c.args.at c.args.kind home (sym c.touch.ensures.answer ∙ is)
