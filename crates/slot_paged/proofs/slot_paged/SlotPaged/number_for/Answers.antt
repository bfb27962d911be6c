use Rattle.std.proofs.Common.{refl}
use Rattle.paged_tables.specs.PagedTables.{beside_of}
use Rattle.paged_tables.proofs.NewForks.{number_free}
use Rattle.slot_paged.proofs.slot_paged.SlotPaged.number_for.Goals as goal

pub unreachable-requires : goal.unreachable-requires
unreachable-requires g c =
    let s = c.args.self.now in
    number_free (beside_of s.tables) s.kept.rooted.numbered c.args.tty c.requires.terminal c.requires.few (c.in-None.ensures.none refl)
