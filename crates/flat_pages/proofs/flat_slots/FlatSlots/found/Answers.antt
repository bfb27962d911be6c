use Rattle.std.proofs.Common.{◌≡◌, true, false, None, Some, Option, sym, refl}
use Rattle.std.specs.Prelude.{IsSome}
use Rattle.machine_names.specs.declared.names.ForkName.{ForkName}
use Rattle.flat_tables.specs.TableSteps.{tables_of}
use Rattle.flat_tables.specs.HeldMaps.{fork_at}
use Rattle.flat_pages.proofs.Meeting.{ready_taken}
use Rattle.flat_pages.proofs.flat_slots.FlatSlots.found.Goals as goal

living : (o : Option ForkName) → IsSome o → (f : ForkName) × (o ≡ Some f)
living None h = absurd (let z : false ≡ true = h in cc z)
living (Some f) h = (f, refl)

pub find-requires : goal.find-requires
find-requires g c =
    let s = c.args.self.now in
    let t = tables_of (g.S.Store.means.homes s.store) s.tables in
    let f = living (fork_at s.tables.maps.held.items c.args.space.0) c.requires.lives in
    ready_taken t s.agree (g.S.Store.means.found s.store) (g.met.S.Store.sound s.store).finds c.args.space.0 c.args.page f.0 f.1 c.args.wanted c.in-Some.home (sym c.in-Some.ensures)
