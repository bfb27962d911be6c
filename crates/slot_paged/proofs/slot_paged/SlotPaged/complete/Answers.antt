use Rattle.std.proofs.Common.{refl}
use Rattle.paged_tables.specs.PagedTables.{beside_of}
use Rattle.paged_tables.proofs.Moved.{kept_moved, moved_told}
use Rattle.slot_paged.proofs.slot_paged.SlotPaged.complete.Goals as goal

pub invariant_of-self : goal.invariant_of-self
invariant_of-self g c =
    let s = c.args.self.now in
    let homes = g.S.Store.means.homes in
    record { kept = kept_moved (beside_of s.tables) (homes s.store) (homes c.complete.new.self) s.kept (c.complete.ensures.taken) }

pub returns : goal.returns
returns g c =
    let s = c.args.self.now in
    let homes = g.S.Store.means.homes in
    record {
      ends = c.complete.ensures.ends;
      tables = refl;
      told = λ d stands fits ok.
          let e = c.complete.ensures.content d stands fits.maps.drum ok in
          let m = moved_told (beside_of s.tables) (homes s.store) (homes c.complete.new.self) d e.0 fits c.complete.ensures.taken e.2 e.3 in
          (e.0, e.1, m.0, m.1);
    }
