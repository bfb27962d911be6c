use Rattle.std.proofs.Common.{◌∙◌, sym}
use Rattle.paged_tables.specs.PagedTables.{beside_of}
use Rattle.paged_tables.proofs.Homed.{homed_away, homed_taken, place_stands}
use Rattle.slot_paged.proofs.slot_paged.SlotPaged.home_of.Goals as goal

pub returns : goal.returns
returns g c =
    let s = c.args.self.now in
    let b = beside_of s.tables in
    let places = g.S.Store.means.homes s.store in
    let stands = place_stands b places s.kept c.args.at c.requires in
    record {
      answer = c.found.ensures;
      taken = λ h is. homed_taken b places s.kept c.args.at h stands (sym c.found.ensures ∙ is);
      away = λ h is. homed_away b places c.args.at h stands (sym c.found.ensures ∙ is);
    }
