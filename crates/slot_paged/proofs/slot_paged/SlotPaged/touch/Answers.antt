use Rattle.std.proofs.Common.{◌∙◌, sym, subst}
use Rattle.page_contracts.specs.Pages.{TouchNeeds}
use Rattle.paged_tables.specs.PagedTables.{beside_of}
use Rattle.paged_tables.proofs.Homed.{touch_told, touch_needed}
use Rattle.slot_paged.proofs.slot_paged.SlotPaged.touch.Goals as goal

pub returns : goal.returns
returns g c =
    let s = c.args.self.now in
    let places = g.S.Store.means.homes s.store in
    record {
      answer = c.touched.ensures;
      told = λ d owner fits own. c.touched.ensures ∙ sym (touch_told (beside_of s.tables) places s.kept (g.met.S.Store.sound s.store).pages d fits (g.S.Store.means.spare s.store) c.args.at c.requires c.args.kind owner own);
      needs = subst (TouchNeeds g.S.Store.means s.store) (sym c.touched.ensures) (touch_needed g.S.Store.means s.store (beside_of s.tables) s.kept c.args.at c.requires c.args.kind);
    }
