use Rattle.std.proofs.Common.{◌∙◌, sym}
use Rattle.machine_names.specs.Orders.{file_page}
use Rattle.pager_walk.proofs.Looking.{taken_map}
use Rattle.slot_paged.proofs.slot_paged.SlotPaged.touched.Goals as goal

pub touch_filed-requires : goal.touch_filed-requires
touch_filed-requires g c h is_home =
    let s = c.args.self.now in
    sym (taken_map (g.S.Store.means.homes s.store) h.0) ∙ s.kept.rooted.named h.0 (s.kept.filed (file_page c.in-File.file.0 c.in-File.page) h (sym c.filed.ensures ∙ is_home))
