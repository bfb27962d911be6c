use Rattle.std.proofs.Common.{◌∙◌, sym}
use Rattle.pager_walk.proofs.Looking.{taken_map}
use Rattle.slot_paged.proofs.slot_paged.SlotPaged.touch_along.Goals as goal

pub made-requires : goal.made-requires
made-requires g c h is_home =
    let s = c.args.self.now in
    sym (taken_map (g.S.Store.means.homes s.store) h.0) ∙ s.kept.rooted.named h.0 (c.requires.named h is_home)
