use Rattle.std.proofs.Common.{◌≡◌, None, Some, refl, ap, ◌∙◌, arith}
use Rattle.frame_table.specs.Core.{Core, home_in}
use Rattle.frame_table.specs.Seats.{core_of}
use Rattle.frame_table.proofs.Kept.{kept_vacated, free_small}
use Rattle.frame_table.proofs.Reaching.{reached_set}
use Rattle.frame_table.proofs.frames.Frames.vacate.Goals as goal

pub overflow_add-self : goal.overflow_add-self
overflow_add-self c =
    let inside = c.self.inside in
    let now : Core = core_of inside.seats.items inside.pages.items inside.uses in
    let at : home_in now c.args.f.0 ≡ Some c.args.home = ap (λ (q : Core). home_in q c.args.f.0) c.self.view_is ∙ c.requires in
    let small = free_small now inside.taken inside.homes inside.free c.args.f.0 c.args.home c.self.invariant.0 at in
    omega arith

pub invariant_of-self : goal.invariant_of-self
invariant_of-self c =
    let inside = c.self.inside in
    let now : Core = core_of inside.seats.items inside.pages.items inside.uses in
    let at : home_in now c.args.f.0 ≡ Some c.args.home = ap (λ (q : Core). home_in q c.args.f.0) c.self.view_is ∙ c.requires in
    rw (c.remove.ensures, c.remove-2.ensures.gone)
    (kept_vacated now inside.taken inside.homes inside.free c.args.f.0 c.args.home c.self.invariant.0 at, reached_set inside.reached inside.seats.items c.self.invariant.1 c.args.f.0 None refl)
