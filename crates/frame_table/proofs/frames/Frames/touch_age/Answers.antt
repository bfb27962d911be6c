use Rattle.std.proofs.Common.{rules, ◌≡◌, ◌∙◌, ◌<◌, Some, None, length, subst, sym}
use Rattle.std.proofs.lemmas.List.{get_or_default}
use Rattle.frame_table.specs.Core.{Core, seat_of}
use Rattle.frame_table.specs.Seats.{core_of}
use Rattle.frame_table.proofs.Kept.{kept_used}
use Rattle.frame_table.proofs.Reaching.{reached_used, used_before}
use Rattle.frame_table.proofs.frames.Frames.touch_age.Goals as goal

pub invariant_of-self-2 : goal.invariant_of-self-2
invariant_of-self-2 c =
    let inside = c.self.inside in
    let now : Core = core_of inside.seats.items inside.pages.items inside.uses in
    let below : c.args.f.0 < length inside.seats.items = subst (λ (q : Core). c.args.f.0 < length q.seats) (sym c.self.view_is) c.requires in
    let at : seat_of now c.args.f.0 ≡ Some c.in-Some.tenant = get_or_default inside.seats.items c.args.f.0 None c.index_mut.result.now below ∙ search rules in
    rw (c.saturating_add-self-inside.ensures)
    (kept_used now inside.taken inside.homes inside.free c.args.f.0 c.in-Some.tenant c.self.invariant.0 at, reached_used inside.reached inside.seats.items c.self.invariant.1 c.args.f.0 c.in-Some.tenant inside.uses at (used_before now c.args.f.0 c.in-Some.tenant c.self.invariant.0.core at (search rules)))
