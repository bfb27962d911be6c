use Rattle.std.proofs.Common.{sym, subst}
use Rattle.frame_table.specs.Core.{Core, IsAway, IsLeastFree}
use Rattle.frame_table.specs.Seats.{core_of}
use Rattle.frame_table.proofs.Kept.{kept_seated}
use Rattle.frame_table.proofs.frames.Frames.seat.Goals as goal

pub invariant_of-self : goal.invariant_of-self
invariant_of-self c =
    let inside = c.self.inside in
    let now : Core = core_of inside.seats.items inside.pages.items inside.uses in
    let least : IsLeastFree now c.args.f.0 = subst (λ (q : Core). IsLeastFree q c.args.f.0) (sym c.self.view_is) c.requires.free in
    let away : IsAway now c.args.home = subst (λ (q : Core). IsAway q c.args.home) (sym c.self.view_is) c.requires.away in
    rw (c.new-tenant.ensures, c.insert.ensures, c.insert-2.ensures.put, c.saturating_add-self-inside.ensures)
    (kept_seated now inside.taken inside.homes inside.free c.args.f.0 c.args.home c.self.invariant.0 least.below least.free away c.requires.home, rw (c.deref.ensures.value, c.new-tenant.ensures) at c.note_age.ensures)
