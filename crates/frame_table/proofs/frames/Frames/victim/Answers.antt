use Rattle.std.proofs.Common.{◌≡◌, ℕ, List, Option, None, Some, MatchOption, false, subst}
use Rattle.page_homes.specs.declared.homes.FrameId.{FrameId}
use Rattle.frame_table.specs.declared.tenant.Tenant.{Tenant}
use Rattle.frame_table.specs.Core.{Core, IsVictim, can_leave}
use Rattle.frame_table.specs.Seats.{core_of}
use Rattle.frame_table.specs.Victims.{GoesFirst}
use Rattle.frame_table.proofs.Found.{none_leave, victim_is}
use Rattle.frame_table.proofs.frames.Frames.victim.Goals as goal

-- none, or the victim
found : (c : Core) (o : Option FrameId) → GoesFirst c.seats o → MatchOption o ((f : ℕ) → can_leave c f ≡ false) (λ f. IsVictim c f.0)
found c None first = none_leave c first
found c (Some f) first = victim_is c f first

pub returns : goal.returns
returns c =
    let inside = c.self.inside in
    let now : Core = core_of inside.seats.items inside.pages.items inside.uses in
    subst (λ (q : Core). MatchOption c.first_to_go.result ((f : ℕ) → can_leave q f ≡ false) (λ f. IsVictim q f.0)) c.self.view_is (found now c.first_to_go.result (subst (λ (seats : List (Option Tenant)). GoesFirst seats c.first_to_go.result) c.deref.ensures.value c.first_to_go.ensures))
