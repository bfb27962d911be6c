use Rattle.frame_table.specs.Core.{Core}
use Rattle.frame_table.specs.Seats.{core_of}
use Rattle.frame_table.proofs.Kept.{kept_reseated}
use Rattle.frame_table.proofs.frames.Frames.reseat.Goals as goal

pub invariant_of-self : goal.invariant_of-self
invariant_of-self c =
    let inside = c.self.inside in
    let now : Core = core_of inside.seats.items inside.pages.items inside.uses in
    (kept_reseated now c.args.self.now inside.taken inside.homes inside.free c.args.f.0 c.args.tenant c.self.invariant.0 c.self.view_is c.requires.home c.requires.age c.requires.pins, rw c.deref.ensures.value at c.note_age.ensures)
