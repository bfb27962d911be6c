use Rattle.std.proofs.Common.{◌≡◌, refl, sym, ◌∙◌, ap, arith}
use Rattle.std.specs.Prelude.{Err}
use Rattle.paged_events.specs.Faults.{ended_by}
use Rattle.event_items.specs.declared.ended.Ended.TheVariants.{DrumFault, TakerFault, Went}
use Rattle.paged_events.specs.declared.fault.Fault.{Fault}
use Rattle.paged_events.specs.declared.fault.Fault.TheVariants.{Drum, Taker}
use Rattle.paged_events.proofs.machine.Machine.event.Goals as goal

-- what failed, by how the event ended
drum_of : (f : Fault) → ended_by f ≡ DrumFault → f ≡ Drum
drum_of Drum e = refl
drum_of Taker e = absurd (cc e)

taker_of : (f : Fault) → ended_by f ≡ TakerFault → f ≡ Taker
taker_of Drum e = absurd (cc e)
taker_of Taker e = refl

never_went : (f : Fault) → ended_by f ≡ Went → ⊥
never_went Drum e = cc e
never_went Taker e = cc e

pub act-requires-clause-within : goal.act-requires-clause-within
act-requires-clause-within g c k low = c.requires.within k (omega (arith, low, c.requires.few))

pub returns-in-Ok-clause-went : goal.returns-in-Ok-clause-went
returns-in-Ok-clause-went g c is =
    let acted = c.in-Ok.ensures.acted.ok in
    let given = acted.given in
    record { steps = given.steps; follows = given.follows; count = omega (arith, given.counts); told = given.told; turns = acted.turns; calm = acted.calm }

pub returns-in-Ok-clause-within : goal.returns-in-Ok-clause-within
returns-in-Ok-clause-within g c is k low = c.in-Ok.ensures.acted.ok.given.adds c.args.self.now.done c.requires.within k (omega (arith, low))

pub returns-in-Ok-clause-later : goal.returns-in-Ok-clause-later
returns-in-Ok-clause-later g c = c.act.ensures.outside.later.taker_later

pub returns-in-Ok-clause-onward : goal.returns-in-Ok-clause-onward
returns-in-Ok-clause-onward g c = c.act.ensures.outside.later.onward

pub returns-in-Ok-clause-drum : goal.returns-in-Ok-clause-drum
returns-in-Ok-clause-drum g c = c.act.ensures.outside.later.drum_stays

pub returns-in-Err-clause-later : goal.returns-in-Err-clause-later
returns-in-Err-clause-later g c = c.act.ensures.outside.later.taker_later

pub returns-in-Err-clause-onward : goal.returns-in-Err-clause-onward
returns-in-Err-clause-onward g c = c.act.ensures.outside.later.onward

pub returns-in-Err-clause-drum : goal.returns-in-Err-clause-drum
returns-in-Err-clause-drum g c = c.act.ensures.outside.later.drum_stays

pub returns-in-Err-clause-stopped : goal.returns-in-Err-clause-stopped
returns-in-Err-clause-stopped g c is = c.in-Err.ensures.acted.stopped (ap Err (drum_of c.in-Err.fault (sym c.ended.ensures ∙ is)))

pub returns-in-Err-clause-cutoff : goal.returns-in-Err-clause-cutoff
returns-in-Err-clause-cutoff g c is = c.in-Err.ensures.acted.cutoff (ap Err (taker_of c.in-Err.fault (sym c.ended.ensures ∙ is)))

pub returns-in-Err-clause-cause : goal.returns-in-Err-clause-cause
returns-in-Err-clause-cause g c is = c.in-Err.ensures.outside.taker_rose (ap Err (taker_of c.in-Err.fault (sym c.ended.ensures ∙ is)))

pub returns-in-Err-clause-drum_cause : goal.returns-in-Err-clause-drum_cause
returns-in-Err-clause-drum_cause g c is = c.in-Err.ensures.outside.drum_rose (ap Err (drum_of c.in-Err.fault (sym c.ended.ensures ∙ is)))

pub returns-in-Err-clause-went : goal.returns-in-Err-clause-went
returns-in-Err-clause-went g c is = absurd (never_went c.in-Err.fault (sym c.ended.ensures ∙ is))

pub returns-in-Err-clause-bare : goal.returns-in-Err-clause-bare
returns-in-Err-clause-bare g c is = absurd (never_went c.in-Err.fault (sym c.ended.ensures ∙ is))

pub returns-in-Err-clause-within : goal.returns-in-Err-clause-within
returns-in-Err-clause-within g c is = absurd (never_went c.in-Err.fault (sym c.ended.ensures ∙ is))

pub returns-in-Err-clause-rows : goal.returns-in-Err-clause-rows
returns-in-Err-clause-rows g c n is went = absurd (never_went c.in-Err.fault (sym c.ended.ensures ∙ went))

pub returns-in-Err-clause-ends : goal.returns-in-Err-clause-ends
returns-in-Err-clause-ends g c n is went = absurd (never_went c.in-Err.fault (sym c.ended.ensures ∙ went))

pub returns-in-Err-clause-live : goal.returns-in-Err-clause-live
returns-in-Err-clause-live g c = (λ e. absurd (cc e), λ is. absurd (never_went c.in-Err.fault (sym c.ended.ensures ∙ is)))

pub returns-in-Ok-clause-rows : goal.returns-in-Ok-clause-rows
returns-in-Ok-clause-rows g c n is went = c.in-Ok.ensures.rows n is

pub returns-in-Ok-clause-ends : goal.returns-in-Ok-clause-ends
returns-in-Ok-clause-ends g c n is went = c.in-Ok.ensures.ends n is
