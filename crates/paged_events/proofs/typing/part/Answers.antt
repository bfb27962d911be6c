use Rattle.std.proofs.Common.{◌≡◌, ◌+◌, ◌^◌, List, [], inl, refl, subst, arith}
use Rattle.event_deeds.specs.Deeds.{IsTold, entries_of}
use Rattle.event_deeds.specs.declared.deed.Deed.{Deed}
use Rattle.event_deeds.specs.declared.deed.Deed.TheVariants.{Begin, End, Kill, Outer, Typed}
use Rattle.event_deeds.specs.Deeds.{IsPart}
use Rattle.script_texts.specs.declared.event.Item.{Item}
use Rattle.script_texts.specs.Taker.{GoesOn, IsCut}
use Rattle.paged_events.proofs.Outside.{outside_drum, outside_taker, outside_then, uses_drum, uses_taker, uses_well}
use Rattle.paged_events.proofs.typing.part.Goals as goal

-- a part of a character is no entry, and the tables tell to what it refers
part_none : (d : Deed) → IsPart d → entries_of d ≡ 0
part_none (Outer e) h = absurd h
part_none (Typed t code) h = refl
part_none (Begin t name) h = refl
part_none (Kill t purpose) h = refl
part_none (End t purpose) h = refl

part_told : (d : Deed) → IsPart d → IsTold d
part_told (Outer e) h = absurd h
part_told (Typed t code) h = tt
part_told (Begin t name) h = tt
part_told (Kill t purpose) h = tt
part_told (End t purpose) h = tt

pub bring_told-requires-clause-fits : goal.bring_told-requires-clause-fits
bring_told-requires-clause-fits g c = c.requires.part.0

pub bring_told-requires-clause-told : goal.bring_told-requires-clause-told
bring_told-requires-clause-told g c = part_told c.args.deed.now c.requires.part.1

pub bring_told-requires-clause-within : goal.bring_told-requires-clause-within
bring_told-requires-clause-within g c = c.requires.within (2 ^ 52) (omega arith)

pub give-requires : goal.give-requires
give-requires g c = record { fits = c.in-Ok.ensures.did.shown }

pub returns-in-Ok-give-clause-did : goal.returns-in-Ok-give-clause-did
returns-in-Ok-give-clause-did g c =
    record {
      each = λ words st fits.
          let y = c.in-Ok.ensures.did.each words st fits in
          (y.0, y.1, y.2.fits, y.2.plain, subst (λ (items : List Item). GoesOn g.T.Taker.stands c.args.out.now c.give.new.out items []) y.2.items (c.in-Ok-give.ensures.ok y.0 y.2.fits y.2.gives), y.2.next);
    }

pub returns-in-Err-give-clause-cutoff : goal.returns-in-Err-give-clause-cutoff
returns-in-Err-give-clause-cutoff g c is =
    record {
      each = λ words st fits.
          let y = c.in-Ok.ensures.did.each words st fits in
          subst (λ (items : List Item). IsCut g.T.Taker.stands g.T.Taker.cut c.args.out.now c.give.new.out items []) y.2.items (c.in-Err-give.ensures.err y.0 y.2.fits y.2.gives);
    }

pub returns-in-Ok-give-clause-within : goal.returns-in-Ok-give-clause-within
returns-in-Ok-give-clause-within g c k w =
    let all : k + entries_of c.args.deed.now ≡ k = let none = part_none c.args.deed.now c.requires.part.1 in omega (arith, none) in
    subst (g.S.System.means.within c.bring_told.new.self.system) all (c.in-Ok.ensures.within k w)

pub returns-in-Ok-give-clause-core : goal.returns-in-Ok-give-clause-core
returns-in-Ok-give-clause-core g c frames d st fits core = c.in-Ok.ensures.calm frames d fits core (inl c.requires.part)

pub returns-in-Ok-give-clause-outside : goal.returns-in-Ok-give-clause-outside
returns-in-Ok-give-clause-outside g c =
    uses_well g.T.Taker.onward g.T.Taker.fault_count g.D.Drum.fault_count g.D.Drum.read_count g.D.Drum.write_count g.D.Drum.size _ c.args.out.now c.give.new.out c.args.drum.now c.bring_told.new.drum (outside_then g.T.Taker.onward g.T.Taker.fault_count g.D.Drum.fault_count g.D.Drum.read_count g.D.Drum.write_count g.D.Drum.size c.args.out.now c.args.out.now c.give.new.out c.args.drum.now c.bring_told.new.drum c.bring_told.new.drum (outside_drum g.T.Taker.onward g.T.Taker.fault_count g.D.Drum.fault_count g.D.Drum.read_count g.D.Drum.write_count g.D.Drum.size c.args.out.now c.args.drum.now c.bring_told.new.drum c.bring_told.ensures.later c.bring_told.ensures.reads c.bring_told.ensures.writes c.bring_told.ensures.size) (outside_taker g.T.Taker.onward g.T.Taker.fault_count g.D.Drum.fault_count g.D.Drum.read_count g.D.Drum.write_count g.D.Drum.size c.args.out.now c.give.new.out c.bring_told.new.drum c.give.ensures.later c.give.ensures.onward))

pub returns-in-Err-give-clause-outside : goal.returns-in-Err-give-clause-outside
returns-in-Err-give-clause-outside g c =
    uses_taker g.T.Taker.onward g.T.Taker.fault_count g.D.Drum.fault_count g.D.Drum.read_count g.D.Drum.write_count g.D.Drum.size c.args.out.now c.give.new.out c.args.drum.now c.bring_told.new.drum (outside_then g.T.Taker.onward g.T.Taker.fault_count g.D.Drum.fault_count g.D.Drum.read_count g.D.Drum.write_count g.D.Drum.size c.args.out.now c.args.out.now c.give.new.out c.args.drum.now c.bring_told.new.drum c.bring_told.new.drum (outside_drum g.T.Taker.onward g.T.Taker.fault_count g.D.Drum.fault_count g.D.Drum.read_count g.D.Drum.write_count g.D.Drum.size c.args.out.now c.args.drum.now c.bring_told.new.drum c.bring_told.ensures.later c.bring_told.ensures.reads c.bring_told.ensures.writes c.bring_told.ensures.size) (outside_taker g.T.Taker.onward g.T.Taker.fault_count g.D.Drum.fault_count g.D.Drum.read_count g.D.Drum.write_count g.D.Drum.size c.args.out.now c.give.new.out c.bring_told.new.drum c.give.ensures.later c.give.ensures.onward)) c.in-Err-give.ensures.cause

pub returns-in-Err-clause-outside : goal.returns-in-Err-clause-outside
returns-in-Err-clause-outside g c =
    uses_drum g.T.Taker.onward g.T.Taker.fault_count g.D.Drum.fault_count g.D.Drum.read_count g.D.Drum.write_count g.D.Drum.size c.args.out.now c.args.out.now c.args.drum.now c.bring_told.new.drum (outside_drum g.T.Taker.onward g.T.Taker.fault_count g.D.Drum.fault_count g.D.Drum.read_count g.D.Drum.write_count g.D.Drum.size c.args.out.now c.args.drum.now c.bring_told.new.drum c.bring_told.ensures.later c.bring_told.ensures.reads c.bring_told.ensures.writes c.bring_told.ensures.size) c.in-Err.ensures.cause
