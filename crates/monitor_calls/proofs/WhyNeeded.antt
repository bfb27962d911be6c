-- Why a unit that isn't over needs something first.
use Rattle.std.proofs.Common.{◌≡◌, ℕ, Bool, true, false, Option, refl, sym, ◌∙◌, ap, subst, inl, inr}
use Rattle.std.specs.Ordering.{nat_cmp}
use Rattle.machine_names.specs.declared.names.ForkName.{ForkName}
use Rattle.page_contracts.specs.declared.answers.Need.{Need}
use Rattle.page_contracts.specs.DrumWords.{DrumWords}
use Rattle.page_contracts.specs.Pages.{PagesMeaning, Scene}
use Rattle.plain_pages.specs.PlainPages.{NumberedPages}
use Rattle.plain_units.specs.declared.registers.Regs.{Regs}
use Rattle.plain_model.specs.declared.call.End.{End}
use Rattle.plain_model.specs.declared.fork.Fork.{Fork}
use Rattle.plain_model.specs.declared.interrupt.Inspected.TheVariants.{Nothing}
use Rattle.plain_model.specs.Families.{Parts}
use Rattle.plain_model.specs.Inspections.{inspected, inspected_by, is_interrupted}
use Rattle.ka10_unit.specs.Gathers.{Framed, framed}
use Rattle.call_turns.specs.declared.answer.Answer.{Answer}
use Rattle.call_turns.specs.declared.answer.Answer.TheVariants as answer
use Rattle.call_turns.specs.declared.family.CallFamily.{CallFamily}
use Rattle.call_turns.specs.Answers.{IsDone, IsTurn}
use Rattle.call_turns.specs.Families.{family_of}
use Rattle.file_tables.specs.declared.tables.FileTables.{FileTables}
use Rattle.step_shown.specs.declared.shown.Shown.{Shown}
use Rattle.monitor_calls.specs.declared.row.Last.{Last}
use Rattle.monitor_calls.specs.declared.row.Last.TheVariants.{Shows, Calls, Needs}
use Rattle.monitor_calls.specs.ForkUnit.{IsOne, Leaving, behind_instruction}
use Rattle.monitor_calls.specs.Reasons.{CallNeeds, FamilyNeeds, InspectionStops, InstructionStops, NeedsIf, StopsIf, UnitNeeds, UnitStops, framed_in}
use Rattle.monitor_calls.proofs.Calling.{answer_done}

-- ---- a turn

-- one that needs this has a reason for it
pub reason_of : {C V : Type 0} {IsReason : Need → Type 0} {changed : C → V → V} {old made new : V} {a : Answer} {e : End C} (n : Need) → a ≡ answer.Need n → IsTurn IsReason changed old made new a e → IsReason n
reason_of {e} n is (inl went) = absurd (subst IsDone (sym went.answered ∙ is) (answer_done e))
reason_of {IsReason} n is (inr waits) =
    let both : answer.Need waits.need ≡ answer.Need n = sym waits.answered ∙ is in
    let same : waits.need ≡ n = cc both in
    subst IsReason same waits.reason

-- one that needs nothing has none
pub no_reason : {X : Type 0} {a : Answer} {n : Need} → IsDone a → a ≡ answer.Need n → X
no_reason done is = absurd (subst IsDone is done)

-- a turn of a call, by its family
pub by_family : (family : Option CallFamily) (files : FileTables) (scene : Scene) (v : Parts nat_cmp) (who : ForkName) (regs : Regs) (number : ℕ) (n : Need) → family_of number ≡ family
    → FamilyNeeds family files scene v who regs number n → CallNeeds files scene v who regs number n
by_family family files scene v who regs number n is needs = subst (λ o. FamilyNeeds o files scene v who regs number n) (sym is) needs

-- ---- a unit that isn't over

-- no channel is taken, and it stops as its instruction does
pub goes_on_stops : (f h : Fork) (p q : NumberedPages) (last : Last) → IsOne behind_instruction f p h q last → inspected_by (inspected f p).end ≡ Nothing → (scene : Scene)
    → InstructionStops (record { pages = q; scene = scene }) h last → InspectionStops (record { pages = q; scene = scene }) h last
goes_on_stops f h p q (Shows shown) one none scene stops = tt
goes_on_stops f h p q (Calls number) one none scene stops = ((λ i. inspected_by (inspected (sym one.0 i) (sym one.1 i)).end) ∙ none, stops)
goes_on_stops f h p q (Needs n) one none scene stops = inr ((λ i. inspected_by (inspected (sym one.0 i) (sym one.1 i)).end) ∙ none, stops)

-- one that is over stops in no way
pub stops_none : (r : Framed) (h : Fork) (shown : Shown) → UnitStops r h (Shows shown)
stops_none r h shown = by (is_interrupted h.body.psi)
  where
    by : (b : Bool) → StopsIf b r h (Shows shown)
    by true = tt
    by false = tt

-- one that isn't over leaves its fork as it was, so whether that looks at its channels stays
pub stops_so : (b : Bool) (leaving : Leaving) (f h : Fork) (p q : NumberedPages) (last : Last) → is_interrupted f.body.psi ≡ b → IsOne leaving f p h q last → (r : Framed) → StopsIf b r h last → UnitStops r h last
stops_so b leaving f h p q (Shows shown) is one r stops = stops_none r h shown
stops_so b leaving f h p q (Calls number) is one r stops = subst (λ c. StopsIf c r h (Calls number)) (sym is ∙ ap (λ (k : Fork). is_interrupted k.body.psi) one.0) stops
stops_so b leaving f h p q (Needs n) is one r stops = subst (λ c. StopsIf c r h (Needs n)) (sym is ∙ ap (λ (k : Fork). is_interrupted k.body.psi) one.0) stops

-- ---- why it needs something first

module _ (files : FileTables) (scene : Scene) (v : Parts nat_cmp) (f : Fork) (n : Need) where
  -- one that stops so does itself
  pub unit_needs : UnitStops (framed_in scene v) f (Needs n) → UnitNeeds files scene v f n
  unit_needs stops = by (is_interrupted f.body.psi) stops
    where
      by : (b : Bool) → StopsIf b (framed_in scene v) f (Needs n) → NeedsIf b files scene v f n
      by true (inl reads) = inl reads
      by true (inr goes) = inr (goes.0, inl goes.1)
      by false is = inl is

  -- or its call does
  pub call_needs : (number : ℕ) → UnitStops (framed_in scene v) f (Calls number) → CallNeeds files scene v f.name f.body.regs number n → UnitNeeds files scene v f n
  call_needs number stops needs = by (is_interrupted f.body.psi) stops
    where
      by : (b : Bool) → StopsIf b (framed_in scene v) f (Calls number) → NeedsIf b files scene v f n
      by true goes = inr (goes.0, inr (number, goes.1, needs))
      by false is = inr (number, is, needs)
