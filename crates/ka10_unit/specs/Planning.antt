-- The parts of a unit, as the calls do them that plan it.
use Rattle.std.specs.Prelude.{◌≡◌, ℕ, ◌<◌, ◌^◌, Bool, true, false, None, Some, List, length, Result, Ok, Err, IfOk}
use Rattle.ka10_table.specs.declared.families.Family.{Family}
use Rattle.ka10_table.specs.declared.families.Family.TheVariants as family
use Rattle.ka10_table.specs.declared.families.TableRow.{TableRow}
use Rattle.machine_names.specs.declared.names.TheConstants.{ACCUMULATORS}
use Rattle.machine_names.specs.declared.names.ForkName.{ForkName}
use Rattle.machine_names.specs.declared.names.Kind.TheVariants.{Execute, Write}
use Rattle.plain_units.specs.declared.registers.Regs.{Regs}
use Rattle.page_contracts.specs.DrumWords.{DrumWords}
use Rattle.page_contracts.specs.Pages.{PagesMeaning}
use Rattle.page_contracts.specs.Stores.{StoreMeaning, IsNeeded}
use Rattle.plain_units.specs.Steps.{Steps, Ending as End, refers, keeps, calls, trap, need, done, stopped, call, begun}
use Rattle.plain_units.specs.Addressing.{opcode, ac_field, address, address_within}
use Rattle.plain_units.specs.Deeds.{Deed, before}
use Rattle.plain_units.specs.Instructions.{does, does_pointer, instruction, is_executive, local_word, LOCAL_CALL, LOCAL_HANDLER}
use Rattle.plain_units.specs.Units.{unit_on}
use Rattle.ka10_deeds.specs.declared.word_fields.Address.{Address}
use Rattle.ka10_deeds.specs.declared.done.Done.{Done}
use Rattle.ka10_deeds.specs.declared.operands.Destination.{Destination}
use Rattle.ka10_unit.specs.declared.ends.Ending.{Ending}
use Rattle.ka10_unit.specs.declared.plans.WordStep.{WordStep}
use Rattle.ka10_unit.specs.declared.plans.WordStep.TheVariants as step
use Rattle.ka10_unit.specs.declared.plans.Planned.{Planned}
use Rattle.ka10_unit.specs.declared.plans.Planned.TheVariants as planned
use Rattle.ka10_unit.specs.declared.taken.Taken.{Taken}
use Rattle.ka10_unit.specs.declared.taken.Stop.{Stop}
use Rattle.ka10_unit.specs.declared.taken.Stop.TheVariants as stop
use Rattle.ka10_deeds.specs.Done.{Leaves, channel_of, store_at}
use Rattle.ka10_unit.specs.Gathers.{Framed, IsPutBelow, framed}
use Rattle.ka10_unit.specs.Taking.{CanPut, HasSpare, IsPlain, Plan, Stands, most_frames, progress, run_over, so_far, stop_of}

-- an effective address, with so many words at most, and with any
abbrev pub reached_within : ℕ → List ℕ → ℕ → (Address → Steps) → Steps
reached_within n ac w next = address_within n ac w (λ e last. next (record { e = e; last = last }))

abbrev pub reached : List ℕ → ℕ → (Address → Steps) → Steps
reached ac w next = address ac w (λ e last. next (record { e = e; last = last }))

-- the same unit is left behind a part that was done as behind the whole
pub record Leads {A : Type 0} (f : ForkName) (p : Framed) (ac : List ℕ) (old new : Taken) (whole left : (A → Steps) → Steps) : Type 0 where
  pub stands : Stands f p new
  pub runs : (next : A → Steps) → run_over f p (whole next) (progress p ac old) ≡ run_over f p (left next) (progress p ac new)

-- the end of a unit, with the channel of its post
abbrev pub end_of : Ending → End
end_of x = record { regs = x.regs; put = x.put; post = channel_of x.post }

-- a unit that ended, or stopped
abbrev pub ended : Framed → List ℕ → Taken → Result Ending Stop → Plan
ended p ac t (Ok x) = done (progress p ac t) (end_of x)
ended p ac t (Err e) = stopped (stop_of e)

-- the last word of an end can be stored
abbrev pub CanEnd : ForkName → Framed → Result Ending Stop → Type 0
CanEnd f p (Ok x) = CanPut f p x.put
CanEnd f p (Err e) = Unit {0}

-- a call that ends a unit
pub record Ends (f : ForkName) (p : Framed) (ac : List ℕ) (old new : Taken) (left : Steps) (result : Result Ending Stop) : Type 0 where
  pub stands : Stands f p new
  pub put : CanEnd f (so_far p new) result
  pub runs : run_over f p left (progress p ac old) ≡ ended p ac new result

-- the same over pages, and whatever drum
abbrev pub DoesEnd : {P : Type 0} → PagesMeaning P → P → List ℕ → Taken → Taken → Steps → Result Ending Stop → Type 0
DoesEnd means p ac old new left result = (d : DrumWords) (f : ForkName) → means.fits p d → Stands f (framed means p d) old → Ends f (framed means p d) ac old new left result

-- a deed is done on the registers before it, and its word goes to a destination; a word that is stored before the accumulators are
-- written comes with a word for its own accumulator, and none for the next
pub record IsDone (d : Deed) (n : ℕ) (old new : Regs) (to : Destination) (told : Done) : Type 0 where
  pub leaves : Leaves d n old new told
  pub store : store_at to told.stored ≡ d.store
  pub block : (at w : ℕ) → d.store ≡ before at w → (d.next ≡ None) × ((a : ℕ) × (d.ac ≡ Some a))

-- a word that is illegal before its address is taken: no instruction, a monitor call behind a local call, and JRST of the executive
abbrev pub is_illegal : Family → Bool → ℕ → Bool
is_illegal family.Illegal is_local ac = true
is_illegal family.Monitor is_local ac = is_local
is_illegal family.Jrst is_local ac = is_executive ac
is_illegal f is_local ac = false

-- a local call stores at 40 and goes on at 41
abbrev pub calls_local : ℕ → ℕ → (Bool → ℕ → Steps) → Steps
calls_local w e next = refers LOCAL_CALL Write (λ v. keeps LOCAL_CALL (local_word w e) (refers LOCAL_HANDLER Execute (next true)))

-- what an instruction does with its address
abbrev pub does_at : Family → TableRow → Bool → Regs → ℕ → Address → (Bool → ℕ → Steps) → Steps
does_at family.Monitor row is_local regs w a next = calls a.e
does_at family.Xct row is_local regs w a next = refers a.e Execute (next is_local)
does_at family.Local row is_local regs w a next = calls_local w a.e next
does_at family.ByteOp row is_local regs w a next = does_pointer row.code regs (ac_field w) a.e
does_at f row is_local regs w a next = does row (opcode w) regs (ac_field w) a.e a.last

-- what one word of a unit comes to
abbrev pub stepped : Framed → List ℕ → Taken → Result WordStep Stop → (Bool → ℕ → Plan) → Plan
stepped p ac t (Ok (step.Goes n)) next = next n.is_local n.word
stepped p ac t (Ok (step.Ends x)) next = done (progress p ac t) (end_of x)
stepped p ac t (Ok (step.Calls n)) next = call n
stepped p ac t (Err e) next = stopped (stop_of e)

abbrev pub CanStep : ForkName → Framed → Result WordStep Stop → Type 0
CanStep f p (Ok (step.Ends x)) = CanPut f p x.put
CanStep f p result = Unit {0}

-- a call that does one word of a unit: it ends the unit, or goes on with the word of an XCT or a local call
pub record StepsOn (f : ForkName) (p : Framed) (ac : List ℕ) (old new : Taken) (left : (Bool → ℕ → Steps) → Steps) (result : Result WordStep Stop) : Type 0 where
  pub stands : Stands f p new
  pub put : CanStep f (so_far p new) result
  pub runs : (next : Bool → ℕ → Steps) → run_over f p (left next) (progress p ac old) ≡ stepped p ac new result (λ l v. run_over f p (next l v) (progress p ac new))

-- the same over pages, and whatever drum
abbrev pub DoesStep : {P : Type 0} → PagesMeaning P → P → List ℕ → Taken → Taken → ((Bool → ℕ → Steps) → Steps) → Result WordStep Stop → Type 0
DoesStep means p ac old new left result = (d : DrumWords) (f : ForkName) → means.fits p d → Stands f (framed means p d) old → StepsOn f (framed means p d) ac old new left result

-- a plan that stops before its end
abbrev pub stopped_by : Stop → Planned
stopped_by (stop.Trap channel) = planned.Trap channel
stopped_by (stop.Need n) = planned.Need n

-- what a plan says
abbrev pub planned_as : Framed → List ℕ → Taken → Planned → Plan
planned_as p ac t (planned.Do x) = done (progress p ac t) (end_of x)
planned_as p ac t (planned.Need n) = stopped (need n)
planned_as p ac t (planned.Trap channel) = stopped (trap channel)
planned_as p ac t (planned.Call number) = call number

abbrev pub CanDo : ForkName → Framed → Planned → Type 0
CanDo f p (planned.Do x) = CanPut f p x.put
CanDo f p (planned.Need n) = Unit {0}
CanDo f p (planned.Trap channel) = Unit {0}
CanDo f p (planned.Call number) = Unit {0}

-- what was planned is what is left of a unit
pub record Concludes (f : ForkName) (p : Framed) (ac : List ℕ) (old new : Taken) (left : Steps) (result : Planned) : Type 0 where
  pub stands : Stands f p new
  pub put : CanDo f (so_far p new) result
  pub runs : run_over f p left (progress p ac old) ≡ planned_as p ac new result

-- the same over pages, and whatever drum
abbrev pub DoesRest : {P : Type 0} → PagesMeaning P → P → List ℕ → Taken → Taken → Steps → Planned → Type 0
DoesRest means p ac old new left result = (d : DrumWords) (f : ForkName) → means.fits p d → Stands f (framed means p d) old → Concludes f (framed means p d) ac old new left result

-- the unit of an instruction over pages of which some are in no frame
abbrev pub unit_over : ForkName → Framed → Regs → Plan
unit_over f p regs = run_over f p (instruction regs) (begun p.pages regs.ac)

-- a plan is what the whole unit comes to over these pages, and over the plain ones where it needs nothing first; and it can be carried out
pub record Plans (f : ForkName) (p : Framed) (regs : Regs) (t : Taken) (result : Planned) : Type 0 where
  pub stands : Stands f p t
  pub put : CanDo f (so_far p t) result
  pub is : unit_over f p regs ≡ planned_as p regs.ac t result
  pub plain : IsPlain (planned_as p regs.ac t result) (unit_on f p.pages regs)

-- a plan that needs nothing first
abbrev pub NeedsNothing : Planned → Type 0
NeedsNothing (planned.Need n) = ⊥
NeedsNothing plan = Unit {0}

-- what a plan needs first is so, over whatever drum
abbrev pub PlanNeeds : {P : Type 0} → StoreMeaning P → P → Planned → Type 0
PlanNeeds store p (planned.Need n) = IsNeeded store most_frames p n
PlanNeeds store p plan = Unit {0}

-- an end is of the machine: its registers, and the address of its last word
pub record IsEnding (x : Ending) : Type 0 where
  pub pc : x.regs.pc < 2 ^ 18
  pub accumulators : length x.regs.ac ≡ ACCUMULATORS
  pub put : IsPutBelow (2 ^ 18) x.put

-- what a word of a unit comes to: it goes on behind its fetch, or it ends, or calls
abbrev pub IsStep : Result WordStep Stop → Taken → Type 0
IsStep (Ok (step.Goes n)) t = HasSpare 1 t
IsStep (Ok (step.Ends x)) t = IsEnding x
IsStep (Ok (step.Calls n)) t = n < 2 ^ 18
IsStep (Err e) t = Unit {0}

abbrev pub IsPlan : Planned → Type 0
IsPlan (planned.Do x) = IsEnding x
IsPlan (planned.Need n) = Unit {0}
IsPlan (planned.Trap channel) = Unit {0}
IsPlan (planned.Call number) = number < 2 ^ 18

-- what a call that ends a unit leaves: the same unit, and the word that was kept; its end is of the machine
pub record LeavesEnd (old new : Taken) (result : Result Ending Stop) : Type 0 where
  pub fork : new.fork ≡ old.fork
  pub kept : new.kept ≡ old.kept
  pub end : IfOk result (λ x. IsEnding x)

-- a call that ended a unit is a step that ends it
abbrev pub as_step : Result Ending Stop → Result WordStep Stop
as_step (Ok x) = Ok (step.Ends x)
as_step (Err e) = Err e
