-- A turn of a call is that of the family that has its number.
use Rattle.std.proofs.Common.{◌≡◌, ℕ, Bool, true, false, cond, List, Option, None, Some, refl}
use Rattle.std.specs.Option.{option_map}
use Rattle.std.specs.Ordering.{nat_cmp}
use Rattle.std.specs.FinMap as map
use Rattle.machine_names.specs.declared.names.ForkName.{ForkName}
use Rattle.plain_units.specs.declared.channel.TheConstants.{ILLEGAL_INSTRUCTION}
use Rattle.plain_units.specs.declared.registers.Regs.{Regs}
use Rattle.plain_model.specs.Interrupts.{posted}
use Rattle.plain_model.specs.Calls.{is_among}
use Rattle.plain_model.specs.ByteCalls.{byte_calls}
use Rattle.plain_model.specs.ClockCalls.{clock_calls}
use Rattle.plain_model.specs.Families.{Parts, Turned, print_calls, call_turned}
use Rattle.plain_model.specs.FileCalls.{file_calls, jfn_calls}
use Rattle.plain_model.specs.ForkCalls.{fork_calls}
use Rattle.plain_model.specs.InterruptCalls.{interrupt_calls}
use Rattle.plain_model.specs.MapCalls.{map_calls}
use Rattle.plain_model.specs.StringCalls.{string_calls}
use Rattle.call_turns.specs.declared.family.CallFamily.{CallFamily}
use Rattle.call_turns.specs.declared.family.CallFamily.TheVariants as family
use Rattle.call_turns.specs.Families.{family_of, if_has}
use Rattle.plain_model.specs.EachFamily.{forking, interrupting, timing, mapping, filing, opening, bytes, strings, printing, offered}

module _ (key : List ℕ → ℕ) (v : Parts nat_cmp) (who : ForkName) (regs : Regs) (number : ℕ) where
  -- what is behind a turn of a number that is no call
  abbrev pub no_call_turned : Turned nat_cmp
  no_call_turned = record { parts = v; caller = option_map (λ f. posted f ILLEGAL_INSTRUCTION) (map.get v.tree.forks who); out = None }

  -- and behind one of a family
  abbrev pub turned_by : Option CallFamily → Turned nat_cmp
  turned_by None = no_call_turned
  turned_by (Some family.Printing) = (offered printing).turned v who regs number
  turned_by (Some family.Forks) = (offered forking).turned v who regs number
  turned_by (Some family.Interrupts) = (offered interrupting).turned v who regs number
  turned_by (Some family.Clock) = (offered timing).turned v who regs number
  turned_by (Some family.Maps) = (offered (mapping key)).turned v who regs number
  turned_by (Some family.Errors) = (offered filing).turned v who regs number
  turned_by (Some family.Jfns) = (offered (opening key)).turned v who regs number
  turned_by (Some family.Bytes) = (offered (bytes key)).turned v who regs number
  turned_by (Some family.Strings) = (offered (strings key)).turned v who regs number

  step : (this : CallFamily) (has : Bool) (x y : Turned nat_cmp) (other : Option CallFamily) → x ≡ turned_by (Some this) → y ≡ turned_by other → cond has x y ≡ turned_by (if_has this has other)
  step this true x y other here there = here
  step this false x y other here there = there

  -- THE TURN OF A CALL IS THAT OF ITS FAMILY
  pub by_family : call_turned key v who regs number ≡ turned_by (family_of number)
  by_family =
      step family.Printing (is_among print_calls number) _ _ _ refl
      (step family.Forks (is_among fork_calls number) _ _ _ refl
      (step family.Interrupts (is_among interrupt_calls number) _ _ _ refl
      (step family.Clock (is_among clock_calls number) _ _ _ refl
      (step family.Maps (is_among map_calls number) _ _ _ refl
      (step family.Errors (is_among file_calls number) _ _ _ refl
      (step family.Jfns (is_among jfn_calls number) _ _ _ refl
      (step family.Bytes (is_among byte_calls number) _ _ _ refl
      (step family.Strings (is_among string_calls number) _ _ _ refl refl))))))))
