-- Which family of calls has a number.
use Rattle.std.specs.Prelude.{ℕ, Bool, Option, None, Some, if◌then◌else◌}
use Rattle.plain_model.specs.Calls.{is_among}
use Rattle.plain_model.specs.ByteCalls.{byte_calls}
use Rattle.plain_model.specs.ClockCalls.{clock_calls}
use Rattle.plain_model.specs.Families.{print_calls}
use Rattle.plain_model.specs.FileCalls.{file_calls, jfn_calls}
use Rattle.plain_model.specs.ForkCalls.{fork_calls}
use Rattle.plain_model.specs.InterruptCalls.{interrupt_calls}
use Rattle.plain_model.specs.MapCalls.{map_calls}
use Rattle.plain_model.specs.StringCalls.{string_calls}
use Rattle.call_turns.specs.declared.family.CallFamily.{CallFamily}
use Rattle.call_turns.specs.declared.family.CallFamily.TheVariants.{Printing, Forks, Interrupts, Clock, Maps, Errors, Jfns, Bytes, Strings}

-- this family where it has the number, and else another
abbrev pub if_has : CallFamily → Bool → Option CallFamily → Option CallFamily
if_has family has other = if has then Some family else other

-- the first family that has the number, in the order of the definitions
abbrev pub family_of : ℕ → Option CallFamily
family_of number =
    if_has Printing (is_among print_calls number)
    (if_has Forks (is_among fork_calls number)
    (if_has Interrupts (is_among interrupt_calls number)
    (if_has Clock (is_among clock_calls number)
    (if_has Maps (is_among map_calls number)
    (if_has Errors (is_among file_calls number)
    (if_has Jfns (is_among jfn_calls number)
    (if_has Bytes (is_among byte_calls number)
    (if_has Strings (is_among string_calls number) None))))))))
