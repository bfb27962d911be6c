use Rattle.std.specs.Prelude.{[]}
use Rattle.std.specs.Option.{option_and_then, option_map_or}
use Rattle.machine_names.specs.FileNames.{file_named}
use Rattle.plain_units.specs.Deeds.{in_ac}
use Rattle.plain_model.specs.Calls.{ends}
use Rattle.plain_model.specs.FileCalls.{taking}
use Rattle.plain_model.specs.PointedTexts.{text_at}
use Rattle.plain_model.specs.declared.call.End.TheVariants.{Failed}
use Rattle.plain_model.specs.declared.call.TheConstants.{BAD_NAME}
use Rattle.file_calls.specs.Asking.{names_of}
use Rattle.step_wants.specs.Names.{none_at_end}
use Rattle.step_wants.proofs.Families.{bytes_named, interrupts_named, maps_named, strings_named}
use Rattle.step_wants.proofs.Texts.{reading_named}
use Rattle.step_wants.proofs.laws.what_turns_need_is_named.Goals as goal

pub returns-clause-bytes : goal.returns-clause-bytes
returns-clause-bytes c tables scene p t map_home page_home home homed is = bytes_named map_home page_home home tables scene p t homed is

pub returns-clause-strings : goal.returns-clause-strings
returns-clause-strings c tables scene p t map_home page_home home homed is = strings_named map_home page_home home tables scene p t homed is

pub returns-clause-interrupts : goal.returns-clause-interrupts
returns-clause-interrupts c scene p t map_home page_home home homed is = interrupts_named map_home page_home home scene p t homed is

pub returns-clause-maps : goal.returns-clause-maps
returns-clause-maps c tables scene p t map_home page_home home homed is = maps_named map_home page_home home tables scene p t homed is

pub returns-clause-texts : goal.returns-clause-texts
returns-clause-texts c tables p a map_home page_home home homed is =
    reading_named map_home page_home home a.who p a.regs homed (names_of tables) none_at_end (λ text. option_map_or (taking a) (option_and_then (file_named a.user []) text) (ends (Failed BAD_NAME)))
    (text_at a.regs (in_ac a.regs 2)) p.pages is
