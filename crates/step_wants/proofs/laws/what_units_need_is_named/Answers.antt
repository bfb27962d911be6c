use Rattle.step_wants.proofs.UnitsNamed.{call_named, unit_named}
use Rattle.step_wants.proofs.laws.what_units_need_is_named.Goals as goal

pub returns-clause-units : goal.returns-clause-units
returns-clause-units c tables scene v f map_home page_home home homed living filed is = unit_named map_home page_home home tables scene v homed living filed f is

pub returns-clause-calls : goal.returns-clause-calls
returns-clause-calls c tables scene v who regs number map_home page_home home homed living filed is = call_named map_home page_home home tables scene v homed living filed who regs number is
