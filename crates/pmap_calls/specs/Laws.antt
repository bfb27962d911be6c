-- What laws say of the calls on maps.
use Rattle.std.specs.Prelude.{◌≡◌, ℕ, Some}
use Rattle.plain_model.specs.declared.call.End.{End}
use Rattle.plain_model.specs.declared.call.End.TheVariants.{Refused}
use Rattle.plain_model.specs.declared.call.MapChange.{MapChange}
use Rattle.plain_pages.specs.declared.map.MapEntry.{MapEntry}
use Rattle.machine_names.specs.declared.names.Slot.{Slot}
use Rattle.plain_model.specs.declared.fork.Fork.{Fork}
use Rattle.plain_pages.specs.PlainPages.{NumberedPages}
use Rattle.plain_pages.specs.Maps.{entry_at}

-- a slot of a fork that is there
abbrev pub HasEntry : NumberedPages → Slot → Type 0
HasEntry p s = (e : MapEntry) × (entry_at p.maps s ≡ Some e)

-- a call on maps that is refused
abbrev pub refusal : ℕ → End MapChange
refusal code = Refused code

-- of a fork its error is this, and all else is as it was but its status and its pending channels
pub record LeavesErrorAlone (f : Fork) (code : ℕ) (g : Fork) : Type 0 where
  pub error : g.body.error ≡ code
  pub regs : g.body.regs ≡ f.body.regs
  pub name : g.name ≡ f.name
  pub slot : g.slot ≡ f.slot
  pub superior : g.superior ≡ f.superior
  pub frozen : g.frozen ≡ f.frozen
  pub sleep : g.body.sleep ≡ f.body.sleep
  pub units : g.body.units ≡ f.body.units
