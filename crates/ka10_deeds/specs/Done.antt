-- What a deed that is done leaves: the registers, the word that it stores, and its post.
use Rattle.std.specs.Prelude.{◌≡◌, ℕ, ◌<◌, ◌^◌, Option, None, Some}
use Rattle.word36.specs.Arithmetic.{Outcome}
use Rattle.ka10_alu.specs.declared.out.Out.{Out}
use Rattle.ka10_table.specs.declared.families.TableRow.{TableRow}
use Rattle.plain_units.specs.declared.channel.TheConstants.{OVERFLOW, PUSHDOWN_OVERFLOW}
use Rattle.plain_units.specs.declared.registers.Regs.{Regs}
use Rattle.plain_units.specs.Deeds.{Deed, Store, nowhere, back, into, before, deed_of}
use Rattle.plain_units.specs.Instructions.{with_deed}
use Rattle.ka10_deeds.specs.declared.done.Done.{Done}
use Rattle.ka10_deeds.specs.declared.done.Post.{Post}
use Rattle.ka10_deeds.specs.declared.done.Post.TheVariants as post
use Rattle.ka10_deeds.specs.declared.operands.Destination.{Destination}
use Rattle.ka10_deeds.specs.declared.operands.Destination.TheVariants as destination

-- the word that a store stores, if it stores one
abbrev pub stored_word : Store → Option ℕ
stored_word nowhere = None
stored_word (back at w) = Some w
stored_word (into at w) = Some w
stored_word (before at w) = Some w

-- the store of a word at a destination; where there is no word nothing is stored
abbrev pub store_at : Destination → Option ℕ → Store
store_at d None = nowhere
store_at destination.Nowhere (Some w) = nowhere
store_at (destination.Back at) (Some w) = back at w
store_at (destination.Into at) (Some w) = into at w
store_at (destination.Before at) (Some w) = before at w

-- the address of a destination is below a limit
abbrev pub LiesBelow : ℕ → Destination → Type 0
LiesBelow limit destination.Nowhere = Unit {0}
LiesBelow limit (destination.Back at) = at < limit
LiesBelow limit (destination.Into at) = at < limit
LiesBelow limit (destination.Before at) = at < limit

-- the channel of a post
abbrev pub channel_of : Post → Option ℕ
channel_of post.Nothing = None
channel_of post.Overflow = Some OVERFLOW
channel_of post.Pushdown = Some PUSHDOWN_OVERFLOW

-- a deed is done on the registers, and the word that it stores and its post are told
pub record Leaves (d : Deed) (ac : ℕ) (old new : Regs) (told : Done) : Type 0 where
  pub regs : new ≡ with_deed old ac d
  pub stored : told.stored ≡ stored_word d.store
  pub post : channel_of told.post ≡ d.post
  pub pc : new.pc < 2 ^ 18

-- the same of the instruction of a row, with its opcode
abbrev pub DoesRow : TableRow → ℕ → ℕ → ℕ → ℕ → ℕ → Regs → Regs → Done → Type 0
DoesRow row op ac e last m old new told = Leaves (deed_of row op old ac e last m) ac old new told

-- the outcome of an operation that gave this
abbrev pub outcome_of : Out → Outcome
outcome_of out = record { word = out.word; low = out.low; flags = out.flags }

-- a word goes back to where one was read
abbrev pub GoesBack : Destination → Type 0
GoesBack destination.Nowhere = ⊥
GoesBack (destination.Back at) = Unit {0}
GoesBack (destination.Into at) = ⊥
GoesBack (destination.Before at) = ⊥
