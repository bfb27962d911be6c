-- Words that are written through a fork's map or into a file, as the plain pages have them.
use Rattle.std.specs.Prelude.{◌≡◌, ℕ, List, Result, Ok, Err, OnErr, OnOk}
use Rattle.std.specs.Ordering.{nat_cmp}
use Rattle.machine_names.specs.declared.names.Tty.{Tty}
use Rattle.machine_names.specs.declared.names.Slot.{Slot}
use Rattle.machine_names.specs.declared.names.Kind.TheVariants.{Write}
use Rattle.script_texts.specs.declared.event.Refusal.{Refusal}
use Rattle.script_texts.specs.declared.event.Refusal.TheVariants.{Denied, Full}
use Rattle.plain_model.specs.declared.fork.Fork.{Fork}
use Rattle.plain_model.specs.Calls.{with_ac}
use Rattle.plain_model.specs.Forks.{with_regs}
use Rattle.plain_pages.specs.PlainPages.{NumberedPages}
use Rattle.console_access.specs.declared.writing.Barred.{Barred}
use Rattle.console_access.specs.declared.writing.Barred.TheVariants.{ByMap, ByDrum}
use Rattle.plain_pages.specs.References.{Spot, Referred, granted, denied, full, in_map, reference, stored}
use Rattle.plain_model.specs.FileEvents.{stored_row}
use Rattle.page_contracts.specs.DrumWords.{DrumWords}
use Rattle.page_contracts.specs.Pages.{PagesMeaning}

-- a fork with a word in an accumulator
abbrev pub with_accumulator : ℕ → ℕ → Fork → Fork
with_accumulator at word f = with_regs f (with_ac f.body.regs at word)

-- a reference to write: the pages that it leaves, or what bars it
abbrev pub write_of : Referred nat_cmp → Result NumberedPages Barred
write_of (granted q) = Ok q
write_of (denied kind) = Err ByMap
write_of full = Err ByDrum

-- the pages that a call left that went
abbrev pub left_by : {X E : Type 0} → NumberedPages → Result X E → Result NumberedPages E
left_by q (Ok done) = Ok q
left_by q (Err cause) = Err cause

-- a page was made ready to write for an owner of what is made, or the write is barred, and nothing changes
pub record IsReadied {X : Type 0} (p q : NumberedPages) (at : Spot ℕ) (owner : Tty) (result : Result X Barred) : Type 0 where
  pub refers : write_of (reference p at Write owner) ≡ left_by q result
  pub stays : OnErr result (q ≡ p)

-- what bars a write, as an event of a terminal says it
abbrev pub poke_refusal : Tty → Barred → Refusal
poke_refusal t ByMap = Denied t
poke_refusal t ByDrum = Full t

-- a call that went, or is refused by what bars it
abbrev pub refused_by : {X E F : Type 0} → (E → F) → Result X E → Result X F
refused_by cause (Ok done) = Ok done
refused_by cause (Err e) = Err (cause e)

-- a word was written at an offset of a slot, or the write is refused, and nothing changes
pub record IsWritten (p q : NumberedPages) (s : Slot) (offset word : ℕ) (result : Result (Unit {0}) Refusal) : Type 0 where
  pub ready : NumberedPages
  pub tried : Result (Unit {0}) Barred
  pub readied : IsReadied p ready (in_map s) s.fork.tty tried
  pub is : result ≡ refused_by (poke_refusal s.fork.tty) tried
  pub store : (done : Unit {0}) → result ≡ Ok done → q ≡ stored ready (in_map s) offset word
  pub stays : OnErr result (q ≡ p)

-- the same over each drum that fits
pub record Writes {P : Type 0} (means : PagesMeaning P) (old new : P) (s : Slot) (offset word : ℕ) (result : Result (Unit {0}) Refusal) : Type 0 where
  pub each : (d : DrumWords) → means.fits old d → means.fits new d × IsWritten (means.plain old d) (means.plain new d) s offset word result

-- words were written one behind the other from an offset of a page on, or the write is barred, and nothing changes
pub record IsRowWritten {X : Type 0} (p q : NumberedPages) (at : Spot ℕ) (owner : Tty) (offset : ℕ) (words : List ℕ) (result : Result X Barred) : Type 0 where
  pub ready : NumberedPages
  pub readied : IsReadied p ready at owner result
  pub store : OnOk result (q ≡ stored_row ready at offset words)
  pub stays : OnErr result (q ≡ p)
