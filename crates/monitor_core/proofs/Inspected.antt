-- An inspection of a fork, where files are known by their names as where they are known by numbers.
use Rattle.std.proofs.Common.{◌≡◌, ◌%◌, Bool, true, false, cond, None, Some, refl}
use Rattle.outside.specs.declared.TheConstants.{PAGE_WORDS}
use Rattle.machine_names.specs.Orders.{name_cmp}
use Rattle.plain_pages.proofs.Refiled.{NameAlike}
use Rattle.plain_pages.specs.PlainPages.{NumberedPages}
use Rattle.plain_pages.specs.References.{slot_at}
use Rattle.plain_units.proofs.RefiledUnits.{stored_leaves, stored_refiled}
use Rattle.plain_units.specs.Steps.{is_accumulator, put_into}
use Rattle.plain_model.proofs.Turns.{came_leaves, came_refiled, refiled_came}
use Rattle.plain_model.specs.Calls.{no_files}
use Rattle.plain_model.specs.declared.fork.Fork.{Fork}
use Rattle.plain_model.specs.declared.interrupt.Delivery.{Delivery}
use Rattle.plain_model.specs.Inspections.{inspected, inspection_turn, interrupted_word, stored_word}
use Rattle.monitor_core.proofs.Filed.{NamedFiles, keyed}

-- it comes out the same
pub inspected_keyed : (filed : NamedFiles) (p : NumberedPages) → NameAlike name_cmp p filed → (f : Fork) → inspected f (keyed filed p) ≡ refiled_came name_cmp filed (inspected f p)
inspected_keyed filed p alike f = came_refiled name_cmp filed no_files no_files (record { names = λ name. refl; more = refl }) (inspection_turn f) p alike

-- and leaves the pages of files
pub inspected_files : (p : NumberedPages) (f : Fork) → (inspected f p).pages.files ≡ p.files
inspected_files p f = came_leaves no_files (inspection_turn f) p

-- so does the word that a delivery stores
pub word_keyed : (filed : NamedFiles) (p : NumberedPages) (f : Fork) (d : Delivery) → stored_word (keyed filed p) f d ≡ keyed filed (stored_word p f d)
word_keyed filed p f d = by (is_accumulator d.at)
  where
    by : (b : Bool) → put_into f.name (keyed filed p) (cond b None (Some (record { at = d.at; word = interrupted_word f.body.regs }))) ≡ keyed filed (put_into f.name p (cond b None (Some (record { at = d.at; word = interrupted_word f.body.regs }))))
    by true = refl
    by false = stored_refiled name_cmp filed f.name p (slot_at f.name d.at) (d.at % PAGE_WORDS) (interrupted_word f.body.regs)

pub word_files : (p : NumberedPages) (f : Fork) (d : Delivery) → (stored_word p f d).files ≡ p.files
word_files p f d = by (is_accumulator d.at)
  where
    by : (b : Bool) → (put_into f.name p (cond b None (Some (record { at = d.at; word = interrupted_word f.body.regs })))).files ≡ p.files
    by true = refl
    by false = stored_leaves p (slot_at f.name d.at) (d.at % PAGE_WORDS) (interrupted_word f.body.regs)
