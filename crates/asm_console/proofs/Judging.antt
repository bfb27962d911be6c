-- What the reason why there are no words tells.
use Rattle.std.proofs.Common.{◌≡◌, ℕ, ◌≤◌, List, Some, Result, Ok, Err, ◌∙◌, ap, arith, length, length-append}
use Rattle.outside.specs.declared.failure.Failed.{Failed}
use Rattle.texts.specs.Wrote.{Told}
use Rattle.asm_core.specs.declared.line.AsmFault.{AsmFault}
use Rattle.asm_core.specs.declared.line.AsmFault.TheVariants.{Memory as NoMemory, Line, Overrun, Doubled, Undefined}
use Rattle.asm_core.specs.declared.survey.TheConstants.{PROGRAM_BYTES}
use Rattle.asm_core.specs.Places.{outcome}
use Rattle.asm_console.specs.declared.asm_end.AsmEnd.TheVariants.{Stopped as Ended}
use Rattle.asm_console.specs.declared.asm_end.Stopped.{Stopped}
use Rattle.asm_console.specs.declared.asm_end.Stopped.TheVariants.{ReadFault as Unread, LongText as TooLong, Fault as Faulty}
use Rattle.asm_console.specs.Endings.{HasFault, IsFaultOf, IsRead, IsTrueOf, Judges, JudgesWhy, end_behind}

-- the text that is told has the fault
faulty : (source source' : Told) (bytes : List ℕ) (fault : AsmFault) → source ≡ Some bytes → (text : List ℕ) × IsRead source source' text × (length text ≤ PROGRAM_BYTES) × (outcome text ≡ Err fault)
    → (length bytes ≤ PROGRAM_BYTES) × (outcome bytes ≡ Err fault)
faulty source source' bytes fault told (text, read, short, has) =
    let same = (read bytes told).0 in
    (omega (arith, short, ap length same), ap outcome same ∙ has)

judged_fault : (source source' : Told) (bytes : List ℕ) (fault : AsmFault) → source ≡ Some bytes → HasFault source source' fault → IsFaultOf bytes fault
judged_fault source source' bytes NoMemory told h = tt
judged_fault source source' bytes (Line n) told h = faulty source source' bytes (Line n) told h
judged_fault source source' bytes (Overrun n) told h = faulty source source' bytes (Overrun n) told h
judged_fault source source' bytes (Doubled s) told h = faulty source source' bytes (Doubled s) told h
judged_fault source source' bytes (Undefined s) told h = faulty source source' bytes (Undefined s) told h

judged_why : (source source' : Told) (bytes : List ℕ) (why : Stopped) → source ≡ Some bytes → IsTrueOf source source' why → JudgesWhy bytes why
judged_why source source' bytes Unread told h = tt
judged_why source source' bytes TooLong told h =
    let lost = h.loses bytes told in
    omega (arith, h.count, ap length lost.2, length-append h.taken lost.0)
judged_why source source' bytes (Faulty fault) told h = judged_fault source source' bytes fault told h

pub judged : (source source' : Told) (bytes : List ℕ) (why : Stopped) (r : Result (Unit {0}) Failed) → source ≡ Some bytes → IsTrueOf source source' why
    → Judges bytes (end_behind r (Ended why))
judged source source' bytes why (Ok u) told h = judged_why source source' bytes why told h
judged source source' bytes why (Err e) told h = tt
