-- What is written of a program.
use Rattle.std.proofs.Common.{◌≡◌, List, Result, Ok, Err, OnOk, OnErr, inl, subst}
use Rattle.std.specs.Prelude.{All}
use Rattle.outside.specs.declared.failure.Failed.{Failed}
use Rattle.outside.specs.Told.{Grows}
use Rattle.machine_names.specs.declared.names.Tty.{Tty}
use Rattle.script_texts.specs.Limits.{FitsEvent}
use Rattle.texts.specs.Wrote.{GrowsPartly, Told}
use Rattle.asm_core.specs.declared.line.Placed.{Placed}
use Rattle.asm_console.specs.declared.asm_end.AsmEnd.TheVariants.{Done}
use Rattle.asm_console.specs.Endings.{Assembled, IsProgram, end_behind}
use Rattle.asm_console.specs.Lines.{events_of, lines_text}

-- the lines of the words that were shown, which are those of the program, were written, or a front of them
pub whole : (t : Tty) (source source' out out' : Told) (program shown : List Placed) (r : Result (Unit {0}) Failed) → shown ≡ program → IsProgram source source' program → OnOk r (All FitsEvent (events_of t shown))
    → OnOk r (Grows out out' (lines_text t shown)) → OnErr r (GrowsPartly out out' (lines_text t shown)) → Assembled t source source' (end_behind r Done) out out'
whole t source source' out out' program shown (Ok u) same is fits grows partly = record {
  program = program;
  is = is;
  fits = subst (λ l. All FitsEvent (events_of t l)) same fits;
  lines = subst (λ l. Grows out out' (lines_text t l)) same grows;
}
whole t source source' out out' program shown (Err e) same is fits grows partly = inl (program, is, subst (λ l. GrowsPartly out out' (lines_text t l)) same partly)
