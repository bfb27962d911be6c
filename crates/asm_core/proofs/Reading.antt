-- A program read line by line.
use Rattle.std.proofs.Common.{◌≡◌, ℕ, ◌+◌, List, [], ◌∷◌, ◌++◌, length, None, Some, Result, Ok, Err, inl, inr, refl, ◌∙◌, ap, arith}
use Rattle.std.specs.Prelude.{if◌then◌else◌, ◌==◌}
use Rattle.asm_core.specs.declared.line.Line.{Line}
use Rattle.asm_core.specs.declared.line.AsmFault.{AsmFault}
use Rattle.asm_core.specs.declared.line.AsmFault.TheVariants.{Line as BadLine}
use Rattle.asm_core.specs.declared.symbols.Symbols.{Symbols}
use Rattle.asm_core.specs.Cutting.{cut, pieces, remainder}
use Rattle.asm_core.specs.Passes.{IsFault, Surveyed, kept}
use Rattle.asm_core.specs.Places.{lines_of, location, next_line, onward, read_behind, value_in}
use Rattle.asm_core.proofs.Cuts.{cut_pieces, cut_remainder, uncut_pieces, uncut_remainder}

module _ (before : List Line) (left : List ℕ) where
  module _ (line behind : List ℕ) (parted : cut 10 left ≡ Some (line, behind)) where
    pub opened : read_behind before (pieces 10 left) (remainder 10 left) ≡ onward (next_line before line) (λ x. read_behind (before ++ x ∷ []) (pieces 10 behind) (remainder 10 behind))
    unfolding read_behind
    opened =
        ap (λ ps. read_behind before ps (remainder 10 left)) (cut_pieces 10 left line behind parted)
        ∙ ap (λ r. read_behind before (line ∷ pieces 10 behind) r) (cut_remainder 10 left line behind parted)

    -- a line that is right is behind the others
    pub read_step : (x : Line) → next_line before line ≡ Ok x → read_behind before (pieces 10 left) (remainder 10 left) ≡ read_behind (before ++ x ∷ []) (pieces 10 behind) (remainder 10 behind)
    read_step x e = opened ∙ ap (λ o. onward o (λ x. read_behind (before ++ x ∷ []) (pieces 10 behind) (remainder 10 behind))) e

    -- one that is not is the fault
    pub read_fault : (fault : AsmFault) → next_line before line ≡ Err fault → read_behind before (pieces 10 left) (remainder 10 left) ≡ Err fault
    read_fault fault e = opened ∙ ap (λ o. onward o (λ x. read_behind (before ++ x ∷ []) (pieces 10 behind) (remainder 10 behind))) e

  -- behind the last line feed
  pub read_end : cut 10 left ≡ None → read_behind before (pieces 10 left) (remainder 10 left) ≡ (if length left == 0 then Ok before else Err (BadLine (length before + 1)))
  unfolding read_behind
  read_end e =
      ap (λ ps. read_behind before ps (remainder 10 left)) (uncut_pieces 10 left e)
      ∙ ap (λ (r : List ℕ). if length r == 0 then Ok before else Err (BadLine (length before + 1))) (uncut_remainder 10 left e)

pub fault_passed : {A B : Type 0} (fault : AsmFault) (o : Result A AsmFault) (p : Result B AsmFault) → (o ≡ Err fault → p ≡ Err fault) → IsFault fault o → IsFault fault p
fault_passed fault o p h (inl e) = inl e
fault_passed fault o p h (inr e) = inr (h e)

-- the first pass at its start
pub start_stands : (symbols : Symbols) → ((symbol : List ℕ) → kept symbols symbol ≡ None) → Surveyed (record { symbols = symbols; location = 0; lines = 0 }) []
unfolding location value_in
start_stands symbols none = record { number = refl; location = refl; within = omega arith; symbols = none }

pub start_read : (text : List ℕ) → read_behind [] (pieces 10 text) (remainder 10 text) ≡ lines_of text
unfolding lines_of
start_read text = refl
