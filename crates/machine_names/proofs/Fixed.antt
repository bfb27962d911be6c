-- Texts of fixed room.
use Rattle.std.proofs.Common.{◌≡◌, ℕ, ◌-◌, ◌≤◌, List, ◌++◌, length, drop, arith, ◌∙◌, ap, length-append, length-drop}
use Rattle.std.specs.Prelude.{replicate}
use Rattle.std.proofs.lemmas.List.{length-replicate, drop-replicate}
use Rattle.std.proofs.Math.Seq.{drop-append_seam}

-- a text in front of what is left of the zeros
pub padded_text : (n : ℕ) (text copy : List ℕ) → copy ≡ text → length text ≤ n
    → (length (copy ++ drop (length text) (replicate n 0)) ≡ n) × (length text ≤ n) × (drop (length text) (copy ++ drop (length text) (replicate n 0)) ≡ replicate (n - length text) 0)
padded_text n text copy is fits = (
  omega (arith, length-append {A = ℕ}, length-drop {A = ℕ}, length-replicate {A = ℕ} n 0, ap length is, fits),
  fits,
  ap (λ c. drop (length text) (c ++ drop (length text) (replicate n 0))) is ∙ drop-append_seam text (drop (length text) (replicate n 0)) ∙ drop-replicate (length text) n 0,
)
