-- A text of fixed room is its bytes, with zeros behind them.
use Rattle.std.specs.Prelude.{◌≡◌, ℕ, ◌-◌, ◌≤◌, List, ◌++◌, length, take, drop, replicate}
use Rattle.std.proofs.Common.{◌∙◌, sym, ap, arith, take-append-drop, length-take}
use Rattle.machine_names.specs.declared.text.Text.TheInside.{Inside}

abbrev pub padded : (n : ℕ) → List ℕ → Inside n
padded n xs = record { bytes = xs ++ replicate (n - length xs) 0; count = length xs }

-- a text with zeros behind it fills its room
pub padded_take : (n : ℕ) (t : Inside n) → (length t.bytes ≡ n) × (t.count ≤ n) × (drop t.count t.bytes ≡ replicate (n - t.count) 0) → padded n (take t.count t.bytes) ≡ t
padded_take n t h =
    let count : length (take t.count t.bytes) ≡ t.count = omega (arith, length-take t.count t.bytes, h.0, h.1) in
    let bytes : take t.count t.bytes ++ replicate (n - length (take t.count t.bytes)) 0 ≡ t.bytes =
    ap (λ k. take t.count t.bytes ++ replicate (n - k) 0) count ∙ ap (λ xs. take t.count t.bytes ++ xs) (sym h.2) ∙ take-append-drop t.count t.bytes in
    λ i. record { bytes = bytes i; count = count i }
