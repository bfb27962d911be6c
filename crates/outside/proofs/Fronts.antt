-- The front of a list is copied into a piece.
use Rattle.std.proofs.Common.{◌≡◌, ℕ, ◌+◌, ◌-◌, ◌<◌, ◌≤◌, min, List, ◌++◌, length, take, drop, Some, sym, ◌∙◌, ap, arith, take-append-drop, length-take, length-drop}
use Rattle.std.proofs.lemmas.List.{drop-drop, nil_from_length, take_at}
use Rattle.outside.specs.Told.{EndsOnly}

-- what was left is what was copied, and what is left behind it
pub front_copied : (bytes copied rest : List ℕ) (at n : ℕ) → at + n ≤ length bytes → copied ≡ take (at + n - at) (drop at bytes)
    → drop at bytes ≡ take n (copied ++ rest) ++ drop (at + n) bytes
front_copied bytes copied rest at n within e =
    let number : at + n - at ≡ n = omega arith in
    let is : copied ≡ take n (drop at bytes) = e ∙ ap (λ m. take m (drop at bytes)) number in
    let front : take n (copied ++ rest) ≡ take n (drop at bytes) =
    take_at copied rest n (omega (arith, ap length is, length-take n (drop at bytes), length-drop at bytes)) ∙ is in
    sym (take-append-drop n (drop at bytes)) ∙ ap (λ l. l ++ drop n (drop at bytes)) (sym front)
    ∙ ap (λ l. take n (copied ++ rest) ++ l) (drop-drop n at bytes)

-- as many as there are and fit are none only where there are none
pub ends_only : (left : List ℕ) (room n : ℕ) → 0 < room → n ≡ min room (length left) → EndsOnly (Some left) n
ends_only left room n some count xs told none =
    let same : left ≡ xs = cc in
    sym same ∙ nil_from_length left (omega (arith, count, none, some))
