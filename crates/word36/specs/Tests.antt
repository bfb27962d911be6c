-- Test instructions, 600 to 677 (PDP-10 handbook, "Logical testing and modification"), and conditions (the same, "Arithmetic testing").
use Rattle.std.specs.Prelude.{ℕ, ◌≤◌, ◌-◌, ◌/◌, ◌%◌, Bool, true, false, cond, not, ◌||◌, ◌==◌, ℤ, pos, int_lt}
use Rattle.std.specs.Ordering.{int_eq}
use Rattle.word36.specs.declared.opcodes.TheConstants.{AND, ANDCM, SETA, XOR, IOR, TRN, TSON}
use Rattle.word36.specs.Words.{left, right, joined}
use Rattle.word36.specs.Boolean.{boolean_of}

-- the mask, of 0,,E or of the word at E: L and S swap its halves
abbrev pub mask_of : ℕ → ℕ → ℕ
mask_of op m = cond (op % 2 == 1) (joined (right m) (left m)) m

-- the masked bits of the accumulator stay as SETA leaves them (N), or become 0 as by ANDCM (Z), their complement as by XOR (C), 1 as by IOR (O)
abbrev pub tested : ℕ → ℕ → ℕ → ℕ
tested op a mask =
    let letter = (op - TRN) / 0o20 in
    boolean_of (cond (letter == 0) SETA (cond (letter == 1) ANDCM (cond (letter == 2) XOR IOR))) a mask

-- the skip: never; where the masked bits of the old word are all 0 (E); always (A); where they are not all 0 (N)
abbrev pub test_skips : ℕ → ℕ → ℕ → Bool
test_skips op a mask =
    let none = boolean_of AND a mask == 0 in
    let letter = op % 8 / 2 in
    cond (letter == 0) false (cond (letter == 1) none (cond (letter == 2) true (not none)))

-- an opcode of these: TRN to TSON
abbrev pub IsTest : ℕ → Type 0
IsTest op = (TRN ≤ op) × (op ≤ TSON)

-- the eight conditions of a number against 0: never, less (L), equal (E), less or equal (LE), always (A), greater or equal (GE), not equal (N), greater (G)
abbrev pub condition_holds : ℕ → ℤ → Bool
condition_holds condition n =
    let less = int_lt n (pos 0) in
    let equal = int_eq n (pos 0) in
    cond (condition == 0) false (cond (condition == 1) less (cond (condition == 2) equal (cond (condition == 3) (less || equal) (
    cond (condition == 4) true (cond (condition == 5) (not less) (cond (condition == 6) (not equal) (not (less || equal))))))))
