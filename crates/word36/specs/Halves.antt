-- Halfword instructions, 500 to 577 (PDP-10 handbook, "Half word data transmission").
use Rattle.std.specs.Prelude.{ℕ, ◌<◌, ◌≤◌, ◌-◌, ◌*◌, ◌/◌, ◌%◌, ◌^◌, Bool, cond, ◌==◌}
use Rattle.word36.specs.declared.opcodes.TheConstants.{HLL, TRN}
use Rattle.word36.specs.Words.{left, right, joined}

-- what the destination's other half becomes, by the third letter: it stays (none), or is 0 (Z), all ones (O), or copies of the moved half's leftmost bit (E)
abbrev pub other_half : ℕ → ℕ → ℕ → ℕ
other_half letter old moved =
    cond (letter == 0) old (cond (letter == 1) 0 (cond (letter == 2) (2 ^ 18 - 1) (moved / 2 ^ 17 * (2 ^ 18 - 1))))

-- the left half of the source, or the right, goes to the left half of the destination, or to the right
abbrev pub half_moved : Bool → Bool → ℕ → ℕ → ℕ → ℕ
half_moved from_left to_left letter source dest =
    let moved = cond from_left (left source) (right source) in
    cond to_left (joined moved (other_half letter (right dest) moved)) (joined (other_half letter (left dest) moved) moved)

-- by fours: HLL, HRL, HLLZ, HRLZ, HLLO, HRLO, HLLE, HRLE, then HRR, HLR, HRRZ, HLRZ, HRRO, HLRO, HRRE, HLRE
unfoldable pub half_of : ℕ → ℕ → ℕ → ℕ
half_of op source dest =
    let code = (op - HLL) / 4 in
    half_moved (code / 8 == code % 2) (code / 8 == 0) (code / 2 % 4) source dest

-- an opcode of these: HLL to HLRE
abbrev pub IsHalfwordMove : ℕ → Type 0
IsHalfwordMove op = (HLL ≤ op) × (op < TRN)
