-- Halfword moves by the letters of their names (PDP-10 handbook, "Half word data transmission").
use Rattle.std.specs.Prelude.{◌≡◌, ℕ, ◌+◌, ◌-◌, ◌^◌, cond, nat_le}
use Rattle.word36.specs.declared.opcodes.TheConstants.{HLL}
use Rattle.word36.specs.Words.{left, right}

-- a half of a word: the second letter for the source, the third for the destination
pub data Side : Type 0 where
  L : Side
  R : Side

-- what becomes of the destination's other half, by the fourth letter: no letter, Z, O, E
pub data OtherHalf : Type 0 where
  kept : OtherHalf
  zeros : OtherHalf
  ones : OtherHalf
  extended : OtherHalf

-- the half of a word on a side
abbrev pub half_at : Side → ℕ → ℕ
half_at L w = left w
half_at R w = right w

-- the other side
abbrev pub opposite : Side → Side
opposite L = R
opposite R = L

-- the third letter in the opcode
abbrev pub destination_code : Side → ℕ
destination_code L = 0
destination_code R = 0o40

-- the second letter in the opcode, by whether it is the third too
abbrev pub crossing_code : Side → Side → ℕ
crossing_code L L = 0
crossing_code R R = 0
crossing_code L R = 4
crossing_code R L = 4

-- the fourth letter in the opcode
abbrev pub other_code : OtherHalf → ℕ
other_code kept = 0
other_code zeros = 0o10
other_code ones = 0o20
other_code extended = 0o30

-- the first opcode of a move from a half to a half
abbrev pub move_opcode : Side → Side → OtherHalf → ℕ
move_opcode from to other = HLL + destination_code to + other_code other + crossing_code from to

-- the other half: as it was, zeros, ones, or copies of the moved half's leftmost bit
abbrev pub other_becomes : OtherHalf → ℕ → ℕ → ℕ
other_becomes kept old moved = old
other_becomes zeros old moved = 0
other_becomes ones old moved = 2 ^ 18 - 1
other_becomes extended old moved = cond (nat_le (2 ^ 17) moved) (2 ^ 18 - 1) 0

-- the destination's half is the source's, and its other half is as the move says
pub record IsMoved (from to : Side) (other : OtherHalf) (source dest result : ℕ) : Type 0 where
  pub moved : half_at to result ≡ half_at from source
  pub other_half : half_at (opposite to) result ≡ other_becomes other (half_at (opposite to) dest) (half_at from source)
