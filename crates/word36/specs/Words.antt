-- A word is a number below 2^36 (PDP-10 handbook, "Number system").
use Rattle.std.specs.Prelude.{ℕ, ◌+◌, ◌-◌, ◌*◌, ◌/◌, ◌%◌, ◌^◌, ◌<◌, ℤ, pos, ◌-ℤ◌, Bool, nat_le, unsigned_abs}
use Rattle.std.specs.Int.{int_rem_euclid}

-- a number that is a word
abbrev pub IsWord : ℕ → Type 0
IsWord w = w < 2 ^ 36

-- the left half of a word, bits 0 to 17
abbrev pub left : ℕ → ℕ
left w = w / 2 ^ 18

-- the right half of a word, bits 18 to 35
abbrev pub right : ℕ → ℕ
right w = w % 2 ^ 18

-- the word with these halves
abbrev pub joined : ℕ → ℕ → ℕ
joined l r = l * 2 ^ 18 + r

-- bit i of a word; bit 0 is leftmost
abbrev pub bit : ℕ → ℕ → ℕ
bit w i = w / 2 ^ (35 - i) % 2

-- bit 0 of a word is 1
abbrev pub is_negative : ℕ → Bool
is_negative w = nat_le (2 ^ 35) w

-- the number, less 2^36 where bit 0 is 1
abbrev pub signed : ℕ → ℤ
signed w = pos w -ℤ pos (w / 2 ^ 35 * 2 ^ 36)

-- a signed number modulo 2^36
abbrev pub word_of : ℤ → ℕ
word_of z = unsigned_abs (int_rem_euclid z (pos (2 ^ 36)))
