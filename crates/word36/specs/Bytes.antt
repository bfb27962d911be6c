-- Byte pointers and bytes (PDP-10 handbook, "Byte manipulation").
use Rattle.std.specs.Prelude.{◌≡◌, ℕ, zero, suc, ◌+◌, ◌-◌, ◌*◌, ◌/◌, ◌%◌, ◌^◌, ◌<◌, ◌≤◌, min, cond, nat_le}
use Rattle.std.specs.Int.{bit_at}
use Rattle.word36.specs.Words.{IsWord}

-- P: how many bits stand to the right of the byte
abbrev pub position : ℕ → ℕ
position p = p / 2 ^ 30

-- S: how many bits the byte has
abbrev pub size : ℕ → ℕ
size p = p / 2 ^ 24 % 64

-- a pointer with another P
abbrev pub with_position : ℕ → ℕ → ℕ
with_position p places = places * 2 ^ 30 + p % 2 ^ 30

-- a pointer to the next word: Y grows by 1 modulo 2^18, without a carry into X
abbrev pub in_next_word : ℕ → ℕ
in_next_word p = p / 2 ^ 18 * 2 ^ 18 + (p % 2 ^ 18 + 1) % 2 ^ 18

-- the pointer to the next byte: where P is at least S, P becomes P minus S; else P becomes 36 minus S modulo 64, in the next word
unfoldable pub incremented : ℕ → ℕ
incremented p = cond (nat_le (size p) (position p))
    (with_position p (position p - size p))
    (with_position (in_next_word p) ((36 + 64 - size p) % 64))

-- the S bits with P bits to their right; bits outside the word read as 0
abbrev pub byte_at : ℕ → ℕ → ℕ → ℕ
byte_at places bits w = w / 2 ^ places % 2 ^ bits

-- a word with the low S bits of a byte in that place, between the word's bits to the left and to the right; bits outside the word are lost
abbrev pub with_byte_at : ℕ → ℕ → ℕ → ℕ → ℕ
with_byte_at places bits w byte = (w / 2 ^ (places + bits) * 2 ^ (places + bits) + byte % 2 ^ bits * 2 ^ places + w % 2 ^ places) % 2 ^ 36

-- the byte that a pointer names in a word
unfoldable pub loaded : ℕ → ℕ → ℕ
loaded p w = byte_at (position p) (size p) w

-- a word after a byte is deposited where a pointer names it
unfoldable pub deposited : ℕ → ℕ → ℕ → ℕ
deposited p w byte = with_byte_at (position p) (size p) w byte

-- the pointer after so many increments
unfoldable pub increments : ℕ → ℕ → ℕ
increments zero p = p
increments (suc n) p = incremented (increments n p)

-- the pointer names one of the bytes that a word is filled with from the left
pub record IsBytePlace (p : ℕ) : Type 0 where
  pub some_bits : 0 < size p
  pub inside : position p + size p ≤ 36
  pub from_left : (36 - position p) % size p ≡ 0

-- after as many increments as a word has bytes, a pointer names the next word at the same place
abbrev pub ComesToNextWord : ℕ → Type 0
ComesToNextWord p = IsBytePlace p → increments (36 / size p) p ≡ in_next_word p

-- what is deposited is what is loaded, as far as it is inside the word
abbrev pub LoadsWhatIsDeposited : ℕ → ℕ → ℕ → Type 0
LoadsWhatIsDeposited p w byte = loaded p (deposited p w byte) ≡ byte % 2 ^ min (size p) (36 - position p)

-- the bits of the word to the right of the byte stay, and those to its left
pub record OtherBitsStay (p w byte : ℕ) : Type 0 where
  pub to_the_right : (i : ℕ) → i < 36 → i < position p → bit_at (deposited p w byte) i ≡ bit_at w i
  pub to_the_left : (i : ℕ) → i < 36 → position p + size p ≤ i → bit_at (deposited p w byte) i ≡ bit_at w i

-- what is loaded and deposited again changes nothing
abbrev pub StaysAsLoaded : ℕ → ℕ → Type 0
StaysAsLoaded p w = IsWord w → deposited p w (loaded p w) ≡ w
