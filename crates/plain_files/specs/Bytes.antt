-- Where the bytes of a file stand.
use Rattle.std.specs.Prelude.{◌≡◌, ℕ, ◌+◌, ◌-◌, ◌*◌, ◌/◌, ◌%◌, ◌^◌, ◌≤◌, ◌⊎◌}
use Rattle.outside.specs.declared.TheConstants.{PAGE_WORDS}
use Rattle.machine_names.specs.declared.names.TheConstants.{FILE_PAGES}
use Rattle.plain_files.specs.declared.bounds.TheConstants.{LARGEST_BYTE}

-- a byte has 1 to 36 bits
abbrev pub IsByteSize : ℕ → Type 0
IsByteSize size = (1 ≤ size) × (size ≤ LARGEST_BYTE)

-- how many whole bytes of this size a word holds
abbrev pub bytes_per_word : ℕ → ℕ
bytes_per_word size = LARGEST_BYTE / size

-- how many bytes of this size a file has room for
abbrev pub most_bytes : ℕ → ℕ
most_bytes size = FILE_PAGES * PAGE_WORDS * bytes_per_word size

-- the word of the file that a byte stands in
abbrev pub word_of_byte : ℕ → ℕ → ℕ
word_of_byte size at = at / bytes_per_word size

-- how many bits of the word stand to the right of the byte
abbrev pub position_of_byte : ℕ → ℕ → ℕ
position_of_byte size at = LARGEST_BYTE - size * (1 + at % bytes_per_word size)

abbrev pub page_of_byte : ℕ → ℕ → ℕ
page_of_byte size at = word_of_byte size at / PAGE_WORDS

abbrev pub offset_of_byte : ℕ → ℕ → ℕ
offset_of_byte size at = word_of_byte size at % PAGE_WORDS

-- a byte pointer with this position and size
abbrev pub pointer_to_byte : ℕ → ℕ → ℕ
pointer_to_byte size at = position_of_byte size at * 2 ^ 30 + size * 2 ^ 24

-- the next byte stands to the right of this one in its word, or leftmost in the next word
abbrev pub IsNextPlace : ℕ → ℕ → Type 0
IsNextPlace size at =
    ((word_of_byte size (at + 1) ≡ word_of_byte size at) × (position_of_byte size (at + 1) + size ≡ position_of_byte size at))
    ⊎ ((word_of_byte size (at + 1) ≡ word_of_byte size at + 1) × (position_of_byte size (at + 1) + size ≡ LARGEST_BYTE))
