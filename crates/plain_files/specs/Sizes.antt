-- The lengths of files and the sizes of their bytes.
use Rattle.std.specs.Prelude.{ℕ, ◌+◌, ◌-◌, ◌*◌, ◌/◌, ◌≤◌, ◌==◌, nat_le, if◌then◌else◌, List, slice_index_or}
use Rattle.plain_files.specs.declared.bounds.TheConstants.{LARGEST_BYTE}
use Rattle.plain_files.specs.Bytes.{IsByteSize, bytes_per_word, most_bytes}

-- a file but for its pages: its length, and the size of its bytes
pub record PlainFile : Type 0 where
  pub length : ℕ
  pub size : ℕ

-- a file that was not written yet: without a byte, its bytes as large as words
abbrev pub new_file : PlainFile
new_file = record { length = 0; size = LARGEST_BYTE }

-- the file of a number
abbrev pub file_at : List PlainFile → ℕ → PlainFile
file_at files n = slice_index_or files n new_file

-- the bytes of a file have a size, and the file has room for them
abbrev pub FitsFile : PlainFile → Type 0
FitsFile f = IsByteSize f.size × (f.length ≤ most_bytes f.size)

-- how many words of a file its bytes touch
abbrev pub words_touched : PlainFile → ℕ
words_touched f = (f.length + bytes_per_word f.size - 1) / bytes_per_word f.size

-- how many bytes of a size a file has: its own, or those of another size in the words that its own touch
abbrev pub length_in : ℕ → PlainFile → ℕ
length_in size f = if size == f.size then f.length else words_touched f * bytes_per_word size

-- a file with bytes of a size, which it has at least as far as to this one
abbrev pub reaching : ℕ → ℕ → PlainFile → PlainFile
reaching size end f = record { length = if nat_le (length_in size f) end then end else length_in size f; size = size }
