-- Access in a word (JSYS Manual, RPACS): to read is bit 2, to write bit 3, to execute bit 4, the copy mark bit 9;
-- bit 5 tells that a page is there, and bit 6 that the entry follows another.
use Rattle.std.specs.Prelude.{ℕ, ◌+◌, ◌-◌, ◌^◌, Bool, true, if◌then◌else◌, ◌==◌, Option, is_some}
use Rattle.word36.specs.Words.{bit}
use Rattle.machine_names.specs.declared.names.Access.{Access}
use Rattle.machine_names.specs.declared.names.PageName.{PageName}
use Rattle.plain_pages.specs.declared.map.MapEntry.{MapEntry}
use Rattle.plain_pages.specs.declared.map.MapEntry.TheVariants.{Empty, Names, Follows}

-- a word with one bit, or with none
abbrev pub bit_word : Bool → ℕ → ℕ
bit_word on i = if on then 2 ^ (35 - i) else 0

-- the word of an access
unfoldable pub access_word : Access → ℕ
access_word a = bit_word a.r 2 + bit_word a.w 3 + bit_word a.x 4 + bit_word a.c 9

-- the access in a word
unfoldable pub access_in : ℕ → Access
access_in w = record { r = bit w 2 == 1; w = bit w 3 == 1; x = bit w 4 == 1; c = bit w 9 == 1 }

-- what an entry permits, and whether it follows another
abbrev pub entry_word : MapEntry → ℕ
entry_word Empty = 0
entry_word (Names n a) = access_word a
entry_word (Follows serial page a) = access_word a + bit_word true 6

-- the same, and whether its chain ends in a page
unfoldable pub access_told : MapEntry → Option PageName → ℕ
access_told e page = entry_word e + bit_word (is_some page) 5
