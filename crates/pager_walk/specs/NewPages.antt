-- The pages of new maps.
use Rattle.std.specs.Prelude.{ℕ, zero, suc, List, slice_set}
use Rattle.machine_names.specs.PageWords.{zero_words}
use Rattle.plain_pages.specs.Maps.{full_access}
use Rattle.share_table.specs.declared.pointer.Pointer.TheVariants.{Indirect}
use Rattle.share_table.specs.Pointers.{pointer_word}

-- the word of an entry that follows the same entry of the fork with a serial, with every right
abbrev pub following_word : ℕ → ℕ → ℕ
following_word serial page = pointer_word (Indirect serial page full_access)

-- the words of a page whose first entries do so, and whose others are empty
unfoldable pub following_words : ℕ → ℕ → List ℕ
following_words serial zero = zero_words
following_words serial (suc n) = slice_set (following_words serial n) n (following_word serial n)
