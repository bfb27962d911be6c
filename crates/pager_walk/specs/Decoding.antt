-- Which pointer a word stands for.
use Rattle.std.specs.Prelude.{ℕ, ◌/◌, ◌%◌, Bool, true, ◌&&◌, ◌==◌, nat_lt, nat_le, Option, None, Some, if◌then◌else◌}
use Rattle.machine_names.specs.declared.names.Access.{Access}
use Rattle.machine_names.specs.declared.names.TheConstants.{LAST_SERIAL, SPACE_PAGES}
use Rattle.page_homes.specs.declared.homes.TheConstants.{MOST_HOMES}
use Rattle.share_table.specs.declared.pointer.Pointer.{Pointer}
use Rattle.share_table.specs.declared.pointer.Pointer.TheVariants.{Empty, Private, Shared, Indirect}
use Rattle.share_table.specs.declared.shares.TheConstants.{MOST_SHARES}
use Rattle.share_table.specs.Pointers.{accesses, one_access, one_kind, one_page, pointer_word}

-- what four bits permit: to read, to write, to execute, and whether a copy is made first
abbrev pub access_in : ℕ → Access
access_in b = record { r = b / 8 % 2 == 1; w = b / 4 % 2 == 1; x = b / 2 % 2 == 1; c = b % 2 == 1 }

-- the pointer of a kind with this access, page and number
abbrev pub pointer_for : ℕ → Access → ℕ → ℕ → Pointer
pointer_for kind access page number =
    if kind == 1 then Private (record { 0 = number }) access else (if kind == 2 then Shared (record { 0 = number }) access else (if kind == 3 then Indirect number page access else Empty))

-- the pointer that the fields of a word name
abbrev pub named_in : ℕ → Pointer
named_in w = pointer_for (w / one_kind) (access_in (w / one_access % accesses)) (w / one_page % SPACE_PAGES) (w % one_page)

-- whether the numbers of a pointer fit its word
abbrev pub fits_word : Pointer → Bool
fits_word Empty = true
fits_word (Private home access) = nat_lt home.0 MOST_HOMES
fits_word (Shared share access) = nat_lt share.0 MOST_SHARES
fits_word (Indirect serial page access) = nat_le 1 serial && (nat_le serial LAST_SERIAL && nat_lt page SPACE_PAGES)

-- a pointer, where a word is its word
abbrev pub checked : ℕ → Pointer → Option Pointer
checked w p = if fits_word p && (pointer_word p == w) then Some p else None

-- the pointer of which a word is the word, if it is that of one
unfoldable pub pointer_in : ℕ → Option Pointer
pointer_in w = checked w (named_in w)
