-- Pointers as words: which entry of a map a word of its page stands for.
use Rattle.std.specs.Prelude.{◌≡◌, ℕ, ◌+◌, ◌*◌, ◌^◌, ◌<◌, ◌≤◌, Bool, true, false, ⊤}
use Rattle.machine_names.specs.declared.names.Access.{Access}
use Rattle.page_homes.specs.declared.homes.TheConstants.{MOST_HOMES}
use Rattle.machine_names.specs.declared.names.TheConstants.{LAST_SERIAL, SPACE_PAGES}
use Rattle.share_table.specs.declared.pointer.Pointer.{Pointer}
use Rattle.share_table.specs.declared.pointer.Pointer.TheVariants.{Empty, Private, Shared, Indirect}
use Rattle.share_table.specs.declared.shares.TheConstants.{MOST_SHARES}

-- a bit that is set is 1
abbrev pub bit_of : Bool → ℕ
bit_of true = 1
bit_of false = 0

-- what is permitted, as four bits: to read, to write, to execute, and whether a copy is made first
abbrev pub access_bits : Access → ℕ
access_bits a = bit_of a.r * 8 + bit_of a.w * 4 + bit_of a.x * 2 + bit_of a.c

-- one of the kind, in bits 0 and 1 of a word
abbrev pub one_kind : ℕ
one_kind = 2 ^ 34

-- one of the access, in bits 2 to 5
abbrev pub one_access : ℕ
one_access = 2 ^ 30

-- how many accesses there are
abbrev pub accesses : ℕ
accesses = 2 ^ 4

-- one of the page, in bits 9 to 17; the number is below it, in bits 18 to 35
abbrev pub one_page : ℕ
one_page = 2 ^ 18

-- the word with this kind, access, page and number; bits 6 to 8 are 0
abbrev pub fields : ℕ → ℕ → ℕ → ℕ → ℕ
fields kind access page number = kind * one_kind + access * one_access + page * one_page + number

-- the word of a pointer
abbrev pub pointer_word : Pointer → ℕ
pointer_word Empty = fields 0 0 0 0
pointer_word (Private home access) = fields 1 (access_bits access) 0 home.0
pointer_word (Shared share access) = fields 2 (access_bits access) 0 share.0
pointer_word (Indirect serial page access) = fields 3 (access_bits access) page serial

-- the numbers of a pointer fit its word: a home, a share, a fork's serial and a page of its space
abbrev pub IsPointer : Pointer → Type 0
IsPointer Empty = ⊤
IsPointer (Private home access) = home.0 < MOST_HOMES
IsPointer (Shared share access) = share.0 < MOST_SHARES
IsPointer (Indirect serial page access) = (1 ≤ serial) × (serial ≤ LAST_SERIAL) × (page < SPACE_PAGES)

-- an entry has this word
abbrev pub IsEntryWord : ℕ → Type 0
IsEntryWord w = (p : Pointer) × IsPointer p × (pointer_word p ≡ w)
