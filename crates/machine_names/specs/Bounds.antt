-- What is a terminal, an owner of pages, the name of a fork, of a user or of a file, and an address.
use Rattle.std.specs.Prelude.{◌≡◌, ℕ, ◌<◌, ◌≤◌, ◌^◌, List, ◌∷◌, ◌++◌, length, All, Bool, true, ◌||◌, ◌&&◌, nat_le, ◌==◌, ◌⊎◌}
use Rattle.machine_names.specs.declared.names.TheConstants.{TERMINALS, LAST_SERIAL, MOST_FILES, FILE_PAGES}
use Rattle.machine_names.specs.declared.names.Tty.{Tty}
use Rattle.machine_names.specs.declared.names.ForkName.{ForkName}
use Rattle.machine_names.specs.declared.names.FileNo.{FileNo}

abbrev pub IsTerminal : Tty → Type 0
IsTerminal t = t.0 < TERMINALS

-- a character of a name: a capital letter, a digit or a hyphen
abbrev pub is_name_code : ℕ → Bool
is_name_code c = (nat_le 65 c && nat_le c 90) || (nat_le 48 c && nat_le c 57) || (c == 45)

abbrev pub IsNameCode : ℕ → Type 0
IsNameCode c = is_name_code c ≡ true

-- the name of a user or a directory
abbrev pub IsDirName : List ℕ → Type 0
IsDirName name = (1 ≤ length name) × (length name ≤ 12) × All IsNameCode name

-- the full name of a file, <DIR>NAME.EXT
pub record IsFileName (name : List ℕ) : Type 0 where
  pub dir : List ℕ
  pub stem : List ℕ
  pub extension : List ℕ
  pub spelled : name ≡ 60 ∷ (dir ++ 62 ∷ (stem ++ 46 ∷ extension))
  pub dir_fits : IsDirName dir
  pub stem_some : 1 ≤ length stem
  pub stem_fits : All IsNameCode stem
  pub extension_fits : All IsNameCode extension
  pub short : length name ≤ 39

-- an address of a fork's space
abbrev pub IsAddress : ℕ → Type 0
IsAddress a = a < 2 ^ 18

-- a fork's name
abbrev pub IsForkName : ForkName → Type 0
IsForkName f = IsTerminal f.tty × (1 ≤ f.serial) × (f.serial ≤ LAST_SERIAL)

-- a page of a file, by the file's number
abbrev pub IsFilePage : FileNo → ℕ → Type 0
IsFilePage f page = (f.0 < MOST_FILES) × (page < FILE_PAGES)

-- an owner of pages: a terminal, or the console
abbrev pub IsOwner : Tty → Type 0
IsOwner t = (t.0 < TERMINALS) ⊎ (t.0 ≡ 255)
