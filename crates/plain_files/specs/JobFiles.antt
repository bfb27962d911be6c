-- The JFNs of a job, and the files that they name.
use Rattle.std.specs.Prelude.{◌≡◌, ◌≢◌, ℕ, ◌<◌, ◌≤◌, ◌==◌, Some, None, IfSome, IsSome, count_by}
use Rattle.std.specs.Option.{IsSomeAnd}
use Rattle.std.specs.Ordering.{nat_cmp}
use Rattle.std.specs.FinMap as map
use Rattle.number_map.specs.Numbers.{IsLeastFree}
use Rattle.machine_names.specs.declared.names.TheConstants.{MOST_FILES}
use Rattle.plain_files.specs.declared.jfn.Jfn.{Jfn}
use Rattle.plain_files.specs.declared.jfn.Mode.{Mode}
use Rattle.plain_files.specs.declared.bounds.TheConstants.{LARGEST_BYTE, MOST_JFNS}
use Rattle.plain_files.specs.Bytes.{IsByteSize, most_bytes}

-- the JFNs that a job holds, each under its number
abbrev pub Held : Type 0
Held = map.FinMap nat_cmp Jfn

-- a JFN that was just taken: its file isn't open, and has bytes as large as words
abbrev pub taken : ℕ → Jfn
taken f = record { file = record { 0 = f }; mode = None; at = 0; size = LARGEST_BYTE }

-- a JFN by which its file is opened, at its first byte
abbrev pub opened : Mode → ℕ → Jfn → Jfn
opened mode size jfn = record { file = jfn.file; mode = Some mode; at = 0; size = size }

-- a JFN at another byte of its file
abbrev pub moved : ℕ → Jfn → Jfn
moved at jfn = record jfn { at = at }

-- a JFN names one of the files, and stands at a byte that a file has room for, or behind the last one
abbrev pub FitsJfn : Jfn → Type 0
FitsJfn jfn = (jfn.file.0 < MOST_FILES) × IsByteSize jfn.size × (jfn.at ≤ most_bytes jfn.size)

-- a JFN is open, and may be moved to this byte
abbrev pub CanSeek : Held → ℕ → ℕ → Type 0
CanSeek m n at = IsSomeAnd (map.get m n) (λ jfn. IsSome jfn.mode × (at ≤ most_bytes jfn.size))

-- the JFNs are numbered from 1, and each of them fits
pub record AreJfns (m : Held) : Type 0 where
  pub from_one : map.get m 0 ≡ None
  pub most : (n : ℕ) → MOST_JFNS < n → map.get m n ≡ None
  pub fit : (n : ℕ) → IfSome (map.get m n) FitsJfn

-- how many JFNs name a file
unfoldable pub names_in : Held → ℕ → ℕ
names_in m f = count_by (λ jfn. jfn.file.0 == f) (map.values m)

-- no JFN stands for the file
abbrev pub NamesNowhere : Held → ℕ → Type 0
NamesNowhere m f = (n : ℕ) → IfSome (map.get m n) (λ jfn. jfn.file.0 ≢ f)

-- there was room, and the least free number was given to a file
pub record TakesLeast (old new : Held) (f n : ℕ) : Type 0 where
  pub room : map.len old < MOST_JFNS
  pub least : IsLeastFree old 1 n
  pub most : n ≤ MOST_JFNS
  pub put : new ≡ map.insert old n (taken f)
