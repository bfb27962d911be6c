-- The orders of names, by which finite maps have them as keys.
use Rattle.std.specs.Prelude.{ℕ, List, Bool, ◌&&◌, ◌==◌}
use Rattle.std.specs.Ordering.{nat_cmp, on, then_cmp}
use Rattle.std.specs.Cmp.Lexicographic.{slice_cmp}
use Rattle.std.specs.declared.cmp.Ordering.{Ordering}
use Rattle.machine_names.specs.declared.names.ForkName.{ForkName}
use Rattle.machine_names.specs.declared.names.PageName.{PageName}

-- by terminal, then by serial
abbrev pub fork_cmp : ForkName → ForkName → Ordering
fork_cmp = then_cmp (on (λ f. f.tty.0) nat_cmp) (on (λ f. f.serial) nat_cmp)

abbrev pub page_cmp : PageName → PageName → Ordering
page_cmp = then_cmp (on (λ p. p.tty.0) nat_cmp) (on (λ p. p.serial) nat_cmp)

-- names of files, by their characters
abbrev pub name_cmp : List ℕ → List ℕ → Ordering
name_cmp = slice_cmp nat_cmp

-- a page of a file, whatever files are known by
pub record FilePage (K : Type 0) : Type 0 where
  pub file : K
  pub page : ℕ

-- a page of a file by its two numbers
abbrev pub file_page : ℕ → ℕ → FilePage ℕ
file_page f n = record { file = f; page = n }

-- by file, then by page
abbrev pub file_page_cmp : {K : Type 0} → (K → K → Ordering) → FilePage K → FilePage K → Ordering
file_page_cmp file_cmp = then_cmp (on (λ f. f.file) file_cmp) (on (λ f. f.page) nat_cmp)

abbrev pub same_fork : ForkName → ForkName → Bool
same_fork f g = (f.tty.0 == g.tty.0) && (f.serial == g.serial)
