-- The pages of files.
use Rattle.std.specs.Prelude.{◌≡◌, ◌≢◌, refl, ℕ, ◌/◌, ◌%◌, map as each}
use Rattle.std.specs.Ordering.{nat_cmp}
use Rattle.std.specs.Coded.{Coded, code_by, coded×, coded_ℕ}
use Rattle.std.specs.FinMap as map
use Rattle.machine_names.specs.Orders.{FilePage, file_page, file_page_cmp}
use Rattle.machine_names.specs.declared.names.TheConstants.{FILE_PAGES}

-- what stands at each page of each file
abbrev pub PagesOf : Type 0 → Type 0
PagesOf K = map.FinMap (file_page_cmp nat_cmp) K

-- a page of a file is stored as its two numbers
abbrev pub page_code : Coded (FilePage ℕ)
page_code = code_by (ℕ × ℕ) (coded× coded_ℕ coded_ℕ) (λ p. (p.file, p.page)) (λ n. file_page n.0 n.1) (λ _. refl)

-- pages that are numbered through, file by file
unfoldable pub by_file : {K : Type 0} → map.FinMap nat_cmp K → PagesOf K
by_file m = map.from_entries (each (λ e. (file_page (e.0 / FILE_PAGES) (e.0 % FILE_PAGES), e.1)) (map.entries m))

-- what a change at one page leaves at the others
abbrev pub OthersStay : {K : Type 0} → PagesOf K → PagesOf K → FilePage ℕ → Type 0
OthersStay old new at = (q : FilePage ℕ) → q ≢ at → map.get new q ≡ map.get old q
