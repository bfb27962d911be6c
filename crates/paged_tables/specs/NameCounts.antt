-- How many map entries and pages of files name the page of each home.
use Rattle.std.specs.Prelude.{ℕ, List, [], ◌∷◌, Option, None, Some, slice_index_or}
use Rattle.std.specs.Option.{option_map_or}
use Rattle.machine_names.specs.declared.names.PageName.{PageName}
use Rattle.share_table.specs.declared.shares.Share.{Share}
use Rattle.share_table.specs.Shares.{Shares, page_at}

-- a page without a share has one name, and a page with one as many as it counts
abbrev pub count_of : Shares → Option PageName → Option Share → ℕ
count_of shares None s = 0
count_of shares (Some n) None = 1
count_of shares (Some n) (Some s) = option_map_or (λ p. p.count) (page_at shares s.0) 0

-- the share of the page of a home, where it has one
abbrev pub share_at : List (Option Share) → ℕ → Option Share
share_at shared h = slice_index_or shared h None

-- the counts of all homes
unfoldable pub counts : Shares → List (Option PageName) → List (Option Share) → List ℕ
counts shares [] shared = []
counts shares (n ∷ names) [] = count_of shares n None ∷ counts shares names []
counts shares (n ∷ names) (s ∷ shared) = count_of shares n s ∷ counts shares names shared
