-- The counts of homes, home by home.
use Rattle.std.proofs.Common.{◌≡◌, ℕ, zero, suc, ◌<◌, List, [], ◌∷◌, Option, None, Some, length, refl, ap, arith}
use Rattle.std.specs.Prelude.{slice_set}
use Rattle.machine_names.specs.declared.names.PageName.{PageName}
use Rattle.share_table.specs.declared.shares.Share.{Share}
use Rattle.share_table.specs.Shares.{Shares}
use Rattle.flat_tables.specs.SlotTables.{share_of}
use Rattle.pager_walk.specs.PagedMaps.{name_at}
use Rattle.paged_tables.specs.NameCounts.{count_of, counts, share_at}

pub counts_at : (shares : Shares) (names : List (Option PageName)) (shared : List (Option Share)) (h : ℕ) → share_of (counts shares names shared) h ≡ count_of shares (name_at names h) (share_at shared h)
unfolding counts
counts_at shares [] shared h = refl
counts_at shares (n ∷ names) [] zero = refl
counts_at shares (n ∷ names) [] (suc h) = counts_at shares names [] h
counts_at shares (n ∷ names) (s ∷ shared) zero = refl
counts_at shares (n ∷ names) (s ∷ shared) (suc h) = counts_at shares names shared h

pub counts_length : (shares : Shares) (names : List (Option PageName)) (shared : List (Option Share)) → length (counts shares names shared) ≡ length names
unfolding counts
counts_length shares [] shared = refl
counts_length shares (n ∷ names) [] = (let same = counts_length shares names [] in omega (arith, same))
counts_length shares (n ∷ names) (s ∷ shared) = (let same = counts_length shares names shared in omega (arith, same))

-- a home gets a page with one name
pub counts_set : (shares : Shares) (names : List (Option PageName)) (shared : List (Option Share)) (h : ℕ) (n : PageName) → h < length names
    → counts shares (slice_set names h (Some n)) (slice_set shared h None) ≡ slice_set (counts shares names shared) h 1
unfolding counts
counts_set shares [] shared h n l = absurd (omega (arith, l))
counts_set shares (m ∷ names) [] zero n l = refl
counts_set shares (m ∷ names) [] (suc h) n l = ap (λ xs. count_of shares m None ∷ xs) (counts_set shares names [] h n (omega (arith, l)))
counts_set shares (m ∷ names) (s ∷ shared) zero n l = refl
counts_set shares (m ∷ names) (s ∷ shared) (suc h) n l = ap (λ xs. count_of shares m s ∷ xs) (counts_set shares names shared h n (omega (arith, l)))
