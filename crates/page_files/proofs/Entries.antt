-- Files of a list.
use Rattle.std.proofs.Common.{◌≡◌, ℕ, ◌<◌, List, ◌∷◌, zero, suc, map, length, get_or, set, refl, sym, ap, subst, All}
use Rattle.std.specs.Prelude.{replicate}
use Rattle.std.proofs.lemmas.List.{get_or-map, map-set}
use Rattle.std.proofs.lemmas.List.Elements.{All-replicate, All-set}
use Rattle.page_files.specs.declared.lengths.FileLength.{FileLength}
use Rattle.page_files.specs.Sizes.{plain_file, plain_files}
use Rattle.plain_files.specs.Sizes.{FitsFile, file_at, new_file}

pub got : (fs : List FileLength) (i : ℕ) (d : FileLength) → i < length fs → file_at (plain_files fs) i ≡ plain_file (get_or fs i d)
unfolding plain_files
got fs i d h = get_or-map plain_file fs i d new_file h

pub put : (fs : List FileLength) (i : ℕ) (f : FileLength) → plain_files (set fs i f) ≡ set (plain_files fs) i (plain_file f)
unfolding plain_files
put fs i f = map-set plain_file fs i f

pub put_fits : (fs : List FileLength) (i : ℕ) (f : FileLength) → FitsFile (plain_file f) → All FitsFile (plain_files fs) → All FitsFile (plain_files (set fs i f))
put_fits fs i f new old = subst (All FitsFile) (sym (put fs i f)) (All-set FitsFile (plain_files fs) i (plain_file f) new old)

each_same : (n : ℕ) (f : FileLength) → map plain_file (replicate n f) ≡ replicate n (plain_file f)
each_same zero f = refl
each_same (suc n) f = ap (λ fs. plain_file f ∷ fs) (each_same n f)

pub alike : (n : ℕ) (f : FileLength) → plain_files (replicate n f) ≡ replicate n (plain_file f)
unfolding plain_files
alike n f = each_same n f

pub alike_fit : (n : ℕ) (f : FileLength) → FitsFile (plain_file f) → All FitsFile (plain_files (replicate n f))
alike_fit n f fits = subst (All FitsFile) (sym (alike n f)) (All-replicate FitsFile n (plain_file f) fits)
