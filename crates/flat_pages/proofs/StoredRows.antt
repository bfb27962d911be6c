-- The words of pages, and whether homes are taken, as pages of homes.
use Rattle.std.proofs.Common.{◌≡◌, ℕ, zero, suc, List, [], ◌∷◌, Bool, false, length, replicate, refl, ap, arith}
use Rattle.std.specs.Prelude.{slice_set, slice_index_or}
use Rattle.machine_names.specs.PageWords.{zero_words}
use Rattle.flat_pages.specs.StoredPages.{pages_from, stored_at, free_page}

pub rows_length : (words : List (List ℕ)) (taken : List Bool) → length words ≡ length taken → length (pages_from words taken) ≡ length words
rows_length [] ts e = refl
rows_length (w ∷ ws) [] e = absurd (omega (arith, e))
rows_length (w ∷ ws) (t ∷ ts) e = ap suc (rows_length ws ts (omega (arith, e)))

pub words_row : (words : List (List ℕ)) (taken : List Bool) → length words ≡ length taken → (h : ℕ) → (stored_at (pages_from words taken) h).words ≡ slice_index_or words h zero_words
words_row [] ts e h = refl
words_row (w ∷ ws) [] e h = absurd (omega (arith, e))
words_row (w ∷ ws) (t ∷ ts) e zero = refl
words_row (w ∷ ws) (t ∷ ts) e (suc h) = words_row ws ts (omega (arith, e)) h

pub taken_row : (words : List (List ℕ)) (taken : List Bool) → length words ≡ length taken → (h : ℕ) → (stored_at (pages_from words taken) h).taken ≡ slice_index_or taken h false
taken_row [] [] e h = refl
taken_row [] (t ∷ ts) e h = absurd (omega (arith, e))
taken_row (w ∷ ws) [] e h = absurd (omega (arith, e))
taken_row (w ∷ ws) (t ∷ ts) e zero = refl
taken_row (w ∷ ws) (t ∷ ts) e (suc h) = taken_row ws ts (omega (arith, e)) h

pub words_put : (words : List (List ℕ)) (taken : List Bool) (h : ℕ) (page : List ℕ) → pages_from (slice_set words h page) taken ≡ slice_set (pages_from words taken) h (record (stored_at (pages_from words taken) h) { words = page })
words_put [] ts h page = refl
words_put (w ∷ ws) [] zero page = refl
words_put (w ∷ ws) [] (suc h) page = refl
words_put (w ∷ ws) (t ∷ ts) zero page = refl
words_put (w ∷ ws) (t ∷ ts) (suc h) page = ap (◌∷◌ (record { taken = t; words = w })) (words_put ws ts h page)

pub taken_put : (words : List (List ℕ)) (taken : List Bool) (h : ℕ) (b : Bool) → pages_from words (slice_set taken h b) ≡ slice_set (pages_from words taken) h (record (stored_at (pages_from words taken) h) { taken = b })
taken_put [] ts h b = refl
taken_put (w ∷ ws) [] h b = refl
taken_put (w ∷ ws) (t ∷ ts) zero b = refl
taken_put (w ∷ ws) (t ∷ ts) (suc h) b = ap (◌∷◌ (record { taken = t; words = w })) (taken_put ws ts h b)

pub both_put : (words : List (List ℕ)) (taken : List Bool) (h : ℕ) (page : List ℕ) (b : Bool) → pages_from (slice_set words h page) (slice_set taken h b) ≡ slice_set (pages_from words taken) h (record { taken = b; words = page })
both_put [] ts h page b = refl
both_put (w ∷ ws) [] zero page b = refl
both_put (w ∷ ws) [] (suc h) page b = refl
both_put (w ∷ ws) (t ∷ ts) zero page b = refl
both_put (w ∷ ws) (t ∷ ts) (suc h) page b = ap (◌∷◌ (record { taken = t; words = w })) (both_put ws ts h page b)

pub rows_free : (n : ℕ) → pages_from (replicate n zero_words) (replicate n false) ≡ replicate n free_page
rows_free zero = refl
rows_free (suc n) = ap (◌∷◌ free_page) (rows_free n)
