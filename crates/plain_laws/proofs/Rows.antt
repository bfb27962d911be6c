-- A row of words that is put into a page: what it leaves, and what stands there then.
use Rattle.std.proofs.Common.{◌≡◌, ◌≢◌, ℕ, zero, suc, ◌+◌, ◌<◌, ◌≤◌, cond, List, [], ◌∷◌, length, Option, Some, ◌⊎◌, inl, inr, refl, sym, ◌∙◌, ap, arith, Ordering, length-set, get_or-set_other}
use Rattle.std.specs.Prelude.{slice_index, slice_set}
use Rattle.std.specs.Option.{option_map_or, unwrap_or}
use Rattle.std.specs.Cmp.{IsTotalOrder}
use Rattle.std.specs.FinMap as map
use Rattle.std.proofs.lemmas.Grind.{get_or-set_at}
use Rattle.machine_names.specs.declared.names.PageName.{PageName}
use Rattle.machine_names.specs.PageWords.{zero_words}
use Rattle.machine_names.proofs.OrderLemmas.{page_cmp_total, page_tied}
use Rattle.plain_pages.specs.PlainPages.{PlainPages}
use Rattle.plain_pages.specs.Room.{live, names}
use Rattle.plain_pages.specs.References.{Spot, page_at, words_of, with_word, stored}
use Rattle.plain_pages.proofs.Counts.{same_itself}
use Rattle.plain_units.proofs.Lookups.{looked_up}
use Rattle.plain_units.proofs.PageRuns.{AreSound, Keeps, kept_itself, kept_on, stored_kept, stored_maps, stored_files}
use Rattle.plain_model.specs.FileEvents.{stored_row}
use Rattle.plain_laws.proofs.Stored.{stored_page, stored_object}

-- a list with a row of words in it
abbrev pub with_row : List ℕ → ℕ → List ℕ → List ℕ
with_row ws offset [] = ws
with_row ws offset (x ∷ xs) = with_row (slice_set ws offset x) (offset + 1) xs

-- the words beside the row are as they were
pub beside_row : (xs ws : List ℕ) (offset k : ℕ) → (k < offset) ⊎ (offset + length xs ≤ k) → slice_index (with_row ws offset xs) k ≡ slice_index ws k
beside_row [] ws offset k apart = refl
beside_row (x ∷ xs) ws offset k apart = beside_row xs (slice_set ws offset x) (offset + 1) k (further apart) ∙ get_or-set_other ws offset k x 0 (λ same. not_it apart same)
  where
    further : (k < offset) ⊎ (offset + length (x ∷ xs) ≤ k) → (k < offset + 1) ⊎ (offset + 1 + length xs ≤ k)
    further (inl h) = inl (omega (arith, h))
    further (inr h) = inr (omega (arith, h))

    not_it : (k < offset) ⊎ (offset + length (x ∷ xs) ≤ k) → k ≡ offset → ⊥
    not_it (inl h) same = omega (arith, h, same)
    not_it (inr h) same = omega (arith, h, same)

-- those of the row stand one behind the other
pub within_row : (xs ws : List ℕ) (offset i : ℕ) → offset + length xs ≤ length ws → i < length xs → slice_index (with_row ws offset xs) (offset + i) ≡ slice_index xs i
within_row [] ws offset i room within = absurd (omega (arith, within))
within_row (x ∷ xs) ws offset zero room within =
    beside_row xs (slice_set ws offset x) (offset + 1) (offset + 0) (inl (omega arith)) ∙ get_or-set_at ws offset (offset + 0) x 0 (omega arith) (omega (arith, room))
within_row (x ∷ xs) ws offset (suc i) room within =
    let same : offset + suc i ≡ offset + 1 + i = omega arith in
    ap (slice_index (with_row (slice_set ws offset x) (offset + 1) xs)) same ∙ within_row xs (slice_set ws offset x) (offset + 1) i (omega (arith, room, length-set ws offset x)) (omega (arith, within))

module _ {K : Type 0} {file_cmp : K → K → Ordering} (spot : Spot K) where
  -- what holds after each word holds after a row of them
  row_led : (Holds : PlainPages file_cmp → Type 0) → ((p : PlainPages file_cmp) (offset word : ℕ) → Holds p → Holds (stored p spot offset word)) → (xs : List ℕ) (p : PlainPages file_cmp) (offset : ℕ) → Holds p → Holds (stored_row p spot offset xs)
  row_led Holds does [] p offset h = h
  row_led Holds does (x ∷ xs) p offset h = row_led Holds does xs (stored p spot offset x) (offset + 1) (does p offset x h)

  module _ (p : PlainPages file_cmp) (offset : ℕ) (xs : List ℕ) where
    pub row_kept : IsTotalOrder file_cmp → AreSound p → Keeps p (stored_row p spot offset xs)
    row_kept o w = row_led (λ q. Keeps p q) (λ q k x kept. kept_on p q (stored q spot k x) kept (stored_kept q spot k x o kept.sound)) xs p offset (kept_itself p w)

    pub row_maps : (stored_row p spot offset xs).maps ≡ p.maps
    row_maps = row_led (λ q. q.maps ≡ p.maps) (λ q k x same. stored_maps q spot k x ∙ same) xs p offset refl

    pub row_files : (stored_row p spot offset xs).files ≡ p.files
    row_files = row_led (λ q. q.files ≡ p.files) (λ q k x same. stored_files q spot k x ∙ same) xs p offset refl

    pub row_live : live (stored_row p spot offset xs) ≡ live p
    unfolding live names
    row_live = row_led (λ q. live q ≡ live p) (λ q k x same. looked_up (λ (r : PlainPages file_cmp). live r ≡ live q) _ q (page_at q spot) (λ n is. refl) (λ none. refl) ∙ same) xs p offset refl

    -- no page is named elsewhere
    pub row_page : (at : Spot K) → page_at (stored_row p spot offset xs) at ≡ page_at p at
    row_page at = row_led (λ q. page_at q at ≡ page_at p at) (λ q k x same. stored_page q spot k x at ∙ same) xs p offset refl

    -- no word of another page changes
    pub row_others : (n : PageName) → page_at p spot ≢ Some n → map.get (stored_row p spot offset xs).objects n ≡ map.get p.objects n
    row_others n other = r.1
      where
        Stays : PlainPages file_cmp → Type 0
        Stays q = (page_at q spot ≡ page_at p spot) × (map.get q.objects n ≡ map.get p.objects n)

        r : Stays (stored_row p spot offset xs)
        r = row_led Stays (λ q k x same. (stored_page q spot k x spot ∙ same.0, stored_object q spot k x n (λ is. other (sym same.0 ∙ is)) ∙ same.1)) xs p offset (refl, refl)

  -- the words of its own page are those, with the row among them
  pub row_words : (xs : List ℕ) (p : PlainPages file_cmp) (offset : ℕ) (n : PageName) → page_at p spot ≡ Some n → words_of (stored_row p spot offset xs) n ≡ with_row (words_of p n) offset xs
  row_words [] p offset n is = refl
  row_words (x ∷ xs) p offset n is = row_words xs (stored p spot offset x) (offset + 1) n (stored_page p spot offset x spot ∙ is) ∙ ap (λ ws. with_row ws (offset + 1) xs) first
    where
      first : words_of (stored p spot offset x) n ≡ slice_set (words_of p n) offset x
      first = ap (λ (o : Option PageName). words_of (option_map_or (with_word p offset x) o p) n) is
          ∙ ap (λ (o : Option (List ℕ)). unwrap_or o zero_words) (map.get-insert page_cmp_total p.objects n (slice_set (words_of p n) offset x) n ∙ ap (λ b. cond b (Some (slice_set (words_of p n) offset x)) (map.get p.objects n)) (page_tied n n ∙ same_itself n))
