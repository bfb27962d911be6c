-- What a look at a word of a file's page tells, where nothing is away; and how many words a page has.
use Rattle.std.proofs.Common.{◌≡◌, ℕ, ◌<◌, true, false, List, length, Option, None, Some, refl, sym, ◌∙◌, ap}
use Rattle.std.specs.Prelude.{slice_index}
use Rattle.std.specs.Option.{option_map_or, unwrap_or}
use Rattle.std.specs.FinMap as map
use Rattle.std.proofs.lemmas.List.{get_or-replicate, length-replicate}
use Rattle.outside.specs.declared.TheConstants.{PAGE_WORDS}
use Rattle.machine_names.specs.PageWords.{zero_words}
use Rattle.machine_names.specs.declared.names.PageName.{PageName}
use Rattle.machine_names.specs.Orders.{FilePage}
use Rattle.page_contracts.specs.declared.answers.Peeked.{Peeked}
use Rattle.page_contracts.specs.declared.answers.Peeked.TheVariants.{Is, NoPage}
use Rattle.page_contracts.specs.Pages.{Scene, away_or, is_seen, page_away, peek_of}
use Rattle.plain_pages.specs.PlainPages.{NumberedPages}
use Rattle.plain_pages.specs.References.{in_file, page_at, word_at, words_at, words_of}
use Rattle.plain_pages.specs.WholePages.{AreWhole}

module _ (p : NumberedPages) (scene : Scene) (f : FilePage ℕ) (offset : ℕ) where
  -- the word of a page that may be there
  abbrev word_in : Option PageName → ℕ
  word_in n = slice_index (option_map_or (words_of p) n zero_words) offset

  pub word_told : (w : ℕ) → Is w ≡ peek_of p scene (in_file f) offset → w ≡ word_at p (in_file f) offset
  unfolding peek_of
  word_told w h = by (page_away p scene (in_file f)) (page_at p (in_file f)) h
    where
      by : (away : Option ℕ) (n : Option PageName) → Is w ≡ away_or away (option_map_or (λ m. Is (slice_index (words_of p m) offset)) n NoPage) → w ≡ word_in n
      by None None h = absurd (cc h)
      by None (Some n) h = cc h
      by (Some home) n h = absurd (cc h)

  -- where a look finds no word, there is no page
  pub none_told : offset < PAGE_WORDS → (seen : Peeked) → is_seen seen ≡ true → ((w : ℕ) → seen ≡ Is w → ⊥) → seen ≡ peek_of p scene (in_file f) offset
      → 0 ≡ word_at p (in_file f) offset
  unfolding peek_of zero_words
  none_told below seen core no_word h = by (page_away p scene (in_file f)) (page_at p (in_file f)) h
    where
      by : (away : Option ℕ) (n : Option PageName) → seen ≡ away_or away (option_map_or (λ m. Is (slice_index (words_of p m) offset)) n NoPage) → 0 ≡ word_in n
      by None None h = sym (get_or-replicate PAGE_WORDS offset 0 0 below)
      by None (Some n) h = absurd (no_word (slice_index (words_of p n) offset) h)
      by (Some home) n h = absurd (let away : false ≡ true = sym (ap is_seen h) ∙ core in cc away)

pub words_long : (p : NumberedPages) → AreWhole p → (f : FilePage ℕ) → length (words_at p (in_file f)) ≡ PAGE_WORDS
unfolding zero_words
words_long p whole f = by (page_at p (in_file f))
  where
    object : (o : Option (List ℕ)) → ((w : List ℕ) → o ≡ Some w → length w ≡ PAGE_WORDS) → length (unwrap_or o zero_words) ≡ PAGE_WORDS
    object None h = length-replicate {A = ℕ} PAGE_WORDS 0
    object (Some w) h = h w refl

    by : (n : Option PageName) → length (option_map_or (words_of p) n zero_words) ≡ PAGE_WORDS
    by None = length-replicate {A = ℕ} PAGE_WORDS 0
    by (Some n) = object (map.get p.objects n) (λ w is. whole.words n w is)
