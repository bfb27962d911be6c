-- What a look at a word of a file's page tells.
use Rattle.std.proofs.Common.{◌≡◌, ℕ, ◌<◌, Option, None, Some, Result, Ok, Err, sym, ap}
use Rattle.std.specs.Prelude.{slice_index}
use Rattle.std.specs.Option.{option_map, option_map_or}
use Rattle.std.proofs.lemmas.List.{get_or-replicate}
use Rattle.outside.specs.declared.TheConstants.{PAGE_WORDS}
use Rattle.machine_names.specs.PageWords.{zero_words}
use Rattle.machine_names.specs.declared.names.PageName.{PageName}
use Rattle.machine_names.specs.Orders.{FilePage}
use Rattle.page_homes.specs.declared.homes.Home.{Home}
use Rattle.page_contracts.specs.declared.answers.Need.{Need}
use Rattle.page_contracts.specs.declared.answers.Need.TheVariants as need
use Rattle.page_contracts.specs.declared.answers.Peeked.TheVariants.{Is, Absent, NoPage}
use Rattle.page_contracts.specs.Pages.{Scene, away_or, page_away, peek_of}
use Rattle.plain_pages.specs.PlainPages.{NumberedPages}
use Rattle.plain_pages.specs.References.{in_file, page_at, word_at, words_of}
use Rattle.call_turns.specs.declared.turn.Told.TheVariants.{Word as AWord}
use Rattle.call_turns.specs.Telling.{page_need, told}
use Rattle.call_turns.proofs.Looks.{needed_is}

module _ (p : NumberedPages) (scene : Scene) (f : FilePage ℕ) (offset : ℕ) where
  -- what is needed for a page that may be away, and the word of one that may be there
  abbrev needs : Option ℕ → Option Need
  needs away = option_map (λ home. need.Page (record { 0 = home })) away

  abbrev word_in : Option PageName → ℕ
  word_in n = slice_index (option_map_or (words_of p) n zero_words) offset

  abbrev Tells : Result ℕ Need → Type 0
  Tells r = r ≡ told (page_need scene p (in_file f)) (word_at p (in_file f) offset)

  pub word_told : (w : ℕ) → Is w ≡ peek_of p scene (in_file f) offset → Tells (Ok w)
  unfolding peek_of
  word_told w h = by (page_away p scene (in_file f)) (page_at p (in_file f)) h
    where
      by : (away : Option ℕ) (n : Option PageName) → Is w ≡ away_or away (option_map_or (λ m. Is (slice_index (words_of p m) offset)) n NoPage) → Ok w ≡ told (needs away) (word_in n)
      by None None h = absurd (cc h)
      by None (Some n) h = let same : w ≡ slice_index (words_of p n) offset = cc h in ap Ok same
      by (Some home) n h = absurd (cc h)

  pub none_told : offset < PAGE_WORDS → NoPage ≡ peek_of p scene (in_file f) offset → Tells (Ok 0)
  unfolding peek_of zero_words
  none_told below h = by (page_away p scene (in_file f)) (page_at p (in_file f)) h
    where
      by : (away : Option ℕ) (n : Option PageName) → NoPage ≡ away_or away (option_map_or (λ m. Is (slice_index (words_of p m) offset)) n NoPage) → Ok 0 ≡ told (needs away) (word_in n)
      by None None h = ap Ok (sym (get_or-replicate PAGE_WORDS offset 0 0 below))
      by None (Some n) h = absurd (cc h)
      by (Some home) n h = absurd (cc h)

  pub page_told : (home : Home) → Absent home ≡ peek_of p scene (in_file f) offset → Tells (Err (need.Page home))
  unfolding peek_of
  page_told home h = by (page_away p scene (in_file f)) (page_at p (in_file f)) h
    where
      by : (away : Option ℕ) (n : Option PageName) → Absent home ≡ away_or away (option_map_or (λ m. Is (slice_index (words_of p m) offset)) n NoPage) → Err (need.Page home) ≡ told (needs away) (word_in n)
      by None None h = absurd (cc h)
      by None (Some n) h = absurd (cc h)
      by (Some k) n h = let same : home ≡ record { 0 = k } = cc h in ap (λ (x : Home). Err (need.Page x)) same

  -- and so of what was asked
  pub word_asked : (w : ℕ) → Ok w ≡ told (page_need scene p (in_file f)) (word_at p (in_file f) offset) → Ok (AWord w) ≡ told (page_need scene p (in_file f)) (AWord (word_at p (in_file f) offset))
  word_asked w is = by (page_need scene p (in_file f)) is
    where
      by : (o : Option Need) → Ok w ≡ told o (word_at p (in_file f) offset) → Ok (AWord w) ≡ told o (AWord (word_at p (in_file f) offset))
      by None h = let same : w ≡ word_at p (in_file f) offset = cc h in ap (λ x. Ok (AWord x)) same
      by (Some n) h = absurd (cc h)

  pub word_needed : (n : Need) → Err n ≡ told (page_need scene p (in_file f)) (word_at p (in_file f) offset) → Err n ≡ told (page_need scene p (in_file f)) (AWord (word_at p (in_file f) offset))
  word_needed n is = sym (ap (λ o. told o (AWord (word_at p (in_file f) offset))) (needed_is (page_need scene p (in_file f)) (word_at p (in_file f) offset) n is))
