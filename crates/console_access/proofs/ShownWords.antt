-- What a look at a page's words finds, and how they are shown one behind the other.
use Rattle.std.proofs.Common.{◌≡◌, ℕ, suc, ◌+◌, ◌<◌, ◌==◌, false, cond, List, [], ◌∷◌, ◌++◌, length, take, drop, take-append-drop, Option, None, Some, sym, ◌∙◌, ap, arith, slice_index}
use Rattle.std.proofs.lemmas.List.{append_assoc, drop_more, get_or-replicate, length-take-le}
use Rattle.std.proofs.Math.Seq.{take-length, take-suc}
use Rattle.std.specs.Option.{option_map_or}
use Rattle.outside.specs.declared.TheConstants.{PAGE_WORDS}
use Rattle.machine_names.specs.declared.names.PageName.{PageName}
use Rattle.machine_names.specs.PageWords.{zero_words}
use Rattle.page_contracts.specs.Pages.{Scene, away_or, map_away, page_away, peek_of}
use Rattle.page_contracts.specs.declared.answers.Peeked.{Peeked}
use Rattle.page_contracts.specs.declared.answers.Peeked.TheVariants.{Absent, Is, NoPage}
use Rattle.plain_pages.specs.PlainPages.{NumberedPages}
use Rattle.plain_pages.specs.References.{Spot, page_at, stored, word_at, words_of}
use Rattle.plain_model.specs.FileEvents.{stored_row, words_shown}
use Rattle.script_texts.specs.declared.event.Item.{Item}
use Rattle.script_texts.specs.declared.event.Item.TheVariants.{PageWord}

-- words that are shown in two parts
pub shown_append : (xs ys : List ℕ) (offset : ℕ) → words_shown offset (xs ++ ys) ≡ words_shown offset xs ++ words_shown (offset + length xs) ys
shown_append [] ys offset = let at : offset ≡ offset + 0 = omega arith in ap (λ k. words_shown k ys) at
shown_append (x ∷ xs) ys offset =
    let first : List Item = cond (x == 0) [] (PageWord offset x ∷ []) in
    let at : offset + 1 + length xs ≡ offset + length (x ∷ xs) = omega arith in
    ap (λ l. first ++ l) (shown_append xs ys (offset + 1))
    ∙ ap (λ k. first ++ (words_shown (offset + 1) xs ++ words_shown k ys)) at
    ∙ sym (append_assoc first (words_shown (offset + 1) xs) (words_shown (offset + length (x ∷ xs)) ys))

-- the words up to one, and that one
pub one_more_word : (ws : List ℕ) (i : ℕ) → i < length ws → words_shown 0 (take i ws) ++ words_shown i (slice_index ws i ∷ []) ≡ words_shown 0 (take (i + 1) ws)
one_more_word ws i low =
    let so_many : i ≡ 0 + length (take i ws) = omega (arith, length-take-le i ws (omega (arith, low))) in
    let next : suc i ≡ i + 1 = omega arith in
    ap (λ k. words_shown 0 (take i ws) ++ words_shown k (slice_index ws i ∷ [])) so_many
    ∙ sym (shown_append (take i ws) (slice_index ws i ∷ []) 0)
    ∙ ap (words_shown 0) (sym (take-suc ws i _ low) ∙ ap (λ k. take k ws) next)

-- the words up to one, that one, and those behind it
pub words_split : (ws : List ℕ) (i : ℕ) → i < length ws → words_shown 0 ws ≡ words_shown 0 (take i ws) ++ (words_shown i (slice_index ws i ∷ []) ++ words_shown (i + 1) (drop (i + 1) ws))
words_split ws i low =
    let so_many : 0 + length (take i ws) ≡ i = omega (arith, length-take-le i ws (omega (arith, low))) in
    ap (words_shown 0) (sym (take-append-drop i ws) ∙ ap (λ l. take i ws ++ l) (drop_more ws i _ low))
    ∙ shown_append (take i ws) (slice_index ws i ∷ drop (i + 1) ws) 0
    ∙ ap (λ k. words_shown 0 (take i ws) ++ words_shown k (slice_index ws i ∷ drop (i + 1) ws)) so_many
    ∙ ap (λ l. words_shown 0 (take i ws) ++ l) (shown_append (slice_index ws i ∷ []) (drop (i + 1) ws) i)

-- all of them
pub all_words : (ws : List ℕ) (i : ℕ) → i ≡ length ws → take i ws ≡ ws
all_words ws i is = ap (λ k. take k ws) is ∙ take-length ws

-- a word alone
pub shown_zero : (offset word : ℕ) → word ≡ 0 → words_shown offset (word ∷ []) ≡ []
shown_zero offset word is = ap (λ w. words_shown offset (w ∷ [])) is

pub shown_word : (offset word : ℕ) → (word == 0) ≡ false → words_shown offset (word ∷ []) ≡ PageWord offset word ∷ []
shown_word offset word some = ap (λ b. cond b [] (PageWord offset word ∷ []) ++ []) some

-- a word that is stored behind others
pub stored_more : (p : NumberedPages) (at : Spot ℕ) (offset : ℕ) (words : List ℕ) (word : ℕ) → stored_row p at offset (words ++ word ∷ []) ≡ stored (stored_row p at offset words) at (offset + length words) word
stored_more p at offset [] word = let same : offset ≡ offset + 0 = omega arith in ap (λ k. stored p at k word) same
stored_more p at offset (w ∷ ws) word =
    let same : offset + 1 + length ws ≡ offset + length (w ∷ ws) = omega arith in
    stored_more (stored p at offset w) at (offset + 1) ws word ∙ ap (λ k. stored (stored_row (stored p at offset w) at (offset + 1) ws) at k word) same

-- the next of the words that are stored
pub stored_next : (p : NumberedPages) (at : Spot ℕ) (offset : ℕ) (words : List ℕ) (i : ℕ) → i < length words → stored (stored_row p at offset (take i words)) at (offset + i) (slice_index words i) ≡ stored_row p at offset (take (i + 1) words)
stored_next p at offset words i low =
    let so_many : i ≡ length (take i words) = omega (arith, length-take-le i words (omega (arith, low))) in
    let next : suc i ≡ i + 1 = omega arith in
    ap (λ k. stored (stored_row p at offset (take i words)) at (offset + k) (slice_index words i)) so_many
    ∙ sym (stored_more p at offset (take i words) (slice_index words i))
    ∙ ap (stored_row p at offset) (sym (take-suc words i _ low) ∙ ap (λ k. take k words) next)

module _ (p : NumberedPages) (scene : Scene) (at : Spot ℕ) (offset : ℕ) where
  abbrev found : Option PageName → Peeked
  found n = option_map_or (λ n. Is (slice_index (words_of p n) offset)) n NoPage

  passed : (away : Option ℕ) (t u : Peeked) → ((home : ℕ) → Absent (record { 0 = home }) ≡ u → ⊥) → away_or away t ≡ u → t ≡ u
  passed None t u not e = e
  passed (Some home) t u not e = absurd (not home e)

  -- a look that finds what it wants in frames finds the word, or that no page is there
  pub looked : (u : Peeked) → ((home : ℕ) → Absent (record { 0 = home }) ≡ u → ⊥) → u ≡ peek_of p scene at offset → u ≡ found (page_at p at)
  unfolding peek_of
  looked u not told = sym (passed (page_away p scene at) (found (page_at p at)) u not (passed (map_away p scene at) (away_or (page_away p scene at) (found (page_at p at))) u not (sym told)))

  pub word_found : (word : ℕ) → Is word ≡ peek_of p scene at offset → word ≡ word_at p at offset
  word_found word told = by (page_at p at) (looked (Is word) (λ home e. cc e) told)
    where
      by : (o : Option PageName) → Is word ≡ found o → word ≡ slice_index (option_map_or (words_of p) o zero_words) offset
      by None e = absurd (cc e)
      by (Some n) e = cc e

  pub no_word : offset < PAGE_WORDS → NoPage ≡ peek_of p scene at offset → word_at p at offset ≡ 0
  unfolding zero_words
  no_word low told = by (page_at p at) (looked NoPage (λ home e. cc e) told)
    where
      by : (o : Option PageName) → NoPage ≡ found o → slice_index (option_map_or (words_of p) o zero_words) offset ≡ 0
      by None e = get_or-replicate PAGE_WORDS offset 0 _ low
      by (Some n) e = absurd (cc e)
