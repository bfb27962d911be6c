-- The words that stand at slots after the changes to come.
use Rattle.std.proofs.Common.{◌≡◌, ℕ, zero, suc, true, false, List, Option, None, Some, refl, sym, ◌∙◌, ap}
use Rattle.std.specs.Prelude.{replicate, slice_index}
use Rattle.std.specs.Option.{option_map_or, option_and_then}
use Rattle.outside.specs.declared.TheConstants.{PAGE_WORDS}
use Rattle.machine_names.specs.declared.names.Tty.{Tty}
use Rattle.machine_names.specs.declared.names.Slot.{Slot}
use Rattle.machine_names.specs.declared.names.PageName.{PageName}
use Rattle.plain_pages.specs.declared.map.MapEntry.{MapEntry}
use Rattle.page_contracts.specs.declared.answers.Seen.{Seen}
use Rattle.page_contracts.specs.declared.answers.Seen.TheVariants as seen
use Rattle.page_contracts.specs.declared.answers.Peeked.{Peeked}
use Rattle.page_contracts.specs.declared.answers.Peeked.TheVariants as peeked
use Rattle.plain_pages.specs.PlainPages.{NumberedPages}
use Rattle.plain_pages.specs.Maps.{Chain, entry_at}
use Rattle.plain_pages.specs.References.{in_map, page_at, words_of, word_at}
use Rattle.machine_names.specs.PageWords.{zero_words}
use Rattle.page_contracts.specs.Pages.{Scene, away_or, peek_of, map_away_or, seen_of}
use Rattle.plain_pages.proofs.ChainEquations.{no_chain, chain_is_four}
use Rattle.page_contracts.proofs.Ways.{own_in_frame}
use Rattle.page_gather.specs.declared.change.Change.{Change}
use Rattle.page_gather.specs.declared.walk.Walked.{Walked}
use Rattle.page_gather.specs.Seen.{word_of}
use Rattle.page_gather.specs.Changes.{source_of, source_words}
use Rattle.page_gather.specs.Gathering.{IsNear, AreSourcesNear, HasWalked}
use Rattle.page_gather.proofs.Near.{way_is, page_is}
use Rattle.page_gather.proofs.Words.{end_words, source_near}
use Rattle.page_gather.proofs.Judged.{page_none, page_some, page_of_walk, end_is, four}

zero_at : (n i : ℕ) → slice_index (replicate n 0) i ≡ 0
zero_at zero i = refl
zero_at (suc n) zero = refl
zero_at (suc n) (suc i) = zero_at n i

pub zeros_at : (i : ℕ) → slice_index zero_words i ≡ 0
unfolding zero_words
zeros_at i = zero_at PAGE_WORDS i

module _ (p : NumberedPages) (s : Slot) (offset : ℕ) where
  -- where no page is named there are zeros
  pub word_none : page_at p (in_map s) ≡ None → 0 ≡ word_at p (in_map s) offset
  word_none none = sym (ap (λ (n : Option PageName). slice_index (option_map_or (words_of p) n zero_words) offset) none ∙ zeros_at offset)

  module _ (scene : Scene) (near : IsNear p scene s) where
    -- a look at what is in frames finds the word
    pub peek_word : (found : Peeked) → found ≡ peek_of p scene (in_map s) offset → word_of found ≡ word_at p (in_map s) offset
    unfolding peek_of
    peek_word found is =
        ap word_of is ∙ ap (λ (o : Option ℕ). word_of (away_or o (away_or (option_and_then scene.page_away (page_at p (in_map s))) (option_map_or (λ n. peeked.Is (slice_index (words_of p n) offset)) (page_at p (in_map s)) peeked.NoPage)))) near.maps
        ∙ ap (λ (o : Option ℕ). word_of (away_or o (option_map_or (λ n. peeked.Is (slice_index (words_of p n) offset)) (page_at p (in_map s)) peeked.NoPage))) near.page ∙ by (page_at p (in_map s))
      where
        by : (n : Option PageName) → word_of (option_map_or (λ m. peeked.Is (slice_index (words_of p m) offset)) n peeked.NoPage) ≡ slice_index (option_map_or (words_of p) n zero_words) offset
        by None = sym (zeros_at offset)
        by (Some n) = refl

    -- what has no entry names no page
    pub entry_none : (found : Seen) → ((e : MapEntry) → found ≡ seen.Is e → ⊥) → found ≡ seen_of p scene s → page_at p (in_map s) ≡ None
    unfolding seen_of
    entry_none found none is = by (entry_at p.maps s) refl is
      where
        by : (e : Option MapEntry) → entry_at p.maps s ≡ e → found ≡ option_map_or (λ x. map_away_or (scene.map_away s.fork) (seen.Is x)) e seen.Missing → page_at p (in_map s) ≡ None
        by None at g = page_is p s ∙ ap (option_and_then (λ (c : Chain). c.page)) (sym (chain_is_four (entry_at p.maps) s) ∙ no_chain (entry_at p.maps) s at)
        by (Some e) at g = absurd (none e (g ∙ ap (λ (o : Option ℕ). map_away_or o (seen.Is e)) (own_in_frame scene 3 (entry_at p.maps) s e at (sym (way_is p scene s) ∙ near.maps))))

module _ (p q : NumberedPages) (scene : Scene) (owner : Tty) (cs : List Change) (homes : ℕ) (s : Slot) (w : Walked) (k : HasWalked p q scene owner cs homes s w) (offset : ℕ) where
  -- an empty end
  pub empty_word : w.empty ≡ true → 0 ≡ word_at q (in_map s) offset
  empty_word empty = word_none q s offset (page_of_walk p q scene owner cs homes s w k ∙ page_none p q scene owner cs homes s w k empty)

  module _ (full : w.empty ≡ false) where
    x : (n : PageName) × (k.links.page ≡ Some n)
    x = page_some p q scene owner cs homes s w k full

    -- the words of a chain's page are those of its end's source
    pub after_word : slice_index (source_words p (source_of cs w.end)) offset ≡ word_at q (in_map s) offset
    after_word = sym (
        ap (λ (n : Option PageName). slice_index (option_map_or (words_of q) n zero_words) offset) (page_of_walk p q scene owner cs homes s w k ∙ x.1)
        ∙ ap (λ ws. slice_index ws offset) (end_words p q k.sound.whole owner cs homes k.changed s k.links x.0 (four p q scene owner cs homes s w k) x.1)
        ∙ ap (λ (t : Slot). slice_index (source_words p (source_of cs t)) offset) (end_is p q scene owner cs homes s w k)
        )

    -- and it is in a frame
    pub after_near : AreSourcesNear p scene cs → IsNear q scene s → (t : Slot) → source_of cs w.end ≡ Some t → IsNear p scene t
    after_near sources near t from =
        source_near p q k.sound.whole owner cs homes k.changed scene sources s k.links x.0 t (four p q scene owner cs homes s w k) x.1 near (ap (source_of cs) (end_is p q scene owner cs homes s w k) ∙ from)
