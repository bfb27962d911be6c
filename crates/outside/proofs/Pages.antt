-- Pages of zero words.
use Rattle.std.proofs.Common.{◌≡◌, ◌<◌, ℕ, Some, ◌∙◌, ap, slice_set, zero, suc, [], List, replicate, sym, subst, arith}
use Rattle.std.proofs.lemmas.List.{get_or-replicate, length-replicate, set-get_or}
use Rattle.word36.specs.Words.{IsWord}
use Rattle.outside.specs.declared.TheConstants.{PAGE_WORDS}
use Rattle.outside.specs.Drums.{IsPage, AreWords, AreDrumPages, page_at, Spoils}

-- a word in each place, however many
pub same_words : (n w : ℕ) → IsWord w → AreWords (replicate n w)
same_words zero w is i = omega arith
same_words (suc n) w is zero = is
same_words (suc n) w is (suc i) = same_words n w is i

pub zero_pages : (n : ℕ) → AreDrumPages n (replicate n (replicate PAGE_WORDS 0))
zero_pages n = record {
  number = length-replicate n (replicate PAGE_WORDS 0);
  pages = λ p within. subst IsPage (sym (get_or-replicate n p (replicate PAGE_WORDS 0) [] within))
      (record { size = length-replicate {A = ℕ} PAGE_WORDS 0; small = same_words PAGE_WORDS 0 (omega arith) });
}

-- a page that is as it was has some words
pub unspoiled : {count : ℕ} {pages : List (List ℕ)} (p : ℕ) → AreDrumPages count pages → p < count → Spoils (Some pages) (Some pages) p
unspoiled {count} {pages} p sound within d told =
    let same : pages ≡ d = cc in
    (page_at pages p, sound.pages p within, ap Some (sym (set-get_or pages p []) ∙ ap (λ l. slice_set l p (page_at pages p)) same))
