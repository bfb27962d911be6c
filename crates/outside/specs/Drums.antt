-- Pages of words, and what is told of those on a drum.
use Rattle.std.specs.Prelude.{◌≡◌, ℕ, ◌<◌, List, [], length, slice_index, slice_index_or, slice_set, Option, Some}
use Rattle.word36.specs.Words.{IsWord}
use Rattle.outside.specs.declared.TheConstants.{PAGE_WORDS}

-- each is a word of 36 bits
abbrev pub AreWords : List ℕ → Type 0
AreWords words = (i : ℕ) → IsWord (slice_index words i)

-- a page is PAGE_WORDS words
pub record IsPage (words : List ℕ) : Type 0 where
  pub size : length words ≡ PAGE_WORDS
  pub small : AreWords words

-- the words of page p among all pages of a drum
abbrev pub page_at : List (List ℕ) → ℕ → List ℕ
page_at d p = slice_index_or d p []

-- as many pages as there should be
pub record AreDrumPages (count : ℕ) (d : List (List ℕ)) : Type 0 where
  pub number : length d ≡ count
  pub pages : (p : ℕ) → p < count → IsPage (page_at d p)

-- the words are those that are told of page p
abbrev pub Gives : Option (List (List ℕ)) → ℕ → List ℕ → Type 0
Gives held p words = (d : List (List ℕ)) → held ≡ Some d → words ≡ page_at d p

-- pages that are told are the same now
abbrev pub Keeps : Option (List (List ℕ)) → Option (List (List ℕ)) → Type 0
Keeps old new = (d : List (List ℕ)) → old ≡ Some d → new ≡ Some d

-- pages that are told are the same but page p, which has these words now
abbrev pub Puts : Option (List (List ℕ)) → Option (List (List ℕ)) → ℕ → List ℕ → Type 0
Puts old new p words = (d : List (List ℕ)) → old ≡ Some d → new ≡ Some (slice_set d p words)

-- pages that are told are the same but page p, which has some words now
abbrev pub Spoils : Option (List (List ℕ)) → Option (List (List ℕ)) → ℕ → Type 0
Spoils old new p = (d : List (List ℕ)) → old ≡ Some d → (words : List ℕ) × IsPage words × (new ≡ Some (slice_set d p words))
