-- What a look at a word finds.
use Rattle.std.specs.Prelude.{ℕ}
use Rattle.page_contracts.specs.declared.answers.Peeked.{Peeked}
use Rattle.page_contracts.specs.declared.answers.Peeked.TheVariants.{Is}

-- the word, and 0 where there is none
abbrev pub word_of : Peeked → ℕ
word_of (Is word) = word
word_of peeked = 0
