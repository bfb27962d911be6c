-- The words of a page.
use Rattle.std.specs.Prelude.{ℕ, List, replicate}
use Rattle.outside.specs.declared.TheConstants.{PAGE_WORDS}

-- 512 words, all of them 0
unfoldable pub zero_words : List ℕ
zero_words = replicate PAGE_WORDS 0
