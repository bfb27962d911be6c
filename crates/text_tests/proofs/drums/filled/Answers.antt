use Rattle.std.proofs.Common.{ℕ, zero, suc, replicate, arith}
use Rattle.word36.specs.Words.{IsWord}
use Rattle.outside.specs.declared.TheConstants.{PAGE_WORDS}
use Rattle.outside.specs.Drums.{AreWords}
use Rattle.text_tests.proofs.drums.filled.Goals as goal

-- a word in each place, however many
same_words : (n w : ℕ) → IsWord w → AreWords (replicate n w)
same_words zero w is i = omega arith
same_words (suc n) w is zero = is
same_words (suc n) w is (suc i) = same_words n w is i

pub returns : goal.returns
returns c = same_words PAGE_WORDS c.args.word c.requires
