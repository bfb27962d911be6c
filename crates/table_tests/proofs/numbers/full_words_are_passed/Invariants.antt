use Rattle.std.proofs.Common.{◌≡◌}
use Rattle.table_tests.proofs.numbers.full_words_are_passed.Given as goal

abbrev pub invariant-loop-n : goal.invariant-loop-n
invariant-loop-n g l = l.numbers.bound ≡ 4200

abbrev pub invariant-loop-n-2 : goal.invariant-loop-n-2
invariant-loop-n-2 g l = l.numbers.bound ≡ 4200
