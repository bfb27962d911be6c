use Rattle.std.proofs.Common.{◌≡◌, ◌++◌, length, drop}
use Rattle.word36.specs.Octal.{octal_padded}
use Rattle.word36.proofs.octal.fill_octal.Given as goal

abbrev pub invariant-loop-place : goal.invariant-loop-place
invariant-loop-place l = octal_padded l.place l.rest ++ drop l.place l.digits ≡ octal_padded (length l.digits) l.fn.n
