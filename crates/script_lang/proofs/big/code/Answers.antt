use Rattle.std.proofs.Common.{◌∙◌, ◌%◌, ◌^◌, ap, get_or}
use Rattle.script_lang.specs.Generator.{program_words}
use Rattle.script_lang.proofs.Moves.{code_last, code_next}
use Rattle.script_lang.proofs.big.code.Goals as goal

pub returns-then-k-eq5 : goal.returns-then-k-eq5
returns-then-k-eq5 c =
    let word = c.wrapped-word.ensures ∙ ap (λ i. get_or program_words i 0 % 2 ^ 36) c.from.ensures in
    rw c.from-2.ensures (λ x. code_last c.args.t c.args.k c.wrapped-word.result x word c.requires.terminal c.requires.word c.if-k-eq5.true)

pub returns-else-k-eq5 : goal.returns-else-k-eq5
returns-else-k-eq5 c =
    let word = c.wrapped-word.ensures ∙ ap (λ i. get_or program_words i 0 % 2 ^ 36) c.from.ensures in
    rw c.from-2.ensures (λ x. code_next c.args.t c.args.k c.wrapped-word.result x word c.requires.terminal c.requires.word c.if-k-eq5.false)
