use Rattle.std.proofs.Common.{◌∙◌, ap, arith, length}
use Rattle.std.proofs.lemmas.List.Sums.{prefix_len-le-length}
use Rattle.std.specs.Prelude.{not}
use Rattle.std.specs.Option.{unwrap_or}
use Rattle.plain_typing.specs.Words.{is_space}
use Rattle.exec_cmd.proofs.Parted.{found_or}
use Rattle.exec_cmd.proofs.words.word_end.Goals as goal

pub returns : goal.returns
returns c =
    let line = c.args.line.now in
    let is = c.unwrap_or.ensures ∙ (ap (λ o. unwrap_or o (length line)) c.first_space.ensures ∙ found_or is_space line) in
    record { end = is; within = omega (arith, is, prefix_len-le-length (λ x. not (is_space x)) line) }
