use Rattle.std.proofs.Common.{◌∙◌, ◌-◌, List, ℕ, ◌∷◌, length, sym, ap, take, drop}
use Rattle.std.specs.Prelude.{not}
use Rattle.std.specs.List.{position_or_len}
use Rattle.std.proofs.lemmas.List.{take_rest}
use Rattle.plain_typing.specs.Words.{is_space, words}
use Rattle.exec_cmd.proofs.Parted.{first-word, found, not_found, words-blank}
use Rattle.exec_cmd.proofs.words.first_word.Goals as goal

pub returns-in_err-start : goal.returns-in_err-start
returns-in_err-start c =
    let line = c.args.line.now in
    rw c.from_residual.ensures (words-blank line (not_found (λ c. not (is_space c)) line (sym c.in_err-start.ensures)))

pub returns : goal.returns
returns c =
    let line = c.args.line.now in
    let at = found (λ c. not (is_space c)) line c.in_ok-start.start (sym c.in_ok-start.ensures) in
    let start = c.in_ok-start.start in
    let same = take_rest line start ∙ ap (λ n. drop n line) at.0 in
    let rest = take (length line - start) (drop start line) in
    let front = c.split_at.ensures.front in
    let back = c.split_at.ensures.back in
    first-word line at.1
    ∙ (ap (λ (r : List ℕ). take (position_or_len is_space r) r ∷ words (drop (position_or_len is_space r) r)) (sym same)
    ∙ (ap (λ n. take n rest ∷ words (drop n rest)) (sym c.word_end.ensures.end) ∙ λ i. sym front i ∷ words (sym back i)))
