use Rattle.std.proofs.Common.{◌∙◌, ap, drop, length}
use Rattle.std.specs.Prelude.{not}
use Rattle.std.specs.Option.{unwrap_or}
use Rattle.asm_core.specs.Cutting.{is_blank, past_blanks}
use Rattle.asm_core.proofs.Cuts.{found_or}
use Rattle.asm_core.proofs.cutting.past_blanks.Goals as goal

pub returns-clause-value : goal.returns-clause-value
unfolding past_blanks
returns-clause-value c =
    let text = c.args.text.now in
    c.split_at.ensures.back ∙ ap (λ n. drop n text) (c.unwrap_or.ensures ∙ (ap (λ o. unwrap_or o (length text)) c.first_unblank.ensures ∙ found_or (λ c. not (is_blank c)) text))
