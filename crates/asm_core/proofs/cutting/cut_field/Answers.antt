use Rattle.std.proofs.Common.{◌∙◌, ap, take, drop, length}
use Rattle.std.specs.Option.{unwrap_or}
use Rattle.asm_core.specs.Cutting.{behind_field, ends_field, field}
use Rattle.asm_core.proofs.Cuts.{found_or}
use Rattle.asm_core.proofs.cutting.cut_field.Goals as goal

pub returns-clause-field : goal.returns-clause-field
unfolding field
returns-clause-field c =
    let text = c.args.text.now in
    c.split_at.ensures.front ∙ ap (λ n. take n text) (c.unwrap_or.ensures ∙ (ap (λ o. unwrap_or o (length text)) c.field_end.ensures ∙ found_or ends_field text))

pub returns-clause-behind : goal.returns-clause-behind
unfolding behind_field
returns-clause-behind c =
    let text = c.args.text.now in
    c.split_at.ensures.back ∙ ap (λ n. drop n text) (c.unwrap_or.ensures ∙ (ap (λ o. unwrap_or o (length text)) c.field_end.ensures ∙ found_or ends_field text))
