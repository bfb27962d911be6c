use Rattle.std.proofs.Common.{◌∙◌, ap, codes, decimal, ◌++◌}
use Rattle.script_texts.specs.Texts.{field}
use Rattle.texts.proofs.Tallies.{parted}
use Rattle.texts.proofs.end_line.push_tally.Goals as goal

pub returns : goal.returns
returns c =
    let t = c.args.tally.now in
    c.push-2.ensures.bytes
    ∙ ap (λ l. l ++ codes "\n") (c.push_count-3.ensures.bytes ∙ ap (λ l. l ++ field (decimal t.characters)) (c.push_count-2.ensures.bytes ∙ ap (λ l. l ++ field (decimal t.idles))
    (c.push_count.ensures.bytes ∙ ap (λ l. l ++ field (decimal t.units)) (c.push_decimal.ensures.bytes ∙ ap (λ l. l ++ decimal t.events) c.push.ensures.bytes))))
    ∙ parted c.args.line.now (codes "S ") (decimal t.events) (field (decimal t.units)) (field (decimal t.idles)) (field (decimal t.characters)) (codes "\n")
