use Rattle.std.proofs.Common.{length}
use Rattle.script_lang.proofs.Fronts.{cut_head, whole_head, split_head}
use Rattle.script_lang.proofs.fields.head.Goals as goal

pub returns-in-Some : goal.returns-in-Some
returns-in-Some c =
    let text = c.args.text.now in
    let e = c.split_at.ensures in
    split_head text c.split_at.result.0.now c.split_at.result.1.now (length c.in-Some.front.now) e.front e.back (cut_head text c.in-Some.front.now c.in-Some.field-0-1.now c.in-Some.ensures)

pub returns-in-None : goal.returns-in-None
returns-in-None c =
    let text = c.args.text.now in
    let e = c.split_at-in-None.ensures in
    split_head text c.split_at-in-None.result.0.now c.split_at-in-None.result.1.now (length text) e.front e.back (whole_head text c.in-None.ensures)
