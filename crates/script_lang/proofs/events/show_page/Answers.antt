use Rattle.script_texts.specs.Script.{IsOctal}
use Rattle.script_lang.proofs.Fronts.{IsNamed, cut_named, moved, named_field, no_name, uncut}
use Rattle.script_lang.proofs.Readings.{page_parts, page_spells}
use Rattle.script_lang.proofs.events.show_page.Goals as goal

pub returns-in_err-front : goal.returns-in_err-front
returns-in_err-front c = rw c.from_residual.ensures (λ e h. let p = page_parts c.args.rest.now e h in uncut IsNamed c.args.rest.now c.in_err-front.ensures p.name p.x p.named)

pub returns-in_err-file_name : goal.returns-in_err-file_name
returns-in_err-file_name c = rw c.from_residual-in_err-file_name.ensures (λ e h.
    let p = page_parts c.args.rest.now e h in
    no_name c.args.rest.now c.in_ok-front.front.now c.in_ok-front.field.now c.in_ok-front.ensures c.in_err-file_name.ensures p.name p.x p.named)

pub returns-in_err-page : goal.returns-in_err-page
returns-in_err-page c = rw c.from_residual-in_err-page.ensures (λ e h.
    let p = page_parts c.args.rest.now e h in
    let named = cut_named c.args.rest.now c.in_ok-front.front.now c.in_ok-front.field.now c.in_ok-file_name.field-0 c.in_ok-front.ensures c.in_ok-file_name.ensures in
    c.in_err-page.ensures p.page
    (moved named_field c.args.rest.now c.in_ok-file_name.field-0 p.name c.in_ok-front.field.now p.x named p.named (λ x. IsOctal 3 x p.page) p.paged))

pub returns : goal.returns
returns c =
    let named = cut_named c.args.rest.now c.in_ok-front.front.now c.in_ok-front.field.now c.in_ok-file_name.field-0 c.in_ok-front.ensures c.in_ok-file_name.ensures in
    page_spells c.args.rest.now c.in_ok-file_name.field-0 c.in_ok-front.field.now c.in_ok-page.field-0 named c.in_ok-page.ensures
