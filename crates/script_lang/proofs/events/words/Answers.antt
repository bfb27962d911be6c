use Rattle.std.proofs.Common.{take, arith}
use Rattle.std.proofs.lemmas.List.{length-take-le}
use Rattle.script_texts.specs.Script.{IsOctal}
use Rattle.script_lang.specs.Fields.{Begins}
use Rattle.script_lang.proofs.Fronts.{IsNamed, cut_named, moved, named_field, no_name, uncut}
use Rattle.script_lang.proofs.Readings.{words_at, words_many, words_parts, words_spells}
use Rattle.script_lang.proofs.events.words.Goals as goal
use Rattle.script_lang.proofs.events.words.Goals.{then-row-eq0-via-then-row-eq0, then-row-eq0-via-else-row-eq0+then-from-gt-PAGE_WORDS}

pub returns-in_err-front : goal.returns-in_err-front
returns-in_err-front c = rw c.from_residual.ensures (λ e h. let p = words_parts c.args.rest.now e h in uncut IsNamed c.args.rest.now c.in_err-front.ensures p.name p.x p.named)

pub returns-in_err-name : goal.returns-in_err-name
returns-in_err-name c = rw c.from_residual-in_err-name.ensures (λ e h.
    let p = words_parts c.args.rest.now e h in
    no_name c.args.rest.now c.in_ok-front.front.now c.in_ok-front.rest.now c.in_ok-front.ensures c.in_err-name.ensures p.name p.x p.named)

pub returns-in_err-number : goal.returns-in_err-number
returns-in_err-number c = rw c.from_residual-in_err-number.ensures (λ e h.
    let p = words_parts c.args.rest.now e h in
    let named = cut_named c.args.rest.now c.in_ok-front.front.now c.in_ok-front.rest.now c.in_ok-name.name c.in_ok-front.ensures c.in_ok-name.ensures in
    c.in_err-number.ensures p.page p.y
    (moved named_field c.args.rest.now c.in_ok-name.name p.name c.in_ok-front.rest.now p.x named p.named (λ x. Begins (IsOctal 3) x p.page p.y) p.paged))

pub returns-in_err-offset : goal.returns-in_err-offset
returns-in_err-offset c = rw c.from_residual-in_err-offset.ensures (λ e h.
    let p = words_parts c.args.rest.now e h in
    let named = cut_named c.args.rest.now c.in_ok-front.front.now c.in_ok-front.rest.now c.in_ok-name.name c.in_ok-front.ensures c.in_ok-name.ensures in
    let at = words_at c.args.rest.now c.in_ok-name.name c.in_ok-front.rest.now c.in_ok-number.number c.in_ok-number.rest.now c.head.result.0.now c.head.result.1.now named c.in_ok-number.ensures c.head.ensures e p in
    c.in_err-offset.ensures p.offset at.0)

pub returns-in_err-row : goal.returns-in_err-row
returns-in_err-row c = rw c.from_residual-in_err-row.ensures (λ e h.
    let p = words_parts c.args.rest.now e h in
    let named = cut_named c.args.rest.now c.in_ok-front.front.now c.in_ok-front.rest.now c.in_ok-name.name c.in_ok-front.ensures c.in_ok-name.ensures in
    let at = words_at c.args.rest.now c.in_ok-name.name c.in_ok-front.rest.now c.in_ok-number.number c.in_ok-number.rest.now c.head.result.0.now c.head.result.1.now named c.in_ok-number.ensures c.head.ensures e p in
    omega (arith, c.in_err-row.ensures (take p.row.count p.row.words) at.1, length-take-le p.row.count p.row.words (omega (arith, p.fits.most, p.fits.room)), p.fits.most))

pub returns-then-row-eq0 : goal.returns-then-row-eq0
returns-then-row-eq0 c e h =
    let p = words_parts c.args.rest.now e h in
    let named = cut_named c.args.rest.now c.in_ok-front.front.now c.in_ok-front.rest.now c.in_ok-name.name c.in_ok-front.ensures c.in_ok-name.ensures in
    let at = words_at c.args.rest.now c.in_ok-name.name c.in_ok-front.rest.now c.in_ok-number.number c.in_ok-number.rest.now c.head.result.0.now c.head.result.1.now named c.in_ok-number.ensures c.head.ensures e p in
    let fits = words_many c.head.result.0.now c.head.result.1.now c.in_ok-offset.offset c.in_ok-row.row p.offset p.row c.in_ok-offset.ensures c.in_ok-row.ensures at p.fits in
    elim c.then-row-eq0.branch [
      | then-row-eq0-via-then-row-eq0 w ↦ omega (arith, fits.0, w.if-row-eq0.true)
      | then-row-eq0-via-else-row-eq0+then-from-gt-PAGE_WORDS w ↦ omega (arith, fits.1, w.if-from-gt-PAGE_WORDS.true)
    ]

pub returns : goal.returns
returns c =
    let is = c.in_ok-row.ensures in
    let named = cut_named c.args.rest.now c.in_ok-front.front.now c.in_ok-front.rest.now c.in_ok-name.name c.in_ok-front.ensures c.in_ok-name.ensures in
    words_spells c.args.rest.now c.in_ok-name.name c.in_ok-front.rest.now c.in_ok-number.number c.in_ok-number.rest.now c.head.result.0.now c.head.result.1.now c.in_ok-offset.offset c.in_ok-row.row
    named c.in_ok-number.ensures c.head.ensures c.in_ok-offset.ensures is.fields
    (record { some = omega arith; most = is.most; room = is.room; words = is.words; rest = is.rest; within = omega (arith, c.if-from-gt-PAGE_WORDS.false, c.from.ensures, c.from-else-row-eq0.ensures) })
