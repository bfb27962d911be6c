use Rattle.std.proofs.Common.{refl}
use Rattle.ka10_unit.specs.Gathers.{framed}
use Rattle.text_pointers.proofs.Opening.{opened_by}
use Rattle.psi_system.proofs.Choosing.{at_stops, chooses, level_stops}
use Rattle.psi_system.proofs.inspecting.choose.Goals as goal

pub returns-in-Err-clause-told : goal.returns-in-Err-clause-told
returns-in-Err-clause-told g c d fits stands =
    let p = framed g.P.Pages.means c.args.pages.now d in
    level_stops c.args.reader.now.fork p c.args.regs.now c.args.table c.args.reader.now c.args.found _ c.in-Err.stop (rw c.level_at.ensures.at at (c.in-Err.ensures.told d fits stands))

pub returns-in-Err-writable-clause-told : goal.returns-in-Err-writable-clause-told
returns-in-Err-writable-clause-told g c d fits stands =
    let f = c.args.reader.now.fork in
    let p = framed g.P.Pages.means c.args.pages.now d in
    let word = rw c.level_at.ensures.at at (c.in-Ok.ensures.told d fits stands) in
    let opens = rw c.right-at.ensures.value at (opened_by f p c.word.new.self _ c.right-at.result _ (word.stands _ refl) (c.in-Err-writable.ensures.told d fits)) in
    at_stops f p c.args.regs.now c.args.table c.args.reader.now c.args.found c.word.new.self _ c.in-Ok.word word c.in-Err-writable.stop opens

pub returns-in-Ok-writable-clause-told : goal.returns-in-Ok-writable-clause-told
returns-in-Ok-writable-clause-told g c d fits stands =
    let f = c.args.reader.now.fork in
    let p = framed g.P.Pages.means c.args.pages.now d in
    let word = rw c.level_at.ensures.at at (c.in-Ok.ensures.told d fits stands) in
    let opens = rw c.right-at.ensures.value at (opened_by f p c.word.new.self _ c.right-at.result _ (word.stands _ refl) (c.in-Ok-writable.ensures.told d fits)) in
    rw c.right-at.ensures.value (chooses f p c.args.regs.now c.args.table c.args.reader.now c.args.found c.word.new.self _ c.in-Ok.word word _ opens)
