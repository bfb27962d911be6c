use Rattle.std.proofs.Common.{◌≡◌, Option, sym, ◌∙◌, ap, subst}
use Rattle.machine_names.specs.declared.names.ForkName.{ForkName}
use Rattle.plain_pages.specs.PlainPages.{NumberedPages}
use Rattle.plain_units.specs.declared.unit.Put.{Put}
use Rattle.plain_units.specs.Steps.{put_into}
use Rattle.plain_model.specs.Inspections.{interrupted_word}
use Rattle.ka10_unit.specs.Carrying.{Grows}
use Rattle.ka10_unit.specs.Gathers.{Framed, framed}
use Rattle.ka10_unit.specs.Taking.{CanPut}
use Rattle.ka10_unit.proofs.Carried.{grows_more, grows_stored, put_framed}
use Rattle.text_pointers.specs.Reading.{pages_so_far}
use Rattle.psi_system.specs.Inspecting.{put_for}
use Rattle.psi_system.proofs.Delivered.{can_put, stored_so}
use Rattle.psi_system.proofs.delivering.deliver.Goals as goal

pub returns-clause-told : goal.returns-clause-told
returns-clause-told g c d f fits own stands opens =
    let means = g.P.Pages.means in
    let name = c.args.fork in
    let delivery = c.args.delivery.now in
    let p : Framed = framed means c.args.pages.now d in
    let q : NumberedPages = pages_so_far p c.args.reader.now in
    let put : Option Put = put_for delivery.at (interrupted_word c.args.body.now.regs) in
    let made : means.plain c.make.new.pages d ≡ q = c.make.ensures.told d name fits stands in
    let is : c.keep-put.result ≡ put = c.keep-put.ensures.put ∙ ap (put_for delivery.at) c.interrupted_word-word.ensures in
    let can : CanPut name (framed means c.make.new.pages d) c.keep-put.result =
    subst (CanPut name (framed means c.make.new.pages d)) (sym is) (put_framed name (record p { pages = q }) (framed means c.make.new.pages d) made c.make.ensures.away put (can_put name p c.args.reader.now delivery (interrupted_word c.args.body.now.regs) opens)) in
    c.store.ensures.told d (c.make.ensures.fits d fits) can ∙ ap (λ (x : NumberedPages). put_into name x c.keep-put.result) made ∙ ap (put_into name q) is ∙ stored_so f name c.args.body.now q delivery own

pub returns-clause-grows : goal.returns-clause-grows
returns-clause-grows g c =
    let means = g.P.Pages.means in
    let t = c.args.fork.tty in
    let made = subst (λ (n : ForkName). Grows means n.tty 128 c.args.pages.now c.make.new.pages) c.requires.reader c.make.ensures.grows in
    grows_more means t 128 0 c.args.pages.now c.make.new.pages c.store.new.pages made (grows_stored means t c.make.new.pages c.store.new.pages c.store.ensures.stays c.store.ensures.loses)
