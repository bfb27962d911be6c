use Rattle.std.proofs.Common.{◌∙◌, arith}
use Rattle.machine_names.specs.declared.names.Kind.TheVariants.{Read}
use Rattle.ka10_unit.specs.Gathers.{framed}
use Rattle.ka10_unit.specs.Taking.{most_pages, pages_so_far}
use Rattle.ka10_unit.proofs.Adding.{sound_as}
use Rattle.ka10_unit.proofs.Lost.{none_left, stop_more}
use Rattle.ka10_unit.proofs.Stepping.{none_stands}
use Rattle.text_pointers.proofs.AddressReads.{address_few}
use Rattle.string_io.specs.Turning.{string_frames}
use Rattle.string_io.proofs.Depositing.{address_goes, address_stops, deposit_by, stands_by}
use Rattle.string_io.proofs.deposits.deposits.Goals as goal

pub returns-in-Err-clause-told : goal.returns-in-Err-clause-told
returns-in-Err-clause-told g c d fits =
    let means = g.P.Pages.means in
    let p = framed means c.args.pages.now d in
    let n = c.args.next.now in
    let none = none_stands c.args.who p c.args.regs.now c.restart.new.self c.restart.ensures.fork (c.restart.ensures.told _ _ (sound_as means c.args.pages.now _ (g.met.P.Pages.whole c.args.pages.now d fits) (g.met.P.Pages.agrees c.args.pages.now d fits))) c.restart.ensures.kept in
    address_stops c.args.who p n.change c.args.regs.now n.regs n.pointer n.byte c.restart.new.self c.address_of.new.taken c.restart.ensures.gather c.restart.ensures.refs c.restart.ensures.kept c.in-Err.stop (c.in-Err.ensures.told d c.args.who fits none)

pub returns-in-Ok-clause-told : goal.returns-in-Ok-clause-told
returns-in-Ok-clause-told g c d fits =
    let means = g.P.Pages.means in
    let p = framed means c.args.pages.now d in
    let n = c.args.next.now in
    let none = none_stands c.args.who p c.args.regs.now c.restart.new.self c.restart.ensures.fork (c.restart.ensures.told _ _ (sound_as means c.args.pages.now _ (g.met.P.Pages.whole c.args.pages.now d fits) (g.met.P.Pages.agrees c.args.pages.now d fits))) c.restart.ensures.kept in
    let address = c.in-Ok.ensures.told d c.args.who fits none in
    let kept = c.in-Ok.ensures.kept ∙ c.restart.ensures.kept in
    let fork = address.stands.fork in
    address_goes c.args.who p n.change c.args.regs.now n.regs n.pointer n.byte c.restart.new.self c.address_of.new.taken c.restart.ensures.gather c.restart.ensures.refs c.restart.ensures.kept c.in-Ok.address kept address c.deposit_at.result
    (deposit_by c.args.who c.address_of.new.taken.fork p (pages_so_far p c.address_of.new.taken) n.change c.args.regs.now n.regs n.pointer n.byte c.in-Ok.address.e c.deposit_at.result fork (c.deposit_at.ensures.told d fits (stands_by c.args.who p c.address_of.new.taken address.stands)))

pub returns-in-Err-clause-needs : goal.returns-in-Err-clause-needs
returns-in-Err-clause-needs g c =
    let none = none_left Read c.restart.new.self c.restart.ensures.gather c.restart.ensures.unmade c.restart.ensures.refs in
    (c.in-Err.ensures.needs.0, stop_more g.P.Pages.means.store c.args.pages.now (most_pages Read c.restart.new.self) string_frames c.in-Err.stop (omega (arith, none)) c.in-Err.ensures.frames)

pub deposit_at-requires-clause-few : goal.deposit_at-requires-clause-few
deposit_at-requires-clause-few g c =
    let none = none_left Read c.restart.new.self c.restart.ensures.gather c.restart.ensures.unmade c.restart.ensures.refs in
    address_few c.address_of.new.taken (omega (arith, none, c.in-Ok.ensures.left))
