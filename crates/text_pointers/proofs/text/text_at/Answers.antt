use Rattle.std.proofs.Common.{◌≡◌, ◌≤◌, ◌∙◌, sym, subst, arith}
use Rattle.machine_names.specs.declared.names.Kind.TheVariants.{Read}
use Rattle.word36.specs.Bytes.{incremented}
use Rattle.plain_model.specs.PointedTexts.{full_pointer}
use Rattle.page_gather.specs.Gathering.{Gathering}
use Rattle.ka10_unit.specs.Gathers.{framed, weight}
use Rattle.ka10_unit.specs.Taking.{read_frames}
use Rattle.ka10_unit.proofs.Lost.{none_left}
use Rattle.ka10_unit.proofs.Adding.{sound_as}
use Rattle.ka10_unit.proofs.Stepping.{none_stands}
use Rattle.text_pointers.proofs.AddressReads.{address_few, address_needs, behind_stands}
use Rattle.text_pointers.proofs.TextReads.{bytes_by, bytes_end, text_address_stops}
use Rattle.text_pointers.proofs.text.text_at.Goals as goal

pub returns-in-Err-clause-told : goal.returns-in-Err-clause-told
returns-in-Err-clause-told g c d fits =
    let means = g.P.Pages.means in
    let p = framed means c.args.pages.now d in
    let none = none_stands c.args.fork p c.args.regs.now c.restart.new.self c.restart.ensures.fork (c.restart.ensures.told _ _ (sound_as means c.args.pages.now _ (g.met.P.Pages.whole c.args.pages.now d fits) (g.met.P.Pages.agrees c.args.pages.now d fits))) c.restart.ensures.kept in
    let first : c.next_pointer-first.result ≡ incremented (full_pointer c.args.pointer) = c.next_pointer-first.ensures in
    text_address_stops c.args.fork p c.args.regs.now c.args.pointer c.restart.new.self c.address_of.new.taken c.restart.ensures.gather c.restart.ensures.refs c.restart.ensures.kept c.args.scratch.now.reader c.in-Err.stop (rw first at (c.in-Err.ensures.told d c.args.fork fits none))

pub returns-in-Ok-clause-told : goal.returns-in-Ok-clause-told
returns-in-Ok-clause-told g c d fits =
    let means = g.P.Pages.means in
    let p = framed means c.args.pages.now d in
    let none = none_stands c.args.fork p c.args.regs.now c.restart.new.self c.restart.ensures.fork (c.restart.ensures.told _ _ (sound_as means c.args.pages.now _ (g.met.P.Pages.whole c.args.pages.now d fits) (g.met.P.Pages.agrees c.args.pages.now d fits))) c.restart.ensures.kept in
    let first : c.next_pointer-first.result ≡ incremented (full_pointer c.args.pointer) = c.next_pointer-first.ensures in
    let address = rw first at (c.in-Ok.ensures.told d c.args.fork fits none) in
    let kept = c.in-Ok.ensures.kept ∙ c.restart.ensures.kept in
    let behind = c.go_behind.new.self in
    let reader = behind_stands c.args.fork p c.args.regs.now.ac (incremented (full_pointer c.args.pointer)) c.restart.new.self c.address_of.new.taken c.in-Ok.address address behind c.go_behind.ensures.gather c.go_behind.ensures.fork c.go_behind.ensures.page in
    let bytes = rw (c.pointing_to-from.ensures, first) at (bytes_by c.args.fork p c.args.regs.now behind c.read_bytes.new.reader c.pointing_to-from.result c.read_bytes.result reader (c.read_bytes.ensures.told d fits)) in
    bytes_end c.args.fork p c.args.regs.now c.args.pointer c.restart.new.self c.address_of.new.taken c.restart.ensures.gather c.restart.ensures.refs c.restart.ensures.kept c.in-Ok.address kept address behind c.go_behind.ensures.gather c.read_bytes.new.reader c.read_bytes.result bytes

pub returns-in-Err-clause-needs : goal.returns-in-Err-clause-needs
returns-in-Err-clause-needs g c = address_needs g.P.Pages.means c.args.pages.now c.restart.new.self c.restart.ensures.gather c.restart.ensures.unmade c.restart.ensures.refs c.in-Err.stop c.in-Err.ensures.needs.0 c.in-Err.ensures.frames

pub read_bytes-requires-clause-few : goal.read_bytes-requires-clause-few
read_bytes-requires-clause-few g c =
    let none = none_left Read c.restart.new.self c.restart.ensures.gather c.restart.ensures.unmade c.restart.ensures.refs in
    subst (λ (gathered : Gathering). weight gathered ≤ read_frames) (sym c.go_behind.ensures.gather) (address_few c.address_of.new.taken (omega (arith, none, c.in-Ok.ensures.left)))
