use Rattle.std.proofs.Common.{◌∙◌}
use Rattle.std.specs.Prelude.{Ok, Err}
use Rattle.ka10_unit.specs.Gathers.{framed}
use Rattle.ka10_unit.proofs.Adding.{sound_as}
use Rattle.ka10_unit.proofs.Stepping.{none_stands}
use Rattle.text_pointers.proofs.AddressReads.{address_needs, behind_stands}
use Rattle.text_pointers.proofs.ByteReads.{byte_address_stops, byte_ends, byte_word_stops}
use Rattle.text_pointers.proofs.WordReads.{read_by}
use Rattle.text_pointers.proofs.byte.byte_at.Goals as goal

pub returns-in-Err-clause-told : goal.returns-in-Err-clause-told
returns-in-Err-clause-told g c d fits =
    let means = g.P.Pages.means in
    let p = framed means c.args.pages.now d in
    let none = none_stands c.args.fork p c.args.regs.now c.restart.new.self c.restart.ensures.fork (c.restart.ensures.told _ _ (sound_as means c.args.pages.now _ (g.met.P.Pages.whole c.args.pages.now d fits) (g.met.P.Pages.agrees c.args.pages.now d fits))) c.restart.ensures.kept in
    byte_address_stops c.args.fork p c.args.regs.now c.args.pointer c.restart.new.self c.address_of.new.taken c.restart.ensures.gather c.restart.ensures.refs c.restart.ensures.kept c.in-Err.stop (c.in-Err.ensures.told d c.args.fork fits none)

pub returns-in-Err-word-clause-told : goal.returns-in-Err-word-clause-told
returns-in-Err-word-clause-told g c d fits =
    let means = g.P.Pages.means in
    let p = framed means c.args.pages.now d in
    let none = none_stands c.args.fork p c.args.regs.now c.restart.new.self c.restart.ensures.fork (c.restart.ensures.told _ _ (sound_as means c.args.pages.now _ (g.met.P.Pages.whole c.args.pages.now d fits) (g.met.P.Pages.agrees c.args.pages.now d fits))) c.restart.ensures.kept in
    let address = c.in-Ok.ensures.told d c.args.fork fits none in
    let kept = c.in-Ok.ensures.kept ∙ c.restart.ensures.kept in
    let reader = behind_stands c.args.fork p c.args.regs.now.ac c.args.pointer c.restart.new.self c.address_of.new.taken c.in-Ok.address address c.behind-reader.result c.behind-reader.ensures.gather c.behind-reader.ensures.fork c.behind-reader.ensures.page in
    let word = read_by c.args.fork p c.args.regs.now c.behind-reader.result c.word.new.self c.in-Ok.address.e (Err c.in-Err-word.stop) reader (c.in-Err-word.ensures.told d fits) in
    byte_word_stops c.args.fork p c.args.regs.now c.args.pointer c.restart.new.self c.address_of.new.taken c.restart.ensures.gather c.restart.ensures.refs c.restart.ensures.kept c.in-Ok.address kept address c.behind-reader.result c.behind-reader.ensures.gather c.word.new.self c.in-Err-word.stop word

pub returns-in-Ok-word-clause-told : goal.returns-in-Ok-word-clause-told
returns-in-Ok-word-clause-told g c d fits =
    let means = g.P.Pages.means in
    let p = framed means c.args.pages.now d in
    let none = none_stands c.args.fork p c.args.regs.now c.restart.new.self c.restart.ensures.fork (c.restart.ensures.told _ _ (sound_as means c.args.pages.now _ (g.met.P.Pages.whole c.args.pages.now d fits) (g.met.P.Pages.agrees c.args.pages.now d fits))) c.restart.ensures.kept in
    let address = c.in-Ok.ensures.told d c.args.fork fits none in
    let kept = c.in-Ok.ensures.kept ∙ c.restart.ensures.kept in
    let reader = behind_stands c.args.fork p c.args.regs.now.ac c.args.pointer c.restart.new.self c.address_of.new.taken c.in-Ok.address address c.behind-reader.result c.behind-reader.ensures.gather c.behind-reader.ensures.fork c.behind-reader.ensures.page in
    let word = read_by c.args.fork p c.args.regs.now c.behind-reader.result c.word.new.self c.in-Ok.address.e (Ok c.in-Ok-word.word) reader (c.in-Ok-word.ensures.told d fits) in
    byte_ends c.args.fork p c.args.regs.now c.args.pointer c.restart.new.self c.address_of.new.taken c.restart.ensures.gather c.restart.ensures.refs c.restart.ensures.kept c.in-Ok.address kept address c.behind-reader.result c.behind-reader.ensures.gather c.word.new.self c.in-Ok-word.word _ c.load.ensures word

pub returns-in-Err-clause-needs : goal.returns-in-Err-clause-needs
returns-in-Err-clause-needs g c = address_needs g.P.Pages.means c.args.pages.now c.restart.new.self c.restart.ensures.gather c.restart.ensures.unmade c.restart.ensures.refs c.in-Err.stop c.in-Err.ensures.needs.0 c.in-Err.ensures.frames
