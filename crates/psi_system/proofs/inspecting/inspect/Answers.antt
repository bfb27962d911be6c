use Rattle.ka10_unit.specs.Gathers.{framed}
use Rattle.ka10_unit.proofs.Adding.{sound_as}
use Rattle.psi_system.proofs.Inspected.{is_inspected, none_stands}
use Rattle.psi_system.proofs.inspecting.inspect.Goals as goal

pub returns-clause-told : goal.returns-clause-told
returns-clause-told g c d fits =
    let means = g.P.Pages.means in
    let p = framed means c.args.pages.now d in
    let begun = c.restart.ensures in
    let none = c.restart.new.self in
    let new = c.inspect_by.new.reader in
    let sound = sound_as means c.args.pages.now _ (g.met.P.Pages.whole c.args.pages.now d fits) (g.met.P.Pages.agrees c.args.pages.now d fits) in
    let stands = none_stands c.args.fork c.args.body.now p new none begun.none begun.fork (begun.told _ _ sound) begun.page in
    is_inspected c.args.fork c.args.body.now p new none begun.none begun.fork c.inspect_by.result (c.inspect_by.ensures.told d fits stands) (c.inspect_by.ensures.opens d fits stands)
