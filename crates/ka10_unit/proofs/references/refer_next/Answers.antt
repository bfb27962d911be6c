use Rattle.std.proofs.Common.{◌≡◌, ◌+◌, ◌≤◌, length, refl, ap, ◌∙◌, arith, length-append}
use Rattle.page_gather.specs.Gathering.{most_made}
use Rattle.ka10_unit.specs.Gathers.{weight}
use Rattle.ka10_unit.specs.Taking.{most_pages}
use Rattle.ka10_unit.proofs.Referring.{of_fork, refer_stops, refer_goes}
use Rattle.ka10_unit.proofs.Lost.{enough_left, few_made, no_more_left, stop_more}
use Rattle.ka10_unit.proofs.references.refer_next.Goals as goal

pub returns-in-Err-clause-told : goal.returns-in-Err-clause-told
returns-in-Err-clause-told g c d f fits stands = refer_stops _ _ _ c.args.taken.now _ _ _ c.in-Err.stop stands c.requires.room (of_fork _ _ c.args.regs.now.ac c.args.taken.now _ _ _ _ stands (c.in-Err.ensures.told d fits stands.gathers)) refl refl

pub returns-in-Err-clause-still : goal.returns-in-Err-clause-still
returns-in-Err-clause-still g c d f fits stands = (of_fork _ _ c.args.regs.now.ac c.args.taken.now _ _ _ _ stands (c.in-Err.ensures.told d fits stands.gathers)).still

pub returns-in-Ok-clause-told : goal.returns-in-Ok-clause-told
returns-in-Ok-clause-told g c d f fits stands =
    let asked = of_fork _ _ c.args.regs.now.ac c.args.taken.now _ _ _ _ stands (c.in-Ok.ensures.told d fits stands.gathers) in
    refer_goes _ _ _ c.args.taken.now _ _ _ _ _ stands c.requires.room asked c.push.ensures.items refl refl (λ here page. c.word_at.ensures.told d fits here page)

pub returns-in-Ok-clause-still : goal.returns-in-Ok-clause-still
returns-in-Ok-clause-still g c d f fits stands = (of_fork _ _ c.args.regs.now.ac c.args.taken.now _ _ _ _ stands (c.in-Ok.ensures.told d fits stands.gathers)).still

pub returns-in-Err-clause-needs : goal.returns-in-Err-clause-needs
returns-in-Err-clause-needs g c = (
  c.in-Err.ensures.core,
  stop_more g.P.Pages.means.store c.args.pages.now _ _ c.in-Err.stop (let few = few_made c.args.kind in omega (arith, few.1, c.args.taken.now.few, c.requires.room)) c.in-Err.ensures.needs,
)

pub returns-in-Err-clause-frames : goal.returns-in-Err-clause-frames
returns-in-Err-clause-frames g c =
    let enough = enough_left c.args.kind c.args.taken.now c.requires.room in
    stop_more g.P.Pages.means.store c.args.pages.now _ (most_pages c.args.kind c.args.taken.now) c.in-Err.stop (omega (arith, enough)) c.in-Err.ensures.needs

pub returns-in-Ok-clause-left : goal.returns-in-Ok-clause-left
returns-in-Ok-clause-left g c =
    let few = few_made c.args.kind in
    let longer : length c.push.new.self.items ≡ length c.args.taken.now.refs.items + 1 = ap length c.push.ensures.items ∙ length-append c.args.taken.now.refs.items _ in
    let more : weight c.ask.new.gather ≤ weight c.args.taken.now.gather + most_made c.args.kind = omega (arith, few.0, c.in-Ok.ensures.made, c.in-Ok.ensures.room) in
    no_more_left c.args.kind (weight c.args.taken.now.gather) (weight c.ask.new.gather) (length c.args.taken.now.refs.items) (length c.push.new.self.items) c.requires.room longer more

pub returns-in-Ok-clause-spare : goal.returns-in-Ok-clause-spare
returns-in-Ok-clause-spare g c =
    let few = few_made c.args.kind in
    let longer : length c.push.new.self.items ≡ length c.args.taken.now.refs.items + 1 = ap length c.push.ensures.items ∙ length-append c.args.taken.now.refs.items _ in
    omega (arith, few.0, few.1, longer, c.in-Ok.ensures.made, c.in-Ok.ensures.room)
