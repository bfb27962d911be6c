use Rattle.std.proofs.Common.{◌∙◌, Option, ap}
use Rattle.plain_units.specs.declared.unit.Put.{Put}
use Rattle.plain_units.specs.Steps.{put_into}
use Rattle.ka10_unit.specs.Gathers.{framed}
use Rattle.ka10_unit.specs.Taking.{pages_so_far, so_far}
use Rattle.ka10_unit.proofs.Carried.{own_stands}
use Rattle.ka10_unit.proofs.TakenBlocks.{opens_framed}
use Rattle.ka10_unit.proofs.word_blocks.make_block.Goals as goal

pub returns-clause-told : goal.returns-clause-told
returns-clause-told g c d f fits stands =
    let p = framed g.P.Pages.means c.args.pages.now d in
    let t = c.args.taken.now in
    c.carry.ensures.told d fits (own_stands f p t stands) tt ∙ ap (λ (o : Option Put). put_into t.fork (pages_so_far p t) o) c.requires.kept

pub returns-clause-opens : goal.returns-clause-opens
returns-clause-opens g c d f at n fits stands all =
    let means = g.P.Pages.means in
    let p = framed means c.args.pages.now d in
    let t = c.args.taken.now in
    let same = c.carry.ensures.told d fits (own_stands f p t stands) tt ∙ ap (λ (o : Option Put). put_into t.fork (pages_so_far p t) o) c.requires.kept in
    opens_framed f (so_far p t) (framed means c.carry.new.pages d) at n same c.carry.ensures.away all
