use Rattle.std.proofs.Common.{◌≡◌, Option, None, Some, IfSome, IsSome, true, refl}
use Rattle.page_contracts.specs.declared.answers.Found.{Found}
use Rattle.page_contracts.specs.Pages.{IsReady}
use Rattle.ka10_spots.specs.Glide.{is_ready}
use Rattle.ka10_spots.proofs.Ready.{ready_there}
use Rattle.ka10_spots.proofs.spots.page_to.Goals as goal

pub returns-clause-told : goal.returns-clause-told
returns-clause-told g c d f fits is = where_found c.find.result (c.find.ensures.told d f fits is)
  where
    where_found : (found : Option Found) → (IsSome found → IsReady g.P.Pages.means c.args.pages.now d f c.page_of.result c.args.kind) → IfSome found (λ x. is_ready f (g.P.Pages.means.plain c.args.pages.now d) c.args.at c.args.kind ≡ true)
    where_found None h = tt
    where_found (Some x) h = ready_there g.P.Pages.means c.args.pages.now d f c.args.at c.page_of.result c.args.kind c.page_of.ensures.page (h refl)
