use Rattle.std.proofs.Common.{◌∙◌, ap}
use Rattle.plain_pages.specs.PlainPages.{NumberedPages}
use Rattle.plain_pages.specs.NewEntries.{changed}
use Rattle.plain_pages.specs.declared.map.NewEntry.TheVariants.{FilePage}
use Rattle.page_contracts.specs.Stores.{traffic}
use Rattle.page_contracts.proofs.Losing.{loses_on}
use Rattle.pmap_calls.proofs.Changes.{granted_maps, needs_none, still_none}
use Rattle.ka10_spots.proofs.Stored.{lost_none}
use Rattle.pmap_calls.proofs.turn.map_page.Goals as goal

pub returns-in-Ok-clause-told : goal.returns-in-Ok-clause-told
returns-in-Ok-clause-told g c d f =
    let p = g.P.Pages.means.plain c.args.pages.now d in
    let scene = g.P.Pages.means.scene c.args.pages.now in
    let mid = c.make.new.pages in
    let none = needs_none p scene c.args.slot c.in-Ok.field-0 (c.in-Ok.ensures.told d f) in
    let made = c.make.ensures.told d f in
    let maps = ap (λ (x : NumberedPages). x.maps) made.1 ∙ granted_maps p c.args.owner c.args.grant in
    let put = c.put_file_page.ensures.told d made.0 (still_none p scene (g.P.Pages.means.scene mid) (g.P.Pages.means.plain mid d) c.args.slot c.make.ensures.maps maps none) in
    (put.0, put.1 ∙ ap (λ x. changed x c.args.slot (FilePage c.args.file c.args.page c.args.access)) made.1)

pub returns-in-Ok-clause-loses : goal.returns-in-Ok-clause-loses
returns-in-Ok-clause-loses g c =
    let means = g.P.Pages.means in
    loses_on (traffic means.store c.args.pages.now) (traffic means.store c.make.new.pages) (traffic means.store c.put_file_page.new.pages) c.make.ensures.loses c.put_file_page.ensures.loses

pub returns-in-Err-clause-loses : goal.returns-in-Err-clause-loses
returns-in-Err-clause-loses g c = lost_none g.P.Pages.means c.args.pages.now
