use Rattle.std.proofs.Common.{subst}
use Rattle.std.specs.Prelude.{OnOk}
use Rattle.page_contracts.specs.Pages.{spot_of}
use Rattle.ka10_spots.proofs.Stored.{lost_on}
use Rattle.console_access.specs.Needing.{OpensOver}
use Rattle.console_access.specs.Writing.{IsReadied}
use Rattle.console_access.proofs.writing.write_row.Goals as goal

pub returns-in-Ok-Ok-clause-told : goal.returns-in-Ok-Ok-clause-told
returns-in-Ok-Ok-clause-told g c d f =
    let means = g.P.Pages.means in
    let mid = c.readied.new.pages in
    let ready = c.in-Ok-Ok.ensures.told d f in
    let put = c.put_row_where_ready.ensures.told d ready.0 in
    let opens = subst (λ done. OnOk done (OpensOver means mid d c.args.at c.args.owner)) c.in-Ok-Ok.field-0-is (c.in-Ok-Ok.ensures.open d f) in
    let readied = subst (IsReadied (means.plain c.args.pages.now d) (means.plain mid d) (spot_of c.args.at) c.args.owner) c.in-Ok-Ok.field-0-is ready.1 in
    (put.0, record { ready = means.plain mid d; readied = readied; store = put.1 opens; stays = tt })

pub returns-in-Ok-Ok-clause-loses : goal.returns-in-Ok-Ok-clause-loses
returns-in-Ok-Ok-clause-loses g c = lost_on g.P.Pages.means c.args.pages.now c.readied.new.pages c.put_row_where_ready.new.pages c.in-Ok-Ok.ensures.loses c.put_row_where_ready.ensures.loses

pub returns-in-Ok-Err-clause-told : goal.returns-in-Ok-Err-clause-told
returns-in-Ok-Err-clause-told g c d f =
    let means = g.P.Pages.means in
    let mid = c.readied.new.pages in
    let told = c.in-Ok-Err.ensures.told d f in
    let readied = subst (IsReadied (means.plain c.args.pages.now d) (means.plain mid d) (spot_of c.args.at) c.args.owner) c.in-Ok-Err.field-0-is told.1 in
    (told.0, record { ready = means.plain mid d; readied = readied; store = tt; stays = readied.stays })
