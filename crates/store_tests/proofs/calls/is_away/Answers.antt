use Rattle.std.proofs.Common.{is_some, not, sym, ◌∙◌, ap}
use Rattle.page_contracts.specs.Stores.{place}
use Rattle.paged_store.specs.StoreMeaning.{homes_of}
use Rattle.paged_store.specs.StoreSound.{paged_sound}
use Rattle.store_tests.proofs.Looking.{away_from}
use Rattle.store_tests.proofs.calls.is_away.Goals as goal

pub returns-then-taken : goal.returns-then-taken
returns-then-taken c none =
    let s = c.args.store.now in
    away_from (place (homes_of s) c.args.home.0) (sym c.taken.ensures ∙ c.if-taken.true)
    (sym ((paged_sound s).finds c.args.home.0) ∙ ap is_some (sym c.find.ensures) ∙ c.is_none.ensures ∙ ap not none)
