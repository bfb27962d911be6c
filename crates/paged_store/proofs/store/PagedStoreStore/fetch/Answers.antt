use Rattle.std.proofs.Common.{refl, ap, sym, subst}
use Rattle.page_contracts.specs.declared.answers.Need.{Need}
use Rattle.page_contracts.specs.declared.answers.Need.TheVariants.{Frame}
use Rattle.page_contracts.specs.Stores.{IsFetched}
use Rattle.paged_store.specs.UntoldNeeds.{Needs}
use Rattle.paged_store.specs.StoreMeaning.{paged_meaning}
use Rattle.paged_store.proofs.Fetched.{fetched_waits}
use Rattle.paged_store.proofs.store.PagedStoreStore.fetch.Goals as goal

pub returns-in-Frame-clause-fetched : goal.returns-in-Frame-clause-fetched
returns-in-Frame-clause-fetched c =
    let s = c.args.self.now in
    subst (λ (need : Need). IsFetched paged_meaning need s c.send_off.new.self) (sym c.in-Frame.is)
    (fetched_waits s c.send_off.new.self Frame refl c.send_off.ensures.rests c.send_off.ensures.queue (ap (λ (u : Needs). u.needs) c.send_off.ensures.untold) c.send_off.ensures.holders)
