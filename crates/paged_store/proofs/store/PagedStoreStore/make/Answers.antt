use Rattle.std.proofs.Common.{ℕ, List, sym, subst}
use Rattle.outside.specs.Drums.{IsPage}
use Rattle.page_contracts.specs.Stores.{IsMade, here}
use Rattle.paged_store.specs.StoreMeaning.{paged_meaning}
use Rattle.paged_store.proofs.Making.{zeros_fit}
use Rattle.paged_store.proofs.store.PagedStoreStore.make.Goals as goal

pub make_page-requires-clause-page : goal.make_page-requires-clause-page
make_page-requires-clause-page c = subst IsPage (sym c.zero_page-words.ensures) zeros_fit

pub returns-clause-made : goal.returns-clause-made
returns-clause-made c = subst (λ (words : List ℕ). IsMade paged_meaning c.make_page.result.0 (here words) c.args.self.now c.make_page.new.self) c.zero_page-words.ensures c.make_page.ensures.made
