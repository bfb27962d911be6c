-- What the clauses of pages say of `KnownSlots` over a store.
use Rattle.page_contracts.specs.declared.store.Store.{Ghosts}
use Rattle.page_contracts.specs.Pages.{PagesMeaning}
use Rattle.page_contracts.specs.Stores.{StoreMeaning}
use Rattle.paged_tables.specs.PagedSlots.{paged_slots}
use Rattle.paged_tables.specs.PagedTables.{beside_of}
use Rattle.known_slots.specs.declared.known_slots.KnownSlots.{KnownSlots}

-- of pages over a store with this meaning
abbrev pub slots : {S : Type 0} {members : Ghosts S} → StoreMeaning S → PagesMeaning (KnownSlots S members)
slots means = paged_slots means (λ p. p.pages.store) (λ p. beside_of p.pages.tables)
