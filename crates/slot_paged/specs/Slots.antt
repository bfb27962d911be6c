-- What the clauses of pages say of `SlotPaged` over a store.
use Rattle.page_contracts.specs.declared.store.Store.{Ghosts}
use Rattle.page_contracts.specs.Pages.{PagesMeaning}
use Rattle.page_contracts.specs.Stores.{StoreMeaning}
use Rattle.slot_paged.specs.declared.slot_paged.SlotPaged.{SlotPaged}
use Rattle.paged_tables.specs.PagedSlots.{paged_slots}
use Rattle.paged_tables.specs.PagedTables.{beside_of}

-- of pages over a store with this meaning
abbrev pub slots : {S : Type 0} {members : Ghosts S} → StoreMeaning S → PagesMeaning (SlotPaged S members)
slots means = paged_slots means (λ p. p.store) (λ p. beside_of p.tables)
