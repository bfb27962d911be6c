use Rattle.std.proofs.Common.{◌∙◌, subst}
use Rattle.page_contracts.specs.Pages.{OnlyUses}
use Rattle.slot_paged.specs.declared.slot_paged.SlotPaged.{SlotPaged}
use Rattle.paged_tables.specs.PagedSlots.{paged_slots}
use Rattle.paged_tables.specs.PagedTables.{beside_of}
use Rattle.known_slots.proofs.WithinPages.{only_within}
use Rattle.known_slots.proofs.pages.KnownSlotsPages.load.Goals as goal

pub invariant_of-self : goal.invariant_of-self
invariant_of-self g c = record { known = λ space page k below is. (λ i. c.load.ensures.known i (record { 0 = space }) page) ∙ c.know.new.self.known space page k below is }

pub returns-clause-only : goal.returns-clause-only
returns-clause-only g c =
    only_within g.S.Store.means (λ (p : SlotPaged g.row.S.Denot g.S.Store). p.store) (λ p. beside_of p.tables) (λ p. p.pages) c.args.self.now _
    (subst (λ (p : SlotPaged g.row.S.Denot g.S.Store). OnlyUses (paged_slots g.S.Store.means (λ q. q.store) (λ q. beside_of q.tables)) p c.load.new.self) c.know.ensures.pages c.load.ensures.only)
