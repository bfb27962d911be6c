use Rattle.std.proofs.Common.{◌∙◌, subst}
use Rattle.page_contracts.specs.Pages.{StaysPut}
use Rattle.slot_paged.specs.declared.slot_paged.SlotPaged.{SlotPaged}
use Rattle.paged_tables.specs.PagedSlots.{paged_slots}
use Rattle.paged_tables.specs.PagedTables.{beside_of}
use Rattle.known_slots.proofs.WithinPages.{put_within}
use Rattle.known_slots.proofs.pages.KnownSlotsPages.store.Goals as goal

pub invariant_of-self : goal.invariant_of-self
invariant_of-self g c = record { known = λ space page k below is. (λ i. c.store.ensures.known i (record { 0 = space }) page) ∙ c.know.new.self.known space page k below is }

pub returns-clause-stays : goal.returns-clause-stays
returns-clause-stays g c =
    put_within g.S.Store.means (λ (p : SlotPaged g.row.S.Denot g.S.Store). p.store) (λ p. beside_of p.tables) (λ p. p.pages) c.args.self.now _
    (subst (λ (p : SlotPaged g.row.S.Denot g.S.Store). StaysPut (paged_slots g.S.Store.means (λ q. q.store) (λ q. beside_of q.tables)) p c.store.new.self) c.know.ensures.pages c.store.ensures.stays)
