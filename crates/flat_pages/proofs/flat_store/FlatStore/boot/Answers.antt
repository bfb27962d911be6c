use Rattle.std.proofs.Common.{ap, sym, ◌∙◌, List}
use Rattle.page_contracts.specs.Stores.{free_homes}
use Rattle.flat_pages.specs.StoredPages.{StoredPage, places_of}
use Rattle.flat_pages.proofs.StoredPlaces.{boot_stored, boot_places}
use Rattle.flat_pages.proofs.flat_store.FlatStore.boot.Goals as goal

pub invariant_of-result : goal.invariant_of-result
invariant_of-result c = record { stored = rw (c.in_ok-stored.ensures, c.in_ok-homes.ensures) (boot_stored c.args.pages c.requires) }

pub returns-clause-homes : goal.returns-clause-homes
returns-clause-homes c = ap places_of c.in_ok-stored.ensures ∙ boot_places c.args.pages

pub returns-clause-spare : goal.returns-clause-spare
returns-clause-spare c = ap (λ (ps : List StoredPage). free_homes (places_of ps)) c.in_ok-stored.ensures ∙ sym (boot_stored c.args.pages c.requires).count
