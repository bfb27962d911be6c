use Rattle.std.proofs.Common.{◌≡◌, length, ◌+◌, ◌∙◌, false, refl, sym, ap, subst, slice_set, rules, List}
use Rattle.std.proofs.lemmas.List.{length-set}
use Rattle.page_contracts.specs.Stores.{HomePlace, free, free_homes}
use Rattle.flat_pages.specs.StoredLists.{pages_of}
use Rattle.flat_pages.specs.StoredPages.{StoredPage, stored_at, places_of, AreStored}
use Rattle.flat_pages.specs.StoreMeaning.{places_set}
use Rattle.flat_pages.proofs.StoredPlaces.{found_other, spare_below, free_stored, freed_spare}
use Rattle.flat_pages.proofs.flat_store.FlatStoreStore.free.Goals as goal

pub index_mut-requires : goal.index_mut-requires
index_mut-requires c =
    let below = spare_below c.args.self.now.stored c.args.home.0 c.requires in
    search rules

pub invariant_of-self : goal.invariant_of-self
invariant_of-self c =
    let s = c.args.self.now in
    let h = c.args.home in
    record {
      stored = subst (λ (ps : List StoredPage). AreStored ps (slice_set s.homes.items s.spare h) (s.spare + 1)) (sym c.give_up.ensures)
          (free_stored s.stored h (stored_at (pages_of s.pages) h.0).words c.requires (s.stored.words h.0));
    }

pub returns : goal.returns
returns c =
    let s = c.args.self.now in
    let h = c.args.home in
    let homes : places_of (pages_of c.give_up.new.self) ≡ slice_set (places_of (pages_of s.pages)) h.0 free = ap places_of c.give_up.ensures ∙ places_set (pages_of s.pages) h.0 (record (stored_at (pages_of s.pages) h.0) { taken = false }) in
    record {
      homes = homes;
      frames = ap (λ (ps : List HomePlace). length ps) homes ∙ length-set _ _ _;
      found = λ other ne. found_other _ _ h.0 _ homes other ne;
      spare = ap (λ (ps : List StoredPage). free_homes (places_of ps)) c.give_up.ensures ∙ freed_spare s.stored h (stored_at (pages_of s.pages) h.0).words c.requires (s.stored.words h.0);
      cancelled = record { queue = refl; untold = refl };
      holds = refl;
      members = refl;
      tenants = λ frame. refl;
      ages = λ frame no. refl;
      uses = refl;
    }
