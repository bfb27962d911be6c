use Rattle.std.proofs.Common.{◌≡◌, ◌<◌, ◌-◌, ◌+◌, ◌∙◌, true, refl, sym, ap, subst, length, slice_set, arith, List}
use Rattle.std.proofs.lemmas.List.{get_or_read}
use Rattle.outside.specs.Drums.{IsPage}
use Rattle.std.proofs.lemmas.List.{length-set}
use Rattle.machine_names.specs.PageWords.{zero_words}
use Rattle.page_contracts.specs.Stores.{HomePlace, here, free_homes}
use Rattle.flat_pages.specs.StoredLists.{pages_of}
use Rattle.flat_pages.specs.StoredPages.{StoredPage, places_of, AreStored}
use Rattle.flat_pages.specs.StoreMeaning.{places_set}
use Rattle.flat_pages.proofs.StoredPlaces.{found_other, zeros_fit, make_stored, spare_some, home_next, made_below, made_spare, spare_room}
use Rattle.flat_pages.proofs.flat_store.FlatStoreStore.make.Goals as goal

pub invariant_of-self : goal.invariant_of-self
invariant_of-self c =
    let s = c.args.self.now in
    let some = spare_some s.stored c.requires in
    let below : s.spare - 1 < length s.homes.items = omega (arith, some, spare_room s.stored) in
    let is = home_next s.stored c.requires c.index-home.result.now (get_or_read _ _ _ below c.index-home.ensures (record { 0 = 0 })) in
    record { stored = subst (λ (ps : List StoredPage). AreStored ps s.homes.items (s.spare - 1)) (sym c.take.ensures) (make_stored s.stored c.index-home.result.now.0 c.zero_page.result some is (subst IsPage (sym c.zero_page.ensures) zeros_fit)) }

pub returns : goal.returns
returns c =
    let s = c.args.self.now in
    let some = spare_some s.stored c.requires in
    let below : s.spare - 1 < length s.homes.items = omega (arith, some, spare_room s.stored) in
    let is = home_next s.stored c.requires c.index-home.result.now (get_or_read _ _ _ below c.index-home.ensures (record { 0 = 0 })) in
    let at = made_below s.stored c.requires c.index-home.result.now.0 is in
    let homes : places_of (pages_of c.take.new.self) ≡ slice_set (places_of (pages_of s.pages)) c.index-home.result.now.0 (here zero_words) = ap places_of c.take.ensures ∙ places_set (pages_of s.pages) c.index-home.result.now.0 (record { taken = true; words = c.zero_page.result })
    ∙ ap (λ words. slice_set (places_of (pages_of s.pages)) c.index-home.result.now.0 (here words)) c.zero_page.ensures in
    record {
      made = record {
        below = at.0;
        was_free = at.1;
        in_frame = refl;
        homes = homes;
        frames = ap (λ (ps : List HomePlace). length ps) homes ∙ length-set _ _ _;
        found = λ other ne. found_other _ _ c.index-home.result.now.0 _ homes other ne;
        spare = ap (λ (ps : List StoredPage). free_homes (places_of ps) + 1) c.take.ensures
            ∙ made_spare s.stored c.requires c.index-home.result.now.0 c.zero_page.result is (subst IsPage (sym c.zero_page.ensures) zeros_fit);
        queued = record { queue = refl; untold = refl };
        holds = refl;
        members = refl;
        tenants = λ frame no. refl;
        ages = record { counted = record { own = λ frame is. absurd (cc is); grows = omega arith }; others = λ frame no. refl };
      };
      once = omega arith;
    }
