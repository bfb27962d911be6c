use Rattle.std.proofs.Common.{◌≡◌, ◌<◌, ◌-◌, ◌+◌, ◌∙◌, true, refl, sym, ap, subst, length, slice_set, arith, List}
use Rattle.std.proofs.lemmas.List.{get_or_read}
use Rattle.outside.specs.Drums.{IsPage}
use Rattle.std.proofs.lemmas.List.{length-set}
use Rattle.page_contracts.specs.Stores.{HomePlace, here, free_homes, place}
use Rattle.flat_pages.specs.StoredLists.{pages_of}
use Rattle.flat_pages.specs.StoredPages.{StoredPage, places_of, AreStored}
use Rattle.flat_pages.specs.StoreMeaning.{places_set, core_is}
use Rattle.flat_pages.proofs.StoredPlaces.{found_other, here_words, make_stored, spare_some, home_next, made_below, made_spare, spare_room}
use Rattle.flat_pages.proofs.flat_store.FlatStoreStore.copy.Goals as goal

pub invariant_of-self : goal.invariant_of-self
invariant_of-self c =
    let s = c.args.self.now in
    let some = spare_some s.stored c.requires.room in
    let below : s.spare - 1 < length s.homes.items = omega (arith, some, spare_room s.stored) in
    let is = home_next s.stored c.requires.room c.index-home.result.now (get_or_read _ _ _ below c.index-home.ensures (record { 0 = 0 })) in
    let taken = core_is (pages_of s.pages) c.args.from.0 ∙ c.requires.from in
    let fits = subst IsPage (sym c.page-words.ensures) (s.stored.words c.args.from.0) in
    record { stored = subst (λ (ps : List StoredPage). AreStored ps s.homes.items (s.spare - 1)) (sym c.take.ensures) (make_stored s.stored c.index-home.result.now.0 c.page-words.result some is fits) }

pub returns : goal.returns
returns c =
    let s = c.args.self.now in
    let some = spare_some s.stored c.requires.room in
    let below : s.spare - 1 < length s.homes.items = omega (arith, some, spare_room s.stored) in
    let is = home_next s.stored c.requires.room c.index-home.result.now (get_or_read _ _ _ below c.index-home.ensures (record { 0 = 0 })) in
    let taken = core_is (pages_of s.pages) c.args.from.0 ∙ c.requires.from in
    let fits = subst IsPage (sym c.page-words.ensures) (s.stored.words c.args.from.0) in
    let at = made_below s.stored c.requires.room c.index-home.result.now.0 is in
    let homes : places_of (pages_of c.take.new.self) ≡ slice_set (places_of (pages_of s.pages)) c.index-home.result.now.0 (place (places_of (pages_of s.pages)) c.args.from.0) = ap places_of c.take.ensures ∙ places_set (pages_of s.pages) c.index-home.result.now.0 (record { taken = true; words = c.page-words.result })
    ∙ ap (λ words. slice_set (places_of (pages_of s.pages)) c.index-home.result.now.0 (here words)) c.page-words.ensures
    ∙ ap (slice_set (places_of (pages_of s.pages)) c.index-home.result.now.0) (sym (here_words (pages_of s.pages) c.args.from.0 taken)) in
    record {
      made = record {
        below = at.0;
        was_free = at.1;
        in_frame = c.requires.from;
        homes = homes;
        frames = ap (λ (ps : List HomePlace). length ps) homes ∙ length-set _ _ _;
        found = λ other ne. found_other _ _ c.index-home.result.now.0 _ homes other ne;
        spare = ap (λ (ps : List StoredPage). free_homes (places_of ps) + 1) c.take.ensures
            ∙ made_spare s.stored c.requires.room c.index-home.result.now.0 c.page-words.result is fits;
        queued = record { queue = refl; untold = refl };
        holds = refl;
        members = refl;
        tenants = λ frame no. refl;
        ages = record { counted = record { own = λ frame is. absurd (cc is); grows = omega arith }; others = λ frame no. refl };
      };
      once = omega arith;
    }
