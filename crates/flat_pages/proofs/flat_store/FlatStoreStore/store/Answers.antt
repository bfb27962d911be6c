use Rattle.std.proofs.Common.{◌≡◌, ◌∙◌, length, arith, true, refl, sym, ap, subst, slice_set, rules, List}
use Rattle.std.proofs.lemmas.List.{length-set}
use Rattle.page_contracts.proofs.Losing.{left_put}
use Rattle.page_contracts.specs.Stores.{HomePlace, place, is_taken, with_word_in, free_homes}
use Rattle.flat_pages.specs.StoredLists.{pages_of}
use Rattle.flat_pages.specs.StoredPages.{StoredPage, stored_at, places_of, found_at, AreStored}
use Rattle.flat_pages.proofs.StoredPlaces.{put_stored, put_places, put_found, put_spare, word_fits, found_home}
use Rattle.flat_pages.proofs.flat_store.FlatStoreStore.store.Goals as goal

pub invariant_of-self : goal.invariant_of-self
invariant_of-self c =
    let s = c.args.self.now in
    let h = c.args.found.0 in
    let found = found_home (places_of (pages_of s.pages)) c.requires.found.home c.args.found c.requires.found.is in
    let taken = subst (λ k. is_taken (place (places_of (pages_of s.pages)) k) ≡ true) found.1 found.0 in
    let words = slice_set (stored_at (pages_of s.pages) h).words c.args.at c.args.word in
    record {
      stored = subst (λ (ps : List StoredPage). AreStored ps s.homes.items s.spare) (sym c.put.ensures)
          (put_stored s.stored h words taken (word_fits (stored_at (pages_of s.pages) h).words c.args.at c.args.word (s.stored.words h) (search rules)));
    }

pub returns-clause-homes : goal.returns-clause-homes
returns-clause-homes c home is_found =
    let s = c.args.self.now in
    let h = c.args.found.0 in
    let found = found_home (places_of (pages_of s.pages)) home c.args.found is_found in
    let taken = subst (λ k. is_taken (place (places_of (pages_of s.pages)) k) ≡ true) found.1 found.0 in
    ap places_of c.put.ensures ∙ put_places s.stored h c.args.at c.args.word taken
    ∙ ap (λ k. slice_set (places_of (pages_of s.pages)) k (with_word_in (place (places_of (pages_of s.pages)) k) c.args.at c.args.word)) (sym found.1)

pub returns-clause-used : goal.returns-clause-used
returns-clause-used c home is_found =
    let s = c.args.self.now in
    let h = c.args.found.0 in
    let found = found_home (places_of (pages_of s.pages)) home c.args.found is_found in
    let taken = subst (λ k. is_taken (place (places_of (pages_of s.pages)) k) ≡ true) found.1 found.0 in
    let words = slice_set (stored_at (pages_of s.pages) h).words c.args.at c.args.word in
    let fits = word_fits (stored_at (pages_of s.pages) h).words c.args.at c.args.word (s.stored.words h) (search rules) in
    record {
      framed = record {
        frames = ap (λ (ps : List HomePlace). length ps) (ap places_of c.put.ensures ∙ put_places s.stored h c.args.at c.args.word taken) ∙ length-set _ _ _;
        spare = ap (λ (ps : List StoredPage). free_homes (places_of ps)) c.put.ensures ∙ put_spare s.stored h words taken fits;
        found = ap (λ (ps : List StoredPage). found_at (places_of ps)) c.put.ensures ∙ put_found s.stored h words taken;
        tenant = refl;
        members = refl;
      };
      rescued = record { queue = refl; untold = refl };
      left = left_put (places_of (pages_of s.pages)) _ h c.args.at c.args.word (ap places_of c.put.ensures ∙ put_places s.stored h c.args.at c.args.word taken);
      holds = refl;
      ages = record { counted = record { own = λ frame is. absurd (cc is); none = λ away. refl; grows = omega arith }; others = λ frame no. refl };
    }
