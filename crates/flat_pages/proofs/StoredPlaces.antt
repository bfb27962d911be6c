-- The places of a store in memory, as its pages change.
use Rattle.std.proofs.Common.{◌≡◌, ◌≢◌, inl, inr, ℕ, zero, suc, ◌+◌, ◌-◌, ◌<◌, ◌≤◌, List, [], ◌∷◌, Bool, true, false, cond, ◌||◌, Option, None, Some, length, refl, sym, ◌∙◌, ap, subst, arith}
use Rattle.std.specs.Prelude.{slice_set, slice_index_or, slice_index, replicate, nat_lt}
use Rattle.std.specs.List.{range_with_len}
use Rattle.std.proofs.lemmas.Bool.{cases_eq, cases_lt}
use Rattle.std.proofs.lemmas.Bool.Decides.{nat_tests}
use Rattle.std.specs.Option.{option_map}
use Rattle.std.proofs.Math.Path.{fun_ext}
use Rattle.std.proofs.lemmas.Option.{get_or_from_slice_get, slice_get-map, slice_get-get_or}
use Rattle.std.proofs.lemmas.List.FromFn.{length-map-range_with_len, get_or-range_with_len, length-range_with_len}
use Rattle.std.proofs.lemmas.List.{get_or-set_same, get_or-set_other, length-set, length-replicate, get_or_past}
use Rattle.std.proofs.lemmas.List.Sums.{sum_by-set, sum_by-cons, count_by-le-length}
use Rattle.word36.specs.Words.{IsWord}
use Rattle.outside.specs.Drums.{IsPage}
use Rattle.outside.specs.declared.TheConstants.{PAGE_WORDS}
use Rattle.machine_names.specs.PageWords.{zero_words}
use Rattle.page_homes.specs.declared.homes.Home.{Home}
use Rattle.page_homes.specs.declared.homes.TheConstants.{MOST_HOMES}
use Rattle.page_contracts.specs.declared.answers.Found.{Found}
use Rattle.page_contracts.specs.Stores.{HomePlace, free, here, place, is_free, is_taken, is_here, with_word_in, free_homes, room_of}
use Rattle.page_contracts.specs.declared.store.Room.TheVariants.{Enough, NeedFrame, Full}
use Rattle.flat_pages.specs.StoredPages.{StoredPage, free_page, stored_at, place_of, places_of, found_at, free_at, homes_below, AreStored}
use Rattle.flat_pages.specs.StoreMeaning.{place_at, places_set, places_length, taken_is, core_is}

-- a home that is taken is there
pub taken_below : (pages : List StoredPage) (h : ℕ) → is_taken (place (places_of pages) h) ≡ true → h < length pages
taken_below [] h e = absurd (cc e)
taken_below (p ∷ pages) zero e = omega arith
taken_below (p ∷ pages) (suc h) e = omega (arith, taken_below pages h e)

pub here_words : (pages : List StoredPage) (h : ℕ) → is_taken (place (places_of pages) h) ≡ true → place (places_of pages) h ≡ here (stored_at pages h).words
here_words pages h e = place_at pages h ∙ ap (λ b. cond b (here (stored_at pages h).words) free) (sym (taken_is pages h) ∙ e)

pub free_is : (p : StoredPage) → is_free (place_of p) ≡ cond p.taken false true
free_is p = by p.taken
  where
    by : (b : Bool) → is_free (cond b (here p.words) free) ≡ cond b false true
    by true = refl
    by false = refl

-- how many homes are free once a page is another
pub free_with : (pages : List StoredPage) (h : ℕ) (p : StoredPage) → h < length pages
    → free_homes (places_of (slice_set pages h p)) + cond (stored_at pages h).taken 0 1 ≡ free_homes (places_of pages) + cond p.taken 0 1
free_with pages h p l =
    let w : HomePlace → ℕ = λ q. cond (is_free q) 1 0 in
    let within : h < length (places_of pages) = omega (arith, places_length pages) in
    let s = sum_by-set w (places_of pages) h (place_of p) free within in
    let old : ◌≡◌ {A = ℕ} (w (place (places_of pages) h)) (cond (stored_at pages h).taken 0 1) = ap w (place_at pages h) ∙ ap (λ b. cond b 1 0) (free_is (stored_at pages h)) ∙ turned (stored_at pages h).taken in
    let new : ◌≡◌ {A = ℕ} (w (place_of p)) (cond p.taken 0 1) = ap (λ b. cond b 1 0) (free_is p) ∙ turned p.taken in
    let sets : free_homes (places_of (slice_set pages h p)) ≡ free_homes (slice_set (places_of pages) h (place_of p)) = ap free_homes (places_set pages h p) in
    omega (arith, s, old, new, sets)
  where
    turned : (b : Bool) → ◌≡◌ {A = ℕ} (cond (cond b false true) 1 0) (cond b 0 1)
    turned true = refl
    turned false = refl

module _ {pages : List StoredPage} {homes : List Home} {spare : ℕ} (s : AreStored pages homes spare) where
  words_set : (h : ℕ) (p : StoredPage) → IsPage p.words → h < length pages → (k : ℕ) → IsPage (stored_at (slice_set pages h p) k).words
  words_set h p fits l k = elim (cases_eq k h) [
    | inl e ↦ subst (λ (q : StoredPage). IsPage q.words) (sym (ap (stored_at (slice_set pages h p)) e ∙ get_or-set_same pages h p free_page l)) fits
    | inr ne ↦ subst (λ (q : StoredPage). IsPage q.words) (sym (get_or-set_other pages h k p free_page ne)) (s.words k)
  ]

  place_other : (h k : ℕ) (p : StoredPage) → k ≢ h → place (places_of (slice_set pages h p)) k ≡ place (places_of pages) k
  place_other h k p ne = place_at (slice_set pages h p) k ∙ ap place_of (get_or-set_other pages h k p free_page ne) ∙ sym (place_at pages k)

  -- a home that is taken is none of those that are free
  not_spare : (h i : ℕ) → is_taken (place (places_of pages) h) ≡ true → i < spare → free_at homes i ≢ h
  not_spare h i taken l e = (let z : true ≡ false = sym taken ∙ ap (λ k. is_taken (place (places_of pages) k)) (sym e) ∙ ap is_taken (s.unused i l) in cc z)

  -- the words of a page that is taken are others
  pub put_stored : (h : ℕ) (words : List ℕ) → is_taken (place (places_of pages) h) ≡ true → IsPage words → AreStored (slice_set pages h (record (stored_at pages h) { words = words })) homes spare
  put_stored h words taken fits =
      let p : StoredPage = record (stored_at pages h) { words = words } in
      let l = taken_below pages h taken in
      let size = length-set pages h p in
      record {
        few = omega (arith, size, s.few);
        room = s.room ∙ sym size;
        count = omega (arith, s.count, free_with pages h p l);
        below = λ i li. omega (arith, size, s.below i li);
        unused = λ i li. place_other h (free_at homes i) p (not_spare h i taken li) ∙ s.unused i li;
        apart = s.apart;
        words = words_set h p fits l;
      }

  pub put_places : (h at word : ℕ) → is_taken (place (places_of pages) h) ≡ true
      → places_of (slice_set pages h (record (stored_at pages h) { words = slice_set (stored_at pages h).words at word })) ≡ slice_set (places_of pages) h (with_word_in (place (places_of pages) h) at word)
  put_places h at word taken =
      let words = slice_set (stored_at pages h).words at word in
      places_set pages h (record (stored_at pages h) { words = words })
      ∙ ap (slice_set (places_of pages) h) (ap (λ b. cond b (here words) free) (sym (taken_is pages h) ∙ taken) ∙ sym (ap (λ p. with_word_in p at word) (here_words pages h taken)))

  taken_put : (h : ℕ) (words : List ℕ) → h < length pages → (k : ℕ) → (stored_at (slice_set pages h (record (stored_at pages h) { words = words })) k).taken ≡ (stored_at pages k).taken
  taken_put h words l k = elim (cases_eq k h) [
    | inl e ↦ ap (λ j. (stored_at (slice_set pages h (record (stored_at pages h) { words = words })) j).taken) e ∙ ap (λ (p : StoredPage). p.taken) (get_or-set_same pages h (record (stored_at pages h) { words = words }) free_page l) ∙ ap (λ j. (stored_at pages j).taken) (sym e)
    | inr ne ↦ ap (λ (p : StoredPage). p.taken) (get_or-set_other pages h k (record (stored_at pages h) { words = words }) free_page ne)
  ]

  -- no page comes or goes
  pub put_found : (h : ℕ) (words : List ℕ) → is_taken (place (places_of pages) h) ≡ true → found_at (places_of (slice_set pages h (record (stored_at pages h) { words = words }))) ≡ found_at (places_of pages)
  put_found h words taken = fun_ext (λ k. ap {B = Option Found} (λ b. cond b (Some (record { 0 = k })) None)
      (taken_is (slice_set pages h (record (stored_at pages h) { words = words })) k ∙ taken_put h words (taken_below pages h taken) k ∙ sym (taken_is pages k)))

  pub put_spare : (h : ℕ) (words : List ℕ) → is_taken (place (places_of pages) h) ≡ true → IsPage words → free_homes (places_of (slice_set pages h (record (stored_at pages h) { words = words }))) ≡ free_homes (places_of pages)
  put_spare h words taken fits = let t = put_stored h words taken fits in sym t.count ∙ s.count

  -- a home that is free
  pub some_spare : 1 ≤ spare → (free_at homes (spare - 1) < length pages) × (place (places_of pages) (free_at homes (spare - 1)) ≡ free)
  some_spare l = (s.below (spare - 1) (omega arith), s.unused (spare - 1) (omega arith))

  pub make_stored : (h : ℕ) (words : List ℕ) → 1 ≤ spare → h ≡ free_at homes (spare - 1) → IsPage words → AreStored (slice_set pages h (record { taken = true; words = words })) homes (spare - 1)
  make_stored h words l is fits =
      let p : StoredPage = record { taken = true; words = words } in
      let size = length-set pages h p in
      let f = some_spare l in
      let inside : h < length pages = omega (arith, f.0, is) in
      let was : (stored_at pages h).taken ≡ false = sym (taken_is pages h) ∙ ap (λ k. is_taken (place (places_of pages) k)) is ∙ ap is_taken f.1 in
      let before : ◌≡◌ {A = ℕ} (cond (stored_at pages h).taken 0 1) 1 = ap (λ b. cond b 0 1) was in
      record {
        few = omega (arith, size, s.few);
        room = s.room ∙ sym size;
        count = omega (arith, s.count, free_with pages h p inside, before);
        below = λ i li. omega (arith, size, s.below i (omega arith));
        unused = λ i li. place_other h (free_at homes i) p (λ e. absurd (let z = s.apart i (spare - 1) (omega arith) (omega arith) (e ∙ is) in omega (arith, z, li))) ∙ s.unused i (omega arith);
        apart = λ i j li lj e. s.apart i j (omega arith) (omega arith) e;
        words = words_set h p fits inside;
      }

  -- a home that is taken is given up
  pub spare_below : (h : ℕ) → is_taken (place (places_of pages) h) ≡ true → spare < length homes
  spare_below h taken =
      let l = taken_below pages h taken in
      let one : ◌≡◌ {A = ℕ} (cond (stored_at pages h).taken 0 1) 0 = ap (λ b. cond b 0 1) (sym (taken_is pages h) ∙ taken) in
      let size : length (slice_set pages h free_page) ≡ length pages = length-set pages h free_page in
      let most = count_by-le-length is_free (places_of (slice_set pages h free_page)) in
      omega (arith, free_with pages h free_page l, one, most, places_length (slice_set pages h free_page), size, s.count, s.room)

  pub free_stored : (h : Home) (words : List ℕ) → is_taken (place (places_of pages) h.0) ≡ true → IsPage words → AreStored (slice_set pages h.0 (record { taken = false; words = words })) (slice_set homes spare h) (spare + 1)
  free_stored h words taken fits =
      let p : StoredPage = record { taken = false; words = words } in
      let l = taken_below pages h.0 taken in
      let size = length-set pages h.0 p in
      let room = spare_below h.0 taken in
      let one : ◌≡◌ {A = ℕ} (cond (stored_at pages h.0).taken 0 1) 0 = ap (λ b. cond b 0 1) (sym (taken_is pages h.0) ∙ taken) in
      record {
        few = omega (arith, size, s.few);
        room = length-set homes spare h ∙ s.room ∙ sym size;
        count = omega (arith, s.count, free_with pages h.0 p l, one);
        below = λ i li. elim (cases_eq i spare) [
          | inl e ↦ omega (arith, size, l, last i e)
          | inr ne ↦ omega (arith, size, before i ne, s.below i (omega arith))
        ];
        unused = λ i li. elim (cases_eq i spare) [
          | inl e ↦ ap (place (places_of (slice_set pages h.0 p))) (last i e) ∙ place_at (slice_set pages h.0 p) h.0 ∙ ap place_of (get_or-set_same pages h.0 p free_page l)
          | inr ne ↦ ap (place (places_of (slice_set pages h.0 p))) (before i ne) ∙ place_other h.0 (free_at homes i) p (not_spare h.0 i taken (omega arith)) ∙ s.unused i (omega arith)
        ];
        apart = λ i j li lj e. elim (cases_eq i spare) [
          | inl ei ↦ elim (cases_eq j spare) [
            | inl ej ↦ ei ∙ sym ej
            | inr nj ↦ absurd (not_spare h.0 j taken (omega arith) (sym (before j nj) ∙ sym e ∙ last i ei))
          ]
          | inr ni ↦ elim (cases_eq j spare) [
            | inl ej ↦ absurd (not_spare h.0 i taken (omega arith) (sym (before i ni) ∙ e ∙ last j ej))
            | inr nj ↦ s.apart i j (omega arith) (omega arith) (sym (before i ni) ∙ e ∙ before j nj)
          ]
        ];
        words = words_set h.0 p fits l;
      }
    where
      last : (i : ℕ) → i ≡ spare → free_at (slice_set homes spare h) i ≡ h.0
      last i e = ap (free_at (slice_set homes spare h)) e ∙ ap (λ (x : Home). x.0) (get_or-set_same homes spare h (record { 0 = 0 }) (spare_below h.0 taken))

      before : (i : ℕ) → i ≢ spare → free_at (slice_set homes spare h) i ≡ free_at homes i
      before i ne = ap (λ (x : Home). x.0) (get_or-set_other homes spare i h (record { 0 = 0 }) ne)

-- a page with another word is a page
pub word_fits : (words : List ℕ) (at word : ℕ) → IsPage words → IsWord word → IsPage (slice_set words at word)
word_fits words at word fits small = record {
  size = length-set words at word ∙ fits.size;
  small = λ i. elim (cases_eq i at) [
    | inl e ↦ elim (cases_lt at (length words)) [
      | inl l ↦ subst IsWord (sym (ap (slice_index (slice_set words at word)) e ∙ get_or-set_same words at word 0 l)) small
      | inr past ↦ subst IsWord (sym (ap (slice_index (slice_set words at word)) e ∙ get_or_past (slice_set words at word) at 0 (omega (arith, length-set words at word)))) (omega arith)
    ]
    | inr ne ↦ subst IsWord (sym (get_or-set_other words at i word 0 ne)) (fits.small i)
  ];
}

pub zeros_fit : IsPage zero_words
unfolding zero_words
zeros_fit = record { size = length-replicate {A = ℕ} PAGE_WORDS 0; small = λ i. subst IsWord (sym (zero_at PAGE_WORDS i)) (omega arith) }
  where
    zero_at : (n i : ℕ) → slice_index (replicate n 0) i ≡ 0
    zero_at zero i = refl
    zero_at (suc n) zero = refl
    zero_at (suc n) (suc i) = zero_at n i

-- a store of free homes
pub boot_stored : (n : ℕ) → n ≤ MOST_HOMES → AreStored (replicate n free_page) (homes_below n) n
boot_stored n few = record {
  few = omega (arith, few, size);
  room = length-map-range_with_len (λ h. record { 0 = h }) 0 n ∙ sym size;
  count = sym (all_free n);
  below = λ i l. omega (arith, size, home_at n i l, l);
  unused = λ i l. place_at (replicate n free_page) (free_at (homes_below n) i) ∙ ap place_of (all_at n (free_at (homes_below n) i));
  apart = λ i j li lj e. sym (home_at n i li) ∙ e ∙ home_at n j lj;
  words = λ h. subst (λ (p : StoredPage). IsPage p.words) (sym (all_at n h)) zeros_fit;
}
  where
    size : length (replicate n free_page) ≡ n
    size = length-replicate n free_page

    all_at : (n h : ℕ) → stored_at (replicate n free_page) h ≡ free_page
    all_at zero h = refl
    all_at (suc n) zero = refl
    all_at (suc n) (suc h) = all_at n h

    all_free : (n : ℕ) → free_homes (places_of (replicate n free_page)) ≡ n
    all_free zero = refl
    all_free (suc n) = omega (arith, sum_by-cons (λ (q : HomePlace). cond (is_free q) 1 0) (place_of free_page) (places_of (replicate n free_page)), all_free n)

    home_at : (n i : ℕ) → i < n → free_at (homes_below n) i ≡ i
    home_at n i l = ap (λ (h : Home). h.0) (get_or_from_slice_get (homes_below n) i (record { 0 = i }) (record { 0 = 0 }) (slice_get-map (λ (h : ℕ). record { 0 = h }) (range_with_len 0 n) i ∙ ap (option_map (λ (h : ℕ). record { 0 = h })) (slice_get-get_or (range_with_len 0 n) i 0 (omega (arith, length-range_with_len 0 n)) ∙ ap Some (get_or-range_with_len 0 n i 0 l ∙ omega arith))))

pub boot_places : (n : ℕ) → places_of (replicate n free_page) ≡ replicate n free
boot_places zero = refl
boot_places (suc n) = λ i. free ∷ boot_places n i

-- a page that was found is that of a home
pub found_home : (places : List HomePlace) (h : ℕ) (f : Found) → found_at places h ≡ Some f → (is_taken (place places h) ≡ true) × (h ≡ f.0)
found_home places h f e = by (is_taken (place places h)) refl e
  where
    by : (b : Bool) → is_taken (place places h) ≡ b → ◌≡◌ {A = Option Found} (cond b (Some (record { 0 = h })) None) (Some f) → (is_taken (place places h) ≡ true) × (h ≡ f.0)
    by true is k = (is, (let same : ◌≡◌ {A = Found} (record { 0 = h }) f = cc k in ap (λ (x : Found). x.0) same))
    by false is k = absurd (cc k)

module _ {pages : List StoredPage} {homes : List Home} {spare : ℕ} (s : AreStored pages homes spare) where
  pub spare_room : spare ≤ length homes
  spare_room = omega (arith, s.count, s.room, count_by-le-length is_free (places_of pages), places_length pages)

  pub freed_spare : (h : Home) (words : List ℕ) → is_taken (place (places_of pages) h.0) ≡ true → IsPage words
      → free_homes (places_of (slice_set pages h.0 (record { taken = false; words = words }))) ≡ free_homes (places_of pages) + cond (is_here (place (places_of pages) h.0) || false) 1 0
  freed_spare h words taken fits =
      let t = free_stored s h words taken fits in
      sym t.count ∙ ap (λ n. n + 1) s.count ∙ ap (λ b. free_homes (places_of pages) + cond (b || false) 1 0) (sym (sym (core_is pages h.0) ∙ taken))

lt_test : (a b : ℕ) → a < b → nat_lt a b ≡ true
lt_test a b l = grind (arith, nat_tests)

-- where there is room for a page some home is free
pub room_some : (homes frames : ℕ) → room_of homes frames 1 ≡ Enough → 1 ≤ homes
room_some homes frames h = elim (cases_lt homes 1) [
  | inl l ↦ absurd (let z : Full ≡ Enough = sym (ap (λ b. cond b Full (cond (nat_lt frames 1) NeedFrame Enough)) ((lt_test homes 1 l))) ∙ h in cc z)
  | inr past ↦ past
]

module _ {pages : List StoredPage} {homes : List Home} {spare : ℕ} (s : AreStored pages homes spare) (room : room_of (free_homes (places_of pages)) (free_homes (places_of pages)) 1 ≡ Enough) where
  pub spare_some : 1 ≤ spare
  spare_some = omega (arith, s.count, room_some (free_homes (places_of pages)) (free_homes (places_of pages)) room)

  -- the home that is taken next
  pub home_next : (h : Home) → h ≡ slice_index_or homes (spare - 1) (record { 0 = 0 }) → h.0 ≡ free_at homes (spare - 1)
  home_next h e = ap (λ (x : Home). x.0) e

  pub made_below : (h : ℕ) → h ≡ free_at homes (spare - 1) → (h < length (places_of pages)) × (place (places_of pages) h ≡ free)
  made_below h is = let f = some_spare s spare_some in (omega (arith, f.0, is, places_length pages), ap (place (places_of pages)) is ∙ f.1)

  pub made_spare : (h : ℕ) (words : List ℕ) → h ≡ free_at homes (spare - 1) → IsPage words → free_homes (places_of (slice_set pages h (record { taken = true; words = words }))) + 1 ≡ free_homes (places_of pages)
  made_spare h words is fits = let t = make_stored s h words spare_some is fits in omega (arith, t.count, s.count, spare_some)

-- each other page is found where it was
pub found_other : (ps qs : List HomePlace) (home : ℕ) (p : HomePlace) → qs ≡ slice_set ps home p → (other : ℕ) → other ≢ home → found_at qs other ≡ found_at ps other
found_other ps qs home p is other ne = ap (λ (x : HomePlace). cond (is_taken x) (Some (let f : Found = record { 0 = other } in f)) None) (ap (λ (xs : List HomePlace). place xs other) is ∙ get_or-set_other ps home other p free ne)
