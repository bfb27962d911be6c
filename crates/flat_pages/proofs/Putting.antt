-- A word is put into the page of a home, and places of homes change while none is taken or given up.
use Rattle.std.proofs.Common.{◌≡◌, ◌≢◌, inl, inr, ℕ, ◌<◌, List, false, cond, Option, Some, length, map, sym, ◌∙◌, ap, arith}
use Rattle.std.specs.Prelude.{slice_index_or, slice_set}
use Rattle.std.specs.Option.{option_map_or, unwrap_or}
use Rattle.std.specs.FinMap as fin
use Rattle.std.proofs.Math.ListN.{get_or-map}
use Rattle.std.proofs.Math.Path.{fun_ext}
use Rattle.std.proofs.lemmas.Bool.{cases_eq, cases_lt}
use Rattle.std.proofs.lemmas.List.{length-set, length-map, get_or-set_same, get_or-set_other, get_or_past}
use Rattle.std.proofs.lemmas.List.Sums.{sum_by-set}
use Rattle.machine_names.specs.declared.names.PageName.{PageName}
use Rattle.page_homes.specs.declared.homes.Home.{Home}
use Rattle.machine_names.specs.declared.names.Place.{Place}
use Rattle.page_contracts.specs.DrumWords.{DrumWords}
use Rattle.plain_pages.specs.PlainPages.{NumberedPages}
use Rattle.plain_pages.specs.Room.{same_page}
use Rattle.plain_pages.specs.References.{words_of, with_word, stored}
use Rattle.machine_names.specs.PageWords.{zero_words}
use Rattle.page_contracts.specs.Pages.{spot_of}
use Rattle.page_contracts.specs.Stores.{HomePlace, free, here, place, is_free, is_taken, with_word_in, free_homes, content}
use Rattle.machine_names.proofs.OrderLemmas.{page_cmp_total, page_cmp_apart, page_tied}
use Rattle.plain_pages.proofs.Counts.{Same, page_tells}
use Rattle.flat_tables.specs.HeldMaps.{name_at}
use Rattle.flat_tables.specs.SlotTables.{Tables, plain_of, AreTables, AreSized}
use Rattle.page_contracts.specs.Stores.{away_home, away_at}
use Rattle.page_contracts.proofs.HomeCounts.{free_mapped}
use Rattle.flat_pages.proofs.Agreement.{Housed, housed, object_home, object_gone}
use Rattle.flat_pages.proofs.Meeting.{Reached}
use Rattle.flat_pages.proofs.Settling.{content_here, content_other}

-- the tables with the homes elsewhere
abbrev pub replaced : Tables → List HomePlace → Tables
replaced t places = record t { places = places }

-- where as many homes are, and are taken alike, the tables agree still
pub replaced_tables : (t : Tables) → AreTables t → (places : List HomePlace) → length places ≡ length t.places → ((k : ℕ) → is_taken (place places k) ≡ is_taken (place t.places k)) → free_homes places ≡ free_homes t.places → AreTables (replaced t places)
replaced_tables t a places len taken frees = record {
  held = a.held;
  homes = len ∙ a.homes;
  named = a.named;
  counted = a.counted;
  shares = a.shares;
  filed = a.filed;
  shared = a.shared;
  is_taken = λ k. taken k ∙ a.is_taken k;
  once = a.once;
  old = a.old;
  owners = a.owners;
  taken = a.taken;
  free = omega (arith, a.free, frees);
  living = a.living;
  room = a.room;
  few = a.few;
}

-- the same, where the list of homes that are taken is the same
pub moved_tables : (t : Tables) → AreTables t → (places : List HomePlace) → map is_taken places ≡ map is_taken t.places → AreTables (replaced t places)
moved_tables t a places same =
    replaced_tables t a places (sym (length-map places is_taken) ∙ ap length same ∙ length-map t.places is_taken)
    (λ k. sym (get_or-map is_taken places k free) ∙ ap (λ bs. slice_index_or bs k false) same ∙ get_or-map is_taken t.places k free)
    (free_mapped places t.places same)

module _ (t : Tables) (a : AreTables t) (h : ℕ) (words : List ℕ) (is : place t.places h ≡ here words) (offset word : ℕ) where
  abbrev pub put_places : List HomePlace
  put_places = slice_set t.places h (with_word_in (place t.places h) offset word)

  below : h < length t.places
  below = elim (cases_lt h (length t.places)) [
    | inl l ↦ l
    | inr past ↦ absurd (let z : free ≡ here words = sym (get_or_past t.places h free past) ∙ is in cc z)
  ]

  put_here : place put_places h ≡ here (slice_set words offset word)
  put_here = get_or-set_same t.places h (with_word_in (place t.places h) offset word) free below ∙ ap (λ p. with_word_in p offset word) is

  put_other : (k : ℕ) → k ≢ h → place put_places k ≡ place t.places k
  put_other k ne = get_or-set_other t.places h k (with_word_in (place t.places h) offset word) free ne

  pub put_away : away_at put_places ≡ away_at t.places
  put_away = fun_ext (λ k. elim (cases_eq k h) [
    | inl e ↦ ap (away_at put_places) e ∙ ap (λ p. away_home p h) put_here ∙ sym (ap (λ p. away_home p h) is) ∙ ap (away_at t.places) (sym e)
    | inr ne ↦ ap (λ p. away_home p k) (put_other k ne)
  ])

  pub put_tables : AreTables (replaced t put_places)
  put_tables =
      let s = sum_by-set (λ (p : HomePlace). cond (is_free p) 1 0) t.places h (with_word_in (place t.places h) offset word) free below in
      let old : ◌≡◌ {A = ℕ} (cond (is_free (place t.places h)) 1 0) 0 = ap (λ p. cond (is_free p) 1 0) is in
      let now : ◌≡◌ {A = ℕ} (cond (is_free (with_word_in (place t.places h) offset word)) 1 0) 0 = ap (λ p. cond (is_free (with_word_in p offset word)) 1 0) is in
      replaced_tables t a put_places (length-set t.places h (with_word_in (place t.places h) offset word))
      (λ k. elim (cases_eq k h) [
        | inl e ↦ ap (λ j. is_taken (place put_places j)) e ∙ ap is_taken put_here ∙ sym (ap is_taken is) ∙ ap (λ j. is_taken (place t.places j)) (sym e)
        | inr ne ↦ ap is_taken (put_other k ne)
      ])
      (omega (arith, s, old, now))

  module _ (d : DrumWords) (sized : AreSized t.places d) (sized' : AreSized put_places d) (n : PageName) (named : name_at t.names h ≡ Some n) where
    abbrev p : NumberedPages
    p = plain_of t d

    found_words : words_of p n ≡ words
    found_words = ap (λ (o : Option (List ℕ)). unwrap_or o zero_words) (object_home t a d sized h n named ∙ content_here t.places d h words is)

    inserted : (x : PageName) → fin.get (fin.insert p.objects n (slice_set (words_of p n) offset word)) x ≡ cond (same_page x n) (Some (slice_set words offset word)) (fin.get p.objects x)
    inserted x = fin.get-insert page_cmp_total p.objects n (slice_set (words_of p n) offset word) x ∙ (λ i. cond (page_tied x n i) (Some (slice_set (found_words i) offset word)) (fin.get p.objects x))

    objects_put : (x : PageName) → fin.get (plain_of (replaced t put_places) d).objects x ≡ cond (same_page x n) (Some (slice_set words offset word)) (fin.get p.objects x)
    objects_put x = by (housed t.names x) (page_tells x n)
      where
        by : Housed t.names x → Same x n → fin.get (plain_of (replaced t put_places) d).objects x ≡ cond (same_page x n) (Some (slice_set words offset word)) (fin.get p.objects x)
        by (inl r) (inl s) =
            let at_h : r.0 ≡ h = a.once r.0 h n (r.1 ∙ ap Some s.1) named in
            object_home (replaced t put_places) put_tables d sized' r.0 x r.1 ∙ ap (content put_places d) at_h ∙ content_here put_places d h (slice_set words offset word) put_here
            ∙ sym (ap (λ b. cond b (Some (slice_set words offset word)) (fin.get p.objects x)) s.0)
        by (inl r) (inr s) =
            let ne : r.0 ≢ h = λ e. s.1 (let z : Some x ≡ Some n = sym r.1 ∙ ap (name_at t.names) e ∙ named in cc z) in
            object_home (replaced t put_places) put_tables d sized' r.0 x r.1 ∙ content_other t.places d h r.0 (with_word_in (place t.places h) offset word) ne ∙ sym (object_home t a d sized r.0 x r.1)
            ∙ sym (ap (λ b. cond b (Some (slice_set words offset word)) (fin.get p.objects x)) s.0)
        by (inr none) (inl s) = absurd (none h (named ∙ ap Some (sym s.1)))
        by (inr none) (inr s) = object_gone (replaced t put_places) put_tables d sized' x none ∙ sym (object_gone t a d sized x none) ∙ sym (ap (λ b. cond b (Some (slice_set words offset word)) (fin.get p.objects x)) s.0)

    -- the plain pages with the word
    pub told_put : plain_of (replaced t put_places) d ≡ with_word p offset word n
    told_put =
        let same = fin.same_map page_cmp_total page_cmp_apart (plain_of (replaced t put_places) d).objects (fin.insert p.objects n (slice_set (words_of p n) offset word)) (λ x. objects_put x ∙ sym (inserted x)) in
        λ i. record p { objects = same i }

-- a word put at a place
pub stored_at : (t : Tables) → (a : AreTables t) → (at : Place) (h : Home) → (r : Reached t at h) → (words : List ℕ) → (is : place t.places h.0 ≡ here words) → (offset word : ℕ) (d : DrumWords) → AreSized t.places d → AreSized (slice_set t.places h.0 (with_word_in (place t.places h.0) offset word)) d
    → plain_of (replaced t (slice_set t.places h.0 (with_word_in (place t.places h.0) offset word))) d ≡ stored (plain_of t d) (spot_of at) offset word
stored_at t a at h r words is offset word d sized sized' =
    let n : (x : PageName) × (name_at t.names h.0 ≡ Some x) = (r.name, r.named) in
    told_put t a h.0 words is offset word d sized sized' n.0 n.1
    ∙ ap (λ (o : Option PageName). with_word (plain_of t d) offset word (unwrap_or o (record { tty = record { 0 = 0 }; serial = 0 }))) (sym n.1)
    ∙ sym (ap (λ (o : Option PageName). option_map_or (with_word (plain_of t d) offset word) o (plain_of t d)) (r.page d))
