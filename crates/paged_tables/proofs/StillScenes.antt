-- What is in frames stays so where a page is made or renamed, whatever the drum.
use Rattle.std.proofs.Common.{◌≡◌, ◌≢◌, inl, inr, ℕ, ◌+◌, ◌<◌, List, true, false, Option, None, Some, length, refl, sym, ◌∙◌, ap, arith}
use Rattle.std.specs.Prelude.{slice_index_or, slice_set}
use Rattle.std.specs.Option.{option_and_then}
use Rattle.std.proofs.Math.Path.{fun_ext}
use Rattle.std.proofs.lemmas.Bool.{cases_eq, cases_lt}
use Rattle.std.proofs.lemmas.Bool.Decides.{nat_tests}
use Rattle.std.proofs.lemmas.List.{get_or-set_same, get_or-set_other, get_or_past, length-set}
use Rattle.machine_names.specs.declared.names.PageName.{PageName}
use Rattle.page_contracts.specs.Pages.{TakesFrames}
use Rattle.page_contracts.specs.Stores.{HomePlace, free, away, here, away_at, away_home, is_taken, place, with_word_in}
use Rattle.flat_tables.specs.SlotTouches.{home_named}
use Rattle.flat_pages.proofs.Telling.{named_home}
use Rattle.flat_pages.proofs.Touching.{home_is}
use Rattle.pager_walk.specs.MapPages.{index_of, root_at}
use Rattle.pager_walk.specs.PagedMaps.{map_away, name_at}
use Rattle.pager_walk.proofs.Changing.{taken_still}
use Rattle.pager_walk.proofs.Looking.{taken_map, taken_within}
use Rattle.paged_tables.specs.PagedTables.{Beside}
use Rattle.paged_tables.specs.PagedTouches.{roomy, scene_over}
use Rattle.paged_tables.proofs.PagesMade.{taken_word}

away_word : (p : HomePlace) (offset word home : ℕ) → away_home (with_word_in p offset word) home ≡ away_home p home
away_word free offset word home = refl
away_word away offset word home = refl
away_word (here words) offset word home = refl

-- a word that is put brings nothing into a frame
pub away_put : (places : List HomePlace) (root offset word k : ℕ) → away_at (slice_set places root (with_word_in (place places root) offset word)) k ≡ away_at places k
away_put places root offset word k = elim (cases_eq k root) [
  | inl same ↦ elim (cases_lt root (length places)) [
    | inl l ↦ ap (away_at (slice_set places root (with_word_in (place places root) offset word))) same ∙ ap (λ p. away_home p root) (get_or-set_same places root (with_word_in (place places root) offset word) free l) ∙ away_word (place places root) offset word root
        ∙ sym (ap (away_at places) same)
    | inr past ↦ ap (λ p. away_home p k) (get_or_past (slice_set places root (with_word_in (place places root) offset word)) k free (omega (arith, past, same, length-set places root (with_word_in (place places root) offset word)))) ∙ sym (ap (λ p. away_home p k) (get_or_past places k free (omega (arith, past, same))))
  ]
  | inr other ↦ ap (λ p. away_home p k) (get_or-set_other places root k (with_word_in (place places root) offset word) free other)
]

-- nor does a page that is made in a frame
pub away_made : (places : List HomePlace) (home : ℕ) (words : List ℕ) (k : ℕ) → home < length places → place places home ≡ free → away_at (slice_set places home (here words)) k ≡ away_at places k
away_made places home words k below was = elim (cases_eq k home) [
  | inl same ↦ ap (away_at (slice_set places home (here words))) same ∙ ap (λ p. away_home p home) (get_or-set_same places home (here words) free below) ∙ sym (ap (away_at places) same ∙ ap (λ p. away_home p home) was)
  | inr other ↦ ap (λ p. away_home p k) (get_or-set_other places home k (here words) free other)
]

-- a word that is put takes and frees no home
pub put_taken : (places : List HomePlace) (root offset word k : ℕ) → is_taken (place (slice_set places root (with_word_in (place places root) offset word)) k) ≡ is_taken (place places k)
put_taken places root offset word k =
    let put : HomePlace = with_word_in (place places root) offset word in
    sym (taken_map (slice_set places root put) k) ∙ ap (λ bs. slice_index_or bs k false) (taken_still places root put (taken_word (place places root) offset word)) ∙ taken_map places k

-- a page that is made leaves each home that was taken as it was
pub made_other : (places : List HomePlace) (home : ℕ) (words : List ℕ) (k : ℕ) → place places home ≡ free → is_taken (place places k) ≡ true → place (slice_set places home (here words)) k ≡ place places k
made_other places home words k was taken =
    get_or-set_other places home k (here words) free (λ same. let no : false ≡ true = sym (ap (λ j. is_taken (place places j)) same ∙ ap is_taken was) ∙ taken in absurd (cc no))

-- a page that is made frees no home
pub made_takes : (places : List HomePlace) (home : ℕ) (words : List ℕ) (k : ℕ) → is_taken (place places k) ≡ true → is_taken (place (slice_set places home (here words)) k) ≡ true
made_takes places home words k taken = elim (cases_eq k home) [
  | inl same ↦ ap (λ j. is_taken (place (slice_set places home (here words)) j)) same ∙ ap is_taken (get_or-set_same places home (here words) free (taken_within places home (ap (λ j. is_taken (place places j)) (sym same) ∙ taken)))
  | inr other ↦ ap is_taken (get_or-set_other places home k (here words) free other) ∙ taken
]

abbrev pub Once : List (Option PageName) → Type 0
Once names = (h k : ℕ) (n : PageName) → name_at names h ≡ Some n → name_at names k ≡ Some n → h ≡ k

-- pages are away as they were where a home that isn't away has another name
module _ (names names' : List (Option PageName)) (gone : ℕ → Option ℕ) (home : ℕ) (once : Once names) (once' : Once names') (others : (k : ℕ) → k ≢ home → name_at names' k ≡ name_at names k) (near : gone home ≡ None) where
  not_away : (n : PageName) (o : Option ℕ) → home_named names' n ≡ o → ((k : ℕ) → k ≢ home → name_at names k ≢ Some n) → option_and_then gone o ≡ None
  not_away n None r none = refl
  not_away n (Some k) r none = elim (cases_eq k home) [
    | inl s ↦ ap gone s ∙ near
    | inr ne ↦ absurd (none k ne (sym (others k ne) ∙ named_home names' n k r))
  ]

  one_away : (n : PageName) (o : Option ℕ) → home_named names n ≡ o → option_and_then gone (home_named names' n) ≡ option_and_then gone o
  one_away n None r = not_away n (home_named names' n) refl (λ k ne is. (let z : None ≡ Some k = sym r ∙ home_is names k n is (λ j f. once j k n f is) in cc z))
  one_away n (Some k) r = elim (cases_eq k home) [
    | inl s ↦ not_away n (home_named names' n) refl (λ j ne is. ne (once j k n is (named_home names n k r) ∙ s)) ∙ sym (ap gone s ∙ near)
    | inr ne ↦
        let named : name_at names' k ≡ Some n = others k ne ∙ named_home names n k r in
        ap (option_and_then gone) (home_is names' k n named (λ j f. once' j k n f named))
  ]

-- so so many frames were taken
module _ (b b' : Beside) (places places' : List HomePlace) (maps : b'.tables.maps ≡ b.tables.maps) (same : (k : ℕ) → away_at places' k ≡ away_at places k) (home : ℕ) (once : Once b.tables.names) (once' : Once b'.tables.names)
    (others : (k : ℕ) → k ≢ home → name_at b'.tables.names k ≡ name_at b.tables.names k) (near : away_at places home ≡ None) where
  all_away : ◌≡◌ {A = ℕ → Option ℕ} (away_at places') (away_at places)
  all_away = fun_ext same

  maps_away : map_away b'.tables places' ≡ map_away b.tables places
  maps_away = λ i f. option_and_then (λ k. all_away i (root_at (maps i) k).0) (index_of (maps i) f)

  pages_away : ◌≡◌ {A = PageName → Option ℕ} (λ n. option_and_then (away_at places') (home_named b'.tables.names n)) (λ n. option_and_then (away_at places) (home_named b.tables.names n))
  pages_away = fun_ext (λ n. ap (λ (g : ℕ → Option ℕ). option_and_then g (home_named b'.tables.names n)) all_away ∙ one_away b.tables.names b'.tables.names (away_at places) home once once' others near n (home_named b.tables.names n) refl)

  pub still_scene : (frames frames' n : ℕ) → frames' + n ≡ frames → TakesFrames (scene_over b places frames) (scene_over b' places' frames') n
  still_scene frames frames' n sum = record { maps = maps_away; pages = pages_away; frames = sum }

-- where there was room for two pages there is room for one
pub room_less : (b b' : Beside) → b'.taken + b'.living ≡ b.taken + b.living + 1 → b'.limit ≡ b.limit → roomy b 2 ≡ true → roomy b' 1 ≡ true
room_less b b' count limit two = grind (arith, nat_tests, count, limit, two)
