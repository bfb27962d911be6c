-- Where the pages of maps stay as they are, so do the walks over them, and what a touch finds.
use Rattle.std.proofs.Common.{◌≡◌, inl, inr, ℕ, zero, suc, List, length, cond, true, Option, None, Some, refl, sym, ◌∙◌, ap}
use Rattle.std.specs.Prelude.{slice_set}
use Rattle.std.specs.Option.{option_map, option_and_then}
use Rattle.std.specs.FinMap as fin
use Rattle.std.proofs.Math.Path.{fun_ext}
use Rattle.std.proofs.lemmas.Bool.{cases_eq, cases_lt}
use Rattle.std.proofs.lemmas.List.{get_or-set_same, get_or-set_other, get_or_past}
use Rattle.machine_names.specs.declared.names.ForkName.{ForkName}
use Rattle.machine_names.specs.declared.names.Kind.{Kind}
use Rattle.machine_names.specs.declared.names.Place.{Place}
use Rattle.machine_names.specs.declared.names.Place.TheVariants.{Fork, File}
use Rattle.machine_names.specs.declared.names.Slot.{Slot}
use Rattle.machine_names.specs.Orders.{file_page}
use Rattle.page_contracts.specs.declared.answers.Found.{Found}
use Rattle.page_contracts.specs.declared.answers.SpaceHandle.{SpaceHandle}
use Rattle.page_contracts.specs.declared.answers.Touch.TheVariants.{Denied}
use Rattle.page_contracts.specs.Stores.{HomePlace, free, here, away_at, away_home, place, with_word_in, word_in}
use Rattle.pager_walk.specs.declared.chain_walk.Walked.{Walked}
use Rattle.pager_walk.specs.declared.chain_walk.Walked.TheVariants.{Along, Absent, NoChain}
use Rattle.pager_walk.specs.MapPages.{fork_at, root_at, index_of}
use Rattle.pager_walk.specs.PagedMaps.{Tables, look_at, look_map, look_word}
use Rattle.fork_maps.specs.ChainWalks.{allows_along, copy_for}
use Rattle.pager_walk.specs.Walks.{walk_at, walk_from, walk_within}
use Rattle.pager_walk.proofs.NumberedMaps.{index_fork}
use Rattle.flat_tables.specs.SlotTouches.{home_named}
use Rattle.paged_tables.specs.KnownPages.{found_known, known_along, known_of, known_over, place_over}
use Rattle.paged_tables.specs.PagedTables.{Beside}
use Rattle.paged_tables.specs.PagedTouches.{alone_in, file_touched, made_touched, scene_over, touched_over, walk_touched}
use Rattle.paged_tables.proofs.Places.{IsNoRoot}

-- the pages of maps are as they are
abbrev pub KeepsRoots : Tables → List HomePlace → List HomePlace → Type 0
KeepsRoots t places places' = (k : ℕ) (f : ForkName) → fork_at t.maps k ≡ Some f → place places' (root_at t.maps k).0 ≡ place places (root_at t.maps k).0

module _ (t : Tables) (places places' : List HomePlace) (same : KeepsRoots t places places') where
  look_same : (s : Slot) → look_at t places' s ≡ look_at t places s
  look_same s = by (index_of t.maps s.fork) refl
    where
      by : (o : Option ℕ) → index_of t.maps s.fork ≡ o → look_map t places' s.page o ≡ look_map t places s.page o
      by None e = refl
      by (Some k) e = ap (λ p. look_word t (root_at t.maps k) (word_in p s.page)) (same k s.fork (index_fork t.maps s.fork k e))

  pub looks_same : look_at t places' ≡ look_at t places
  looks_same = fun_ext look_same

  within_same : (n : ℕ) → walk_within n t places' ≡ walk_within n t places
  unfolding walk_within
  within_same zero = refl
  within_same (suc n) = fun_ext (λ s. λ i. walk_from s (look_same s i) (within_same n i))

  pub walks_same : walk_at t places' ≡ walk_at t places
  unfolding walk_at
  walks_same = within_same 4

module _ (b : Beside) (places places' : List HomePlace) (same : KeepsRoots b.tables places places') (near : away_at places' ≡ away_at places) (frames frames' : ℕ) (spare : frames' ≡ frames) where
  pub scene_same : scene_over b places' frames' ≡ scene_over b places frames
  scene_same = λ i. record { map_away = λ f. option_and_then (λ k. near i (root_at b.tables.maps k).0) (index_of b.tables.maps f); page_away = λ n. option_and_then (near i) (home_named b.tables.names n); free_frames = spare i }

  along_same : (kind : Kind) (w : Walked) → walk_touched b places' frames' kind w ≡ walk_touched b places frames kind w
  along_same kind (Along w) = λ i. cond (allows_along kind w) (made_touched (near i) b (scene_same i) w.home (option_map (λ s. alone_in b (looks_same b.tables places places' same i s)) (copy_for kind w))) (Denied kind)
  along_same kind (Absent home) = refl
  along_same kind NoChain = refl

  touch_same : (at : Place) (kind : Kind) → touched_over b places' frames' at kind ≡ touched_over b places frames at kind
  touch_same (Fork s) kind = ap (λ (w : Slot → Walked). walk_touched b places' frames' kind (w s)) (walks_same b.tables places places' same) ∙ along_same kind (walk_at b.tables places s)
  touch_same (File f page) kind = λ i. file_touched (near i) b (scene_same i) kind (fin.get b.files (file_page f.0 page))

  -- each touch answers as before
  pub touches_same : touched_over b places' frames' ≡ touched_over b places frames
  touches_same = fun_ext (λ at. fun_ext (touch_same at))

module _ (b : Beside) (places places' : List HomePlace) (same : KeepsRoots b.tables places places') where
  known_same : (o : Option ForkName) (page : ℕ) → known_of b places' o page ≡ known_of b places o page
  known_same None page = refl
  known_same (Some f) page = ap (λ (w : Slot → Walked). known_along (w (record { fork = f; page = page }))) (walks_same b.tables places places' same)

  -- what is known of each page is known as before
  pub knowns_same : known_over b places' ≡ known_over b places
  knowns_same = fun_ext (λ (space : SpaceHandle). fun_ext (known_same (fork_at b.tables.maps space.0)))

  pub places_same : (found found' : ℕ → Option Found) → found' ≡ found → place_over found' b places' ≡ place_over found b places
  places_same found found' e = λ i space page. found_known (e i) (λ k. true) (knowns_same i space page)

-- a word is put into a page that is no map's
module _ (t : Tables) (places : List HomePlace) (h : ℕ) (words : List ℕ) (held : place places h ≡ here words) (offset word : ℕ) where
  pub put_roots : IsNoRoot t.maps h → KeepsRoots t places (slice_set places h (with_word_in (place places h) offset word))
  put_roots apart k f e = get_or-set_other places h (root_at t.maps k).0 (with_word_in (place places h) offset word) free (apart k f e)

  put_away : (j : ℕ) → away_at (slice_set places h (with_word_in (place places h) offset word)) j ≡ away_at places j
  put_away j = elim (cases_eq j h) [
    | inl own ↦ ap (away_at (slice_set places h (with_word_in (place places h) offset word))) own ∙ there ∙ ap (away_at places) (sym own)
    | inr other ↦ ap (λ p. away_home p j) (get_or-set_other places h j (with_word_in (place places h) offset word) free other)
  ]
    where
      there : away_at (slice_set places h (with_word_in (place places h) offset word)) h ≡ away_at places h
      there = elim (cases_lt h (length places)) [
        | inl l ↦ ap (λ p. away_home p h) (get_or-set_same places h (with_word_in (place places h) offset word) free l) ∙ ap (λ q. away_home (with_word_in q offset word) h) held ∙ sym (ap (λ p. away_home p h) held)
        | inr past ↦ absurd (let z : free ≡ here words = sym (get_or_past places h free past) ∙ held in cc z)
      ]

  -- what is away stays so
  pub put_aways : away_at (slice_set places h (with_word_in (place places h) offset word)) ≡ away_at places
  put_aways = fun_ext put_away
