-- What is left of the plain maps once a fork's map has gone.
use Rattle.std.proofs.Common.{arith, ◌≡◌, ◌≢◌, ◌⊎◌, inl, inr, ℕ, List, true, false, cond, Option, None, Some, is_some, map, sym, ◌∙◌, ap, subst}
use Rattle.std.specs.Prelude.{IsSome, slice_index, slice_index_or, slice_set}
use Rattle.std.specs.Option.{option_map}
use Rattle.std.specs.FinMap as fin
use Rattle.std.proofs.lemmas.List.{get_or-set_same, get_or-set_other, length-set, length-map}
use Rattle.std.proofs.lemmas.Bool.{cases_eq}
use Rattle.machine_names.specs.declared.names.ForkName.{ForkName}
use Rattle.machine_names.specs.Orders.{same_fork}
use Rattle.machine_names.proofs.OrderLemmas.{fork_cmp_total, fork_cmp_apart, fork_tied}
use Rattle.plain_pages.specs.PlainPages.{Maps}
use Rattle.page_contracts.specs.DrumWords.{DrumWords}
use Rattle.page_contracts.specs.Stores.{HomePlace, free, is_taken, content}
use Rattle.pager_walk.specs.declared.map_pages.MapPage.{MapPage}
use Rattle.pager_walk.specs.MapPages.{no_map, map_at, root_at, fork_at, index_of, AreNumbered}
use Rattle.pager_walk.specs.PagedMaps.{Tables, name_at, entry_in, words_in, row_of, maps_over, without_root, AreRooted, FitsMaps}
use Rattle.pager_walk.proofs.NumberedMaps.{SameFork, fork_tells, searched, index_is, index_none, fork_within}
use Rattle.pager_walk.proofs.MapRows.{get_over}
use Rattle.pager_walk.proofs.Looking.{taken_map}
use Rattle.pager_walk.proofs.Changing.{content_other, fits_still}

-- maps without one, where the others are as they were
maps_without : (old new : Maps) (f : ForkName) → fin.get new f ≡ None → ((q : ForkName) → q ≢ f → fin.get new q ≡ fin.get old q) → new ≡ fin.remove old f
maps_without old new f own others = fin.same_map fork_cmp_total fork_cmp_apart _ _ (λ q. by q (fork_tells q f) ∙ sym (fin.get-remove fork_cmp_total old f q ∙ ap (λ b. cond b None (fin.get old q)) (fork_tied q f)))
  where
    by : (q : ForkName) → SameFork q f → fin.get new q ≡ cond (same_fork q f) None (fin.get old q)
    by q (inl t) = ap (λ (x : ForkName). fin.get new x) t.1 ∙ own ∙ sym (ap (λ b. cond b None (fin.get old q)) t.0)
    by q (inr t) = others q t.1 ∙ sym (ap (λ b. cond b None (fin.get old q)) t.0)

module _ (t : Tables) (places : List HomePlace) (rooted : AreRooted t (map is_taken places)) (k : ℕ) (f : ForkName) (own : fork_at t.maps k ≡ Some f) where
  abbrev ended : Tables
  ended = without_root t k

  abbrev after : List HomePlace
  after = slice_set places (root_at t.maps k).0 free

  map_own : map_at ended.maps k ≡ record { fork = None; home = root_at t.maps k }
  map_own = get_or-set_same t.maps k (record { fork = None; home = root_at t.maps k }) no_map (fork_within t.maps k f own)

  map_other : (j : ℕ) → j ≢ k → map_at ended.maps j ≡ map_at t.maps j
  map_other j ne = get_or-set_other t.maps k j (record { fork = None; home = root_at t.maps k }) no_map ne

  pub whose : (j : ℕ) (g : ForkName) → fork_at ended.maps j ≡ Some g → (j ≢ k) × (fork_at t.maps j ≡ Some g)
  whose j g e = elim (cases_eq j k) [
    | inl same ↦ absurd (let z : ◌≡◌ {A = Option ForkName} None (Some g) = sym (ap (λ (m : MapPage). m.fork) map_own) ∙ sym (ap (fork_at ended.maps) same) ∙ e in cc z)
    | inr other ↦ (other, ap (λ (m : MapPage). m.fork) (sym (map_other j other)) ∙ e)
  ]

  pub root_is : (j : ℕ) → j ≢ k → (root_at ended.maps j).0 ≡ (root_at t.maps j).0
  root_is j ne = ap (λ (m : MapPage). m.home.0) (map_other j ne)

  -- the other maps are elsewhere
  elsewhere : (j : ℕ) (g : ForkName) → (j ≢ k) × (fork_at t.maps j ≡ Some g) → (root_at t.maps j).0 ≢ (root_at t.maps k).0
  elsewhere j g x same = x.0 (rooted.apart j k g f x.1 own same)

  still_taken : (h : ℕ) → h ≢ (root_at t.maps k).0 → slice_index_or (map is_taken places) h false ≡ true → slice_index_or (map is_taken after) h false ≡ true
  still_taken h ne taken = taken_map after h ∙ ap is_taken (get_or-set_other places (root_at t.maps k).0 h free free ne) ∙ sym (taken_map places h) ∙ taken

  numbered_ended : AreNumbered ended.maps
  numbered_ended = record {
    count = length-set t.maps k (record { fork = None; home = root_at t.maps k }) ∙ rooted.numbered.count;
    once = λ j i g a b. rooted.numbered.once j i g (whose j g a).1 (whose i g b).1;
    from = λ j g e. rooted.numbered.from j g (whose j g e).1;
    below = λ j g e. rooted.numbered.below j g (whose j g e).1;
  }

  pub rooted_ended : AreRooted ended (map is_taken after)
  rooted_ended = record {
    numbered = numbered_ended;
    there = λ j g e. let x = whose j g e in ap (λ h. slice_index_or (map is_taken after) h false) (root_is j x.0) ∙ still_taken (root_at t.maps j).0 (elsewhere j g x) (rooted.there j g x.1);
    apart = λ j i g h a b same. let x = whose j g a in let y = whose i h b in rooted.apart j i g h x.1 y.1 (sym (root_is j x.0) ∙ same ∙ root_is i y.0);
    unnamed = λ j g e. let x = whose j g e in ap (name_at t.names) (root_is j x.0) ∙ rooted.unnamed j g x.1;
    named = λ h e. still_taken h (λ same. let z : false ≡ true = sym (ap (λ i. is_some (name_at t.names i)) same ∙ ap is_some (rooted.unnamed k f own)) ∙ e in absurd (cc z)) (rooted.named h e);
    few = omega (arith, rooted.few, length-map after is_taken, length-map places is_taken, length-set places (root_at t.maps k).0 free);
  }

  module _ (d : DrumWords) where
    pub content_is : (j : ℕ) (g : ForkName) → (j ≢ k) × (fork_at t.maps j ≡ Some g) → content after d (root_at ended.maps j).0 ≡ content places d (root_at t.maps j).0
    content_is j g x = ap (content after d) (root_is j x.0) ∙ content_other places d (root_at t.maps k).0 (root_at t.maps j).0 free (elsewhere j g x)

    pub fits_ended : FitsMaps t places d → FitsMaps ended after d
    fits_ended fits = record {
      drum = fits_still places d (root_at t.maps k).0 free fits.drum;
      entries = λ j page g e l. let x = whose j g e in subst (λ (c : Option (List ℕ)). IsSome (entry_in ended (slice_index (words_in c) page))) (sym (content_is j g x)) (fits.entries j page g x.1 l);
    }

    pub maps_ended : maps_over ended after d ≡ fin.remove (maps_over t places d) f
    maps_ended = maps_without (maps_over t places d) (maps_over ended after d) f gone others
      where
        gone : fin.get (maps_over ended after d) f ≡ None
        gone = get_over ended after d f ∙ ap (option_map (λ j. row_of ended (content after d (root_at ended.maps j).0))) (index_none ended.maps f (λ j e. let x = whose j f e in x.0 (rooted.numbered.once j k f x.1 own)))

        others : (q : ForkName) → q ≢ f → fin.get (maps_over ended after d) q ≡ fin.get (maps_over t places d) q
        others q ne = get_over ended after d q ∙ by (searched t.maps q) ∙ sym (get_over t places d q)
          where
            by : ((j : ℕ) × (index_of t.maps q ≡ Some j) × (fork_at t.maps j ≡ Some q)) ⊎ ((index_of t.maps q ≡ None) × ((j : ℕ) → fork_at t.maps j ≢ Some q))
                → option_map (λ j. row_of ended (content after d (root_at ended.maps j).0)) (index_of ended.maps q) ≡ option_map (λ j. row_of t (content places d (root_at t.maps j).0)) (index_of t.maps q)
            by (inl r) =
                let other : r.0 ≢ k = λ same. ne (let z : Some q ≡ Some f = sym r.2 ∙ ap (fork_at t.maps) same ∙ own in cc z) in
                ap (option_map (λ j. row_of ended (content after d (root_at ended.maps j).0))) (index_is ended.maps numbered_ended.once q r.0 (ap (λ (m : MapPage). m.fork) (map_other r.0 other) ∙ r.2))
                ∙ ap (λ (c : Option (List ℕ)). Some (row_of t c)) (content_is r.0 q (other, r.2))
                ∙ sym (ap (option_map (λ j. row_of t (content places d (root_at t.maps j).0))) r.1)
            by (inr r) =
                ap (option_map (λ j. row_of ended (content after d (root_at ended.maps j).0))) (index_none ended.maps q (λ j e. r.1 j (whose j q e).1))
                ∙ sym (ap (option_map (λ j. row_of t (content places d (root_at t.maps j).0))) r.0)
