-- Which homes stay where an entry of a map is set.
use Rattle.std.proofs.Common.{◌≡◌, ◌≢◌, inl, inr, ℕ, Some, refl, sym, ◌∙◌, ap}
use Rattle.std.specs.Prelude.{slice_set}
use Rattle.std.proofs.lemmas.List.{get_or-set_same, get_or-set_other, set-set}
use Rattle.machine_names.specs.declared.names.Slot.{Slot}
use Rattle.page_contracts.specs.Stores.{HomePlace, StoreMeaning, away, free, here, place, with_word_in}
use Rattle.pager_walk.specs.MapPages.{index_of, root_at}
use Rattle.pager_walk.specs.PagedMaps.{name_at}
use Rattle.pager_walk.proofs.Looking.{root_taken, taken_within}
use Rattle.paged_tables.specs.FiledSteps.{PageStays}
use Rattle.paged_tables.specs.FreedEntries.{KeepsHomes, NamesHome}
use Rattle.paged_tables.specs.PagedTables.{Beside, AreKept}

-- of two words that are put at one offset the second stays
word_again : (p : HomePlace) (offset v w : ℕ) → with_word_in (with_word_in p offset v) offset w ≡ with_word_in p offset w
word_again free offset v w = refl
word_again away offset v w = refl
word_again (here words) offset v w = ap here (set-set words offset v w)

-- a word was put into a map, and no name is another
module _ {S : Type 0} (store : StoreMeaning S) (old new : S) (b b' : Beside) (kept : AreKept b (store.homes old)) (at : Slot) (number : ℕ) (numbered : index_of b.tables.maps at.fork ≡ Some number) (word : ℕ)
    (homes : store.homes new ≡ slice_set (store.homes old) (root_at b.tables.maps number).0 (with_word_in (place (store.homes old) (root_at b.tables.maps number).0) at.page word)) (names : b'.tables.names ≡ b.tables.names) where
  map_is : place (store.homes new) (root_at b.tables.maps number).0 ≡ with_word_in (place (store.homes old) (root_at b.tables.maps number).0) at.page word
  map_is = ap (λ ps. place ps (root_at b.tables.maps number).0) homes
      ∙ get_or-set_same (store.homes old) (root_at b.tables.maps number).0 (with_word_in (place (store.homes old) (root_at b.tables.maps number).0) at.page word) free (taken_within (store.homes old) (root_at b.tables.maps number).0 (root_taken b.tables (store.homes old) kept.rooted at.fork number numbered))

  place_is : (k : ℕ) → k ≢ (root_at b.tables.maps number).0 → place (store.homes new) k ≡ place (store.homes old) k
  place_is k ne = ap (λ ps. place ps k) homes ∙ get_or-set_other (store.homes old) (root_at b.tables.maps number).0 k (with_word_in (place (store.homes old) (root_at b.tables.maps number).0) at.page word) free ne

  pub word_keeps : KeepsHomes store old new b b' at
  word_keeps = record { number = number; numbered = numbered; word = word; map = map_is; homes = λ k ne. inl (place_is k ne, ap (λ ns. name_at ns k) names) }

-- another was put there before
module _ {S : Type 0} (store : StoreMeaning S) (old mid new : S) (b b1 b' : Beside) (kept1 : AreKept b1 (store.homes mid)) (at : Slot) (maps : b1.tables.maps ≡ b.tables.maps) (first : KeepsHomes store old mid b b1 at) (number : ℕ) (numbered : index_of b1.tables.maps at.fork ≡ Some number) (word : ℕ)
    (homes : store.homes new ≡ slice_set (store.homes mid) (root_at b1.tables.maps number).0 (with_word_in (place (store.homes mid) (root_at b1.tables.maps number).0) at.page word)) (names : b'.tables.names ≡ b1.tables.names) where
  root_is : (root_at b1.tables.maps number).0 ≡ (root_at b.tables.maps first.number).0
  root_is =
      let z : Some number ≡ Some first.number = sym numbered ∙ ap (λ ms. index_of ms at.fork) maps ∙ first.numbered in
      let same : number ≡ first.number = cc z in
      λ i. (root_at (maps i) (same i)).0

  stays_on : (k : ℕ) → k ≢ (root_at b.tables.maps first.number).0 → PageStays b (store.homes old) b1 (store.homes mid) k (NamesHome b (store.homes old) at k) → PageStays b (store.homes old) b' (store.homes new) k (NamesHome b (store.homes old) at k)
  stays_on k ne before =
      let page = place_is store mid new b1 b' kept1 at number numbered word homes names k (λ same. ne (same ∙ root_is)) in
      let name = ap (λ ns. name_at ns k) names in
      elim before [
        | inl stays ↦ inl (page ∙ stays.0, name ∙ stays.1)
        | inr gone ↦ inr (page ∙ gone.0, name ∙ gone.1, gone.2)
      ]

  pub words_keep : KeepsHomes store old new b b' at
  words_keep = record {
    number = first.number;
    numbered = first.numbered;
    word = word;
    map = ap (place (store.homes new)) (sym root_is) ∙ map_is store mid new b1 b' kept1 at number numbered word homes names
        ∙ ap (λ k. with_word_in (place (store.homes mid) k) at.page word) root_is ∙ ap (λ p. with_word_in p at.page word) first.map ∙ word_again (place (store.homes old) (root_at b.tables.maps first.number).0) at.page first.word word;
    homes = λ k ne. stays_on k ne (first.homes k ne);
  }
