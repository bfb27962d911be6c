-- Entries whose map is in a frame.
use Rattle.std.proofs.Common.{◌≡◌, ℕ, List, true, Option, None, Some, refl, sym, ◌∙◌, ap, subst}
use Rattle.std.specs.Prelude.{slice_index}
use Rattle.std.specs.Option.{option_map_or}
use Rattle.machine_names.specs.declared.names.Slot.{Slot}
use Rattle.page_homes.specs.declared.homes.Home.{Home}
use Rattle.page_contracts.specs.Stores.{HomePlace, here, place, word_in}
use Rattle.pager_walk.specs.declared.paged_entry.Looked.TheVariants.{Is, Refused}
use Rattle.pager_walk.specs.declared.paged_entry.PagedEntry.{PagedEntry}
use Rattle.pager_walk.specs.MapPages.{index_of, root_at}
use Rattle.pager_walk.specs.PagedMaps.{Tables, entry_in, is_near, look_at, look_map, look_word}
use Rattle.pager_walk.proofs.Changing.{near_here}

-- a look finds a word that is in a frame
pub word_near : (t : Tables) (home : Home) (words : List ℕ) (offset : ℕ) → is_near (look_word t home (word_in (here words) offset)) ≡ true
word_near t home words offset = by (entry_in t (slice_index words offset))
  where
    by : (o : Option PagedEntry) → is_near (option_map_or Is o Refused) ≡ true
    by None = refl
    by (Some x) = refl

-- tables with the same maps find the word of an entry, where the page of its map is as it was
pub near_on : (t t' : Tables) (places places' : List HomePlace) (at : Slot) → t'.maps ≡ t.maps → ((k : ℕ) → index_of t.maps at.fork ≡ Some k → place places' (root_at t.maps k).0 ≡ place places (root_at t.maps k).0)
    → is_near (look_at t places at) ≡ true → is_near (look_at t' places' at) ≡ true
near_on t t' places places' at same still near = subst (λ ms. is_near (look_at (record t' { maps = ms }) places' at) ≡ true) (sym same) (by (index_of t.maps at.fork) refl near)
  where
    by : (o : Option ℕ) → index_of t.maps at.fork ≡ o → is_near (look_map t places at.page o) ≡ true → is_near (look_map (record t' { maps = t.maps }) places' at.page o) ≡ true
    by None is e = e
    by (Some k) is e =
        let x = near_here t (root_at t.maps k) (place places (root_at t.maps k).0) at.page e in
        ap (λ p. is_near (look_word (record t' { maps = t.maps }) (root_at t.maps k) (word_in p at.page))) (still k is ∙ x.1) ∙ word_near (record t' { maps = t.maps }) (root_at t.maps k) x.0 at.page

-- where no page is another
pub near_words : (t' t : Tables) (places : List HomePlace) (at : Slot) → t'.maps ≡ t.maps → is_near (look_at t places at) ≡ true → is_near (look_at t' places at) ≡ true
near_words t' t places at same near = near_on t t' places places at same (λ k is. refl) near
