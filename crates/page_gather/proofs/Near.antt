-- What is in frames is so still once a page is made.
use Rattle.std.proofs.Common.{◌≡◌, ℕ, List, true, false, Option, None, Some, ◌⊎◌, inl, inr, refl, sym, ◌∙◌, ap}
use Rattle.std.specs.Option.{option_and_then}
use Rattle.std.specs.FinMap as map
use Rattle.machine_names.specs.declared.names.Tty.{Tty}
use Rattle.machine_names.specs.declared.names.Slot.{Slot}
use Rattle.machine_names.specs.declared.names.PageName.{PageName}
use Rattle.machine_names.specs.declared.names.Access.{Access}
use Rattle.plain_pages.specs.declared.map.MapEntry.{MapEntry}
use Rattle.plain_pages.specs.PlainPages.{NumberedPages}
use Rattle.plain_pages.specs.Maps.{entry_at, chain, maps_on_way}
use Rattle.plain_pages.specs.References.{in_map, next_page, page_at}
use Rattle.page_contracts.specs.Pages.{Scene, map_away, page_away}
use Rattle.plain_pages.proofs.Ends.{page_within, page_made}
use Rattle.page_contracts.proofs.Ways.{way_away, way_shorter}
use Rattle.plain_pages.proofs.Makings.{named_end}
use Rattle.plain_pages.proofs.Made.{IsMade}
use Rattle.std.specs.Cmp.{nat_cmp_total}
use Rattle.page_gather.specs.Gathering.{IsNear, AreSound}

module _ (p : NumberedPages) where
  pub way_is : (scene : Scene) (s : Slot) → map_away p scene (in_map s) ≡ way_away scene 4 (entry_at p.maps) s
  unfolding maps_on_way
  way_is scene s = refl

  pub page_is : (s : Slot) → page_at p (in_map s) ≡ page_within 4 (entry_at p.maps) s
  unfolding page_at chain
  page_is s = refl

-- a page that was not there before is in no way out of a frame
pub new_in_frame : (p : NumberedPages) (scene : Scene) → AreSound p scene → (n : PageName) → map.contains_key p.objects n ≡ false → scene.page_away n ≡ None
new_in_frame p scene sound n fresh = by (scene.page_away n) refl
  where
    by : (o : Option ℕ) → scene.page_away n ≡ o → scene.page_away n ≡ None
    by None is = is
    by (Some home) is = absurd (let z : true ≡ false = sym (sound.away n home is) ∙ fresh in cc z)

-- ONE MAKING MORE keeps near what was
pub near_made : (q r : NumberedPages) (scene : Scene) (owner : Tty) (m : Slot) (a : Access) (words : List ℕ) (e : MapEntry) → IsMade q r owner m a words e → entry_at q.maps m ≡ Some e → scene.page_away (next_page q owner) ≡ None → (s : Slot) → IsNear q scene s → IsNear r scene s
near_made q r scene owner m a words e made was fresh s near = record {
  maps = way_is r scene s ∙ way_shorter scene (entry_at q.maps) (entry_at r.maps) m (next_page q owner) a e was made.here made.others 4 s (sym (way_is q scene s) ∙ near.maps);
  page = by (page_made (entry_at q.maps) (entry_at r.maps) m (next_page q owner) a made.here made.others 4 s);
}
  where
    away_of : (n : Option PageName) → page_at r (in_map s) ≡ n → option_and_then scene.page_away n ≡ None → page_away r scene (in_map s) ≡ None
    away_of n is none = ap (option_and_then scene.page_away) is ∙ none

    by : (page_within 4 (entry_at r.maps) s ≡ Some (next_page q owner)) ⊎ (page_within 4 (entry_at r.maps) s ≡ page_within 4 (entry_at q.maps) s) → page_away r scene (in_map s) ≡ None
    by (inl new) = away_of (Some (next_page q owner)) (page_is r s ∙ new) fresh
    by (inr same) = away_of (page_at q (in_map s)) (page_is r s ∙ same ∙ sym (page_is q s)) near.page

-- the page of a slot that was made a page's is that page
pub page_of_made : (q r : NumberedPages) (owner : Tty) (m : Slot) (a : Access) (words : List ℕ) (e : MapEntry) → IsMade q r owner m a words e → page_at r (in_map m) ≡ Some (next_page q owner)
page_of_made q r owner m a words e made = named_end nat_cmp_total r made.whole m (next_page q owner) a made.here
