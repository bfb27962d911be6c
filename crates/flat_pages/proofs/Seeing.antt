-- Entries as a look finds them.
use Rattle.std.proofs.Common.{◌≡◌, ℕ, ◌<◌, List, Option, None, Some, refl, ◌∙◌, ap, arith}
use Rattle.std.specs.Prelude.{IsSome}
use Rattle.std.specs.Option.{option_map, option_map_or}
use Rattle.std.proofs.lemmas.Option.{slice_get-get_or}
use Rattle.machine_names.specs.declared.names.ForkName.{ForkName}
use Rattle.machine_names.specs.declared.names.PageName.{PageName}
use Rattle.machine_names.specs.declared.names.Slot.{Slot}
use Rattle.machine_names.specs.declared.names.TheConstants.{SPACE_PAGES}
use Rattle.plain_pages.specs.declared.map.MapEntry.{MapEntry}
use Rattle.page_contracts.specs.declared.answers.Seen.TheVariants.{Is, Missing}
use Rattle.page_contracts.specs.DrumWords.{DrumWords}
use Rattle.page_contracts.specs.Pages.{seen_of, map_away_or, FollowsPage}
use Rattle.flat_tables.specs.declared.held_entry.EntryAt.{EntryAt}
use Rattle.flat_tables.specs.declared.held_entry.HeldEntry.{HeldEntry}
use Rattle.flat_tables.specs.declared.held_entry.HeldEntry.TheVariants.{Empty, Page, Follows}
use Rattle.flat_tables.specs.declared.held_map.HeldMap.{HeldMap}
use Rattle.flat_tables.specs.HeldMaps.{map_at, fork_at, held_entry, index_of, entry_of, AreHeld}
use Rattle.flat_tables.specs.SlotTables.{Tables, plain_of, AreTables}
use Rattle.flat_tables.specs.SlotTouches.{scene_of}
use Rattle.flat_tables.proofs.ForkMaps.{index_fork, fork_within}
use Rattle.flat_tables.proofs.LivingMaps.{entry_held, entry_gone}

some_entry : (o : Option HeldEntry) (e : HeldEntry) → o ≡ Some e → IsSome o
some_entry None e h = absurd (cc h)
some_entry (Some x) e h = refl

-- each page of a living fork's map has an entry
pub there_is : (maps : List HeldMap) → AreHeld maps → (k page : ℕ) {f : ForkName} → fork_at maps k ≡ Some f → page < SPACE_PAGES → IsSome (held_entry maps (record { map = k; page = page }))
there_is maps held k page {f} is l =
    some_entry (held_entry maps (record { map = k; page = page })) _ (slice_get-get_or (map_at maps k).entries page Empty (omega (arith, l, held.pages k (fork_within maps k f is))))

pub seen_is : (t : Tables) → AreTables t → (d : DrumWords) (frames : ℕ) (s : Slot) (k : ℕ) (e : HeldEntry) → index_of t.maps s.fork ≡ Some k → held_entry t.maps (record { map = k; page = s.page }) ≡ Some e
    → seen_of (plain_of t d) (scene_of t frames) s ≡ Is (entry_of t.names e)
unfolding seen_of
seen_is t a d frames s k e is there =
    ap (λ (o : Option MapEntry). option_map_or (λ x. map_away_or None (Is x)) o Missing)
    (entry_held t.names t.maps a.held.once (record { map = k; page = s.page }) s (ap (option_map (λ f. record { fork = f; page = s.page })) (index_fork t.maps s.fork k is)) ∙ ap (option_map (entry_of t.names)) there)

pub seen_none : (t : Tables) (d : DrumWords) (frames : ℕ) (s : Slot) → index_of t.maps s.fork ≡ None → seen_of (plain_of t d) (scene_of t frames) s ≡ Missing
unfolding seen_of
seen_none t d frames s none = ap (λ (o : Option MapEntry). option_map_or (λ x. map_away_or None (Is x)) o Missing) (entry_gone t.names t.maps s none)

pub follows_page : (names : List (Option PageName)) (maps : List HeldMap) → AreHeld maps → (at : EntryAt) (e : HeldEntry) → held_entry maps at ≡ Some e → FollowsPage (Is (entry_of names e))
follows_page names maps held at Empty h = tt
follows_page names maps held at (Page p a) h = tt
follows_page names maps held at (Follows l a) h = held.links at l a h
