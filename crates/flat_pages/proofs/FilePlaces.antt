-- A slot whose page is put into a file, and what that leaves.
use Rattle.std.proofs.Common.{◌≡◌, ℕ, Bool, Option, None, Some, refl, sym, ◌∙◌, ap, subst, is_some}
use Rattle.std.specs.Prelude.{IfSome}
use Rattle.std.specs.Option.{option_map, option_and_then}
use Rattle.machine_names.specs.declared.names.ForkName.{ForkName}
use Rattle.machine_names.specs.declared.names.Slot.{Slot}
use Rattle.machine_names.specs.declared.names.Kind.TheVariants.{Read}
use Rattle.machine_names.specs.declared.names.Place.TheVariants.{Fork}
use Rattle.machine_names.specs.declared.names.FileNo.{FileNo}
use Rattle.machine_names.specs.Orders.{FilePage, file_page}
use Rattle.plain_pages.specs.FilePages.{filed_by, with_file}
use Rattle.page_homes.specs.declared.homes.Home.{Home}
use Rattle.page_contracts.specs.declared.answers.Touch.TheVariants.{Ready}
use Rattle.page_contracts.specs.Changes.{FilePageSet}
use Rattle.page_contracts.specs.DrumWords.{DrumWords}
use Rattle.page_contracts.specs.Pages.{FilesOne, IsPlace}
use Rattle.page_contracts.specs.Stores.{StoreMeaning, away_at}
use Rattle.flat_tables.specs.declared.map_tables.MapTables.{MapTables}
use Rattle.flat_tables.specs.HeldMaps.{index_of, living_of, name_of}
use Rattle.flat_tables.specs.Serials.{serial_of}
use Rattle.flat_tables.specs.SlotTables.{Tables, AreTables, plain_of}
use Rattle.flat_pages.specs.SlotMeaning.{slots_meaning}
use Rattle.flat_tables.specs.SlotTouches.{home_at, scene_of, touch_of_place, touch_walked, walk_of}
use Rattle.flat_pages.specs.FileSteps.{IsNamed, SetsFile}
use Rattle.flat_tables.specs.TableSteps.{tables_of}
use Rattle.flat_tables.specs.Walks.{Walk, lets_along, use_of}
use Rattle.flat_tables.proofs.FiledHomes.{get_filed}
use Rattle.flat_pages.proofs.MapHomes.{sets_file}
use Rattle.flat_pages.proofs.Meeting.{found_walk, home_let, ready_from}

-- what holds of a slot that is given
pub given_slot : (holds : Slot → Type 0) (from : Option Slot) (s : Slot) → from ≡ Some s → IfSome from holds → holds s
given_slot holds from s is h = subst (λ o. IfSome o holds) is h

-- the page at the end of its chain is named by an entry
pub ready_entry : (t : Tables) → AreTables t → (s : Slot) → IsPlace (λ (f : ForkName). is_some (index_of t.maps f)) (Fork s) → (h : Home) → home_at t (Fork s) ≡ Some h → IsNamed t.maps h.0
ready_entry t a s lives h is = by (walk_of t.maps s) refl is
  where
    by : (o : Option Walk) → walk_of t.maps s ≡ o → option_and_then (λ w. w.home) o ≡ Some h → IsNamed t.maps h.0
    by None e k = absurd (cc k)
    by (Some w) e k = (let n = (found_walk t a s w lives.0 e).meets.named h k in record { at = w.end; there = record { access = n.0; is = n.1 } })

-- there is one, where a touch to read finds it ready
pub ready_some : (t : Tables) (frames : ℕ) (s : Slot) → touch_of_place t frames (Fork s) Read ≡ Ready → home_at t (Fork s) ≡ None → ⊥
ready_some t frames s ready none = by (walk_of t.maps s) ready none
  where
    by : (o : Option Walk) → touch_walked (away_at t.places) t (scene_of t frames) Read o ≡ Ready → option_and_then (λ w. w.home) o ≡ None → ⊥
    by None k is = cc k
    by (Some w) k is =
        let b = ready_from (away_at t.places) t (scene_of t frames) Read w k in
        let l = home_let (away_at t.places) t (scene_of t frames) (lets_along (use_of Read) w) w.home b.0 b.1 in
        (let z : Some b.0 ≡ None = sym l.1 ∙ is in cc z)

-- what files name then
pub files_one : {P S : Type 0} (store : StoreMeaning S) (part : P → S) (mt : P → MapTables) (p q : P) (f : FilePage ℕ) (o : Option Home) → SetsFile store (part p) (part q) (mt p) (mt q) f o → (named : Bool) → is_some o ≡ named
    → FilesOne (slots_meaning store part (λ x. tables_of (store.homes (part x)) (mt x))) f named p q
files_one store part mt p q f o k named is = record {
  set = ap is_some (get_filed (mt q).names.items (mt q).files f ∙ ap (option_map (name_of (mt q).names.items)) k.here) ∙ same o ∙ is;
  others = k.filed;
}
  where
    same : (o : Option Home) → is_some (option_map (name_of (mt q).names.items) o) ≡ is_some o
    same None = refl
    same (Some h) = refl

-- a page of a file was set
pub page_set : {P S : Type 0} (store : StoreMeaning S) (part : P → S) (mt : P → MapTables) (p q : P) → AreTables (tables_of (store.homes (part p)) (mt p)) → AreTables (tables_of (store.homes (part q)) (mt q)) → (file : FileNo) (page : ℕ) (from : Option Slot) (home : Option Home)
    → SetsFile store (part p) (part q) (mt p) (mt q) (file_page file.0 page) home → is_some home ≡ is_some from
    → ((d : DrumWords) → filed_by (plain_of (tables_of (store.homes (part p)) (mt p)) d) (file_page file.0 page) from ≡ with_file (plain_of (tables_of (store.homes (part p)) (mt p)) d) (file_page file.0 page) (option_map (name_of (mt p).names.items) home))
    → FilePageSet (slots_meaning store part (λ x. tables_of (store.homes (part x)) (mt x))) file page from p q
page_set store part mt p q a a' file page from home k same named = record {
  told = λ d fits. (let r = k.told d fits in (r.0, r.1 ∙ sym (named d)));
  scene = k.core;
  filed = files_one store part mt p q (file_page file.0 page) home k (is_some from) same;
  sets = sets_file store part (λ x. tables_of (store.homes (part x)) (mt x)) p q (record { tty = record { 0 = 0 }; serial = 0 }) a a' (file_page file.0 page) refl refl k.homes;
  loses = k.lost;
  uses = k.used;
  lives = λ i f. is_some (index_of (k.maps i) f);
  forks = ap living_of k.maps;
  serials = ap serial_of k.serials;
  most = k.limit;
}
