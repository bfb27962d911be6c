-- What a touch of a page of a file answers is what a reference to the plain pages comes to.
use Rattle.std.proofs.Common.{◌≡◌, ℕ, ◌+◌, List, [], ◌∷◌, Bool, true, false, cond, Option, None, Some, refl, ◌∙◌, ap}
use Rattle.std.specs.Prelude.{nat_le, slice_get}
use Rattle.std.specs.Option.{option_map, option_and_then, unwrap_or}
use Rattle.std.specs.Cmp.{nat_cmp_total}
use Rattle.std.specs.FinMap as fin
use Rattle.machine_names.specs.declared.names.PageName.{PageName}
use Rattle.machine_names.specs.declared.names.Tty.{Tty}
use Rattle.machine_names.specs.declared.names.Kind.{Kind}
use Rattle.machine_names.specs.declared.names.Kind.TheVariants.{Read, Write, Execute}
use Rattle.machine_names.specs.Bounds.{IsOwner}
use Rattle.machine_names.specs.Orders.{FilePage}
use Rattle.page_homes.specs.declared.homes.Home.{Home}
use Rattle.page_contracts.specs.declared.answers.Touch.TheVariants.{Zero, Denied, Full}
use Rattle.page_contracts.specs.DrumWords.{DrumWords}
use Rattle.page_contracts.specs.Pages.{Scene, touch_of, touched_by, absent_or, announced, framed, page_away}
use Rattle.page_contracts.specs.Stores.{away_at}
use Rattle.page_contracts.proofs.Rooms.{room_blank}
use Rattle.plain_pages.specs.PlainPages.{NumberedPages}
use Rattle.plain_pages.specs.Room.{HasRoom}
use Rattle.plain_pages.specs.References.{in_file, Making, blank, in_its_file, makings, make, make_all, Referred, granted, full, reference, next_making, page_at}
use Rattle.plain_pages.proofs.ReferencesMade.{reference_makes, reference_denied, make_first}
use Rattle.flat_tables.specs.HeldMaps.{nobody, name_of}
use Rattle.flat_tables.specs.SlotTables.{Tables, plain_of, AreTables, AreSized}
use Rattle.flat_tables.specs.SlotTouches.{scene_of, has_room, touch_filed}
use Rattle.flat_pages.proofs.Agreement.{filed_named, tables_whole, tables_live}
use Rattle.flat_tables.proofs.FiledHomes.{get_filed}
use Rattle.flat_pages.proofs.Touching.{home_is}

module _ (t : Tables) (a : AreTables t) (frames : ℕ) (d : DrumWords) (sized : AreSized t.places d) (owner : Tty) (own : IsOwner owner) (f : FilePage ℕ) where
  abbrev p : NumberedPages
  p = plain_of t d

  abbrev scene : Scene
  scene = scene_of t frames

  abbrev filed : Option PageName
  filed = fin.get p.files f

  -- what is made in the file
  pub makes_in : (kind : Kind) (o : Option PageName) → fin.get p.files f ≡ o → makings p (in_file f) kind ≡ in_its_file kind f o
  unfolding makings
  makes_in kind o is = ap (in_its_file kind f) is

  page_in : (o : Option PageName) → fin.get p.files f ≡ o → page_at p (in_file f) ≡ o
  unfolding page_at
  page_in o is = is

  passed : (kind : Kind) (r : Referred _) → reference p (in_file f) kind owner ≡ r → touch_of p scene (in_file f) kind owner ≡ touched_by p scene (in_file f) kind r
  unfolding touch_of
  passed kind r is = ap (touched_by p scene (in_file f) kind) is

  make_none : (q : NumberedPages) → make_all q owner [] ≡ granted q
  unfolding make_all
  make_none q = refl

  -- its page, where that is in no frame
  away_is : (h : Home) → fin.get t.files f ≡ Some h → page_away p scene (in_file f) ≡ away_at t.places h.0
  away_is h there =
      let n = filed_named t a f h there in
      ap (option_and_then scene.page_away) (page_in (Some (name_of t.names h)) (get_filed t.names t.files f ∙ ap (option_map (name_of t.names)) there) ∙ ap (λ (o : Option PageName). Some (unwrap_or o nobody)) n.1)
      ∙ ap (option_and_then (away_at t.places)) (home_is t.names h.0 n.0 n.1 (λ k is. a.once k h.0 n.0 is n.1))

  no_page : fin.get t.files f ≡ None → fin.get p.files f ≡ None
  no_page none = get_filed t.names t.files f ∙ ap (option_map (name_of t.names)) none

  -- a page that is there
  there_is : (kind : Kind) (h : Home) → fin.get t.files f ≡ Some h → touch_of p scene (in_file f) kind owner ≡ touch_filed (away_at t.places) t scene kind (Some h)
  there_is kind h there =
      let list : makings p (in_file f) kind ≡ Some [] = makes_in kind (Some (name_of t.names h)) (get_filed t.names t.files f ∙ ap (option_map (name_of t.names)) there) in
      let next : next_making p (in_file f) kind ≡ None = ap (option_and_then (λ (ns : List (Making ℕ)). slice_get ns 0)) list in
      passed kind (granted p) (reference_makes p owner (in_file f) kind [] list ∙ make_none p) ∙ (λ i. absent_or (away_is h there i) (announced p scene (next i)))

  -- none
  denied_is : (kind : Kind) → makings p (in_file f) kind ≡ None → touch_of p scene (in_file f) kind owner ≡ Denied kind
  denied_is kind none = passed kind _ (reference_denied p owner (in_file f) kind none)

  zero_is : fin.get t.files f ≡ None → touch_of p scene (in_file f) Write owner ≡ cond (has_room t 1) (framed scene Zero) Full
  zero_is none =
      let m : Making ℕ = blank (in_file f) in
      let list : makings p (in_file f) Write ≡ Some (m ∷ []) = makes_in Write None (no_page none) in
      let next : next_making p (in_file f) Write ≡ Some m = ap (option_and_then (λ (ns : List (Making ℕ)). slice_get ns 0)) list in
      let room : HasRoom (make p owner m) owner ≡ has_room t 1 =
      room_blank nat_cmp_total p (tables_whole t a d sized) owner own (in_file f) (no_page none) ∙ ap (λ k. nat_le (k + 1) t.limit) (tables_live t a d sized) in
      passed Write (cond (has_room t 1) (granted (make p owner m)) full)
      (reference_makes p owner (in_file f) Write (m ∷ []) list ∙ make_first p owner m [] ∙ (λ i. cond (room i) (make_none (make p owner m) i) full))
      ∙ by (has_room t 1) next
    where
      by : (b : Bool) → next_making p (in_file f) Write ≡ Some (blank (in_file f)) → touched_by p scene (in_file f) Write (cond b (granted (make p owner (blank (in_file f)))) full) ≡ cond b (framed scene Zero) Full
      by true next = λ i. absent_or (option_and_then scene.page_away (page_in None (no_page none) i)) (announced p scene (next i))
      by false next = refl

  pub file_told : (kind : Kind) → touch_of p scene (in_file f) kind owner ≡ touch_filed (away_at t.places) t scene kind (fin.get t.files f)
  file_told kind = by (fin.get t.files f) refl kind
    where
      by : (o : Option Home) → fin.get t.files f ≡ o → (kind : Kind) → touch_of p scene (in_file f) kind owner ≡ touch_filed (away_at t.places) t scene kind o
      by (Some h) is kind = there_is kind h is
      by None is Read = denied_is Read (makes_in Read None (no_page is))
      by None is Execute = denied_is Execute (makes_in Execute None (no_page is))
      by None is Write = zero_is is
