-- Each page that is settled is the first that a reference to the plain pages makes.
use Rattle.std.proofs.Common.{◌≡◌, ◌≢◌, inl, inr, ℕ, ◌+◌, ◌<◌, List, Bool, true, false, cond, Option, None, Some, length, refl, sym, ◌∙◌, ap, arith}
use Rattle.std.specs.Prelude.{slice_index, slice_set, ◌==◌}
use Rattle.std.specs.Option.{option_map, unwrap_or}
use Rattle.std.specs.Cmp.{nat_cmp_total}
use Rattle.std.specs.FinMap as fin
use Rattle.std.proofs.lemmas.Bool.{cases_lt}
use Rattle.std.proofs.lemmas.List.{get_or-set_same, get_or-set_other, get_or_past, length-set}
use Rattle.outside.specs.Drums.{IsPage, page_at as drum_page}
use Rattle.outside.specs.declared.TheConstants.{PAGE_WORDS}
use Rattle.machine_names.specs.declared.names.Access.{Access}
use Rattle.page_homes.specs.declared.homes.Home.{Home}
use Rattle.machine_names.specs.declared.names.PageName.{PageName}
use Rattle.machine_names.specs.declared.names.Slot.{Slot}
use Rattle.machine_names.specs.declared.names.Tty.{Tty}
use Rattle.plain_pages.specs.declared.map.MapEntry.TheVariants as entry
use Rattle.page_contracts.specs.DrumWords.{DrumWords}
use Rattle.plain_pages.specs.PlainPages.{NumberedPages, is_console, page_serial}
use Rattle.plain_pages.specs.Maps.{entry_at, set_entry, full_access}
use Rattle.plain_pages.specs.Room.{uses}
use Rattle.plain_pages.specs.References.{in_map, blank, copy, make, page_at, words_at, next_page, new_page, drop_copied, drop_unnamed}
use Rattle.machine_names.specs.PageWords.{zero_words}
use Rattle.machine_names.specs.Bounds.{IsOwner}
use Rattle.page_contracts.specs.Stores.{HomePlace, free, away, here, place, is_taken, over_drum, content, FitsHomes}
use Rattle.plain_pages.specs.WholePages.{AreWhole}
use Rattle.plain_pages.proofs.Made.{has_new, is_blank, is_copy}
use Rattle.plain_pages.proofs.Settles.{copy_maps, copy_files}
use Rattle.flat_tables.specs.declared.held_entry.EntryAt.{EntryAt}
use Rattle.flat_tables.specs.declared.held_entry.HeldEntry.{HeldEntry}
use Rattle.flat_tables.specs.declared.held_entry.HeldEntry.TheVariants.{Empty, Page}
use Rattle.flat_tables.specs.declared.page_serials.PageSerials.{PageSerials}
use Rattle.flat_tables.specs.Serials.{serial_of, with_next}
use Rattle.flat_tables.specs.HeldMaps.{held_entry, with_entry, name_at, entry_of, maps_held, points_at}
use Rattle.flat_tables.specs.Walks.{slot_of}
use Rattle.flat_tables.specs.SlotTables.{Tables, plain_of, files_held, share_of, AreTables, AreSized}
use Rattle.flat_tables.specs.TableSteps.{next_name}
use Rattle.flat_tables.proofs.LivingMaps.{entry_held}
use Rattle.flat_pages.proofs.Agreement.{tables_whole}
use Rattle.flat_pages.proofs.Told.{maps_set, none_else, none_filed, entry_still, told_made}
use Rattle.flat_tables.proofs.FiledHomes.{files_still}

-- the words of a page that is in a frame
pub content_here : (places : List HomePlace) (d : DrumWords) (h : ℕ) (words : List ℕ) → place places h ≡ here words → content places d h ≡ Some words
unfolding content
content_here places d h words e = ap (λ p. over_drum p (drum_page d h)) e

pub content_set : (places : List HomePlace) (d : DrumWords) (h : ℕ) (words : List ℕ) → h < length places → content (slice_set places h (here words)) d h ≡ Some words
content_set places d h words l = content_here (slice_set places h (here words)) d h words (get_or-set_same places h (here words) free l)

pub content_other : (places : List HomePlace) (d : DrumWords) (h k : ℕ) (p : HomePlace) → k ≢ h → content (slice_set places h p) d k ≡ content places d k
unfolding content
content_other places d h k p ne = ap (λ q. over_drum q (drum_page d k)) (get_or-set_other places h k p free ne)

taken_within : (places : List HomePlace) (h : ℕ) → is_taken (place places h) ≡ true → h < length places
taken_within places h e = elim (cases_lt h (length places)) [
  | inl l ↦ l
  | inr past ↦ absurd (let z : false ≡ true = sym (ap is_taken (get_or_past places h free past)) ∙ e in cc z)
]

-- the words of a drum that fit are as many as a page has
pub sized_of : (places : List HomePlace) (d : DrumWords) → FitsHomes places d → ((h : ℕ) (words : List ℕ) → place places h ≡ here words → IsPage words) → AreSized places d
unfolding content
sized_of places d fits pages h words e = by (place places h) refl e
  where
    by : (p : HomePlace) → place places h ≡ p → over_drum p (drum_page d h) ≡ Some words → length words ≡ PAGE_WORDS
    by free is k = absurd (cc k)
    by away is k =
        let same : drum_page d h ≡ words = cc k in
        let page : IsPage (drum_page d h) = fits.pages h (omega (arith, fits.enough, taken_within places h (ap is_taken is))) in
        ap length (sym same) ∙ page.size
    by (here w) is k = let same : w ≡ words = cc k in let page : IsPage w = pages h w is in ap length (sym same) ∙ page.size

pub fits_set : (places : List HomePlace) (d : DrumWords) (h : ℕ) (p : HomePlace) → FitsHomes places d → FitsHomes (slice_set places h p) d
fits_set places d h p fits = record { enough = omega (arith, fits.enough, length-set places h p); pages = fits.pages }

-- the serials of the pages with one more of an owner
module _ (s : PageSerials) (owner : Tty) where
  pub terminals_next : (with_next s owner).terminals ≡ cond (is_console owner) s.terminals (slice_set s.terminals owner.0 (serial_of s owner + 1))
  terminals_next = by (is_console owner)
    where
      by : (b : Bool) → (cond b (record s { console = s.console + 1 }) (record s { terminals = slice_set s.terminals owner.0 (slice_index s.terminals owner.0 + 1) })).terminals
          ≡ cond b s.terminals (slice_set s.terminals owner.0 (cond b s.console (slice_index s.terminals owner.0) + 1))
      by true = refl
      by false = refl

  pub console_next : (with_next s owner).console ≡ cond (is_console owner) (serial_of s owner + 1) s.console
  console_next = by (is_console owner)
    where
      by : (b : Bool) → (cond b (record s { console = s.console + 1 }) (record s { terminals = slice_set s.terminals owner.0 (slice_index s.terminals owner.0 + 1) })).console
          ≡ cond b (cond b s.console (slice_index s.terminals owner.0) + 1) s.console
      by true = refl
      by false = refl

-- what is dropped leaves the serials
module _ (q : NumberedPages) where
  dropped_terminals : (n : PageName) → (drop_unnamed q n).page_serials ≡ q.page_serials
  dropped_terminals n = by (uses q n == 0)
    where
      by : (b : Bool) → (cond b (record q { objects = fin.remove q.objects n }) q).page_serials ≡ q.page_serials
      by true = refl
      by false = refl

  dropped_console : (n : PageName) → (drop_unnamed q n).console_serial ≡ q.console_serial
  dropped_console n = by (uses q n == 0)
    where
      by : (b : Bool) → (cond b (record q { objects = fin.remove q.objects n }) q).console_serial ≡ q.console_serial
      by true = refl
      by false = refl

  copied_terminals : (n : Option PageName) → (drop_copied q n).page_serials ≡ q.page_serials
  copied_terminals None = refl
  copied_terminals (Some n) = dropped_terminals n

  copied_console : (n : Option PageName) → (drop_copied q n).console_serial ≡ q.console_serial
  copied_console None = refl
  copied_console (Some n) = dropped_console n

module _ (p : NumberedPages) (owner : Tty) (s : Slot) where
  blank_maps : (make p owner (blank (in_map s))).maps ≡ set_entry p.maps s (entry.Names (next_page p owner) full_access)
  unfolding make
  blank_maps = refl

  blank_files : (make p owner (blank (in_map s))).files ≡ p.files
  unfolding make
  blank_files = refl

  blank_terminals : (make p owner (blank (in_map s))).page_serials ≡ cond (is_console owner) p.page_serials (slice_set p.page_serials owner.0 (page_serial p owner + 1))
  unfolding make
  blank_terminals = refl

  blank_console : (make p owner (blank (in_map s))).console_serial ≡ cond (is_console owner) (page_serial p owner + 1) p.console_serial
  unfolding make
  blank_console = refl

  copy_terminals : (a : Access) → (make p owner (copy s a)).page_serials ≡ cond (is_console owner) p.page_serials (slice_set p.page_serials owner.0 (page_serial p owner + 1))
  unfolding make
  copy_terminals a = copied_terminals (new_page p owner (in_map s) a (words_at p (in_map s))) (page_at p (in_map s))

  copy_console : (a : Access) → (make p owner (copy s a)).console_serial ≡ cond (is_console owner) (page_serial p owner + 1) p.console_serial
  unfolding make
  copy_console a = copied_console (new_page p owner (in_map s) a (words_at p (in_map s))) (page_at p (in_map s))

module _ (t : Tables) (a : AreTables t) (d : DrumWords) (sized : AreSized t.places d) (owner : Tty) (own : IsOwner owner) (home : ℕ) (below : home < t.limit) where
  abbrev p : NumberedPages
  p = plain_of t d

  whole : AreWhole p
  whole = tables_whole t a d sized

  abbrev h : Home
  h = record { 0 = home }

  abbrev names' : List (Option PageName)
  names' = slice_set t.names home (Some (next_name t.serials owner))

  name_here : name_at names' home ≡ Some (next_name t.serials owner)
  name_here = get_or-set_same t.names home (Some (next_name t.serials owner)) None (omega (arith, below, a.named))

  name_other : (k : ℕ) → k ≢ home → name_at names' k ≡ name_at t.names k
  name_other k ne = get_or-set_other t.names home k (Some (next_name t.serials owner)) None ne

  -- the maps with an entry that names the new page
  module _ (at : EntryAt) (s : Slot) (q : HeldEntry) (b : Access) (is : slot_of t.maps at ≡ Some s) (there : held_entry t.maps at ≡ Some q) (alone : share_of t.shares home ≡ points_at home q) where
    maps_named : maps_held names' (with_entry t.maps at (Page h b)) ≡ set_entry p.maps s (entry.Names (next_page p owner) b)
    maps_named =
        maps_set t.names names' t.maps a.held at q (Page h b) s is there (λ c x ne k. entry_still t.names names' home x name_other (none_else t a at c q x home there alone ne k))
        ∙ ap (λ (n : Option PageName). set_entry p.maps s (entry.Names (unwrap_or n (record { tty = record { 0 = 0 }; serial = 0 })) b)) name_here

    entry_is : entry_at p.maps s ≡ Some (entry_of t.names q)
    entry_is = entry_held t.names t.maps a.held.once at s is ∙ ap (option_map (entry_of t.names)) there

    -- a home is taken for a page with the words of a making
    module _ (words : List ℕ) (t' : Tables) (a' : AreTables t') (sized' : AreSized t'.places d) (names : t'.names ≡ names') (maps : t'.maps ≡ with_entry t.maps at (Page h b)) (files : t'.files ≡ t.files) (serials : t'.serials ≡ with_next t.serials owner) (limit : t'.limit ≡ t.limit)
        (held : content t'.places d home ≡ Some words) (kept : (k : ℕ) → k ≢ home → content t'.places d k ≡ content t.places d k) where
      maps_are : maps_held t'.names t'.maps ≡ set_entry p.maps s (entry.Names (next_page p owner) b)
      maps_are = (λ i. maps_held (names i) (maps i)) ∙ maps_named

      files_are : files_held t'.names t'.files ≡ p.files
      files_are = (λ i. files_held (names i) (files i)) ∙ files_still t.names names' t.files home (none_filed t a at q home there alone) name_other

      named_here : name_at t'.names home ≡ Some (next_page p owner)
      named_here = ap (λ ns. name_at ns home) names ∙ name_here

      named_other : (k : ℕ) → k ≢ home → name_at t'.names k ≡ name_at t.names k
      named_other k ne = ap (λ ns. name_at ns k) names ∙ name_other k ne

      terminals_are : t'.serials.terminals ≡ cond (is_console owner) p.page_serials (slice_set p.page_serials owner.0 (page_serial p owner + 1))
      terminals_are = ap (λ (x : PageSerials). x.terminals) serials ∙ terminals_next t.serials owner

      console_is : t'.serials.console ≡ cond (is_console owner) (page_serial p owner + 1) p.console_serial
      console_is = ap (λ (x : PageSerials). x.console) serials ∙ console_next t.serials owner

      pub told_blank : q ≡ Empty → b ≡ full_access → words ≡ zero_words → plain_of t' d ≡ make p owner (blank (in_map s))
      told_blank empty access zeros =
          let can : entry_at p.maps s ≡ Some entry.Empty = entry_is ∙ ap (λ x. Some (entry_of t.names x)) empty in
          told_made t t' a a' d sized sized' owner home (make p owner (blank (in_map s))) zero_words (has_new p (make p owner (blank (in_map s))) owner s full_access zero_words entry.Empty (is_blank nat_cmp_total p whole owner own s can))
          (maps_are ∙ ap (λ x. set_entry p.maps s (entry.Names (next_page p owner) x)) access ∙ sym (blank_maps p owner s)) (files_are ∙ sym (blank_files p owner s))
          (terminals_are ∙ sym (blank_terminals p owner s)) (console_is ∙ sym (blank_console p owner s)) limit named_here named_other (held ∙ ap Some zeros) kept

      pub told_copy : words ≡ words_at p (in_map s) → plain_of t' d ≡ make p owner (copy s b)
      told_copy same =
          told_made t t' a a' d sized sized' owner home (make p owner (copy s b)) (words_at p (in_map s)) (has_new p (make p owner (copy s b)) owner s b (words_at p (in_map s)) (entry_of t.names q) (is_copy nat_cmp_total p whole owner own s b (entry_of t.names q) entry_is))
          (maps_are ∙ sym (copy_maps nat_cmp_total p owner s b)) (files_are ∙ sym (copy_files nat_cmp_total p owner s b))
          (terminals_are ∙ sym (copy_terminals p owner s b)) (console_is ∙ sym (copy_console p owner s b)) limit named_here named_other (held ∙ ap Some same) kept
