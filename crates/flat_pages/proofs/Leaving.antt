-- An entry is set, and its page may lose its last name: the tables agree afterwards, and the pages are kept that are still named.
use Rattle.std.proofs.Common.{◌≡◌, ◌≢◌, inl, inr, ℕ, ◌+◌, ◌-◌, ◌<◌, ◌≤◌, List, true, false, cond, Option, None, Some, length, refl, sym, ◌∙◌, ap, arith, is_some}
use Rattle.std.specs.Prelude.{nat_lt, count_by, slice_set}
use Rattle.std.specs.FinMap as fin
use Rattle.std.proofs.lemmas.Bool.{cases_eq, cases_lt}
use Rattle.std.proofs.lemmas.List.{length-set, get_or-set_same, get_or-set_other, get_or_past}
use Rattle.std.proofs.lemmas.List.Sums.{sum_by-set}
use Rattle.machine_names.specs.declared.names.Access.{Access}
use Rattle.page_homes.specs.declared.homes.Home.{Home}
use Rattle.machine_names.specs.declared.names.PageName.{PageName}
use Rattle.machine_names.specs.declared.names.Slot.{Slot}
use Rattle.machine_names.specs.declared.names.TheConstants.{SPACE_PAGES}
use Rattle.machine_names.specs.Orders.{FilePage}
use Rattle.plain_pages.specs.declared.map.MapEntry.{MapEntry}
use Rattle.page_contracts.specs.DrumWords.{DrumWords}
use Rattle.plain_pages.specs.Maps.{entry_at, set_entry}
use Rattle.plain_pages.specs.Room.{uses}
use Rattle.plain_pages.specs.References.{with_entry as entry_put}
use Rattle.page_contracts.specs.Stores.{HomePlace, free, away, here, place, is_free, is_taken, free_homes, content}
use Rattle.plain_pages.proofs.Kept.{AreStill, still, still_same, entry_kept as put_kept, entry_maps}
use Rattle.flat_tables.specs.declared.held_entry.EntryAt.{EntryAt}
use Rattle.flat_tables.specs.declared.held_entry.HeldEntry.{HeldEntry}
use Rattle.flat_tables.specs.declared.held_entry.HeldEntry.TheVariants.{Empty, Page, Follows}
use Rattle.flat_tables.specs.declared.held_entry.Link.{Link}
use Rattle.flat_tables.specs.HeldMaps.{fork_at, held_entry, with_entry, name_at, maps_held, points_at, entries_total, living_in}
use Rattle.flat_tables.specs.SlotTables.{Tables, plain_of, files_held, share_of, filed_total, AreTables, AreSized}
use Rattle.flat_tables.specs.TableSteps.{left_shares, entry_kept, entry_left, home_freed, file_freed}
use Rattle.flat_tables.proofs.AgreedTables.{AreNamed, agreed, named_in}
use Rattle.flat_tables.proofs.FiledHomes.{at_itself, at_other, filed_less, filed_without}
use Rattle.flat_tables.proofs.HeldEntries.{total_with, total_le, points_self, points_other}
use Rattle.flat_pages.proofs.Agreement.{Housed, housed, uses_home, uses_none, object_home, object_gone, tables_whole}
use Rattle.flat_tables.proofs.Taking.{held_set, living_set, left_is, left_length, points_most, positive_same}

-- a home is given up, whose page had one name
module _ (t : Tables) (a : AreTables t) (h : Home) (one : share_of t.shares h.0 ≡ 1) where
  abbrev names' : List (Option PageName)
  names' = slice_set t.names h.0 None

  name_there : is_some (name_at t.names h.0) ≡ true
  name_there = a.shared h.0 ∙ ap (nat_lt 0) one

  below : h.0 < length t.places
  below = elim (cases_lt h.0 (length t.places)) [
    | inl l ↦ l
    | inr past ↦ absurd (let z : false ≡ true = sym (ap is_taken (get_or_past t.places h.0 free past)) ∙ a.is_taken h.0 ∙ name_there in cc z)
  ]

  pub name_gone : name_at names' h.0 ≡ None
  name_gone = get_or-set_same t.names h.0 None None (omega (arith, below, a.homes, a.named))

  pub name_kept : (k : ℕ) → k ≢ h.0 → name_at names' k ≡ name_at t.names k
  name_kept k ne = get_or-set_other t.names h.0 k None None ne

  share_gone : share_of (slice_set t.shares h.0 0) h.0 ≡ 0
  share_gone = get_or-set_same t.shares h.0 0 0 (omega (arith, below, a.homes, a.counted))

  share_kept : (k : ℕ) → k ≢ h.0 → share_of (slice_set t.shares h.0 0) k ≡ share_of t.shares k
  share_kept k ne = get_or-set_other t.shares h.0 k 0 0 ne

  freed_shared : (k : ℕ) → is_some (name_at names' k) ≡ nat_lt 0 (share_of (slice_set t.shares h.0 0) k)
  freed_shared k = elim (cases_eq k h.0) [
    | inl s ↦ ap (λ j. is_some (name_at names' j)) s ∙ ap is_some name_gone ∙ sym (ap (λ j. nat_lt 0 (share_of (slice_set t.shares h.0 0) j)) s ∙ ap (nat_lt 0) share_gone)
    | inr ne ↦ ap is_some (name_kept k ne) ∙ a.shared k ∙ sym (ap (nat_lt 0) (share_kept k ne))
  ]

  freed_taken : (k : ℕ) → is_taken (place (slice_set t.places h.0 free) k) ≡ is_some (name_at names' k)
  freed_taken k = elim (cases_eq k h.0) [
    | inl s ↦ ap (λ j. is_taken (place (slice_set t.places h.0 free) j)) s ∙ ap is_taken (get_or-set_same t.places h.0 free free below) ∙ sym (ap (λ j. is_some (name_at names' j)) s ∙ ap is_some name_gone)
    | inr ne ↦ ap is_taken (get_or-set_other t.places h.0 k free free ne) ∙ a.is_taken k ∙ sym (ap is_some (name_kept k ne))
  ]

  pub named_of : (k : ℕ) (n : PageName) → name_at names' k ≡ Some n → name_at t.names k ≡ Some n
  named_of k n named = elim (cases_eq k h.0) [
    | inl s ↦ absurd (let z : None ≡ Some n = sym name_gone ∙ ap (name_at names') (sym s) ∙ named in cc z)
    | inr ne ↦ sym (name_kept k ne) ∙ named
  ]

  not_free : (p : HomePlace) → is_taken p ≡ true → ◌≡◌ {A = ℕ} (cond (is_free p) 1 0) 0
  not_free free z = absurd (cc z)
  not_free away z = refl
  not_free (here words) z = refl

  counted_names : count_by is_some names' + 1 ≡ count_by is_some t.names
  counted_names =
      let s = sum_by-set (λ (o : Option PageName). cond (is_some o) 1 0) t.names h.0 None None (omega (arith, below, a.homes, a.named)) in
      let some : ◌≡◌ {A = ℕ} (cond (is_some (name_at t.names h.0)) 1 0) 1 = ap (λ x. cond x 1 0) name_there in
      omega (arith, s, some)

  pub freed_some : 1 ≤ t.taken
  freed_some = omega (arith, a.taken, counted_names)

  freed : t.taken - 1 + free_homes (slice_set t.places h.0 free) ≡ t.limit
  freed =
      let s = sum_by-set (λ (p : HomePlace). cond (is_free p) 1 0) t.places h.0 free free below in
      let old = not_free (place t.places h.0) (a.is_taken h.0 ∙ name_there) in
      omega (arith, s, old, a.free, freed_some)

  freed_named : AreNamed (slice_set t.places h.0 free) names' t.serials (t.taken - 1) t.limit
  freed_named = record {
    homes = length-set t.places h.0 free ∙ a.homes;
    named = length-set t.names h.0 None ∙ a.named;
    is_taken = freed_taken;
    once = λ j k n p q. a.once j k n (named_of j n p) (named_of k n q);
    old = λ k n p. a.old k n (named_of k n p);
    owners = a.owners;
    taken = omega (arith, a.taken, counted_names);
    free = freed;
    few = a.few;
  }

  -- where a file alone named it
  module _ (f : FilePage ℕ) (there : fin.get t.files f ≡ Some h) where
    filed_shares : (k : ℕ) → share_of (slice_set t.shares h.0 0) k ≡ entries_total (points_at k) t.maps + filed_total k (fin.remove t.files f)
    filed_shares k = elim (cases_eq k h.0) [
      | inl s ↦
          let none : entries_total (points_at h.0) t.maps + filed_total h.0 (fin.remove t.files f) ≡ 0 = omega (arith, one, a.shares h.0, filed_less t.files f h h.0 there, at_itself h) in
          ap (share_of (slice_set t.shares h.0 0)) s ∙ share_gone ∙ sym none ∙ ap (λ j. entries_total (points_at j) t.maps + filed_total j (fin.remove t.files f)) (sym s)
      | inr ne ↦ omega (arith, share_kept k ne, a.shares k, filed_less t.files f h k there, at_other k h (λ e. ne (sym e)))
    ]

    pub file_freed_tables : AreTables (file_freed t f h)
    file_freed_tables =
        agreed (file_freed t f h) freed_named
        (record { held = a.held; counted = length-set t.shares h.0 0 ∙ a.counted; shares = filed_shares; filed = filed_without t.files f a.filed; shared = freed_shared })
        a.living (omega (arith, a.room))

module _ (t : Tables) (a : AreTables t) (at : EntryAt) (q e : HeldEntry) (there : held_entry t.maps at ≡ Some q) (page : (l : Link) (b : Access) → e ≡ Follows l b → l.page < SPACE_PAGES) (used : fork_at t.maps at.map ≡ None → e ≡ Empty) where
  le : (k : ℕ) → points_at k q ≤ share_of t.shares k
  le k = omega (arith, a.shares k, total_le (points_at k) t.maps at q refl there)

  living_still : t.living ≡ living_in (with_entry t.maps at e)
  living_still = a.living ∙ sym (living_set t.maps a.held at q e there page used)

  -- the same page is named, or none as before
  pub kept_tables : ((k : ℕ) → points_at k e ≡ points_at k q) → AreTables (entry_kept t at e)
  kept_tables same =
      agreed (entry_kept t at e) (named_in t a)
      (record {
        held = held_set t.maps a.held at q e there page used;
        counted = a.counted;
        shares = λ k. omega (arith, a.shares k, total_with t.maps at e (points_at k) q there, same k);
        filed = a.filed;
        shared = a.shared;
      }) living_still a.room

  module _ (none : (k : ℕ) → points_at k e ≡ 0) where
    -- the page keeps another name
    pub left_tables : ((k : ℕ) → points_at k q ≡ 1 → share_of t.shares k ≢ 1) → AreTables (entry_left t at e)
    left_tables stays =
        agreed (entry_left t at e) (named_in t a)
        (record {
          held = held_set t.maps a.held at q e there page used;
          counted = left_length t.shares (held_entry t.maps at) ∙ a.counted;
          shares = λ k. omega (arith, left k, a.shares k, total_with t.maps at e (points_at k) q there, none k);
          filed = a.filed;
          shared = λ k. a.shared k ∙ positive_same (share_of t.shares k) (share_of (left_shares t.shares (held_entry t.maps at)) k) (back k) (λ z. omega (arith, left k, z));
        }) living_still a.room
      where
        left : (k : ℕ) → share_of (left_shares t.shares (held_entry t.maps at)) k + points_at k q ≡ share_of t.shares k
        left k = ap (λ o. share_of (left_shares t.shares o) k + points_at k q) there ∙ left_is t.shares q le k

        back : (k : ℕ) → share_of (left_shares t.shares (held_entry t.maps at)) k ≡ 0 → share_of t.shares k ≡ 0
        back k z = elim (cases_eq (points_at k q) 1) [
          | inl one ↦ absurd (stays k one (omega (arith, left k, z, one)))
          | inr ne ↦ omega (arith, left k, z, points_most k q, ne)
        ]

    -- the page had no other name
    module _ (h : Home) (b : Access) (is : q ≡ Page h b) (one : share_of t.shares h.0 ≡ 1) where
      abbrev t' : Tables
      t' = home_freed t at h e

      points_h : points_at h.0 q ≡ 1
      points_h = ap (points_at h.0) is ∙ points_self h b

      points_k : (k : ℕ) → k ≢ h.0 → points_at k q ≡ 0
      points_k k ne = ap (points_at k) is ∙ points_other k h b (λ s. ne (sym s))

      shares_are : (k : ℕ) → share_of t'.shares k ≡ entries_total (points_at k) t'.maps + filed_total k t.files
      shares_are k = elim (cases_eq k h.0) [
        | inl s ↦
            let w = total_with t.maps at e (points_at h.0) q there in
            let zero_left : entries_total (points_at h.0) t'.maps + filed_total h.0 t.files ≡ 0 = omega (arith, w, le h.0, one, points_h, none h.0, a.shares h.0) in
            ap (share_of t'.shares) s ∙ share_gone t a h one ∙ sym zero_left ∙ ap (λ j. entries_total (points_at j) t'.maps + filed_total j t.files) (sym s)
        | inr ne ↦ omega (arith, share_kept t a h one k ne, a.shares k, total_with t.maps at e (points_at k) q there, points_k k ne, none k)
      ]

      pub freed_tables : AreTables t'
      freed_tables =
          agreed t' (freed_named t a h one)
          (record { held = held_set t.maps a.held at q e there page used; counted = length-set t.shares h.0 0 ∙ a.counted; shares = shares_are; filed = a.filed; shared = freed_shared t a h one })
          living_still (omega (arith, a.room))

-- where names and words go, and none come, the pages are kept that are still named
module _ (t t' : Tables) (a : AreTables t) (a' : AreTables t') (d : DrumWords) (sized : AreSized t.places d) (sized' : AreSized t'.places d) (names : (k : ℕ) (n : PageName) → name_at t'.names k ≡ Some n → name_at t.names k ≡ Some n)
    (words : (k : ℕ) (n : PageName) → name_at t'.names k ≡ Some n → content t'.places d k ≡ content t.places d k) (serials : t'.serials ≡ t.serials) (limit : t'.limit ≡ t.limit) where
  pub pages_still : AreStill (plain_of t d) (plain_of t' d)
  pages_still = record { objects = λ n. by n (housed t'.names n); page_serials = ap (λ s. s.terminals) serials; console_serial = ap (λ s. s.console) serials; limit = limit }
    where
      by : (n : PageName) → Housed t'.names n → fin.get (plain_of t' d).objects n ≡ cond (nat_lt 0 (uses (plain_of t' d) n)) (fin.get (plain_of t d).objects n) None
      by n (inl r) =
          object_home t' a' d sized' r.0 n r.1 ∙ words r.0 n r.1 ∙ sym (object_home t a d sized r.0 n (names r.0 n r.1))
          ∙ sym (ap (λ b. cond b (fin.get (plain_of t d).objects n) None) (ap (nat_lt 0) (uses_home t' a' d sized' r.0 n r.1) ∙ sym (a'.shared r.0) ∙ ap is_some r.1))
      by n (inr none) = object_gone t' a' d sized' n none ∙ sym (ap (λ b. cond b (fin.get (plain_of t d).objects n) None) (ap (nat_lt 0) (uses_none t' a' d sized' n none)))

  -- an entry was set
  pub told_set : (s : Slot) (x y : MapEntry) → entry_at (plain_of t d).maps s ≡ Some x → maps_held t'.names t'.maps ≡ set_entry (maps_held t.names t.maps) s y → files_held t'.names t'.files ≡ files_held t.names t.files → plain_of t' d ≡ entry_put (plain_of t d) s y
  told_set s x y there maps files =
      let k = put_kept (plain_of t d) (tables_whole t a d sized) s x y there in
      still_same (plain_of t d) (plain_of t' d) (entry_put (plain_of t d) s y) pages_still (still (plain_of t d) (entry_put (plain_of t d) s y) k)
      (maps ∙ sym (entry_maps (plain_of t d) (tables_whole t a d sized) s x y there)) (files ∙ sym k.files)
