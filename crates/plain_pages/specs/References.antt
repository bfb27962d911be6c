-- References to pages: what they make, and what they leave.
use Rattle.std.specs.Prelude.{ℕ, ◌+◌, ◌/◌, List, [], ◌∷◌, ◌++◌, Option, None, Some, is_some, if◌then◌else◌, ◌==◌, slice_get, slice_index, slice_set, find}
use Rattle.std.specs.List.{list_all, filter_map}
use Rattle.std.specs.Option.{option_map_or, option_and_then, unwrap_or}
use Rattle.std.specs.declared.cmp.Ordering.{Ordering}
use Rattle.std.specs.FinMap as map
use Rattle.outside.specs.declared.TheConstants.{PAGE_WORDS}
use Rattle.machine_names.specs.declared.names.Tty.{Tty}
use Rattle.machine_names.specs.declared.names.ForkName.{ForkName}
use Rattle.machine_names.specs.declared.names.Slot.{Slot}
use Rattle.machine_names.specs.declared.names.Access.{Access}
use Rattle.machine_names.specs.declared.names.PageName.{PageName}
use Rattle.machine_names.specs.declared.names.Kind.{Kind}
use Rattle.machine_names.specs.declared.names.Kind.TheVariants.{Write}
use Rattle.plain_pages.specs.declared.map.MapEntry.{MapEntry}
use Rattle.plain_pages.specs.declared.map.MapEntry.TheVariants.{Names}
use Rattle.machine_names.specs.Orders.{FilePage}
use Rattle.plain_pages.specs.PlainPages.{PlainPages, is_console, page_serial}
use Rattle.plain_pages.specs.Maps.{Link, Chain, chain, entry_at, set_entry, permits, full_access}
use Rattle.plain_pages.specs.Room.{HasRoom, page_in, uses}
use Rattle.machine_names.specs.PageWords.{zero_words}

-- the slot of a fork in which an address stands
abbrev pub slot_at : ForkName → ℕ → Slot
slot_at f address = record { fork = f; page = address / PAGE_WORDS }

-- where a page may be named: in an entry of a map, or in a file
pub data Spot (K : Type 0) : Type 0 where
  in_map : Slot → Spot K
  in_file : FilePage K → Spot K

-- a page that is made: a zero page named at a spot, or in a slot, with this access, a copy of the page at its chain's end
pub data Making (K : Type 0) : Type 0 where
  blank : Spot K → Making K
  copy : Slot → Access → Making K

-- the zero page that any reference makes where a chain ends in an empty entry
abbrev pub blanks : {K : Type 0} → Chain → List (Making K)
blanks c = if is_some c.page then [] else blank (in_map c.end) ∷ []

-- a private copy may be executed where the whole chain may
abbrev pub private_access : Chain → Access
private_access c = record full_access { x = list_all (λ l. l.access.x) c.links }

-- the copy in the slot of a marked entry, where a chain has one
abbrev pub copy_in : {K : Type 0} → Chain → Option Link → List (Making K)
copy_in c marked = option_map_or (λ l. copy l.slot (private_access c) ∷ []) marked []

-- the copy that a write makes in the first slot with the copy mark
abbrev pub copies : {K : Type 0} → Kind → Chain → List (Making K)
copies Write c = copy_in c (find (λ l. l.access.c) c.links)
copies kind c = []

-- what a reference makes along a chain, in order; none is made, nor granted, where the chain does not permit it
abbrev pub along_chain : {K : Type 0} → Kind → Chain → Option (List (Making K))
along_chain kind c = if permits kind c then Some (blanks c ++ copies kind c) else None

-- what it makes in a file, which permits it but where no page is there to read
abbrev pub in_its_file : {K : Type 0} → Kind → FilePage K → Option PageName → Option (List (Making K))
in_its_file kind f (Some n) = Some []
in_its_file Write f None = Some (blank (in_file f) ∷ [])
in_its_file kind f None = None

-- what a reference comes to: the pages that it leaves, or why it makes nothing
pub data Referred {K : Type 0} (file_cmp : K → K → Ordering) : Type 0 where
  granted : PlainPages file_cmp → Referred file_cmp
  denied : Kind → Referred file_cmp
  full : Referred file_cmp

module _ {K : Type 0} {file_cmp : K → K → Ordering} where
  -- the page that is named at a spot: that of its file, or at the end of its chain
  unfoldable pub page_at : PlainPages file_cmp → Spot K → Option PageName
  page_at p (in_map s) = option_and_then (λ c. c.page) (chain (entry_at p.maps) s)
  page_at p (in_file f) = map.get p.files f

  -- what a reference of a kind makes, in order; there is no list where it is denied
  unfoldable pub makings : PlainPages file_cmp → Spot K → Kind → Option (List (Making K))
  makings p (in_map s) kind = option_and_then (along_chain kind) (chain (entry_at p.maps) s)
  makings p (in_file f) kind = in_its_file kind f (map.get p.files f)

  -- the words of a page
  abbrev pub words_of : PlainPages file_cmp → PageName → List ℕ
  words_of p n = unwrap_or (map.get p.objects n) zero_words

  -- the words of the page that is named at a spot, and zeros where there is none
  abbrev pub words_at : PlainPages file_cmp → Spot K → List ℕ
  words_at p at = option_map_or (words_of p) (page_at p at) zero_words

  -- the name of the next page of an owner
  abbrev pub next_page : PlainPages file_cmp → Tty → PageName
  next_page p owner = record { tty = owner; serial = page_serial p owner }

  -- a page named at a spot: by the entry of a slot, or by a file
  abbrev pub name_page : PlainPages file_cmp → Spot K → PageName → Access → PlainPages file_cmp
  name_page p (in_map s) n access = record p { maps = set_entry p.maps s (Names n access) }
  name_page p (in_file f) n access = record p { files = map.insert p.files f n }

  -- a new page of an owner with these words, named at a spot; the owner's serial goes on by one
  abbrev pub new_page : PlainPages file_cmp → Tty → Spot K → Access → List ℕ → PlainPages file_cmp
  new_page p owner at access words = let n = next_page p owner in record (name_page p at n access) {
    objects = map.insert p.objects n words;
    page_serials = if is_console owner then p.page_serials else slice_set p.page_serials owner.0 (n.serial + 1);
    console_serial = if is_console owner then n.serial + 1 else p.console_serial;
  }

  -- a page that nothing names is dropped
  abbrev pub drop_unnamed : PlainPages file_cmp → PageName → PlainPages file_cmp
  drop_unnamed p n = if uses p n == 0 then record p { objects = map.remove p.objects n } else p

  -- the pages with another entry in a slot, which is there; a page that loses its last name is dropped
  unfoldable pub with_entry : PlainPages file_cmp → Slot → MapEntry → PlainPages file_cmp
  with_entry p s e = let q = record p { maps = set_entry p.maps s e } in option_map_or (drop_unnamed q) (option_and_then page_in (entry_at p.maps s)) q

  -- the pages with the entry of a slot changed, where there is one
  abbrev pub with_changed : PlainPages file_cmp → Slot → (MapEntry → MapEntry) → PlainPages file_cmp
  with_changed p s change = option_map_or (λ e. with_entry p s (change e)) (entry_at p.maps s) p

  -- of these pages those are dropped that nothing names
  abbrev pub drop_all_unnamed : PlainPages file_cmp → List PageName → PlainPages file_cmp
  drop_all_unnamed p [] = p
  drop_all_unnamed p (n ∷ ns) = drop_all_unnamed (drop_unnamed p n) ns

  -- the pages that the map of a fork names, each as often as it is named there
  abbrev pub names_in : PlainPages file_cmp → ForkName → List PageName
  names_in p f = option_map_or (filter_map page_in) (map.get p.maps f) []

  -- the pages without the map of a fork; those that lose their last name are dropped
  unfoldable pub without_fork : PlainPages file_cmp → ForkName → PlainPages file_cmp
  without_fork p f = drop_all_unnamed (record p { maps = map.remove p.maps f }) (names_in p f)

  -- the pages without one from which a page was copied, if that took its last name
  abbrev pub drop_copied : PlainPages file_cmp → Option PageName → PlainPages file_cmp
  drop_copied p n = option_map_or (drop_unnamed p) n p

  -- the pages with one page more of an owner; a copy may take the last name of the old page
  unfoldable pub make : PlainPages file_cmp → Tty → Making K → PlainPages file_cmp
  make p owner (blank at) = new_page p owner at full_access zero_words
  make p owner (copy s access) = drop_copied (new_page p owner (in_map s) access (words_at p (in_map s))) (page_at p (in_map s))

  -- makings in order, each on the pages that those before leave, and each asking for room
  unfoldable pub make_all : PlainPages file_cmp → Tty → List (Making K) → Referred file_cmp
  make_all p owner [] = granted p
  make_all p owner (m ∷ ms) = let q = make p owner m in if HasRoom q owner then make_all q owner ms else full

  -- a reference of a kind to a spot, for an owner of what it makes
  unfoldable pub reference : PlainPages file_cmp → Spot K → Kind → Tty → Referred file_cmp
  reference p at kind owner = option_map_or (make_all p owner) (makings p at kind) (denied kind)

  -- the first page that a reference makes
  abbrev pub next_making : PlainPages file_cmp → Spot K → Kind → Option (Making K)
  next_making p at kind = option_and_then (λ ms. slice_get ms 0) (makings p at kind)

  -- the pages with this one page made
  unfoldable pub settled : PlainPages file_cmp → Spot K → Kind → Tty → PlainPages file_cmp
  settled p at kind owner = option_map_or (make p owner) (next_making p at kind) p

  -- the word at an offset of a spot's page; 0 where no page is named
  abbrev pub word_at : PlainPages file_cmp → Spot K → ℕ → ℕ
  word_at p at offset = slice_index (words_at p at) offset

  -- a page with a word at an offset
  abbrev pub with_word : PlainPages file_cmp → ℕ → ℕ → PageName → PlainPages file_cmp
  with_word p offset word n = record p { objects = map.insert p.objects n (slice_set (words_of p n) offset word) }

  -- the pages with a word at an offset of a spot's page
  abbrev pub stored : PlainPages file_cmp → Spot K → ℕ → ℕ → PlainPages file_cmp
  stored p at offset word = option_map_or (with_word p offset word) (page_at p at) p
