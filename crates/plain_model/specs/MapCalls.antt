-- The calls on maps (JSYS Manual): PMAP, RPACS, SPACS, RMAP.
use Rattle.std.specs.Prelude.{ℕ, ◌+◌, ◌-◌, ◌%◌, ◌^◌, List, [], ◌∷◌, Bool, true, false, not, ◌&&◌, ◌||◌, nat_lt, ◌==◌, if◌then◌else◌, Option, None, is_some, Result, Ok, Err}
use Rattle.std.specs.Option.{option_map_or}
use Rattle.std.specs.declared.cmp.Ordering.{Ordering}
use Rattle.std.specs.FinMap as map
use Rattle.word36.specs.Words.{left, right, joined, bit}
use Rattle.plain_model.specs.declared.call.TheConstants.{PMAP, RPACS, SPACS, RMAP, FORK_SELF, NO_HANDLE, NO_JFN, NOT_OPEN, BAD_PAGE, NO_PAGE, FILE_TO_FILE}
use Rattle.plain_model.specs.declared.call.End.{End}
use Rattle.plain_model.specs.declared.call.End.TheVariants.{Done, Refused}
use Rattle.plain_model.specs.declared.call.MapChange.{MapChange}
use Rattle.plain_model.specs.declared.call.MapChange.TheVariants.{Nothing, Unmap, Follow, Narrow, Map, Put, Drop}
use Rattle.machine_names.specs.declared.names.TheConstants.{SPACE_PAGES}
use Rattle.machine_names.specs.declared.names.ForkName.{ForkName}
use Rattle.machine_names.specs.declared.names.PageName.{PageName}
use Rattle.machine_names.specs.declared.names.Slot.{Slot}
use Rattle.machine_names.specs.declared.names.Access.{Access}
use Rattle.plain_pages.specs.declared.map.MapEntry.{MapEntry}
use Rattle.plain_pages.specs.declared.map.MapEntry.TheVariants as entry
use Rattle.plain_units.specs.declared.registers.Regs.{Regs}
use Rattle.plain_pages.specs.PlainPages.{PlainPages}
use Rattle.plain_pages.specs.Maps.{narrow}
use Rattle.plain_pages.specs.References.{Spot, in_map, in_file, with_changed, page_at}
use Rattle.plain_pages.specs.FilePages.{filed_from, with_file}
use Rattle.machine_names.specs.Orders.{FilePage}
use Rattle.machine_names.specs.declared.names.Kind.TheVariants.{Read, Write}
use Rattle.plain_files.specs.OpenFiles.{OpenFile, OpenFiles}
use Rattle.plain_model.specs.Trees.{PlainTree}
use Rattle.plain_model.specs.Forks.{ForkMap}
use Rattle.plain_units.specs.Deeds.{in_ac}
use Rattle.plain_model.specs.Handles.{named}
use Rattle.plain_model.specs.AccessWords.{access_in, access_told, access_word, bit_word}
use Rattle.plain_model.specs.Calls.{Turn, sees, finds, touches, ends, behind_call, with_ac, and_then, if_granted, returning, given, numbered}

-- a word of all ones: it names no page
abbrev pub ALL_ONES : ℕ
ALL_ONES = 2 ^ 36 - 1

-- an answer about a word whose right half is to be the number of a page
abbrev pub on_page : {A : Type 0} → ℕ → Result A ℕ → Result A ℕ
on_page word r = if nat_lt (right word) SPACE_PAGES then r else Err BAD_PAGE

-- the page that a word names for a caller, by a handle in its left half
unfoldable pub slot_of : ForkMap → ForkName → ℕ → Result Slot ℕ
slot_of forks who word = option_map_or (λ f. Ok (record { fork = f.name; page = right word })) (named forks who (left word)) (Err NO_HANDLE)

-- who calls, with which registers, among which forks, and with which JFNs
pub record MapAsked : Type 0 where
  pub who : ForkName
  pub regs : Regs
  pub tree : PlainTree
  pub held : OpenFiles

-- a page of a fork's space, or of the file of a JFN
pub data MapPlace : Type 0 where
  of_fork : Slot → MapPlace
  of_file : OpenFile → ℕ → MapPlace

-- the page that a word names for a caller, by a JFN or a handle in its left half
unfoldable pub place_of : MapAsked → ℕ → Result MapPlace ℕ
place_of a word =
    if nat_lt (left word) FORK_SELF then option_map_or (λ j. Ok (of_file j (right word))) (map.get a.held (left word)) (Err NO_JFN)
    else and_then (slot_of a.tree.forks a.who word) (λ slot. Ok (of_fork slot))

-- the page of a fork or file that an accumulator names, and the page of a fork that accumulator 1 names
abbrev pub place_named : MapAsked → ℕ → Result MapPlace ℕ
place_named a n = on_page (in_ac a.regs n) (place_of a (in_ac a.regs n))

abbrev pub slot_named : MapAsked → Result Slot ℕ
slot_named a = on_page (in_ac a.regs 1) (slot_of a.tree.forks a.who (in_ac a.regs 1))

-- a page of the file of a JFN
abbrev pub file_spot : OpenFile → ℕ → Spot (List ℕ)
file_spot j page = in_file (record { file = j.file; page = page })

-- accumulator 2 becomes the access of a page, and the call is done
abbrev pub tells_access : Regs → MapEntry → Option PageName → End MapChange
tells_access regs e page = returning Nothing (with_ac regs 2 (access_told e page))

-- a page of a file that is there may be read and written
abbrev pub file_access : Option PageName → ℕ
file_access page = if is_some page then access_word (record { r = true; w = true; x = false; c = false }) + bit_word true 5 else 0

-- the access is told of a place
abbrev pub access_at : Regs → MapPlace → Turn (List ℕ) MapChange
access_at regs (of_fork slot) = sees slot (λ e. finds (in_map slot) (λ page. ends (tells_access regs e page)))
access_at regs (of_file j page) = finds (file_spot j page) (λ n. ends (returning Nothing (with_ac regs 2 (file_access n))))

-- RPACS: the access is told of the page that accumulator 1 names
abbrev pub rpacs : MapAsked → Turn (List ℕ) MapChange
rpacs a = given (place_named a 1) (access_at a.regs)

-- there is nothing to narrow in an empty entry
abbrev pub narrows : Slot → Access → Regs → MapEntry → End MapChange
narrows slot access regs entry.Empty = Refused NO_PAGE
narrows slot access regs e = returning (Narrow slot access) regs

-- SPACS: the page that accumulator 1 names keeps of its access what accumulator 2 has too, and gets the copy mark with it
abbrev pub spacs : MapAsked → Turn (List ℕ) MapChange
spacs a = given (slot_named a) (λ slot. sees slot (λ e. ends (narrows slot (access_in (in_ac a.regs 2)) a.regs e)))

-- the handle and the page that the entry of a slot follows, where that fork lives, and else all ones
abbrev pub source_of : ForkMap → Slot → MapEntry → ℕ
source_of forks slot (entry.Follows serial page a) = option_map_or (λ f. joined (FORK_SELF + f.slot) page) (map.get forks (record { tty = slot.fork.tty; serial = serial })) ALL_ONES
source_of forks slot e = ALL_ONES

-- RMAP: accumulator 1 becomes what the page follows that it names, and the access of that page is told
abbrev pub rmap : MapAsked → Turn (List ℕ) MapChange
rmap a = given (slot_named a) (λ slot. sees slot (λ e. finds (in_map slot) (λ page. ends (tells_access (with_ac a.regs 1 (source_of a.tree.forks slot e)) e page))))

-- PMAP goes over pages where bit 0 of accumulator 3 is 1: as many as its right half says
abbrev pub is_counted : Regs → Bool
is_counted regs = bit (in_ac regs 3) 0 == 1

abbrev pub pages_left : Regs → ℕ
pages_left regs = right (in_ac regs 3)

-- a source of all ones stays; any other goes on to the next page
abbrev pub next_source : ℕ → ℕ
next_source word = if word == ALL_ONES then word else (word + 1) % 2 ^ 36

-- the registers of PMAP for the page behind this one
abbrev pub on_next_page : Regs → Regs
on_next_page regs = with_ac (with_ac (with_ac regs 1 (next_source (in_ac regs 1))) 2 ((in_ac regs 2 + 1) % 2 ^ 36)) 3 (in_ac regs 3 - 1)

-- the registers behind one page of PMAP: the call is done where no page is left, and else the program counter stays on it
unfoldable pub behind_page : Regs → Regs
behind_page regs = let next = on_next_page regs in
    if is_counted regs then (if pages_left next == 0 then behind_call next else next) else behind_call regs

-- a change is made of one page, and the call goes on to the next or is done
abbrev pub maps : MapAsked → MapChange → End MapChange
maps a change = Done change (behind_page a.regs) None None

-- the access in accumulator 3
abbrev pub access_wanted : MapAsked → Access
access_wanted a = access_in (in_ac a.regs 3)

-- whether the file of a JFN is open to be read, and to be written
abbrev pub is_read : OpenFile → Bool
is_read j = option_map_or (λ m. m.r) j.mode false

abbrev pub is_written : OpenFile → Bool
is_written j = option_map_or (λ m. m.w) j.mode false

-- whether the file of a JFN is open for an access to its pages: a page that is to be copied first isn't written itself
abbrev pub allows : OpenFile → Access → Bool
allows j a = (not (a.r || a.x || a.c) || is_read j) && (not (a.w && not a.c) || is_written j)

-- the page of a file is made for whoever calls
abbrev pub makes_page : MapAsked → OpenFile → ℕ → End MapChange → Turn (List ℕ) MapChange
makes_page a j page e = touches a.who.tty (file_spot j page) Write (λ what. ends (if_granted e what))

-- a page of a file into a map: the entry names it; one that isn't there is made where the file is open to be written
abbrev pub from_file : MapAsked → OpenFile → ℕ → Slot → Turn (List ℕ) MapChange
from_file a j page to = let e = maps a (Map to j.file page (access_wanted a)) in
    if allows j (access_wanted a) then finds (file_spot j page) (λ n. if is_some n then ends e else (if is_written j then makes_page a j page e else ends (Refused NO_PAGE)))
    else ends (Refused NOT_OPEN)

-- a page of a fork into a file: the page at the chain's end, which may be read
abbrev pub into_file : MapAsked → Slot → OpenFile → ℕ → Turn (List ℕ) MapChange
into_file a from j page =
    if is_written j then finds (in_map from) (λ n.
    if is_some n then touches a.who.tty (in_map from) Read (λ what. ends (if_granted (maps a (Put j.file page from)) what)) else ends (Refused NO_PAGE))
    else ends (Refused NOT_OPEN)

-- one place is mapped into another
abbrev pub mapping_into : MapAsked → MapPlace → MapPlace → Turn (List ℕ) MapChange
mapping_into a (of_fork from) (of_fork to) = ends (maps a (Follow to from (access_wanted a)))
mapping_into a (of_file j page) (of_fork to) = from_file a j page to
mapping_into a (of_fork from) (of_file j page) = into_file a from j page
mapping_into a (of_file i p) (of_file j q) = ends (Refused FILE_TO_FILE)

-- a place has no page any more
abbrev pub unmapping : MapAsked → MapPlace → Turn (List ℕ) MapChange
unmapping a (of_fork to) = ends (maps a (Unmap to))
unmapping a (of_file j page) = if is_written j then ends (maps a (Drop j.file page)) else ends (Refused NOT_OPEN)

-- the places that accumulators 1 and 2 name; both numbers are to be those of pages
abbrev pub places_named : MapAsked → Result (MapPlace × MapPlace) ℕ
places_named a = on_page (in_ac a.regs 1) (on_page (in_ac a.regs 2)
    (and_then (place_of a (in_ac a.regs 1)) (λ from. and_then (place_of a (in_ac a.regs 2)) (λ to. Ok (from, to)))))

-- what PMAP does with one page: a source of all ones takes the destination's page away
unfoldable pub one_page : MapAsked → Turn (List ℕ) MapChange
one_page a = if in_ac a.regs 1 == ALL_ONES then given (place_named a 2) (unmapping a) else given (places_named a) (λ p. mapping_into a p.0 p.1)

-- PMAP: one page is mapped or taken away; where it counts pages and none is left, nothing is asked or done
abbrev pub pmap : MapAsked → Turn (List ℕ) MapChange
pmap a = if is_counted a.regs && (pages_left a.regs == 0) then ends (returning Nothing a.regs) else one_page a

-- the calls on maps by their numbers
abbrev pub map_calls : List (ℕ × (MapAsked → Turn (List ℕ) MapChange))
map_calls = (PMAP, pmap) ∷ (RPACS, rpacs) ∷ (SPACS, spacs) ∷ (RMAP, rmap) ∷ []

-- a turn of a call on maps by its number
abbrev pub map_call : ℕ → MapAsked → Turn (List ℕ) MapChange
map_call number a = numbered map_calls number a

-- the entry that names a page of a file, where that has the page
abbrev pub entry_for : Access → MapEntry → Option PageName → MapEntry
entry_for a e page = option_map_or (λ n. entry.Names n a) page e

-- a page of the file of a name, under the file's key
abbrev pub keyed : {K : Type 0} → (List ℕ → K) → List ℕ → ℕ → FilePage K
keyed key_of name page = record { file = key_of name; page = page }

module _ {K : Type 0} {file_cmp : K → K → Ordering} (key_of : List ℕ → K) where
  -- what a change of a call on maps leaves
  unfoldable pub map_changed : MapChange → PlainPages file_cmp → PlainPages file_cmp
  map_changed Nothing p = p
  map_changed (Unmap slot) p = with_changed p slot (λ e. entry.Empty)
  map_changed (Follow slot other access) p = with_changed p slot (λ e. entry.Follows other.fork.serial other.page access)
  map_changed (Narrow slot access) p = with_changed p slot (narrow access)
  map_changed (Map slot name page access) p = with_changed p slot (λ e. entry_for access e (map.get p.files (keyed key_of name page)))
  map_changed (Put name page slot) p = with_file p (keyed key_of name page) (page_at p (in_map slot))
  map_changed (Drop name page) p = with_file p (keyed key_of name page) None
