-- What laws say of pages of files that are in maps.
use Rattle.std.specs.Prelude.{◌≡◌, ◌≢◌, ◌&&◌, ◌==◌, ℕ, List, [], ◌∷◌, false, None, Some, Ok, find}
use Rattle.machine_names.specs.declared.names.Access.{Access}
use Rattle.machine_names.specs.declared.names.PageName.{PageName}
use Rattle.machine_names.specs.declared.names.Slot.{Slot}
use Rattle.machine_names.specs.declared.names.Tty.{Tty}
use Rattle.machine_names.specs.declared.names.Kind.TheVariants.{Write}
use Rattle.machine_names.specs.Orders.{FilePage}
use Rattle.std.specs.FinMap as map
use Rattle.plain_pages.specs.declared.map.MapEntry.{MapEntry}
use Rattle.plain_pages.specs.PlainPages.{NamedPages}
use Rattle.plain_pages.specs.Maps.{Chain, chain, entry_at}
use Rattle.plain_pages.specs.References.{granted, in_file, in_map, page_at, reference, stored, word_at, words_at}
use Rattle.plain_files.specs.OpenFiles.{OpenFile}
use Rattle.plain_units.specs.Deeds.{in_ac}
use Rattle.plain_model.specs.declared.call.TheConstants.{PMAP}
use Rattle.plain_model.specs.declared.call.MapChange.TheVariants.{Map, Put, Unmap}
use Rattle.plain_model.specs.declared.fork.Fork.{Fork}
use Rattle.plain_model.specs.Families.{asks_maps}
use Rattle.plain_model.specs.Forks.{with_regs}
use Rattle.plain_model.specs.MapCalls.{ALL_ONES, MapAsked, MapPlace, behind_page, is_counted, map_changed, of_fork, pages_left, place_named, places_named}
use Rattle.plain_model.specs.State.{PlainState}
use Rattle.plain_model.specs.Unit.{parts_of}
use Rattle.plain_laws.specs.JfnLaws.{turn_of}

-- a page of a file into the map of a fork, as PMAP does it; out of a map; and the page of a slot into a file
abbrev pub mapped : NamedPages → Slot → FilePage (List ℕ) → Access → NamedPages
mapped p s f a = map_changed (λ name. name) (Map s f.file f.page a) p

abbrev pub unmapped : NamedPages → Slot → NamedPages
unmapped p s = map_changed (λ name. name) (Unmap s) p

abbrev pub put_into : NamedPages → FilePage (List ℕ) → Slot → NamedPages
put_into p f s = map_changed (λ name. name) (Put f.file f.page s) p

-- a slot of a fork that lives
abbrev pub HasEntry : NamedPages → Slot → Type 0
HasEntry p s = (e : MapEntry) × (entry_at p.maps s ≡ Some e)

-- a word goes through a slot: the write is granted, and the word is put into the slot's page of the pages that it leaves
abbrev pub Writes : NamedPages → NamedPages → Tty → Slot → ℕ → ℕ → Type 0
Writes p q owner s offset word = (r : NamedPages) × (reference p (in_map s) Write owner ≡ granted r) × (q ≡ stored r (in_map s) offset word)

-- so go words one after the other, each at its offset
abbrev pub WritesAll : NamedPages → NamedPages → Tty → Slot → List (ℕ × ℕ) → Type 0
WritesAll p q owner s [] = q ≡ p
WritesAll p q owner s (w ∷ ws) = (r : NamedPages) × Writes p r owner s w.0 w.1 × WritesAll r q owner s ws

-- a slot shares a page of a file: its chain has no copy mark, and ends at the page that the file names
pub record Shares (p : NamedPages) (s : Slot) (f : FilePage (List ℕ)) : Type 0 where
  pub way : Chain
  pub is : chain (entry_at p.maps) s ≡ Some way
  pub unmarked : find (λ l. l.access.c) way.links ≡ None
  pub page : PageName
  pub ends : way.page ≡ Some page
  pub filed : map.get p.files f ≡ Some page

-- a page of a file has a word at an offset; its other words are as they were, and so are the words of each page of a file that is
-- another page, and which pages files name
pub record TakesWord (old new : NamedPages) (f : FilePage (List ℕ)) (offset word : ℕ) : Type 0 where
  pub put : word_at new (in_file f) offset ≡ word
  pub kept : (at : ℕ) → at ≢ offset → word_at new (in_file f) at ≡ word_at old (in_file f) at
  pub files : new.files ≡ old.files
  pub others : (g : FilePage (List ℕ)) → page_at old (in_file g) ≢ page_at old (in_file f) → words_at new (in_file g) ≡ words_at old (in_file g)

-- a page of a file is the page that it was, with the words that it had
abbrev pub KeepsPage : NamedPages → NamedPages → FilePage (List ℕ) → Type 0
KeepsPage old new f = (page_at new (in_file f) ≡ page_at old (in_file f)) × (words_at new (in_file f) ≡ words_at old (in_file f))

-- two slots and a page of a file name one page, which has the words that it had
pub record IsOne (old new : NamedPages) (n : PageName) (s t : Slot) (f : FilePage (List ℕ)) : Type 0 where
  pub from : page_at new (in_map s) ≡ Some n
  pub to : page_at new (in_map t) ≡ Some n
  pub file : page_at new (in_file f) ≡ Some n
  pub words : map.get new.objects n ≡ map.get old.objects n

-- what a fork asks that calls PMAP
abbrev pub pmap_asked : PlainState → Fork → MapAsked
pmap_asked s f = asks_maps (parts_of s) f.name f.body.regs

-- PMAP has a page to go over: it counts none, or one is left
abbrev pub GoesOver : Fork → Type 0
GoesOver f = (is_counted f.body.regs && (pages_left f.body.regs == 0)) ≡ false

-- accumulators 1 and 2 name a source and a destination
abbrev pub NamesPlaces : PlainState → Fork → MapPlace → MapPlace → Type 0
NamesPlaces s f from to = places_named (pmap_asked s f) ≡ Ok (from, to)

-- accumulator 1 is all ones, and accumulator 2 names a page of a fork
abbrev pub NamesNone : PlainState → Fork → Slot → Type 0
NamesNone s f to = (in_ac f.body.regs 1 ≡ ALL_ONES) × (place_named (pmap_asked s f) 2 ≡ Ok (of_fork to))

-- a page of the file of a JFN
abbrev pub page_of : OpenFile → ℕ → FilePage (List ℕ)
page_of j page = record { file = j.file; page = page }

-- PMAP has gone over a page and leaves these pages: of all else its fork's registers alone are others, those behind one page
abbrev pub LeavesPages : PlainState → Fork → NamedPages → Type 0
LeavesPages s f q = turn_of s f PMAP ≡ record { parts = record (parts_of s) { pages = q }; caller = Some (with_regs f (behind_page f.body.regs)); out = None }
