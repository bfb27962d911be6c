-- The entries that references will change, and the pages with these changes beside those before them.
use Rattle.std.specs.Prelude.{◌≡◌, ℕ, ◌+◌, ◌≤◌, ◌==◌, List, [], ◌∷◌, Bool, true, false, ◌&&◌, nat_lt, if◌then◌else◌, is_some, Option, None, Some}
use Rattle.std.specs.List.{count_by, list_all}
use Rattle.std.specs.Option.{option_map_or, option_or}
use Rattle.std.specs.FinMap as map
use Rattle.machine_names.specs.declared.names.Tty.{Tty}
use Rattle.machine_names.specs.declared.names.Slot.{Slot}
use Rattle.machine_names.specs.declared.names.PageName.{PageName}
use Rattle.plain_pages.specs.declared.map.MapEntry.TheVariants.{Names}
use Rattle.machine_names.specs.declared.names.TheConstants.{SPACE_PAGES}
use Rattle.plain_pages.specs.PlainPages.{NumberedPages, page_serial}
use Rattle.plain_pages.specs.Maps.{entry_at}
use Rattle.plain_pages.specs.Room.{FitsLimit, live, same_page, uses}
use Rattle.plain_pages.specs.References.{in_map, words_of, words_at}
use Rattle.machine_names.specs.PageWords.{zero_words}
use Rattle.machine_names.specs.Orders.{same_fork}
use Rattle.plain_pages.specs.WholePages.{AreWhole}
use Rattle.page_gather.specs.declared.change.Change.{Change}

abbrev pub same_slot : Slot → Slot → Bool
same_slot s t = same_fork s.fork t.fork && (s.page == t.page)

-- the last change of a slot
abbrev pub change_of : List Change → Slot → Option Change
change_of [] s = None
change_of (c ∷ cs) s = option_or (change_of cs s) (if same_slot c.slot s then Some c else None)

-- how many names of a page the changes take
abbrev pub taken_names : PageName → List Change → ℕ
taken_names x cs = count_by (λ c. option_map_or (same_page x) c.old false) cs

-- the slot in which the words stand, before the changes, that stand under a slot after them; None: zeros
abbrev pub source_of : List Change → Slot → Option Slot
source_of cs s = option_map_or (λ c. c.source) (change_of cs s) (Some s)

-- the words of a source
abbrev pub source_words : NumberedPages → Option Slot → List ℕ
source_words p source = option_map_or (λ s. words_at p (in_map s)) source zero_words

-- a slot that was changed names a page that was not there before, by this entry alone, with the words of its source
pub record NamesNew (p q : NumberedPages) (s : Slot) (c : Change) : Type 0 where
  pub name : PageName
  pub there : entry_at q.maps s ≡ Some (Names name c.access)
  pub unmarked : c.access.c ≡ false
  pub fresh : map.contains_key p.objects name ≡ false
  pub once : uses q name ≡ 1
  pub words : words_of q name ≡ source_words p c.source

abbrev pub IsChanged : NumberedPages → NumberedPages → Slot → Option Change → Type 0
IsChanged p q s None = entry_at q.maps s ≡ entry_at p.maps s
IsChanged p q s (Some c) = NamesNew p q s c

-- The pages after makings of an owner, which changed these entries and took so many homes, beside those before.
pub record AreChanged (p q : NumberedPages) (owner : Tty) (cs : List Change) (homes : ℕ) : Type 0 where
  pub slots : (s : Slot) → IsChanged p q s (change_of cs s)
  pub there : (s : Slot) → is_some (entry_at q.maps s) ≡ is_some (entry_at p.maps s)
  pub count : live q ≡ live p + homes
  pub limit : q.limit ≡ p.limit
  pub room : FitsLimit q
  pub whole : AreWhole q
  pub names : (x : PageName) → map.contains_key p.objects x ≡ true → uses q x + taken_names x cs ≡ uses p x
  pub later : page_serial p owner ≤ page_serial q owner
  pub kept : (x : PageName) → map.contains_key p.objects x ≡ true → map.contains_key q.objects x ≡ true → map.get q.objects x ≡ map.get p.objects x
  pub still : cs ≡ [] → q ≡ p

-- the slot of a source is a page of a space
abbrev pub is_in_space : Option Slot → Bool
is_in_space source = option_map_or (λ s. nat_lt s.page SPACE_PAGES) source true

abbrev pub are_in_space : List Change → Bool
are_in_space cs = list_all (λ c. is_in_space c.source) cs
