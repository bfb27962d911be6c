-- What a turn is told by pages of which some may be in no frame: what is so, or what it needs first.
use Rattle.std.specs.Prelude.{ℕ, zero, suc, Option, None, Some, Result, Ok, Err}
use Rattle.std.specs.Option.{option_map, option_map_or, option_or, option_and_then}
use Rattle.machine_names.specs.declared.names.PageName.{PageName}
use Rattle.machine_names.specs.declared.names.Slot.{Slot}
use Rattle.machine_names.specs.declared.names.Tty.{Tty}
use Rattle.machine_names.specs.declared.names.Kind.{Kind}
use Rattle.machine_names.specs.Orders.{file_page}
use Rattle.page_contracts.specs.declared.answers.Touch.{Touch}
use Rattle.page_contracts.specs.declared.answers.Touch.TheVariants.{Absent, NeedFrame}
use Rattle.plain_pages.specs.declared.map.MapEntry.{MapEntry}
use Rattle.plain_pages.specs.declared.map.MapEntry.TheVariants.{Follows}
use Rattle.page_contracts.specs.declared.answers.Need.{Need}
use Rattle.page_contracts.specs.declared.answers.Need.TheVariants as need
use Rattle.plain_pages.specs.PlainPages.{NumberedPages}
use Rattle.plain_pages.specs.Maps.{Entries, chain_within, entry_at, followed}
use Rattle.plain_pages.specs.References.{Spot, in_map, in_file, page_at, word_at}
use Rattle.page_contracts.specs.Pages.{Scene, page_away, touch_of}
use Rattle.plain_model.specs.Calls.{Turn, sees, finds, reads, touches, looks, makes, Sight, spot_of, entry_of}
use Rattle.call_turns.specs.declared.turn.Ask.{Ask}
use Rattle.call_turns.specs.declared.turn.Ask.TheVariants.{Sees, Finds, FindsFile, ReadsFile}
use Rattle.call_turns.specs.declared.turn.Told.{Told}
use Rattle.call_turns.specs.declared.turn.Told.TheVariants.{Entry, Page, Word as AWord}

-- what is so is told, unless something is needed first
abbrev pub told : {A : Type 0} → Option Need → A → Result A Need
told (Some n) is = Err n
told None is = Ok is

-- a look at the entry of a slot needs the map of its fork, where that lives and its map stands at a home, in no frame
abbrev pub entry_need : Scene → NumberedPages → Slot → Option Need
entry_need scene p s = option_and_then (λ e. option_map (λ home. need.Page (record { 0 = home })) (scene.map_away s.fork)) (entry_at p.maps s)

-- what a look behind an entry needs
abbrev pub need_behind : Slot → MapEntry → (Slot → Option Need) → Option Need
need_behind s (Follows serial page a) next = next (followed s serial page)
need_behind s e next = None

-- a look along a chain needs the first map on the way that is in no frame, where so many entries are looked at
abbrev pub way_need : ℕ → Scene → NumberedPages → Slot → Option Need
way_need zero scene p s = None
way_need (suc n) scene p s = option_or (entry_need scene p s) (need_behind s (entry_of p s) (way_need n scene p))

-- the page at the end of a chain, where so many links are enough
abbrev pub page_within : ℕ → Entries → Slot → Option PageName
page_within n entries s = option_and_then (λ c. c.page) (chain_within n entries s)

-- what is told of that page
abbrev pub page_told : ℕ → Scene → NumberedPages → Slot → Result (Option PageName) Need
page_told n scene p s = told (way_need n scene p s) (page_within n (entry_at p.maps) s)

-- what is so of what is asked
abbrev pub told_of : NumberedPages → Ask → Told
told_of p (Sees s) = Entry (entry_of p s)
told_of p (Finds s) = Page (page_at p (in_map s))
told_of p (FindsFile f page) = Page (page_at p (in_file (file_page f.0 page)))
told_of p (ReadsFile f page offset) = AWord (word_at p (in_file (file_page f.0 page)) offset)

-- what a look for a page needs: what a file names is told whatever is in frames
abbrev pub find_need : Scene → NumberedPages → Option (Spot ℕ) → Option Need
find_need scene p (Some (in_map s)) = way_need 4 scene p s
find_need scene p (Some (in_file f)) = None
find_need scene p None = None

-- a look at a word needs the page that has it, where that is in no frame
abbrev pub page_need : Scene → NumberedPages → Spot ℕ → Option Need
page_need scene p at = option_map (λ home. need.Page (record { 0 = home })) (page_away p scene at)

-- what a look at a word of a file's page needs, where there is such a file
abbrev pub word_need : Scene → NumberedPages → Option (Spot ℕ) → Option Need
word_need scene p at = option_and_then (page_need scene p) at

-- what is needed to tell what is asked
abbrev pub ask_need : Scene → NumberedPages → Ask → Option Need
ask_need scene p (Sees s) = entry_need scene p s
ask_need scene p (Finds s) = way_need 4 scene p s
ask_need scene p (FindsFile f page) = None
ask_need scene p (ReadsFile f page offset) = page_need scene p (in_file (file_page f.0 page))

-- what a reference needs that a touch answers
abbrev pub need_in : Touch → Option Need
need_in (Absent home) = Some (need.Page home)
need_in NeedFrame = Some need.Frame
need_in t = None

-- a reference that makes one page at most needs a map on its way, its page, or a frame
abbrev pub touch_need : Scene → NumberedPages → Spot ℕ → Kind → Tty → Option Need
touch_need scene p at kind owner = need_in (touch_of p scene at kind owner)

-- what the first step of a turn needs that needs something, up to its first reference, which makes one page at most, or to other steps
unfoldable pub looks_need : {F C : Type 0} → Sight F ℕ → Scene → NumberedPages → Turn F C → Option Need
looks_need sight scene p (sees s next) = option_or (entry_need scene p s) (looks_need sight scene p (next (entry_of p s)))
looks_need sight scene p (finds at next) = let s = spot_of sight at in option_or (find_need scene p s) (looks_need sight scene p (next (option_and_then (page_at p) s)))
looks_need sight scene p (reads f offset next) = let s = spot_of sight (in_file f) in option_or (word_need scene p s) (looks_need sight scene p (next (option_map_or (λ at. word_at p at offset) s 0)))
looks_need sight scene p (touches owner at kind next) = option_and_then (λ s. touch_need scene p s kind owner) (spot_of sight at)
looks_need sight scene p (looks name next) = looks_need sight scene p (next (sight.is_name name))
looks_need sight scene p (makes name next) = looks_need sight scene p (next sight.has_more)
looks_need sight scene p t = None
