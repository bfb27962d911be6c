-- The events of a script that make files, write into them and show them.
use Rattle.std.specs.Prelude.{ℕ, ◌+◌, ◌*◌, List, [], ◌∷◌, ◌++◌, length, nat_lt, ◌==◌, if◌then◌else◌, is_some}
use Rattle.std.specs.Option.{option_map_or}
use Rattle.std.specs.declared.cmp.Ordering.{Ordering}
use Rattle.std.specs.FinMap as map
use Rattle.outside.specs.declared.TheConstants.{PAGE_WORDS}
use Rattle.machine_names.specs.Orders.{name_cmp}
use Rattle.machine_names.specs.declared.names.Tty.{Tty}
use Rattle.machine_names.specs.declared.names.Kind.TheVariants.{Write}
use Rattle.script_texts.specs.declared.event.Item.{Item}
use Rattle.script_texts.specs.declared.event.Item.TheVariants.{PageLine, PageWord}
use Rattle.script_texts.specs.declared.event.Refusal.TheVariants.{Exists, FilesFull, NoFile, FileFull, NoFilePage}
use Rattle.machine_names.specs.declared.names.TheConstants.{MOST_FILES}
use Rattle.plain_files.specs.declared.bounds.TheConstants.{LARGEST_BYTE}
use Rattle.plain_files.specs.Sizes.{PlainFile, new_file, reaching}
use Rattle.plain_pages.specs.PlainPages.{PlainPages}
use Rattle.plain_pages.specs.References.{Spot, in_file, Referred, granted, denied, full, reference, stored, words_of, page_at}
use Rattle.plain_model.specs.State.{PlainState}
use Rattle.plain_model.specs.Unit.{Effect, refused}

-- FILE: an empty file of a name; it is refused where a file has the name, and where there are as many files as there may be
abbrev pub make_file : PlainState → List ℕ → Effect
make_file s name =
    if is_some (map.get s.files name) then refused s (Exists name)
    else (if nat_lt (map.len s.files) MOST_FILES then record { state = record s { files = map.insert s.files name new_file }; items = [] }
    else refused s (FilesFull name))

-- an event of a file; it is refused where there is none of that name
abbrev pub at_file : PlainState → List ℕ → (PlainFile → Effect) → Effect
at_file s name act = option_map_or act (map.get s.files name) (refused s (NoFile name))

-- a page of a file of a name
abbrev pub page_named : List ℕ → ℕ → Spot (List ℕ)
page_named name page = in_file (record { file = name; page = page })

-- the pages with words in a spot's page, one behind the other from an offset on
abbrev pub stored_row : {K : Type 0} {file_cmp : K → K → Ordering} → PlainPages file_cmp → Spot K → ℕ → List ℕ → PlainPages file_cmp
stored_row p at offset [] = p
stored_row p at offset (w ∷ ws) = stored_row (stored p at offset w) at (offset + 1) ws

-- the words are put where a write is granted, as it is but for a full drum; the file reaches behind them, and its bytes are words
abbrev pub written : PlainState → List ℕ → ℕ → ℕ → List ℕ → PlainFile → Referred name_cmp → Effect
written s name page offset words f (granted p) =
    record { state = record s { pages = stored_row p (page_named name page) offset words; files = map.insert s.files name (reaching LARGEST_BYTE (page * PAGE_WORDS + offset + length words) f) }; items = [] }
written s name page offset words f other = refused s (FileFull name)

-- whoever writes the script
abbrev pub console : Tty
console = record { 0 = 255 }

-- WORDS: words of a file's page, from an offset on; a page that isn't there is made, and is the console's
abbrev pub write_words : PlainState → List ℕ → ℕ → ℕ → List ℕ → Effect
write_words s name page offset words = at_file s name (λ f. written s name page offset words f (reference s.pages (page_named name page) Write console))

-- the words of a page that aren't 0, each with its offset, where the first has this one
abbrev pub words_shown : ℕ → List ℕ → List Item
words_shown offset [] = []
words_shown offset (w ∷ ws) = (if w == 0 then [] else PageWord offset w ∷ []) ++ words_shown (offset + 1) ws

-- PAGE: a file's page, and each of its words that isn't 0; it is refused where the file has no such page
abbrev pub show_page : PlainState → List ℕ → ℕ → Effect
show_page s name page = at_file s name (λ f. option_map_or
    (λ n. record { state = s; items = PageLine name page ∷ words_shown 0 (words_of s.pages n) })
    (page_at s.pages (page_named name page)) (refused s (NoFilePage name)))
