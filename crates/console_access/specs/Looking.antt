-- What is at an address of a fork.
use Rattle.std.specs.Prelude.{ℕ, ◌%◌, Option, Some, Result, Ok, Err, nat_lt, if◌then◌else◌, slice_index}
use Rattle.std.specs.Option.{option_map, option_map_or}
use Rattle.std.specs.FinMap as map
use Rattle.outside.specs.declared.TheConstants.{PAGE_WORDS}
use Rattle.machine_names.specs.declared.names.TheConstants.{ACCUMULATORS}
use Rattle.machine_names.specs.declared.names.Tty.{Tty}
use Rattle.plain_model.specs.declared.fork.Fork.{Fork}
use Rattle.script_texts.specs.declared.event.Item.{Item}
use Rattle.script_texts.specs.declared.event.Item.TheVariants.{Examined, Refusal as ARefusal}
use Rattle.script_texts.specs.declared.event.Refusal.{Refusal}
use Rattle.script_texts.specs.declared.event.Refusal.TheVariants.{NoFork, NoPage}
use Rattle.plain_pages.specs.PlainPages.{NumberedPages}
use Rattle.plain_pages.specs.References.{in_map, words_of, page_at, slot_at}
use Rattle.plain_model.specs.Forks.{ForkMap}

-- the word there, whatever the access, where a page is there; low addresses are the accumulators
abbrev pub word_in : NumberedPages → Fork → ℕ → Option ℕ
word_in p f address =
    if nat_lt address ACCUMULATORS then Some (slice_index f.body.regs.ac address)
    else option_map (λ n. slice_index (words_of p n) (address % PAGE_WORDS)) (page_at p (in_map (slot_at f.name address)))

-- the word of a job's fork with this serial, as it is shown, or why there is none
abbrev pub examined_in : NumberedPages → ForkMap → Tty → ℕ → ℕ → Result Item Refusal
examined_in p forks t serial address =
    option_map_or (λ f. option_map_or (λ word. Ok (Examined t serial address word)) (word_in p f address) (Err (NoPage t)))
    (map.get forks (record { tty = t; serial = serial })) (Err (NoFork t))

-- what is shown of it
abbrev pub item_of : Result Item Refusal → Item
item_of (Ok item) = item
item_of (Err cause) = ARefusal cause
