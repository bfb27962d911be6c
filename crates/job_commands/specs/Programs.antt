-- Programs in files, and a fork that runs one.
use Rattle.std.specs.Prelude.{◌≡◌, ℕ, Option, None, Some, IsSome}
use Rattle.std.specs.Ordering.{nat_cmp}
use Rattle.machine_names.specs.Orders.{file_page}
use Rattle.machine_names.specs.declared.names.ForkName.{ForkName}
use Rattle.machine_names.specs.declared.names.TheConstants.{SPACE_PAGES}
use Rattle.plain_pages.specs.PlainPages.{NumberedPages}
use Rattle.plain_pages.specs.References.{Spot, in_file, page_at, word_at}
use Rattle.plain_model.specs.declared.command.TheConstants.{START_WORD}
use Rattle.plain_model.specs.Commands.{begun_at, with_program}
use Rattle.plain_model.specs.Trees.{with_changed_of}
use Rattle.plain_model.specs.ForkCalls.{ForkParts}

-- the first page of a file
abbrev pub first_page : ℕ → Spot ℕ
first_page file = in_file (file_page file 0)

-- a program has this start word: its file has the first page, and there this word; or it doesn't have that page
abbrev pub StartsAt : NumberedPages → ℕ → Option ℕ → Type 0
StartsAt p file (Some word) = IsSome (page_at p (first_page file)) × (word ≡ word_at p (first_page file) START_WORD)
StartsAt p file None = page_at p (first_page file) ≡ None

-- a fork begins the program in a file at an address, and its map is the program's; its inferiors stay
abbrev pub with_program_begun : ForkParts nat_cmp → ForkName → ℕ → ℕ → ForkParts nat_cmp
with_program_begun v top file address = record { tree = with_changed_of v.tree top (begun_at address); pages = with_program SPACE_PAGES v.pages top file }
