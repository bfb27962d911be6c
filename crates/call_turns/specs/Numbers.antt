-- A turn that knows files by keys of its own, as one that knows them by number.
use Rattle.std.specs.Prelude.{ℕ, Some, Result, Ok, Err}
use Rattle.plain_pages.specs.References.{Spot, in_map, in_file}
use Rattle.plain_model.specs.Calls.{Turn, sees, finds, reads, touches, takes, adds, looks, makes, ends, Sight}

-- what is told of files that are known by their numbers
abbrev pub by_number : {F : Type 0} → Sight F ℕ → Sight ℕ ℕ
by_number sight = record { file_of = λ f. Some f; is_name = sight.is_name; has_more = sight.has_more }

-- what was named by the number of a file, as the plain call has it; or the code of an error
abbrev pub named_by : {A B : Type 0} → (A → B) → Result A ℕ → Result B ℕ
named_by by (Ok a) = Ok (by a)
named_by by (Err code) = Err code

-- a spot, with the number of its file
abbrev pub numbered_spot : {F : Type 0} → (F → ℕ) → Spot F → Spot ℕ
numbered_spot number (in_map s) = in_map s
numbered_spot number (in_file f) = in_file (record { file = number f.file; page = f.page })

-- a turn, with the numbers of its files
abbrev pub numbered_turn : {F C : Type 0} → (F → ℕ) → Turn F C → Turn ℕ C
numbered_turn number (sees s next) = sees s (λ e. numbered_turn number (next e))
numbered_turn number (finds at next) = finds (numbered_spot number at) (λ n. numbered_turn number (next n))
numbered_turn number (reads f offset next) = reads (record { file = number f.file; page = f.page }) offset (λ w. numbered_turn number (next w))
numbered_turn number (touches owner at kind next) = touches owner (numbered_spot number at) kind (λ what. numbered_turn number (next what))
numbered_turn number (takes f regs steps next) = takes f regs steps (λ e. numbered_turn number (next e))
numbered_turn number (adds f entries next) = adds f entries (λ b. numbered_turn number (next b))
numbered_turn number (looks name next) = looks name (λ b. numbered_turn number (next b))
numbered_turn number (makes name next) = makes name (λ b. numbered_turn number (next b))
numbered_turn number (ends e) = ends e
