-- The words of a line.
use Rattle.std.specs.Prelude.{ℕ, List, [], ◌∷◌, Bool, true, false}
use Rattle.std.specs.Prelude.{◌==◌}
use Rattle.std.specs.List.{filter, slice_split}

abbrev pub is_space : ℕ → Bool
is_space c = c == 32

abbrev pub is_word : List ℕ → Bool
is_word [] = false
is_word (c ∷ cs) = true

-- the longest runs of characters without a space
unfoldable pub words : List ℕ → List (List ℕ)
words line = filter is_word (slice_split is_space line)
