-- What is held for whom.
use Rattle.std.specs.Prelude.{ℕ, List, [], replicate, slice_index_or}
use Rattle.page_contracts.specs.declared.store.TheConstants.{MOST_HOLDERS}

-- the homes that are held for a holder
abbrev pub held_by : List (List ℕ) → ℕ → List ℕ
held_by holders k = slice_index_or holders k []

-- nothing is held for anybody
unfoldable pub no_holds : List (List ℕ)
no_holds = replicate MOST_HOLDERS []
