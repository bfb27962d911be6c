-- How many transfers may still end before a wait is over.
use Rattle.std.specs.Prelude.{◌≡◌, ◌⊎◌, ℕ, suc, ◌+◌, ◌≤◌, List, [], ◌∷◌, if◌then◌else◌, Option, None, Some}
use Rattle.page_contracts.specs.declared.answers.Need.{Need}
use Rattle.page_contracts.specs.declared.answers.Need.TheVariants.{Page, Frame}
use Rattle.page_contracts.specs.Stores.{Transfer, arrives}

-- how many transfers are queued before the arrival of a home's page
abbrev pub ahead_of : ℕ → List Transfer → ℕ
ahead_of home [] = 0
ahead_of home (t ∷ ts) = if arrives home t then 0 else suc (ahead_of home ts)

-- how many transfers end at most until who waits for this is ready: for a page those up to its arrival, and for a frame one
abbrev pub wait_left : List Transfer → Option Need → ℕ
wait_left queue None = 0
wait_left queue (Some Frame) = 1
wait_left queue (Some (Page home)) = suc (ahead_of home.0 queue)

-- A wait is over, or it goes on, and its end is nearer by so many transfers.
abbrev pub NearsEnd : ℕ → (queue queue' : List Transfer) (wait wait' : Option Need) → Type 0
NearsEnd n queue queue' wait wait' = (wait' ≡ None) ⊎ ((wait' ≡ wait) × (wait_left queue' wait' + n ≤ wait_left queue wait))
