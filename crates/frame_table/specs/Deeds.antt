-- What is done to the frames over time.
use Rattle.std.specs.Prelude.{◌≡◌, ℕ, ◌+◌, ◌-◌, ◌<◌, List, [], ◌∷◌, IsSome, Bool, true, false, ⊤}
use Rattle.page_homes.specs.declared.homes.Home.{Home}
use Rattle.frame_table.specs.Core.{Core, IsAway, IsLeastFree, seat_of, holds_of, pins_of, is_held, used, with_page, with_tenant, with_words, without_page}

-- one call: a frame gets the page of a home, is made free, held, released, pinned or unpinned, begins or ends a transfer, is used, or has its words changed
pub data Deed : Type 0 where
  Assigns : ℕ → Home → Deed
  Frees : ℕ → Deed
  Holds : ℕ → Deed
  Releases : ℕ → Deed
  Pins : ℕ → Deed
  Unpins : ℕ → Deed
  Moves : ℕ → Bool → Deed
  Uses : ℕ → Deed
  Writes : ℕ → List ℕ → Deed

-- the frames after it
abbrev pub after : Core → Deed → Core
after c (Assigns f h) = with_page c f h
after c (Frees f) = without_page c f
after c (Holds f) = with_tenant c f (λ t. record t { holds = t.holds + 1 })
after c (Releases f) = with_tenant c f (λ t. record t { holds = t.holds - 1 })
after c (Pins f) = with_tenant c f (λ t. record t { pins = t.pins + 1 })
after c (Unpins f) = with_tenant c f (λ t. record t { pins = t.pins - 1 })
after c (Moves f on) = with_tenant c f (λ t. record t { in_transfer = on })
after c (Uses f) = used c f
after c (Writes f ws) = with_words c f ws

-- what has to be so before it: a frame that gets a page is free, and one that is made free isn't held
abbrev pub IsAllowed : Core → Deed → Type 0
IsAllowed c (Assigns f h) = IsLeastFree c f × IsAway c h
IsAllowed c (Frees f) = is_held c f ≡ false
IsAllowed c (Holds f) = IsSome (seat_of c f)
IsAllowed c (Releases f) = 0 < holds_of c f
IsAllowed c (Pins f) = IsSome (seat_of c f)
IsAllowed c (Unpins f) = 0 < pins_of c f
IsAllowed c (Moves f on) = ⊤
IsAllowed c (Uses f) = ⊤
IsAllowed c (Writes f ws) = IsSome (seat_of c f)

-- the frames after all of these
abbrev pub after_all : Core → List Deed → Core
after_all c [] = c
after_all c (d ∷ ds) = after_all (after c d) ds

-- each of these is allowed, and a frame is held before it
abbrev pub IsHeldThrough : Core → List Deed → ℕ → Type 0
IsHeldThrough c [] f = ⊤
IsHeldThrough c (d ∷ ds) f = IsAllowed c d × (is_held c f ≡ true) × IsHeldThrough (after c d) ds f
