-- For which members pages are held.
use Rattle.std.specs.Prelude.{◌≡◌, ◌≢◌, ℕ, List, [], Option, None, Some, slice_index_or}
use Rattle.machine_names.specs.declared.names.ForkName.{ForkName}
use Rattle.page_contracts.specs.declared.store.TheConstants.{CONSOLE_HOLDER}
use Rattle.page_waits.specs.declared.holders.Holders.{Holders}
use Rattle.page_waits.specs.declared.holders.Holders.TheVariants as holders

-- the fork of a seat, in a list by seat
abbrev pub fork_at : List (Option ForkName) → ℕ → Option ForkName
fork_at forks seat = slice_index_or forks seat None

-- the fork in a seat, where pages are held for it
abbrev pub holder_at : Holders → ℕ → Option ForkName
holder_at holders.Nobody seat = None
holder_at (holders.Members forks) seat = fork_at forks seat

-- nothing is held for a seat but for these, by seat
abbrev pub AreAllAt : (ℕ → Option ForkName) → (ℕ → List ℕ) → Type 0
AreAllAt at holds = (seat : ℕ) → seat ≢ CONSOLE_HOLDER → at seat ≡ None → holds seat ≡ []

abbrev pub AreAll : Holders → (ℕ → List ℕ) → Type 0
AreAll h = AreAllAt (holder_at h)

-- nothing is held for any seat
abbrev pub AreUnheld : (ℕ → List ℕ) → Type 0
AreUnheld holds = (seat : ℕ) → seat ≢ CONSOLE_HOLDER → holds seat ≡ []

-- they are members, each in its seat
abbrev pub AreMembers : Holders → (ℕ → Option ForkName) → Type 0
AreMembers h member = (seat : ℕ) (f : ForkName) → holder_at h seat ≡ Some f → member seat ≡ Some f

-- nothing is held for a seat in which another fork is now, or none
abbrev pub AreReleased : (before now : ℕ → Option ForkName) → (ℕ → List ℕ) → Type 0
AreReleased before now holds = (seat : ℕ) → seat ≢ CONSOLE_HOLDER → now seat ≢ before seat → holds seat ≡ []
