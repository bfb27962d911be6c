-- Seats of the balance set: what is held for each, and how often a page may still come for it.
use Rattle.std.specs.Prelude.{ℕ, zero, suc, ◌+◌, ◌-◌, List, Bool, false, not, ◌||◌, ◌==◌, nat_le, if◌then◌else◌, count_by}
use Rattle.std.specs.List.{list_any}

-- whether a home is among these
abbrev pub has : ℕ → List ℕ → Bool
has home homes = list_any (λ h. h == home) homes

-- how many of the homes that are wanted aren't held
abbrev pub missing : List ℕ → List ℕ → ℕ
missing wanted held = count_by (λ h. not (has h held)) wanted

-- as many frames are held for no fork
abbrev pub UNHELD_FRAMES : ℕ
UNHELD_FRAMES = 32

-- how often a page that is wanted may still come to be held for a seat: where more than the bound would come to be held, all of them are let go once
abbrev pub to_hold : ℕ → ℕ → ℕ → ℕ
to_hold most held lacks = if nat_le (held + lacks) most then lacks else most + most - held

-- a sum over the seats
unfoldable pub sum_below : ℕ → (ℕ → ℕ) → ℕ
sum_below zero f = 0
sum_below (suc n) f = sum_below n f + f n

-- whether something holds of one of them
unfoldable pub any_below : ℕ → (ℕ → Bool) → Bool
any_below zero p = false
any_below (suc n) p = any_below n p || p n
