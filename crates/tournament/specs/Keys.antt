-- Keys by number, some of them absent.
use Rattle.std.specs.Prelude.{◌≡◌, ℕ, ◌+◌, ◌*◌, ◌/◌, ◌≤◌, ◌<◌, List, length, Option, None, Some, Bool, true, false, nat_le, slice_index_or, if◌then◌else◌}

-- the key of a number
abbrev pub key_of : List (Option ℕ) → ℕ → Option ℕ
key_of keys n = slice_index_or keys n None

-- no number has a key
abbrev pub AreAbsent : List (Option ℕ) → Type 0
AreAbsent keys = (n : ℕ) → key_of keys n ≡ None

-- a number has the least key, and is the least that has it
pub record IsLeast (keys : List (Option ℕ)) (n : ℕ) : Type 0 where
  pub key : ℕ
  pub has : key_of keys n ≡ Some key
  pub least : (m other : ℕ) → key_of keys m ≡ Some other → key ≤ other
  pub first : (m : ℕ) → key_of keys m ≡ Some key → n ≤ m

-- whether the first of two keys isn't greater than the other; an absent key goes behind each other
abbrev pub goes_first : Option ℕ → Option ℕ → Bool
goes_first one None = true
goes_first None (Some b) = false
goes_first (Some a) (Some b) = nat_le a b

-- the lesser of two keys
abbrev pub lesser : Option ℕ → Option ℕ → Option ℕ
lesser one other = if goes_first one other then one else other

-- of each two neighbours, where there are several, the lesser key stands above them
pub record IsRoundAbove (keys above : List (Option ℕ)) : Type 0 where
  pub several : 1 < length keys
  pub size : length above ≡ (length keys + 1) / 2
  pub each : (i : ℕ) → key_of above i ≡ lesser (key_of keys (2 * i)) (key_of keys (2 * i + 1))
