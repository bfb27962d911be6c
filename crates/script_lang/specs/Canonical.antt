-- A text that is put into a room.
use Rattle.std.specs.Prelude.{◌≡◌, ℕ, ◌+◌, List, ◌++◌, length, take, drop}

-- A text stands behind so many bytes of a room, up to an end: what is before it and behind it stays.
pub record Adds (old new : List ℕ) (at end : ℕ) (text : List ℕ) : Type 0 where
  pub ends : end ≡ at + length text
  pub front : take end new ≡ take at old ++ text
  pub stays : drop end new ≡ drop end old
