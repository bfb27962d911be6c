-- Where lines end, in bytes that are there and in those that a source may tell.
use Rattle.std.specs.Prelude.{◌≡◌, ◌⊎◌, ℕ, ◌<◌, ◌≤◌, List, [], ◌∷◌, ◌++◌, length, take, Option, Some}
use Rattle.outside.specs.Told.{Loses}
use Rattle.script_texts.specs.Script.{HasNoFeed}
use Rattle.line_buffer.specs.declared.buffer.Passed.{Passed}
use Rattle.line_buffer.specs.declared.buffer.Passed.TheVariants.{Feed, Last, Over, Fault}
use Rattle.line_buffer.specs.declared.buffer.TheConstants.{ROOM}

-- the first line feed stands behind so many bytes
pub record IsFed (bytes : List ℕ) (n : ℕ) : Type 0 where
  pub line : List ℕ
  pub more : List ℕ
  pub whole : bytes ≡ line ++ 10 ∷ more
  pub plain : HasNoFeed line
  pub long : length line ≡ n

-- these bytes, and behind them those that the source tells
abbrev pub IsLeft : {S : Type 0} → (S → Option (List ℕ)) → List ℕ → S → List ℕ → Type 0
IsLeft left held s xs = (ys : List ℕ) × (left s ≡ Some ys) × (xs ≡ held ++ ys)

-- so many bytes came from the source to those that are held
pub record Fills {S : Type 0} (left : S → Option (List ℕ)) (old new : List ℕ) (s s' : S) (n : ℕ) : Type 0 where
  pub bytes : List ℕ
  pub count : length bytes ≡ n
  pub grown : new ≡ old ++ bytes
  pub loses : Loses (left s) (left s') bytes

-- a last piece came to these bytes, and what stood there before it needed more
pub record LastPiece (Needs : List ℕ → Type 0) (held bytes : List ℕ) : Type 0 where
  pub before : List ℕ
  pub piece : List ℕ
  pub whole : bytes ≡ before ++ piece
  pub short : length piece ≤ ROOM
  pub needed : Needs (held ++ before)

-- The source has lost these bytes from its front, where it tells any. It was read only while those held
-- and read needed more, and this is so of them now.
pub record Reads {S : Type 0} (left : S → Option (List ℕ)) (Needs : List ℕ → Type 0) (held : List ℕ) (s s' : S) (Is : List ℕ → Type 0) : Type 0 where
  pub bytes : List ℕ
  pub loses : Loses (left s) (left s') bytes
  pub needed : ((s' ≡ s) × (bytes ≡ [])) ⊎ LastPiece Needs held bytes
  pub is : Is (held ++ bytes)

-- a source that tells its bytes has none left now
abbrev pub Spends : Option (List ℕ) → Option (List ℕ) → Type 0
Spends old new = (xs : List ℕ) → old ≡ Some xs → new ≡ Some []

-- whatever was left is this
pub record AllLeft {S : Type 0} (left : S → Option (List ℕ)) (held : List ℕ) (s : S) (P : List ℕ → Type 0) : Type 0 where
  pub each : (xs : List ℕ) → IsLeft left held s xs → P xs

-- a first line of at least so many bytes ends before the room does
pub record EndsWithin (least room : ℕ) (xs : List ℕ) : Type 0 where
  pub line : List ℕ
  pub more : List ℕ
  pub whole : xs ≡ line ++ 10 ∷ more
  pub plain : HasNoFeed line
  pub far : least ≤ length line
  pub near : length line < room

-- at least so many bytes, without a line feed, that fit the room
pub record StopsWithin (least room : ℕ) (xs : List ℕ) : Type 0 where
  pub plain : HasNoFeed xs
  pub far : least ≤ length xs
  pub near : length xs ≤ room

-- more bytes than the room, and no line feed within it
pub record GoesBeyond (room : ℕ) (xs : List ℕ) : Type 0 where
  pub long : room < length xs
  pub plain : HasNoFeed (take room xs)

-- what the bytes are by which a line is found to end so, at least so many of which were there before
abbrev pub EndsSo : ℕ → ℕ → Passed → List ℕ → Type 0
EndsSo least room Feed bytes = EndsWithin least room bytes
EndsSo least room Last bytes = StopsWithin least room bytes
EndsSo least room Over bytes = GoesBeyond room bytes
EndsSo least room Fault bytes = StopsWithin least room bytes
