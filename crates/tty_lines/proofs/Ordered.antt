-- What a line stores of characters that are typed one after another.
use Rattle.std.proofs.Common.{◌≡◌, ℕ, ◌≤◌, List, [], ◌∷◌, ◌++◌, length, take, map, Bool, true, false, cond, Option, Some, None, refl, sym, ◌∙◌, ap, arith, append_assoc, append-nil, length-append}
use Rattle.std.specs.Prelude.{nat_lt, not, is_none, ◌&&◌, if◌then◌else◌, ◌==◌}
use Rattle.std.specs.List.{filter}
use Rattle.std.specs.FinMap as map
use Rattle.std.proofs.lemmas.List.{take-append-le, take_all}
use Rattle.std.proofs.lemmas.Bool.{ltb-true, ltb-false}
use Rattle.machine_names.specs.declared.names.ForkName.{ForkName}
use Rattle.plain_typing.specs.declared.typed.Typed.{Typed}
use Rattle.plain_typing.specs.declared.typed.Typed.TheVariants.{Stored, Dropped, Posts, ControlC}
use Rattle.plain_typing.specs.declared.typed.TheConstants.{CONTROL_C, MOST_STORED}
use Rattle.plain_typing.specs.Characters.{read_as}
use Rattle.plain_typing.specs.Lines.{InputLine}
use Rattle.plain_typing.specs.Typing.{fate_of, is_input, left_by, posted_or_stored, typed_all}

-- the line has of these what goes to the program, up to the most that it stores
abbrev IsInOrder : List ℕ → Type 0
IsInOrder typed = (line : InputLine) → length line.input ≤ MOST_STORED
    → (typed_all line typed).input ≡ take MOST_STORED (line.input ++ filter (is_input line.codes) (map read_as typed))

full : (input more : List ℕ) (c : ℕ) → MOST_STORED ≤ length input → take MOST_STORED (input ++ more) ≡ take MOST_STORED (input ++ c ∷ more)
full input more c h = take-append-le MOST_STORED input more h ∙ sym (take-append-le MOST_STORED input (c ∷ more) h)

module _ (typed : List ℕ) (later : IsInOrder typed) (line : InputLine) (code : ℕ) (few : length line.input ≤ MOST_STORED) where
  with_room : (r : Bool) → nat_lt (length line.input) MOST_STORED ≡ r
      → (typed_all (left_by line code (if r then Stored else Dropped)) typed).input ≡ take MOST_STORED (line.input ++ code ∷ filter (is_input line.codes) (map read_as typed))
  with_room true room =
      later (left_by line code Stored) (omega (arith, length-append line.input (code ∷ []), ltb-true (length line.input) MOST_STORED room))
      ∙ ap (take MOST_STORED) (append_assoc line.input (code ∷ []) (filter (is_input line.codes) (map read_as typed)))
  with_room false none = later line few ∙ full line.input (filter (is_input line.codes) (map read_as typed)) code (omega (arith, ltb-false (length line.input) MOST_STORED none))

  first : (b : Bool) (o : Option (ForkName × ℕ)) → (typed_all (left_by line code (if b then ControlC else posted_or_stored o line.input)) typed).input
      ≡ take MOST_STORED (line.input ++ cond (not b && is_none o) (code ∷ filter (is_input line.codes) (map read_as typed)) (filter (is_input line.codes) (map read_as typed)))
  first true o = later line few
  first false (Some a) = later line few
  first false None = with_room (nat_lt (length line.input) MOST_STORED) refl

pub in_order : (typed : List ℕ) → IsInOrder typed
in_order [] line few = sym (ap (take MOST_STORED) (append-nil line.input) ∙ take_all MOST_STORED line.input few)
in_order (c ∷ cs) line few = first cs (in_order cs) line (read_as c) few (read_as c == CONTROL_C) (map.get line.codes (read_as c))

-- what is typed changes no code
left_codes : (line : InputLine) (code : ℕ) (fate : Typed) → (left_by line code fate).codes ≡ line.codes
left_codes line code Stored = refl
left_codes line code Dropped = refl
left_codes line code (Posts f c) = refl
left_codes line code ControlC = refl

pub same_codes : (line : InputLine) (typed : List ℕ) → (typed_all line typed).codes ≡ line.codes
same_codes line [] = refl
same_codes line (c ∷ cs) = same_codes (left_by line (read_as c) (fate_of line (read_as c))) cs ∙ left_codes line (read_as c) (fate_of line (read_as c))
