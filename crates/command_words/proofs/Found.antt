-- What is found of settings, and what one more use does to it.
use Rattle.std.proofs.Common.{◌≡◌, ◌∙◌, ◌≤◌, ◌&&◌, ◌||◌, refl, sym, ap, subst, arith, cond, length, Bool, true, false, List, [], ◌∷◌, ◌++◌, map, Some, None, append-nil, true≢false}
use Rattle.std.specs.Prelude.{filter, find, if◌then◌else◌, not, option_and_then, slice_get}
use Rattle.std.specs.Str.{bytes_eq}
use Rattle.std.proofs.lemmas.List.{length-append, map-append}
use Rattle.std.proofs.lemmas.List.Elements.{filter-append}
use Rattle.clap.specs.Walk.{Row, at_row, first_of, has_row, more_values}
use Rattle.clap.specs.Kinds.{or_else}
use Rattle.clap.specs.declared.builder.value_parser.Reading.TheVariants.{AsWritten}
use Rattle.clap.specs.declared.parser.matches.ValueSource.TheVariants.{CommandLine}
use Rattle.clap.specs.declared.error.kind.ErrorKind.TheVariants as kind
use Rattle.command_words.specs.Words.{Given, Setting, Text, a_seed, a_size, drum_size, frames_size, given, given_by, is_same, listed, value_of}
use Rattle.command_words.specs.Parser.{kept_name}
use Rattle.command_words.proofs.Steps.{cons≢nil, use_wrong, with_use}

abbrev pub row : Given → Text → Row
row what value = record { id = kept_name what; values = value ∷ []; count = None; source = Some CommandLine; reading = AsWritten }

-- what is found of settings
abbrev pub rows : List Setting → List Row
rows settings = map (λ s. row (given_by s) (value_of s)) settings

-- at most one value of each that is given
abbrev pub Once : List Setting → Type 0
Once settings = (what : Given) → length (given what settings) ≤ 1

pub given-append : (what : Given) (xs ys : List Setting) → given what (xs ++ ys) ≡ given what xs ++ given what ys
given-append what xs ys =
    ap (map value_of) (filter-append (λ s. is_same what (given_by s)) xs ys)
    ∙ map-append value_of (filter (λ s. is_same what (given_by s)) xs) (filter (λ s. is_same what (given_by s)) ys)

same_given : (a b : Given) → is_same a b ≡ true → a ≡ b
same_given (a_size frames_size) (a_size frames_size) e = refl
same_given (a_size frames_size) (a_size drum_size) e = absurd (true≢false (sym e))
same_given (a_size frames_size) a_seed e = absurd (true≢false (sym e))
same_given (a_size drum_size) (a_size frames_size) e = absurd (true≢false (sym e))
same_given (a_size drum_size) (a_size drum_size) e = refl
same_given (a_size drum_size) a_seed e = absurd (true≢false (sym e))
same_given a_seed (a_size frames_size) e = absurd (true≢false (sym e))
same_given a_seed (a_size drum_size) e = absurd (true≢false (sym e))
same_given a_seed a_seed e = refl

pub same_itself : (a : Given) → is_same a a ≡ true
same_itself (a_size frames_size) = refl
same_itself (a_size drum_size) = refl
same_itself a_seed = refl

same_name : (a b : Given) → bytes_eq (kept_name a) (kept_name b) ≡ is_same b a
same_name (a_size frames_size) (a_size frames_size) = refl
same_name (a_size frames_size) (a_size drum_size) = refl
same_name (a_size frames_size) a_seed = refl
same_name (a_size drum_size) (a_size frames_size) = refl
same_name (a_size drum_size) (a_size drum_size) = refl
same_name (a_size drum_size) a_seed = refl
same_name a_seed (a_size frames_size) = refl
same_name a_seed (a_size drum_size) = refl
same_name a_seed a_seed = refl

has_some : List Text → Bool
has_some [] = false
has_some (v ∷ vs) = true

has_given : (what : Given) (settings : List Setting) → has_row (kept_name what) (rows settings) ≡ has_some (given what settings)
unfolding has_some
has_given what [] = refl
has_given what (s ∷ rest) = ap (λ b. b || has_row (kept_name what) (rows rest)) (same_name (given_by s) what) ∙ by (is_same what (given_by s)) (has_given what rest)
  where
    by : (b : Bool) → has_row (kept_name what) (rows rest) ≡ has_some (given what rest)
        → (b || has_row (kept_name what) (rows rest)) ≡ has_some (map value_of (cond b (s ∷ filter (λ s. is_same what (given_by s)) rest) (filter (λ s. is_same what (given_by s)) rest)))
    by true more = refl
    by false more = more

first_only : List Text → List Text
first_only [] = []
first_only (v ∷ vs) = v ∷ []

first_given : (what : Given) (settings : List Setting) → listed (first_of (kept_name what) (rows settings)) ≡ first_only (given what settings)
unfolding first_only
first_given what [] = refl
first_given what (s ∷ rest) =
    ap (λ b. listed (option_and_then (λ (r : Row). slice_get r.values 0) (cond b (Some (row (given_by s) (value_of s))) (find (λ (r : Row). bytes_eq r.id (kept_name what)) (rows rest))))) (same_name (given_by s) what)
    ∙ by (is_same what (given_by s)) (first_given what rest)
  where
    by : (b : Bool) → listed (first_of (kept_name what) (rows rest)) ≡ first_only (given what rest)
        → listed (option_and_then (λ (r : Row). slice_get r.values 0) (cond b (Some (row (given_by s) (value_of s))) (find (λ (r : Row). bytes_eq r.id (kept_name what)) (rows rest))))
        ≡ first_only (map value_of (cond b (s ∷ filter (λ s. is_same what (given_by s)) rest) (filter (λ s. is_same what (given_by s)) rest)))
    by true more = refl
    by false more = more

-- the value that is found is the one that is given
pub found_given : (what : Given) (settings : List Setting) → Once settings → listed (first_of (kept_name what) (rows settings)) ≡ given what settings
unfolding first_only
found_given what settings once = first_given what settings ∙ by (given what settings) (once what)
  where
    by : (vs : List Text) → length vs ≤ 1 → first_only vs ≡ vs
    by [] few = refl
    by (v ∷ []) few = refl
    by (v ∷ w ∷ ws) few = absurd (omega arith)

-- ---- one more use

no_such_row : (id : Text) (change : Row → List Row) (missing found : List Row) → has_row id found ≡ false → at_row id change missing found ≡ found ++ missing
no_such_row id change missing [] none = refl
no_such_row id change missing (r ∷ rest) none = by (bytes_eq r.id id) (no_such_row id change missing rest) none
  where
    by : (b : Bool) → (has_row id rest ≡ false → at_row id change missing rest ≡ rest ++ missing) → (b || has_row id rest) ≡ false
        → (if b then change r ++ rest else r ∷ at_row id change missing rest) ≡ r ∷ (rest ++ missing)
    by true more e = absurd (true≢false e)
    by false more e = ap (λ l. r ∷ l) (more e)

with_row : (what : Given) (value : Text) (found : List Row) → has_row (kept_name what) found ≡ false → with_use what value found ≡ found ++ row what value ∷ []
with_row (a_size frames_size) value found none =
    ap (at_row (kept_name (a_size frames_size)) (more_values CommandLine (value ∷ [])) (row (a_size frames_size) value ∷ [])) (no_such_row (kept_name (a_size frames_size)) (λ _. []) [] found none ∙ append-nil found)
    ∙ no_such_row (kept_name (a_size frames_size)) (more_values CommandLine (value ∷ [])) (row (a_size frames_size) value ∷ []) found none
with_row (a_size drum_size) value found none =
    ap (at_row (kept_name (a_size drum_size)) (more_values CommandLine (value ∷ [])) (row (a_size drum_size) value ∷ [])) (no_such_row (kept_name (a_size drum_size)) (λ _. []) [] found none ∙ append-nil found)
    ∙ no_such_row (kept_name (a_size drum_size)) (more_values CommandLine (value ∷ [])) (row (a_size drum_size) value ∷ []) found none
with_row a_seed value found none =
    ap (at_row (kept_name a_seed) (more_values CommandLine (value ∷ [])) (row a_seed value ∷ [])) (no_such_row (kept_name a_seed) (λ _. []) [] found none ∙ append-nil found)
    ∙ no_such_row (kept_name a_seed) (more_values CommandLine (value ∷ [])) (row a_seed value ∷ []) found none

-- the first use of what is given
pub first_use : (s : Setting) (settings : List Setting) → given (given_by s) settings ≡ [] → with_use (given_by s) (value_of s) (rows settings) ≡ rows (settings ++ s ∷ [])
unfolding has_some
first_use s settings none =
    with_row (given_by s) (value_of s) (rows settings) (has_given (given_by s) settings ∙ ap has_some none) ∙ sym (map-append (λ s. row (given_by s) (value_of s)) settings (s ∷ []))

-- is right, and a right one is the first
pub first_right : (what : Given) (settings : List Setting) → given what settings ≡ [] → use_wrong what (rows settings) ≡ []
unfolding has_some
first_right what settings none = rw (has_given what settings ∙ ap has_some none) refl

pub right_first : (what : Given) (settings : List Setting) → use_wrong what (rows settings) ≡ [] → given what settings ≡ []
unfolding has_some
right_first what settings right = none (given what settings) (sym (has_given what settings) ∙ by (has_row (kept_name what) (rows settings)) right)
  where
    by : (b : Bool) → or_else (if b && not false then kind.ArgumentConflict ∷ [] else []) [] ≡ [] → b ≡ false
    by true e = absurd (cons≢nil _ _ e)
    by false e = refl

    none : (vs : List Text) → has_some vs ≡ false → vs ≡ []
    none [] e = refl
    none (v ∷ vs) e = absurd (true≢false e)

-- one more setting of what has none
pub Once-push : (s : Setting) (settings : List Setting) → Once settings → given (given_by s) settings ≡ [] → Once (settings ++ s ∷ [])
Once-push s settings once none what = subst (λ l. length l ≤ 1) (sym (given-append what settings (s ∷ []))) (by (is_same what (given_by s)) refl)
  where
    by : (b : Bool) → is_same what (given_by s) ≡ b → length (given what settings ++ map value_of (cond b (s ∷ []) [])) ≤ 1
    by true e =
        let empty : given what settings ≡ [] = subst (λ z. given z settings ≡ []) (sym (same_given what (given_by s) e)) none in
        subst (λ l. length (l ++ value_of s ∷ []) ≤ 1) (sym empty) (omega arith)
    by false e = subst (λ l. length l ≤ 1) (sym (append-nil (given what settings))) (once what)

-- the settings before another one of the same gave it none
pub before_last : (s : Setting) (settings more : List Setting) → Once (settings ++ s ∷ more) → given (given_by s) settings ≡ []
before_last s settings more once = none (given (given_by s) settings) (by (is_same (given_by s) (given_by s)) (same_itself (given_by s)) (subst (λ l. length l ≤ 1) (given-append (given_by s) settings (s ∷ more)) (once (given_by s))))
  where
    by : (b : Bool) → b ≡ true
        → length (given (given_by s) settings ++ map value_of (cond b (s ∷ filter (λ t. is_same (given_by s) (given_by t)) more) (filter (λ t. is_same (given_by s) (given_by t)) more))) ≤ 1
        → length (given (given_by s) settings) ≤ 0
    by true e few = let sum = length-append (given (given_by s) settings) (value_of s ∷ given (given_by s) more) in omega arith
    by false e few = absurd (true≢false (sym e))

    none : (vs : List Text) → length vs ≤ 0 → vs ≡ []
    none [] few = refl
    none (v ∷ vs) few = absurd (omega arith)

pub Once-front : (settings more : List Setting) → Once (settings ++ more) → Once settings
Once-front settings more once what =
    let few : length (given what settings ++ given what more) ≤ 1 = subst (λ l. length l ≤ 1) (given-append what settings more) (once what) in
    let sum = length-append (given what settings) (given what more) in omega arith
