-- What one word does in `clap`'s walk over the words of a run.
use Rattle.std.specs.Str.{bytes_eq, chars}
use Rattle.std.specs.Prelude.{◌⊎◌, slice_get}
use Rattle.std.proofs.Common.{◌≡◌, ◌==◌, ◌||◌, ◌≢◌, zero, suc, arith, cond, length, slice_index, inl, inr, ◌∙◌, refl, sym, ap, ℕ, Bool, true, false, List, [], ◌∷◌, ◌++◌, Option, Some, None, codes}
use Rattle.command_words.proofs.Looks.{behind_name, differ, long_word_is}
use Rattle.std.proofs.lemmas.Slice.Eq.{bytes_eq-Decides}
use Rattle.std.proofs.lemmas.Bool.Decides.{nat_tests}
use Rattle.clap.specs.Lexer.{long_of, short_of}
use Rattle.clap.specs.Walk.{Held, Row, Rule, Walk, option, idle, settled as settled_held, pushed, settled_rows, used, Outcome, Waiting, plain, positional, value as stands_alone, walk_from, walked, arg_by_long, is_pending, after_flag, after_step, bundle, bundle_step, long_word, short_word, plain_word, bundle_met, subcommand_met}
use Rattle.clap.specs.Simple.{Shape, built, filled, with_index}
use Rattle.clap.specs.Faults.{bundle_fault, bundle_step_fault, flags_fault, positional_fault, step_fault, stray_fault, long_fault, settle_fault, turn_fault, repeat_fault}
use Rattle.std.specs.Prelude.{◌&&◌, if◌then◌else◌}
use Rattle.std.specs.Option.{option_map_or}
use Rattle.clap.specs.Kinds.{Kinds, or_else}
use Rattle.command_words.specs.Words.{Given, Size, Text, a_seed, a_size, drum_size, frames_size, option_name}
use Rattle.command_words.specs.Parser.{kept_name, option_rule, run_app, seed_rule}

-- the word of the option that sets a size
abbrev pub option_word : Size → Text
option_word size = codes "--" ++ option_name size

-- the built command, and its options
abbrev pub top : Shape
top = (built run_app).top

abbrev pub rules : List Rule
rules = top.rules

-- what is held between two options, and behind the name of one
abbrev pub held : List Row → Option (Text × List Text) → Held
held rows pending = record { rows = rows; pending = pending; skip = 0 }

abbrev pub between : ℕ → List Row → Option (Text × List Text) → Walk
between position rows pending = record (walk_from (held rows pending)) { position = position }

abbrev pub behind : ℕ → List Row → Size → Walk
behind position rows size = record (between position rows (Some (option_name size, []))) { waiting = option (option_name size) }

-- the rows after a use with one value, and what is wrong with it
abbrev pub filled_rule : Given → Rule
filled_rule (a_size size) = filled (option_rule size)
filled_rule a_seed = with_index 1 (filled seed_rule)

abbrev pub with_use : Given → Text → List Row → List Row
with_use what value rows = used (filled_rule what) (value ∷ []) rows

abbrev pub use_wrong : Given → List Row → Kinds
use_wrong what rows = or_else (repeat_fault false (kept_name what) rows) []

abbrev pub settled : Option (Text × List Text) → List Row → List Row
settled p rows = settled_rows rules p rows

abbrev pub wrong : Option (Text × List Text) → List Row → Kinds
wrong p rows = settle_fault rules false (held rows p)

-- an option in one word
pub joined_walked : (size : Size) (value : Text) (position : ℕ) (rows : List Row) (p : Option (Text × List Text))
    → walked rules [] (between position rows p) (option_word size ++ (codes "=" ++ value)) ≡ between position (with_use (a_size size) value (settled p rows)) None
unfolding walked
joined_walked frames_size value position rows p = refl
joined_walked drum_size value position rows p = refl

pub joined_fault : (size : Size) (value : Text) (position : ℕ) (rows : List Row) (p : Option (Text × List Text))
    → turn_fault top [] (between position rows p) (option_word size ++ (codes "=" ++ value)) ≡ or_else (or_else (wrong p rows) (use_wrong (a_size size) (settled p rows))) []
joined_fault frames_size value position rows p = refl
joined_fault drum_size value position rows p = refl

-- the name of an option
pub name_walked : (size : Size) (position : ℕ) (rows : List Row) (p : Option (Text × List Text))
    → walked rules [] (between position rows p) (option_word size) ≡ behind position (settled p rows) size
unfolding walked
name_walked frames_size position rows p = refl
name_walked drum_size position rows p = refl

pub name_fault : (size : Size) (position : ℕ) (rows : List Row) (p : Option (Text × List Text))
    → turn_fault top [] (between position rows p) (option_word size) ≡ or_else (wrong p rows) []
name_fault frames_size position rows p = refl
name_fault drum_size position rows p = refl

-- what is pending when it has its value
pub pending_settled : (what : Given) (value : Text) (rows : List Row) → settled (Some (kept_name what, value ∷ [])) rows ≡ with_use what value rows
pending_settled (a_size frames_size) value rows = refl
pending_settled (a_size drum_size) value rows = refl
pending_settled a_seed value rows = refl

pub pending_fault : (what : Given) (value : Text) (rows : List Row) → wrong (Some (kept_name what, value ∷ [])) rows ≡ use_wrong what rows
pending_fault (a_size frames_size) value rows = refl
pending_fault (a_size drum_size) value rows = refl
pending_fault a_seed value rows = refl

pub cons≢nil : {X : Type 0} (x : X) (xs : List X) → x ∷ xs ≡ [] → ⊥
cons≢nil x xs e = let bad : length (x ∷ xs) ≡ 0 = ap length e in absurd (omega arith)

pub or_else-first : (a b : Kinds) → or_else a b ≡ [] → a ≡ []
or_else-first [] b e = refl
or_else-first (k ∷ ks) b e = absurd (cons≢nil k ks e)

pub or_else-second : (a b : Kinds) → or_else a b ≡ [] → b ≡ []
or_else-second [] b e = e
or_else-second (k ∷ ks) b e = absurd (cons≢nil k ks e)

-- ---- one word by its looks

abbrev place : ℕ → Held → Waiting → Walk
place position h waiting = record (walk_from h) { waiting = waiting; position = position }

no_subcommand : (waiting : Waiting) (word : Text) → subcommand_met [] waiting word ≡ None
no_subcommand idle word = refl
no_subcommand (option id) word = refl
no_subcommand positional word = refl

turn_long : (position : ℕ) (h : Held) (waiting : Waiting) (word name : Text) (v : Option Text) → bytes_eq word (codes "--") ≡ false → long_of word ≡ Some (name, v)
    → turn_fault top [] (place position h waiting) word
    ≡ or_else (long_fault rules false (arg_by_long rules name) v h) (step_fault top position (long_word rules waiting word name v h).0 (long_word rules waiting word name v h).1)
turn_long position h waiting word name v other looks = rw (no_subcommand waiting word, other, looks) refl

turn_short : (position : ℕ) (h : Held) (waiting : Waiting) (word flags : Text) → bytes_eq word (codes "--") ≡ false → long_of word ≡ None → short_of word ≡ Some flags
    → turn_fault top [] (place position h waiting) word
    ≡ or_else (bundle_fault rules false flags h) (step_fault top position (short_word rules waiting word flags h).0 (short_word rules waiting word flags h).1)
turn_short position h waiting word flags other looks short = rw (no_subcommand waiting word, other, looks, short) refl

turn_plain : (position : ℕ) (h : Held) (waiting : Waiting) (word : Text) → bytes_eq word (codes "--") ≡ false → long_of word ≡ None → short_of word ≡ None
    → turn_fault top [] (place position h waiting) word ≡ step_fault top position (plain_word rules waiting word h).0 (plain_word rules waiting word h).1
turn_plain position h waiting word other looks short = rw (no_subcommand waiting word, other, looks, short) refl

walked_short : (position : ℕ) (h : Held) (waiting : Waiting) (word flags : Text) → bytes_eq word (codes "--") ≡ false → long_of word ≡ None → short_of word ≡ Some flags
    → walked rules [] (place position h waiting) word
    ≡ after_step rules word (place position h waiting) (short_word rules waiting word flags h).0 (short_word rules waiting word flags h).1
unfolding walked
walked_short position h waiting word flags other looks short = rw (no_subcommand waiting word, other, looks, short) refl

walked_plain : (position : ℕ) (h : Held) (waiting : Waiting) (word : Text) → bytes_eq word (codes "--") ≡ false → long_of word ≡ None → short_of word ≡ None
    → walked rules [] (place position h waiting) word
    ≡ after_step rules word (place position h waiting) (plain_word rules waiting word h).0 (plain_word rules waiting word h).1
unfolding walked
walked_plain position h waiting word other looks short = rw (no_subcommand waiting word, other, looks, short) refl

-- ---- behind the name of an option

-- each option is wrong there, known or not
option_wrong : (size : Size) (position : ℕ) (rows : List Row) (name : Text) (v : Option Text) → long_fault rules false (arg_by_long rules name) v (behind position rows size).held ≡ [] → ⊥
option_wrong size position rows name v = by size (bytes_eq (codes "frames") name) (bytes_eq (codes "drum") name) v
  where
    by : (size : Size) (b d : Bool) (v : Option Text) → long_fault rules false (cond (b || false) (Some (filled (option_rule frames_size))) (cond (d || false) (Some (filled (option_rule drum_size))) None)) v (behind position rows size).held ≡ [] → ⊥
    by frames_size true d None e = cons≢nil _ _ e
    by frames_size true d (Some x) e = cons≢nil _ _ e
    by frames_size false true None e = cons≢nil _ _ e
    by frames_size false true (Some x) e = cons≢nil _ _ e
    by frames_size false false v e = cons≢nil _ _ e
    by drum_size true d None e = cons≢nil _ _ e
    by drum_size true d (Some x) e = cons≢nil _ _ e
    by drum_size false true None e = cons≢nil _ _ e
    by drum_size false true (Some x) e = cons≢nil _ _ e
    by drum_size false false v e = cons≢nil _ _ e

-- what stands behind one hyphen is no option, and where it is right it has no character
no_flag : (flags : Text) (h : Held) → bundle_fault rules false flags (record h { skip = 0 }) ≡ [] → bundle rules flags (record h { skip = 0 }) ≡ (record h { skip = 0 }, plain)
unfolding flags_fault bundle_met
no_flag flags h = by (length flags)
  where
    by_first : (o : Option ℕ) (k : ℕ) → bundle_step_fault rules false o flags 0 (record h { skip = 0 }) (flags_fault rules false k) ≡ []
        → bundle_step rules o flags 0 plain (record h { skip = 0 }) (bundle_met rules k) ≡ (record h { skip = 0 }, plain)
    by_first None k e = refl
    by_first (Some x) k e = absurd (cons≢nil _ _ e)

    by : (n : ℕ) → flags_fault rules false n flags 0 (record h { skip = 0 }) ≡ [] → bundle_met rules n flags 0 plain (record h { skip = 0 }) ≡ (record h { skip = 0 }, plain)
    by zero e = refl
    by (suc k) e = by_first (slice_get (chars flags) 0) k e

plain_value : (size : Size) (position : ℕ) (rows : List Row) (word : Text)
    → after_step rules word (behind position rows size) (plain_word rules (behind position rows size).waiting word (behind position rows size).held).0 (plain_word rules (behind position rows size).waiting word (behind position rows size).held).1
    ≡ between position rows (Some (option_name size, word ∷ []))
plain_value frames_size position rows word = refl
plain_value drum_size position rows word = refl

-- a right word there is a value
pub value_walked : (size : Size) (word : Text) (position : ℕ) (rows : List Row) → bytes_eq word (codes "--") ≡ false → turn_fault top [] (behind position rows size) word ≡ []
    → walked rules [] (behind position rows size) word ≡ between position rows (Some (option_name size, word ∷ []))
value_walked size word position rows other right = by (long_of word) refl (short_of word) refl
  where
    by : (l : Option (Text × Option Text)) → long_of word ≡ l → (s : Option Text) → short_of word ≡ s → walked rules [] (behind position rows size) word ≡ between position rows (Some (option_name size, word ∷ []))
    by (Some (name, v)) looks s short =
        absurd (option_wrong size position rows name v (or_else-first _ _ (sym (turn_long position (behind position rows size).held (behind position rows size).waiting word name v other looks) ∙ right)))
    by None looks (Some flags) short =
        let none = no_flag flags (behind position rows size).held (or_else-first _ _ (sym (turn_short position (behind position rows size).held (behind position rows size).waiting word flags other looks short) ∙ right)) in
        walked_short position (behind position rows size).held (behind position rows size).waiting word flags other looks short
        ∙ ap (λ (met : Held × Outcome). after_step rules word (behind position rows size) (after_flag rules (behind position rows size).waiting word met.0 met.1).0 (after_flag rules (behind position rows size).waiting word met.0 met.1).1) none
        ∙ plain_value size position rows word
    by None looks None short = walked_plain position (behind position rows size).held (behind position rows size).waiting word other looks short ∙ plain_value size position rows word

-- a value that begins with no hyphen is right there
pub value_right : (size : Size) (c : ℕ) (rest : Text) (position : ℕ) (rows : List Row) → c ≢ 45 → turn_fault top [] (behind position rows size) (c ∷ rest) ≡ []
value_right size c rest position rows other =
    let differs : (c == 45) ≡ false = grind (arith, nat_tests) in
    turn_plain position (behind position rows size).held (behind position rows size).waiting (c ∷ rest) (differ (c ∷ rest) (codes "--") (λ same. other (ap (λ l. slice_index l 0) same))) (rw differs refl) (rw differs refl) ∙ by size
  where
    by : (size : Size) → step_fault top position (plain_word rules (behind position rows size).waiting (c ∷ rest) (behind position rows size).held).0 (plain_word rules (behind position rows size).waiting (c ∷ rest) (behind position rows size).held).1 ≡ []
    by frames_size = refl
    by drum_size = refl

-- ---- between options

-- the word is an option with its value, or its name alone
abbrev pub IsOption : Text → Type 0
IsOption word = ((size : Size) × (value : Text) × (word ≡ option_word size ++ (codes "=" ++ value))) ⊎ ((size : Size) × (word ≡ option_word size))

-- an option that is right there is one of the two
known : (h : Held) (name : Text) (v : Option Text) → long_fault rules false (arg_by_long rules name) v h ≡ [] → (size : Size) × (option_name size ≡ name)
known h name v = by (bytes_eq (codes "frames") name) refl (bytes_eq (codes "drum") name) refl
  where
    by : (b : Bool) → bytes_eq (codes "frames") name ≡ b → (d : Bool) → bytes_eq (codes "drum") name ≡ d
        → long_fault rules false (cond (b || false) (Some (filled (option_rule frames_size))) (cond (d || false) (Some (filled (option_rule drum_size))) None)) v h ≡ []
        → (size : Size) × (option_name size ≡ name)
    by true b d e right = (frames_size, (bytes_eq-Decides (codes "frames") name).0 b)
    by false b true d right = (drum_size, (bytes_eq-Decides (codes "drum") name).0 d)
    by false b false d right = absurd (cons≢nil _ _ right)

is_option : (size : Size) (v : Option Text) (word : Text) → word ≡ codes "--" ++ (option_name size ++ behind_name v) → IsOption word
is_option frames_size None word e = inr (frames_size, e)
is_option drum_size None word e = inr (drum_size, e)
is_option frames_size (Some value) word e = inl (frames_size, value, e)
is_option drum_size (Some value) word e = inl (drum_size, value, e)

-- the word is the seed: none was met before, what is pending is right, and the word is pending then
abbrev pub IsSeed : ℕ → List Row → Option (Text × List Text) → Text → Type 0
IsSeed position rows p word = (position ≡ 1) × (wrong p rows ≡ []) × (walked rules [] (between position rows p) word ≡ between 2 (settled p rows) (Some (codes "seed", word ∷ [])))

-- a word that stands alone goes to the seed, where none was met before
seed_pending : (rows : List Row) (p : Option (Text × List Text)) (word : Text)
    → after_step rules word (between 1 rows p) (held rows p) stands_alone ≡ between 2 (settled p rows) (Some (codes "seed", word ∷ []))
seed_pending rows p word = by (is_pending (filled_rule a_seed) p)
  where
    by : (b : Bool) → record (walk_from (pushed (codes "seed") word (if b && false then held rows p else settled_held rules (held rows p)))) { position = 2 } ≡ between 2 (settled p rows) (Some (codes "seed", word ∷ []))
    by true = refl
    by false = refl

seed_fault : (rows : List Row) (p : Option (Text × List Text)) → step_fault top 1 (held rows p) stands_alone ≡ wrong p rows
seed_fault rows p = by (is_pending (filled_rule a_seed) p)
  where
    by : (b : Bool) → (if b && false then [] else wrong p rows) ≡ wrong p rows
    by true = refl
    by false = refl

-- a right word that stands alone is the first such one
first_alone : (position : ℕ) (rows : List Row) (p : Option (Text × List Text)) → step_fault top position (held rows p) stands_alone ≡ [] → (position ≡ 1) × (wrong p rows ≡ [])
first_alone position rows p = by (1 == position) refl
  where
    by : (b : Bool) → (1 == position) ≡ b → option_map_or (λ a. positional_fault rules false a (held rows p)) (cond b (Some (filled_rule a_seed)) None) (stray_fault top) ≡ [] → (position ≡ 1) × (wrong p rows ≡ [])
    by true e right = (grind (arith, nat_tests), sym (seed_fault rows p) ∙ right)
    by false e right = absurd (cons≢nil _ _ right)

alone_met : (position : ℕ) (rows : List Row) (p : Option (Text × List Text)) (word : Text)
    → walked rules [] (between position rows p) word ≡ after_step rules word (between position rows p) (held rows p) stands_alone
    → step_fault top position (held rows p) stands_alone ≡ [] → IsSeed position rows p word
alone_met position rows p word walks right =
    let first = first_alone position rows p right in
    (first.0, first.1, walks ∙ ap (λ n. after_step rules word (between n rows p) (held rows p) stands_alone) first.0 ∙ seed_pending rows p word)

-- a right word there is an option, or the seed
pub option_met : (position : ℕ) (rows : List Row) (p : Option (Text × List Text)) (word : Text) → bytes_eq word (codes "--") ≡ false → turn_fault top [] (between position rows p) word ≡ []
    → IsOption word ⊎ IsSeed position rows p word
option_met position rows p word other right = by (long_of word) refl (short_of word) refl
  where
    by : (l : Option (Text × Option Text)) → long_of word ≡ l → (s : Option Text) → short_of word ≡ s → IsOption word ⊎ IsSeed position rows p word
    by (Some (name, v)) looks s short =
        let is = known (held rows p) name v (or_else-first _ _ (sym (turn_long position (held rows p) idle word name v other looks) ∙ right)) in
        inl (is_option is.0 v word (long_word_is word name v looks ∙ ap (λ n. codes "--" ++ (n ++ behind_name v)) (sym is.1)))
    by None looks (Some flags) short =
        let turn = sym (turn_short position (held rows p) idle word flags other looks short) ∙ right in
        let none = no_flag flags (held rows p) (or_else-first _ _ turn) in
        inr (alone_met position rows p word
        (walked_short position (held rows p) idle word flags other looks short
        ∙ ap (λ (met : Held × Outcome). after_step rules word (between position rows p) (after_flag rules idle word met.0 met.1).0 (after_flag rules idle word met.0 met.1).1) none)
        (sym (ap (λ (met : Held × Outcome). step_fault top position (after_flag rules idle word met.0 met.1).0 (after_flag rules idle word met.0 met.1).1) none) ∙ or_else-second _ _ turn))
    by None looks None short =
        inr (alone_met position rows p word (walked_plain position (held rows p) idle word other looks short) (sym (turn_plain position (held rows p) idle word other looks short) ∙ right))

-- a word that begins with no hyphen is the seed there, where none was met before
pub seed_right : (c : ℕ) (rest : Text) (rows : List Row) (p : Option (Text × List Text)) → c ≢ 45
    → (turn_fault top [] (between 1 rows p) (c ∷ rest) ≡ wrong p rows) × (walked rules [] (between 1 rows p) (c ∷ rest) ≡ between 2 (settled p rows) (Some (codes "seed", (c ∷ rest) ∷ [])))
seed_right c rest rows p other =
    let differs : (c == 45) ≡ false = grind (arith, nat_tests) in
    let word : bytes_eq (c ∷ rest) (codes "--") ≡ false = differ (c ∷ rest) (codes "--") (λ same. other (ap (λ l. slice_index l 0) same)) in (
      turn_plain 1 (held rows p) idle (c ∷ rest) word (rw differs refl) (rw differs refl) ∙ seed_fault rows p,
      walked_plain 1 (held rows p) idle (c ∷ rest) word (rw differs refl) (rw differs refl) ∙ seed_pending rows p (c ∷ rest),
    )
