-- The words of a run are those in which `clap` finds nothing wrong, and what it finds is what they give.
use Rattle.std.specs.Prelude.{⊤}
use Rattle.std.proofs.Common.{◌≡◌, ◌≢◌, ◌∙◌, ◌≤◌, ◌+◌, map, refl, sym, ap, ap₂, subst, arith, cond, length, ℕ, Bool, true, false, List, [], ◌∷◌, ◌++◌, Option, Some, None, codes, inl, inr, append-nil, append_assoc, true≢false, slice_index}
use Rattle.std.specs.Prelude.{filter, flat_map, fold, option_map}
use Rattle.std.specs.List.{list_all}
use Rattle.std.specs.Str.{bytes_eq}
use Rattle.std.proofs.lemmas.Bool.{and_parts, not-true}
use Rattle.clap.specs.Walk.{Held, Row, Walk, walked}
use Rattle.clap.specs.Faults.{settle_fault, turn_fault, walk_fault}
use Rattle.clap.specs.Kinds.{or_else}
use Rattle.command_words.specs.Words.{Given, Setting, Size, Text, a_seed, a_size, alone, apart, drum_size, frames_size, given, given_by, is_same, joined, option_name, value_of, words_of}
use Rattle.command_words.specs.Parser.{is_other, kept_name}
use Rattle.command_words.proofs.Looks.{differ}
use Rattle.command_words.proofs.Steps.{IsSeed, behind, between, cons≢nil, joined_fault, joined_walked, name_fault, name_walked, option_met, option_word, or_else-first, or_else-second, pending_fault, pending_settled, rules, seed_right, settled, top, use_wrong, value_right, value_walked, with_use, wrong}
use Rattle.command_words.proofs.Found.{Once, Once-front, Once-push, before_last, first_right, first_use, given-append, right_first, rows, same_itself}

-- ---- where the walk stands: between two options, the last of which may wait to be noted, or behind a name

pub data Place : Type 0 where
  at : List Setting → Option Setting → Place
  after : List Setting → Size → Place

abbrev last : Option Setting → Option (Text × List Text)
last = option_map (λ s. (kept_name (given_by s), value_of s ∷ []))

abbrev pub all_of : List Setting → Option Setting → List Setting
all_of settings None = settings
all_of settings (Some s) = settings ++ s ∷ []

-- 1, and 2 behind a seed
abbrev pub position_of : List Setting → ℕ
position_of settings = 1 + length (given a_seed settings)

abbrev pub walk_at : Place → Walk
walk_at (at settings p) = between (position_of (all_of settings p)) (rows settings) (last p)
walk_at (after settings size) = behind (position_of settings) (rows settings) size

-- what is no seed leaves the position, and a first seed is at 1
position_on : (settings : List Setting) (s : Setting) → given a_seed (s ∷ []) ≡ [] → position_of (settings ++ s ∷ []) ≡ position_of settings
position_on settings s none = ap (λ (vs : List Text). 1 + length vs) (given-append a_seed settings (s ∷ []) ∙ ap (λ l. given a_seed settings ++ l) none ∙ append-nil (given a_seed settings))

position_seed : (settings : List Setting) (value : Text) → given a_seed settings ≡ [] → position_of (settings ++ alone value ∷ []) ≡ 2
position_seed settings value none = ap (λ (vs : List Text). 1 + length vs) (given-append a_seed settings (alone value ∷ []) ∙ ap (λ l. l ++ value ∷ []) none)

no_seed : (settings : List Setting) → position_of settings ≡ 1 → given a_seed settings ≡ []
no_seed settings = by (given a_seed settings)
  where
    by : (vs : List Text) → 1 + length vs ≡ 1 → vs ≡ []
    by [] e = refl
    by (v ∷ vs) e = absurd (omega arith)

at_one : (settings : List Setting) → given a_seed settings ≡ [] → position_of settings ≡ 1
at_one settings none = ap (λ (vs : List Text). 1 + length vs) none

joined_on : (size : Size) (value : Text) (settings : List Setting) → position_of (settings ++ joined size value ∷ []) ≡ position_of settings
joined_on size value settings = position_on settings (joined size value) refl

apart_on : (size : Size) (value : Text) (settings : List Setting) → position_of (settings ++ apart size value ∷ []) ≡ position_of settings
apart_on size value settings = position_on settings (apart size value) refl

abbrev pub noted : Place → List Setting
noted (at settings p) = settings
noted (after settings size) = settings

-- what is held behind the words, what is wrong with it, and what is found
abbrev pub end : Walk → List Text → Held
end w words = (fold (walked rules []) w words).held

abbrev pub end_wrong : Walk → List Text → Type 0
end_wrong w words = settle_fault rules false (end w words) ≡ []

abbrev pub end_found : Walk → List Text → List Row
end_found w words = settled (end w words).pending (end w words).rows

-- the words are those of settings, and these are found behind the earlier ones
abbrev pub IsRead : List Setting → List Text → List Row → Type 0
IsRead before words found = (settings : List Setting) × (words ≡ flat_map words_of settings) × (found ≡ rows (before ++ settings)) × Once (before ++ settings)

abbrev pub Reads : Place → List Text → List Row → Type 0
Reads (at settings p) words found = IsRead (all_of settings p) words found
Reads (after settings size) words found = (value : Text) × (rest : List Text) × (words ≡ value ∷ rest) × IsRead (settings ++ apart size value ∷ []) rest found

abbrev pub Sound : List Text → Type 0
Sound words = (w : Place) → Once (noted w) → list_all is_other words ≡ true → walk_fault top [] (walk_at w) words ≡ [] → end_wrong (walk_at w) words → Reads w words (end_found (walk_at w) words)

-- ---- words with nothing wrong are those of settings

-- an option that is noted without a fault is the first of its size
noted_right : (settings : List Setting) (p : Option Setting) → Once settings → wrong (last p) (rows settings) ≡ []
    → (settled (last p) (rows settings) ≡ rows (all_of settings p)) × Once (all_of settings p)
noted_right settings None once right = (refl, once)
noted_right settings (Some s) once right =
    let none = right_first (given_by s) settings (sym (pending_fault (given_by s) (value_of s) (rows settings)) ∙ right) in
    (pending_settled (given_by s) (value_of s) (rows settings) ∙ first_use s settings none, Once-push s settings once none)

name_wrong : (settings : List Setting) (size : Size) → end_wrong (walk_at (after settings size)) [] → ⊥
name_wrong settings frames_size e = cons≢nil _ _ e
name_wrong settings drum_size e = cons≢nil _ _ e

-- a first word that is an option with its value
sound_joined : (settings : List Setting) (p : Option Setting) (size : Size) (value word : Text) (rest : List Text) → Sound rest → word ≡ option_word size ++ (codes "=" ++ value)
    → Once settings → list_all is_other rest ≡ true → turn_fault top [] (walk_at (at settings p)) word ≡ [] → walk_fault top [] (walked rules [] (walk_at (at settings p)) word) rest ≡ []
    → end_wrong (walk_at (at settings p)) (word ∷ rest) → Reads (at settings p) (word ∷ rest) (end_found (walk_at (at settings p)) (word ∷ rest))
sound_joined settings p size value word rest more is once others turn faultless ending =
    let position = position_of (all_of settings p) in
    let right = sym (joined_fault size value position (rows settings) (last p)) ∙ sym (ap (turn_fault top [] (walk_at (at settings p))) is) ∙ turn in
    let now = noted_right settings p once (or_else-first _ _ (or_else-first _ _ right)) in
    let none = right_first (a_size size) (all_of settings p) (subst (λ found. use_wrong (a_size size) found ≡ []) now.0 (or_else-second _ _ (or_else-first _ _ right))) in
    let next : walked rules [] (walk_at (at settings p)) word ≡ walk_at (at (all_of settings p ++ joined size value ∷ []) None) =
    ap (walked rules [] (walk_at (at settings p))) is ∙ joined_walked size value position (rows settings) (last p) ∙ ap (λ found. between position (with_use (a_size size) value found) None) now.0
    ∙ ap (λ found. between position found None) (first_use (joined size value) (all_of settings p) none)
    ∙ ap (λ n. between n (rows (all_of settings p ++ joined size value ∷ [])) None) (sym (joined_on size value (all_of settings p))) in
    let read = more (at (all_of settings p ++ joined size value ∷ []) None) (Once-push (joined size value) (all_of settings p) now.1 none) others
    (subst (λ w. walk_fault top [] w rest ≡ []) next faultless) (subst (λ w. end_wrong w rest) next ending) in (
      joined size value ∷ read.0,
      ap₂ (λ w l. w ∷ l) is read.1,
      ap (λ w. end_found w rest) next ∙ read.2 ∙ ap rows (append_assoc (all_of settings p) (joined size value ∷ []) read.0),
      subst Once (append_assoc (all_of settings p) (joined size value ∷ []) read.0) read.3,
    )

-- a first word that is the name of an option
sound_name : (settings : List Setting) (p : Option Setting) (size : Size) (word : Text) (rest : List Text) → Sound rest → word ≡ option_word size
    → Once settings → list_all is_other rest ≡ true → turn_fault top [] (walk_at (at settings p)) word ≡ [] → walk_fault top [] (walked rules [] (walk_at (at settings p)) word) rest ≡ []
    → end_wrong (walk_at (at settings p)) (word ∷ rest) → Reads (at settings p) (word ∷ rest) (end_found (walk_at (at settings p)) (word ∷ rest))
sound_name settings p size word rest more is once others turn faultless ending =
    let position = position_of (all_of settings p) in
    let right = sym (name_fault size position (rows settings) (last p)) ∙ sym (ap (turn_fault top [] (walk_at (at settings p))) is) ∙ turn in
    let now = noted_right settings p once (or_else-first _ _ right) in
    let next : walked rules [] (walk_at (at settings p)) word ≡ walk_at (after (all_of settings p) size) =
    ap (walked rules [] (walk_at (at settings p))) is ∙ name_walked size position (rows settings) (last p) ∙ ap (λ found. behind position found size) now.0 in
    let read = more (after (all_of settings p) size) now.1 others (subst (λ w. walk_fault top [] w rest ≡ []) next faultless) (subst (λ w. end_wrong w rest) next ending) in
    let behind_it = read.3 in (
      apart size read.0 ∷ behind_it.0,
      ap₂ (λ w l. w ∷ l) is (read.2 ∙ ap (λ l. read.0 ∷ l) behind_it.1),
      ap (λ w. end_found w rest) next ∙ behind_it.2 ∙ ap rows (append_assoc (all_of settings p) (apart size read.0 ∷ []) behind_it.0),
      subst Once (append_assoc (all_of settings p) (apart size read.0 ∷ []) behind_it.0) behind_it.3,
    )

-- a first word that is the seed
sound_seed : (settings : List Setting) (p : Option Setting) (word : Text) (rest : List Text) → Sound rest → IsSeed (position_of (all_of settings p)) (rows settings) (last p) word
    → Once settings → list_all is_other rest ≡ true → walk_fault top [] (walked rules [] (walk_at (at settings p)) word) rest ≡ []
    → end_wrong (walk_at (at settings p)) (word ∷ rest) → Reads (at settings p) (word ∷ rest) (end_found (walk_at (at settings p)) (word ∷ rest))
sound_seed settings p word rest more is once others faultless ending =
    let now = noted_right settings p once is.1 in
    let none = no_seed (all_of settings p) is.0 in
    let next : walked rules [] (walk_at (at settings p)) word ≡ walk_at (at (all_of settings p) (Some (alone word))) =
    is.2 ∙ ap (λ found. between 2 found (Some (codes "seed", word ∷ []))) now.0
    ∙ ap (λ n. between n (rows (all_of settings p)) (Some (codes "seed", word ∷ []))) (sym (position_seed (all_of settings p) word none)) in
    let read = more (at (all_of settings p) (Some (alone word))) now.1 others (subst (λ w. walk_fault top [] w rest ≡ []) next faultless) (subst (λ w. end_wrong w rest) next ending) in (
      alone word ∷ read.0,
      ap (λ l. word ∷ l) read.1,
      ap (λ w. end_found w rest) next ∙ read.2 ∙ ap rows (append_assoc (all_of settings p) (alone word ∷ []) read.0),
      subst Once (append_assoc (all_of settings p) (alone word ∷ []) read.0) read.3,
    )

sound_first : (word : Text) (rest : List Text) → Sound rest → Sound (word ∷ rest)
unfolding walk_fault
sound_first word rest more (at settings p) once others right ending =
    let parts = and_parts (is_other word) (list_all is_other rest) others in
    let turn = or_else-first (turn_fault top [] (walk_at (at settings p)) word) _ right in
    let faultless = or_else-second (turn_fault top [] (walk_at (at settings p)) word) _ right in
    elim (option_met (position_of (all_of settings p)) (rows settings) (last p) word (not-true (bytes_eq word (codes "--")) parts.0) turn) [
      | inl (inl (size, value, is)) ↦ sound_joined settings p size value word rest more is once parts.1 turn faultless ending
      | inl (inr (size, is)) ↦ sound_name settings p size word rest more is once parts.1 turn faultless ending
      | inr is ↦ sound_seed settings p word rest more is once parts.1 faultless ending
    ]
sound_first word rest more (after settings size) once others right ending =
    let parts = and_parts (is_other word) (list_all is_other rest) others in
    let turn = or_else-first (turn_fault top [] (walk_at (after settings size)) word) _ right in
    let faultless = or_else-second (turn_fault top [] (walk_at (after settings size)) word) _ right in
    let next : walked rules [] (walk_at (after settings size)) word ≡ walk_at (at settings (Some (apart size word))) =
    value_walked size word (position_of settings) (rows settings) (not-true (bytes_eq word (codes "--")) parts.0) turn
    ∙ ap (λ n. between n (rows settings) (Some (option_name size, word ∷ []))) (sym (apart_on size word settings)) in
    let read = more (at settings (Some (apart size word))) once parts.1 (subst (λ w. walk_fault top [] w rest ≡ []) next faultless) (subst (λ w. end_wrong w rest) next ending) in (
      word,
      rest,
      refl,
      subst (IsRead (settings ++ apart size word ∷ []) rest) (ap (λ w. end_found w rest) (sym next)) read,
    )

pub sound : (words : List Text) → Sound words
sound [] (at settings p) once others right ending =
    let now = noted_right settings p once ending in
    ([], refl, now.0 ∙ ap rows (sym (append-nil (all_of settings p))), subst Once (sym (append-nil (all_of settings p))) now.1)
sound [] (after settings size) once others right ending = absurd (name_wrong settings size ending)
sound (word ∷ rest) w once others right ending = sound_first word rest (sound rest) w once others right ending

-- ---- nothing is wrong with the words of settings

-- a value that begins with no hyphen
pub record IsValue (text : Text) : Type 0 where
  pub head : ℕ
  pub rest : Text
  pub is : text ≡ head ∷ rest
  pub plain : head ≢ 45

-- at most one value, and such a one
abbrev pub IsSingle : List Text → Type 0
IsSingle [] = ⊤
IsSingle (value ∷ []) = IsValue value
IsSingle (_ ∷ _ ∷ _) = ⊥

abbrev pub Fine : List Setting → Type 0
Fine settings = (what : Given) → IsSingle (given what settings)

pub Fine-Once : (settings : List Setting) → Fine settings → Once settings
Fine-Once settings fine what = by (given what settings) (fine what)
  where
    by : (vs : List Text) → IsSingle vs → length vs ≤ 1
    by [] h = omega arith
    by (v ∷ []) h = omega arith
    by (v ∷ w ∷ ws) h = absurd h

only : (xs : List Text) (v : Text) (ys : List Text) → IsSingle (xs ++ v ∷ ys) → IsValue v
only [] v [] h = h
only [] v (y ∷ ys) h = absurd h
only (x ∷ []) v ys h = absurd h
only (x ∷ w ∷ xs) v ys h = absurd h

pub Fine-value : (before : List Setting) (s : Setting) (more : List Setting) → Fine (before ++ s ∷ more) → IsValue (value_of s)
Fine-value before s more fine = by (is_same (given_by s) (given_by s)) (same_itself (given_by s)) (subst IsSingle (given-append (given_by s) before (s ∷ more)) (fine (given_by s)))
  where
    by : (b : Bool) → b ≡ true
        → IsSingle (given (given_by s) before ++ map value_of (cond b (s ∷ filter (λ t. is_same (given_by s) (given_by t)) more) (filter (λ t. is_same (given_by s) (given_by t)) more)))
        → IsValue (value_of s)
    by true e h = only (given (given_by s) before) (value_of s) (given (given_by s) more) h
    by false e h = absurd (true≢false (sym e))

-- an option that is the first of its size is noted without a fault
noted_first : (settings : List Setting) (p : Option Setting) → Once (all_of settings p) → (wrong (last p) (rows settings) ≡ []) × (settled (last p) (rows settings) ≡ rows (all_of settings p))
noted_first settings None once = (refl, refl)
noted_first settings (Some s) once =
    let none = before_last s settings [] once in (
      pending_fault (given_by s) (value_of s) (rows settings) ∙ first_right (given_by s) settings none,
      pending_settled (given_by s) (value_of s) (rows settings) ∙ first_use s settings none,
    )

abbrev pub Complete : List Setting → Type 0
Complete more = (settings : List Setting) (p : Option Setting) → Fine (all_of settings p ++ more) → (walk_fault top [] (walk_at (at settings p)) (flat_map words_of more) ≡ [])
    × end_wrong (walk_at (at settings p)) (flat_map words_of more)
    × (end_found (walk_at (at settings p)) (flat_map words_of more) ≡ rows (all_of settings p ++ more))

-- one word on
step_on : (w next : Walk) (word : Text) (rest : List Text) (found : List Row) → turn_fault top [] w word ≡ [] → walked rules [] w word ≡ next
    → (walk_fault top [] next rest ≡ []) × end_wrong next rest × (end_found next rest ≡ found)
    → (walk_fault top [] w (word ∷ rest) ≡ []) × end_wrong w (word ∷ rest) × (end_found w (word ∷ rest) ≡ found)
unfolding walk_fault
step_on w next word rest found turn is more = (
  ap₂ (λ a b. or_else a (walk_fault top [] b rest)) turn is ∙ more.0,
  subst (λ z. end_wrong z rest) (sym is) more.1,
  ap (λ z. end_found z rest) is ∙ more.2,
)

complete_joined : (size : Size) (value : Text) (more : List Setting) → Complete more → Complete (joined size value ∷ more)
complete_joined size value more next settings p fine =
    let once = Fine-Once (all_of settings p ++ joined size value ∷ more) fine in
    let now = noted_first settings p (Once-front (all_of settings p) (joined size value ∷ more) once) in
    let none = before_last (joined size value) (all_of settings p) more once in
    let position = position_of (all_of settings p) in
    let assoc = append_assoc (all_of settings p) (joined size value ∷ []) more in
    let rest = next (all_of settings p ++ joined size value ∷ []) None (subst Fine (sym assoc) fine) in
    step_on (walk_at (at settings p)) (walk_at (at (all_of settings p ++ joined size value ∷ []) None)) (option_word size ++ (codes "=" ++ value)) (flat_map words_of more) (rows (all_of settings p ++ joined size value ∷ more))
    (joined_fault size value position (rows settings) (last p)
    ∙ ap₂ (λ a b. or_else (or_else a b) []) now.0 (ap (use_wrong (a_size size)) now.1 ∙ first_right (a_size size) (all_of settings p) none))
    (joined_walked size value position (rows settings) (last p) ∙ ap (λ found. between position (with_use (a_size size) value found) None) now.1
    ∙ ap (λ found. between position found None) (first_use (joined size value) (all_of settings p) none)
    ∙ ap (λ n. between n (rows (all_of settings p ++ joined size value ∷ [])) None) (sym (joined_on size value (all_of settings p))))
    (rest.0, rest.1, rest.2 ∙ ap rows assoc)

complete_apart : (size : Size) (value : Text) (more : List Setting) → Complete more → Complete (apart size value ∷ more)
complete_apart size value more next settings p fine =
    let once = Fine-Once (all_of settings p ++ apart size value ∷ more) fine in
    let now = noted_first settings p (Once-front (all_of settings p) (apart size value ∷ more) once) in
    let v = Fine-value (all_of settings p) (apart size value) more fine in
    let assoc = append_assoc (all_of settings p) (apart size value ∷ []) more in
    let rest = next (all_of settings p) (Some (apart size value)) (subst Fine (sym assoc) fine) in
    let found = rows (all_of settings p ++ apart size value ∷ more) in
    let position = position_of (all_of settings p) in
    let right : turn_fault top [] (behind position (rows (all_of settings p)) size) value ≡ [] =
    ap (turn_fault top [] (behind position (rows (all_of settings p)) size)) v.is ∙ value_right size v.head v.rest position (rows (all_of settings p)) v.plain in
    let other = differ value (codes "--") (λ same. v.plain (ap (λ l. slice_index l 0) (sym v.is ∙ same))) in
    step_on (walk_at (at settings p)) (walk_at (after (all_of settings p) size)) (option_word size) (value ∷ flat_map words_of more) found
    (name_fault size position (rows settings) (last p) ∙ ap (λ a. or_else a []) now.0)
    (name_walked size position (rows settings) (last p) ∙ ap (λ z. behind position z size) now.1)
    (step_on (walk_at (after (all_of settings p) size)) (walk_at (at (all_of settings p) (Some (apart size value)))) value (flat_map words_of more) found right
    (value_walked size value position (rows (all_of settings p)) other right
    ∙ ap (λ n. between n (rows (all_of settings p)) (Some (option_name size, value ∷ []))) (sym (apart_on size value (all_of settings p)))) (rest.0, rest.1, rest.2 ∙ ap rows assoc))

complete_alone : (value : Text) (more : List Setting) → Complete more → Complete (alone value ∷ more)
complete_alone value more next settings p fine =
    let once = Fine-Once (all_of settings p ++ alone value ∷ more) fine in
    let now = noted_first settings p (Once-front (all_of settings p) (alone value ∷ more) once) in
    let none = before_last (alone value) (all_of settings p) more once in
    let v = Fine-value (all_of settings p) (alone value) more fine in
    let assoc = append_assoc (all_of settings p) (alone value ∷ []) more in
    let rest = next (all_of settings p) (Some (alone value)) (subst Fine (sym assoc) fine) in
    let one = ap (λ n. between n (rows settings) (last p)) (at_one (all_of settings p) none) in
    let seed = seed_right v.head v.rest (rows settings) (last p) v.plain in
    step_on (walk_at (at settings p)) (walk_at (at (all_of settings p) (Some (alone value)))) value (flat_map words_of more) (rows (all_of settings p ++ alone value ∷ more))
    (ap₂ (turn_fault top []) one v.is ∙ seed.0 ∙ now.0)
    (ap₂ (walked rules []) one v.is ∙ seed.1
    ∙ ap₂ (λ found word. between 2 found (Some (codes "seed", word ∷ []))) now.1 (sym v.is)
    ∙ ap (λ n. between n (rows (all_of settings p)) (Some (codes "seed", value ∷ []))) (sym (position_seed (all_of settings p) value none)))
    (rest.0, rest.1, rest.2 ∙ ap rows assoc)

pub complete : (more : List Setting) → Complete more
unfolding walk_fault
complete [] settings p fine =
    let now = noted_first settings p (Fine-Once (all_of settings p) (subst Fine (append-nil (all_of settings p)) fine)) in
    (refl, now.0, now.1 ∙ ap rows (sym (append-nil (all_of settings p))))
complete (joined size value ∷ more) settings p fine = complete_joined size value more (complete more) settings p fine
complete (apart size value ∷ more) settings p fine = complete_apart size value more (complete more) settings p fine
complete (alone value ∷ more) settings p fine = complete_alone value more (complete more) settings p fine
