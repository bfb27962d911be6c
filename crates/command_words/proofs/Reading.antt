-- What a parse tells of the words, both ways.
use Rattle.std.proofs.Common.{◌≡◌, ◌∙◌, ◌≤◌, refl, sym, ap, ap₂, subst, arith, ℕ, Bool, true, false, List, [], ◌∷◌, ◌++◌, Option, Some, None, codes, append_assoc, map, String, string_bytes, length, slice_index}
use Rattle.std.specs.Prelude.{◌&&◌, MatchOption, slice_get, unwrap_or, flat_map, if◌then◌else◌}
use Rattle.std.specs.List.{list_all}
use Rattle.std.specs.Str.{bytes_eq}
use Rattle.std.proofs.Math.Bool.{or-true}
use Rattle.std.proofs.lemmas.Bool.{and_parts}
use Rattle.std.proofs.lemmas.Option.{none-some}
use Rattle.std.proofs.lemmas.Slice.Eq.{bytes_eq-Decides}
use Rattle.outside.specs.declared.TheConstants.{MOST_DRUM_PAGES}
use Rattle.command_words.specs.declared.sizes.TheConstants.{LEAST_DRUM_PAGES, LEAST_FRAMES, MOST_FRAMES, STANDARD_DRUM_PAGES, STANDARD_FRAMES}
use Rattle.clap.specs.Walk.{Row, first_of, finished, has_row, with_default}
use Rattle.clap.specs.Words.{fault_of, matches_of, rows_of}
use Rattle.clap.proofs.WalkLemmas.{first_value-rows}
use Rattle.clap.specs.declared.parser.matches.Found.{Found}
use Rattle.clap.specs.Simple.{built}
use Rattle.clap.specs.Kinds.{or_else}
use Rattle.clap.specs.Faults.{check_fault, default_fault, defaults_fault, entered_fault, walk_fault}
use Rattle.script_texts.specs.Script.{IsDecimal}
use Rattle.command_words.specs.Words.{AreBy, AskOf, AsksFor, AsksForDrum, AsksForEvents, AsksForFrames, Given, Setting, Size, Text, a_seed, a_size, alone, apart, drum_size, frames_size, given, joined, listed, words_of}
use Rattle.command_words.specs.Parser.{AreRight, AsksForRun, IsFoundIn, found_values, is_other, kept_name, name_of, run_app, verb_named}
use Rattle.command_words.specs.declared.request.EventSource.{EventSource}
use Rattle.command_words.specs.declared.request.EventSource.TheVariants.{Script, Generated}
use Rattle.command_words.specs.declared.request.Request.{Request}
use Rattle.command_words.specs.declared.verb.Verb.{Verb}
use Rattle.command_words.specs.declared.verb.Verb.TheVariants.{Run, Big}
use Rattle.command_words.proofs.Looks.{differ}
use Rattle.command_words.proofs.Steps.{between, filled_rule, or_else-first, or_else-second, rules, top}
use Rattle.command_words.proofs.Found.{found_given}
use Rattle.command_words.proofs.Whole.{Fine, Fine-Once, Fine-value, IsSingle, IsValue, at, complete, end, end_found, end_wrong, sound}

-- ---- behind the walk

no_default : (what : Given) (found : List Row) → with_default found (filled_rule what) ≡ found
no_default what found = by what
  where
    either : (b : Bool) → (if b then found else found) ≡ found
    either true = refl
    either false = refl

    by : (what : Given) → with_default found (filled_rule what) ≡ found
    by (a_size frames_size) = either (has_row (codes "frames") found)
    by (a_size drum_size) = either (has_row (codes "drum") found)
    by a_seed = either (has_row (codes "seed") found)

found_rows : (name : Text) (rest : List Text) → matches_of run_app (name ∷ rest) ≡ end_found (between 1 [] None) rest
found_rows name rest = no_default a_seed _ ∙ no_default (a_size drum_size) _ ∙ no_default (a_size frames_size) _

no_subcommand_wrong : (stop : Option (Text × List Text)) → entered_fault (built run_app) stop ≡ []
no_subcommand_wrong None = refl
no_subcommand_wrong (Some p) = refl

no_check_wrong : (found : List Row) (b : Bool) → check_fault top found b ≡ []
no_check_wrong found true = refl
no_check_wrong found false = refl

one_default_wrong : (what : Given) (found : List Row) → default_fault found (filled_rule what) ≡ []
one_default_wrong (a_size frames_size) found = rw (or-true (has_row (codes "frames") found)) refl
one_default_wrong (a_size drum_size) found = rw (or-true (has_row (codes "drum") found)) refl
one_default_wrong a_seed found = rw (or-true (has_row (codes "seed") found)) refl

no_default_wrong : (found : List Row) → defaults_fault found rules ≡ []
unfolding defaults_fault
no_default_wrong found =
    let behind_frames = with_default found (filled_rule (a_size frames_size)) in
    let behind_both = with_default behind_frames (filled_rule (a_size drum_size)) in
    ap₂ or_else (one_default_wrong (a_size frames_size) found)
    (ap₂ or_else (one_default_wrong (a_size drum_size) behind_frames) (ap (λ kinds. or_else kinds []) (one_default_wrong a_seed behind_both)))

-- nothing is wrong with the words where nothing is wrong in the walk
right_walk : (name : Text) (rest : List Text) → walk_fault top [] (between 1 [] None) rest ≡ [] → end_wrong (between 1 [] None) rest → fault_of run_app (name ∷ rest) ≡ []
right_walk name rest walk_right end_right =
    ap₂ or_else walk_right (ap₂ or_else (no_subcommand_wrong _) (ap₂ or_else end_right (ap₂ or_else (no_default_wrong (end_found (between 1 [] None) rest)) (no_check_wrong (finished rules (end (between 1 [] None) rest)) _))))

walk_right : (name : Text) (rest : List Text) → fault_of run_app (name ∷ rest) ≡ [] → (walk_fault top [] (between 1 [] None) rest ≡ []) × end_wrong (between 1 [] None) rest
walk_right name rest right = (or_else-first _ _ right, or_else-first _ _ (or_else-second _ _ (or_else-second _ _ right)))

-- ---- what the words ask for

starts : (most : ℕ) (value : Text) (n : ℕ) → IsDecimal most value n → IsValue value
starts most [] n h = let none : 1 ≤ 0 = h.0 in absurd (omega (arith, none))
starts most (c ∷ cs) n h = let digit = h.2 0 c (omega arith) in record {
  head = c;
  rest = cs;
  is = refl;
  plain = let low : 48 ≤ c = digit.0 in omega arith;
}

pub single : (least most standard : ℕ) (values : List Text) (n : ℕ) → AsksFor least most standard values n → IsSingle values
single least most standard [] n h = tt
single least most standard (v ∷ []) n h = starts 9 v n h.0
single least most standard (v ∷ w ∷ vs) n h = absurd h

single_seed : (name : Text) (values : List Text) (source : EventSource) → AsksForEvents name values source → IsSingle values
single_seed name [] Script h = tt
single_seed name [] (Generated seed) h = tt
single_seed name (v ∷ []) (Generated seed) h = starts 9 v seed h.1
single_seed name (v ∷ []) Script h = absurd h
single_seed name (v ∷ w ∷ vs) (Generated seed) h = absurd h
single_seed name (v ∷ w ∷ vs) Script h = absurd h

fine : (name : Text) (settings : List Setting) (words : List Text) (r : Request) → AreBy name settings words r → Fine settings
fine name settings words r are (a_size frames_size) = single LEAST_FRAMES MOST_FRAMES STANDARD_FRAMES (given (a_size frames_size) settings) r.sizes.frames are.frames
fine name settings words r are (a_size drum_size) = single LEAST_DRUM_PAGES MOST_DRUM_PAGES STANDARD_DRUM_PAGES (given (a_size drum_size) settings) r.sizes.drum are.drum
fine name settings words r are a_seed = single_seed name (given a_seed settings) r.events are.events

-- the first word is that of a verb, which takes no seed, or one
pub verb_of : (name : Text) (values : List Text) (source : EventSource) → AsksForEvents name values source → (verb : Verb) × (name ≡ name_of verb)
verb_of name [] Script h = (Run, h)
verb_of name (v ∷ []) (Generated seed) h = (Big, h.0)
verb_of name [] (Generated seed) h = absurd h
verb_of name (v ∷ []) Script h = absurd h
verb_of name (v ∷ w ∷ vs) (Generated seed) h = absurd h
verb_of name (v ∷ w ∷ vs) Script h = absurd h

joined_other : (size : Size) (value : Text) (more : List Setting) → list_all is_other (flat_map words_of (joined size value ∷ more)) ≡ list_all is_other (flat_map words_of more)
joined_other frames_size value more = refl
joined_other drum_size value more = refl

apart_other : (size : Size) (value : Text) (more : List Setting) → bytes_eq value (codes "--") ≡ false
    → list_all is_other (flat_map words_of (apart size value ∷ more)) ≡ list_all is_other (flat_map words_of more)
apart_other frames_size value more other = rw other refl
apart_other drum_size value more other = rw other refl

alone_other : (value : Text) (more : List Setting) → bytes_eq value (codes "--") ≡ false
    → list_all is_other (flat_map words_of (alone value ∷ more)) ≡ list_all is_other (flat_map words_of more)
alone_other value more other = rw other refl

no_option : (value : Text) → IsValue value → bytes_eq value (codes "--") ≡ false
no_option value v = differ value (codes "--") (λ same. v.plain (ap (λ l. slice_index l 0) (sym v.is ∙ same)))

-- none of the words of settings is `--`
others : (more before : List Setting) → Fine (before ++ more) → list_all is_other (flat_map words_of more) ≡ true
others [] before h = refl
others (joined size value ∷ more) before h =
    joined_other size value more ∙ others more (before ++ joined size value ∷ []) (subst Fine (sym (append_assoc before (joined size value ∷ []) more)) h)
others (apart size value ∷ more) before h =
    apart_other size value more (no_option value (Fine-value before (apart size value) more h))
    ∙ others more (before ++ apart size value ∷ []) (subst Fine (sym (append_assoc before (apart size value ∷ []) more)) h)
others (alone value ∷ more) before h =
    alone_other value more (no_option value (Fine-value before (alone value) more h))
    ∙ others more (before ++ alone value ∷ []) (subst Fine (sym (append_assoc before (alone value ∷ []) more)) h)

-- a first word and those of settings: nothing is wrong with them, and what is found is what they give
pub record IsClean (settings : List Setting) (words : List Text) : Type 0 where
  pub right : AreRight words
  pub values : (what : Given) → listed (first_of (kept_name what) (matches_of run_app words)) ≡ given what settings

pub clean_by : (name : Text) (settings : List Setting) (words : List Text) → is_other name ≡ true → Fine settings → words ≡ name ∷ flat_map words_of settings → IsClean settings words
clean_by name settings words other h words_are =
    let all = complete settings [] None h in
    subst (IsClean settings) (sym words_are) (record {
      right = record {
        others = ap₂ (λ a b. a && b) other (others settings [] h);
        faultless = right_walk name (flat_map words_of settings) all.0 all.1;
      };
      values = λ what. ap (λ found. listed (first_of (kept_name what) found)) (found_rows name (flat_map words_of settings) ∙ all.2) ∙ found_given what settings (Fine-Once settings h);
    })

verb_other : (verb : Verb) → is_other (name_of verb) ≡ true
verb_other Run = refl
verb_other Big = refl

-- the words that ask for a run
clean : (name : Text) (settings : List Setting) (words : List Text) (r : Request) → AreBy name settings words r → IsClean settings words
clean name settings words r are =
    let verb = verb_of name (given a_seed settings) r.events are.events in
    clean_by name settings words (ap is_other verb.1 ∙ verb_other verb.0) (fine name settings words r are) are.words_are

-- words without `--`, with which nothing is wrong, are their first one and those of settings
read : (name : Text) (rest : List Text) → list_all is_other (name ∷ rest) ≡ true → fault_of run_app (name ∷ rest) ≡ []
    → (settings : List Setting) × (rest ≡ flat_map words_of settings) × ((what : Given) → listed (first_of (kept_name what) (matches_of run_app (name ∷ rest))) ≡ given what settings)
read name rest others right =
    let more = and_parts (is_other name) (list_all is_other rest) others in
    let walked = walk_right name rest right in
    let is = sound rest (at [] None) (λ what. none_given what) more.1 walked.0 walked.1 in (
      is.0,
      is.1,
      λ what. ap (λ found. listed (first_of (kept_name what) found)) (found_rows name rest ∙ is.2) ∙ found_given what is.0 is.3,
    )
  where
    none_given : (what : Given) → length (given what []) ≤ 1
    none_given what = omega arith

-- what is found in right words is what they give
pub read_found : (name : Text) (rest : List Text) (found : Found) → IsFoundIn (name ∷ rest) found → (settings : List Setting) × (rest ≡ flat_map words_of settings) × ((what : Given) → found_values found what ≡ given what settings)
read_found name rest found is =
    let settings = read name rest is.right.others is.right.faultless in
    (settings.0, settings.1, λ what. ap listed (first_value-rows found (kept_name what) ∙ ap (first_of (kept_name what)) is.rows) ∙ settings.2 what)

pub clean_found : (settings : List Setting) (words : List Text) (found : Found) → IsClean settings words → rows_of found ≡ matches_of run_app words → (what : Given) → given what settings ≡ found_values found what
clean_found settings words found clean is what = sym (ap listed (first_value-rows found (kept_name what) ∙ ap (first_of (kept_name what)) is) ∙ clean.values what)

-- ---- the answers

pub one_number : (least most standard : ℕ) (values : List Text) (n m : ℕ) → AsksFor least most standard values n → AsksFor least most standard values m → n ≡ m
one_number least most standard [] n m h k = h ∙ sym k
one_number least most standard (v ∷ []) n m h k = sym h.0.3 ∙ k.0.3
one_number least most standard (v ∷ w ∷ vs) n m h k = absurd h

one_source : (name other : Text) (values : List Text) (d e : EventSource) → AsksForEvents name values d → AsksForEvents other values e → d ≡ e
one_source name other [] Script Script h k = refl
one_source name other (v ∷ []) (Generated m) (Generated n) h k = ap Generated (sym h.1.3 ∙ k.1.3)
one_source name other [] (Generated m) e h k = absurd h
one_source name other [] Script (Generated n) h k = absurd k
one_source name other (v ∷ []) Script e h k = absurd h
one_source name other (v ∷ []) (Generated m) Script h k = absurd k
one_source name other (v ∷ w ∷ vs) (Generated m) e h k = absurd h
one_source name other (v ∷ w ∷ vs) Script e h k = absurd h

pub one_run : (words : List Text) (r q : Request) → AskOf words r → AskOf words q → r ≡ q
one_run words r q (name, xs, ask) (other, ys, also) =
    let a = clean name xs words r ask in
    let b = clean other ys words q also in
    let same : (what : Given) → given what ys ≡ given what xs = λ what. sym (b.values what) ∙ a.values what in
    let events = one_source name other (given a_seed xs) r.events q.events ask.events (subst (λ v. AsksForEvents other v q.events) (same a_seed) also.events) in
    let frames = one_number LEAST_FRAMES MOST_FRAMES STANDARD_FRAMES (given (a_size frames_size) xs) r.sizes.frames q.sizes.frames ask.frames (subst (λ v. AsksForFrames v q.sizes.frames) (same (a_size frames_size)) also.frames) in
    let drum = one_number LEAST_DRUM_PAGES MOST_DRUM_PAGES STANDARD_DRUM_PAGES (given (a_size drum_size) xs) r.sizes.drum q.sizes.drum ask.drum (subst (λ v. AsksForDrum v q.sizes.drum) (same (a_size drum_size)) also.drum) in
    ap₂ (λ e s. record { events = e; sizes = s }) events (ap₂ (λ f d. record { frames = f; drum = d }) frames drum)

-- the first word of what a verb asks for is the verb's
names_verb : (verb other : Verb) (values : List Text) (source : EventSource) → AsksForEvents (name_of other) values source → name_of other ≡ name_of verb → AsksForEvents (name_of verb) values source
names_verb verb other values source h same = subst (λ n. AsksForEvents n values source) same h

-- what is found of words that are right, where it asks for a run or for none
asked : (verb : Verb) (rest : List Text) (found : Found) → IsFoundIn (name_of verb ∷ rest) found → (r : Request) → AsksForRun verb found r → AskOf (name_of verb ∷ rest) r
asked verb rest found is r asks =
    let settings = read_found (name_of verb) rest found is in (
      name_of verb,
      settings.0,
      record {
        words_are = ap (λ l. name_of verb ∷ l) settings.1;
        events = subst (λ v. AsksForEvents (name_of verb) v r.events) (settings.2 a_seed) asks.events;
        frames = subst (λ v. AsksForFrames v r.sizes.frames) (settings.2 (a_size frames_size)) asks.sizes.0;
        drum = subst (λ v. AsksForDrum v r.sizes.drum) (settings.2 (a_size drum_size)) asks.sizes.1;
      },
    )

not_asked : (verb : Verb) (rest : List Text) (found : Found) → rows_of found ≡ matches_of run_app (name_of verb ∷ rest)
    → ((r : Request) → AsksForRun verb found r → ⊥) → (r : Request) → AskOf (name_of verb ∷ rest) r → ⊥
not_asked verb rest found is none r (name, settings, ask) =
    let same = clean_found settings (name_of verb ∷ rest) found (clean name settings (name_of verb ∷ rest) r ask) is in
    let named : name ≡ name_of verb = sym (ap (λ l. unwrap_or (slice_get l 0) []) ask.words_are) in
    none r (record {
      events = subst (λ v. AsksForEvents (name_of verb) v r.events) (same a_seed) (subst (λ n. AsksForEvents n (given a_seed settings) r.events) named ask.events);
      sizes = (subst (λ v. AsksForFrames v r.sizes.frames) (same (a_size frames_size)) ask.frames, subst (λ v. AsksForDrum v r.sizes.drum) (same (a_size drum_size)) ask.drum);
    })

answer_of : (verb : Verb) (rest : List Text) (found : Found) → IsFoundIn (name_of verb ∷ rest) found → (a : Option Request) → MatchOption a ((r : Request) → AsksForRun verb found r → ⊥) (λ r. AsksForRun verb found r)
    → MatchOption a ((r : Request) → AskOf (name_of verb ∷ rest) r → ⊥) (AskOf (name_of verb ∷ rest))
answer_of verb rest found is None none = not_asked verb rest found is.rows none
answer_of verb rest found is (Some r) h = asked verb rest found is r h

-- a verb by its name
pub verb_is : (name : Text) (verb : Verb) → verb_named name ≡ Some verb → name ≡ name_of verb
verb_is name verb = by (bytes_eq name (codes "run")) refl (bytes_eq name (codes "big")) refl
  where
    by : (b : Bool) → bytes_eq name (codes "run") ≡ b → (d : Bool) → bytes_eq name (codes "big") ≡ d → (if b then Some Run else (if d then Some Big else None)) ≡ Some verb → name ≡ name_of verb
    by true e d k is = (bytes_eq-Decides name (codes "run")).0 e ∙ ap (λ o. name_of (unwrap_or o Run)) is
    by false e true k is = (bytes_eq-Decides name (codes "big")).0 k ∙ ap (λ o. name_of (unwrap_or o Run)) is
    by false e false k is = absurd (none-some verb is)

-- the first of some words
pub first_is : (words : List Text) (name : Text) → slice_get words 0 ≡ Some name → (rest : List Text) × (words ≡ name ∷ rest)
first_is [] name e = absurd (none-some name e)
first_is (w ∷ ws) name e = (ws, ap (λ o. unwrap_or o w ∷ ws) e)

pub answer : (words : List Text) (name : Text) (verb : Verb) → slice_get words 0 ≡ Some name → verb_named name ≡ Some verb → (found : Found) → IsFoundIn words found → (a : Option Request)
    → MatchOption a ((r : Request) → AsksForRun verb found r → ⊥) (λ r. AsksForRun verb found r)
    → MatchOption a ((r : Request) → AskOf words r → ⊥) (AskOf words)
answer words name verb first named found is a h =
    let begins = first_is words name first in
    let whole : words ≡ name_of verb ∷ begins.0 = begins.1 ∙ ap (λ n. n ∷ begins.0) (verb_is name verb named) in
    subst (λ ws. IsFoundIn ws found → MatchOption a ((r : Request) → AskOf ws r → ⊥) (AskOf ws)) (sym whole) (λ i. answer_of verb begins.0 found i a h) is

-- words that ask for a run are right
pub run_right : (words : List Text) (r : Request) → AskOf words r → AreRight words
run_right words r (name, settings, ask) = (clean name settings words r ask).right

-- the first word, as a text
pub first_text : {Z : Type 0} (words : List (String Z)) (name : String Z) → slice_get words 0 ≡ Some name → slice_get (map string_bytes words) 0 ≡ Some (string_bytes name)
first_text [] name e = absurd (none-some name e)
first_text (w ∷ ws) name e = ap (λ o. Some (string_bytes (unwrap_or o w))) e
