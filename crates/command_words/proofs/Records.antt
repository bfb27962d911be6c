-- The words of a command that reads a record.
use Rattle.std.proofs.Common.{◌≡◌, ◌∙◌, refl, sym, ap, ap₂, subst, Bool, true, false, List, [], ◌∷◌, Option, Some, None, codes}
use Rattle.std.specs.Prelude.{MatchOption, slice_get, unwrap_or, flat_map, if◌then◌else◌}
use Rattle.std.specs.Str.{bytes_eq}
use Rattle.std.proofs.lemmas.Option.{none-some}
use Rattle.std.proofs.lemmas.Slice.Eq.{bytes_eq-Decides}
use Rattle.outside.specs.declared.TheConstants.{MOST_DRUM_PAGES}
use Rattle.command_words.specs.declared.sizes.TheConstants.{LEAST_DRUM_PAGES, STANDARD_DRUM_PAGES}
use Rattle.clap.specs.Words.{matches_of, rows_of}
use Rattle.clap.specs.declared.parser.matches.Found.{Found}
use Rattle.command_words.specs.Words.{AsksForDrum, Setting, Text, a_seed, a_size, drum_size, frames_size, given, words_of}
use Rattle.command_words.specs.RecordWords.{AreRecordBy, AskRecordOf, command_name}
use Rattle.command_words.specs.Parser.{AreRight, AsksForRecord, IsFoundIn, command_named, is_other, run_app}
use Rattle.command_words.specs.declared.record_command.RecordCommand.{RecordCommand}
use Rattle.command_words.specs.declared.record_command.RecordCommand.TheVariants.{Replay, Image}
use Rattle.command_words.specs.declared.request.RecordRequest.{RecordRequest}
use Rattle.command_words.proofs.Whole.{Fine, IsSingle}
use Rattle.command_words.proofs.Reading.{IsClean, clean_by, clean_found, first_is, one_number, read_found, single}

fine : (settings : List Setting) (words : List Text) (r : RecordRequest) → AreRecordBy settings words r → Fine settings
fine settings words r are (a_size frames_size) = subst IsSingle (sym are.no_frames) tt
fine settings words r are (a_size drum_size) = single LEAST_DRUM_PAGES MOST_DRUM_PAGES STANDARD_DRUM_PAGES (given (a_size drum_size) settings) r.drum are.drum
fine settings words r are a_seed = subst IsSingle (sym are.no_seed) tt

command_other : (command : RecordCommand) → is_other (command_name command) ≡ true
command_other Replay = refl
command_other Image = refl

-- the words that ask for something of a record
clean : (settings : List Setting) (words : List Text) (r : RecordRequest) → AreRecordBy settings words r → IsClean settings words
clean settings words r are = clean_by (command_name r.command) settings words (command_other r.command) (fine settings words r are) are.words_are

pub record_right : (words : List Text) (r : RecordRequest) → AskRecordOf words r → AreRight words
record_right words r (settings, are) = (clean settings words r are).right

-- the name of a command tells it
pub command_found : (command : RecordCommand) → command_named (command_name command) ≡ Some command
command_found Replay = refl
command_found Image = refl

one_command : (a b : RecordCommand) → command_name a ≡ command_name b → a ≡ b
one_command a b same = ap (λ o. unwrap_or o a) (sym (command_found a) ∙ ap command_named same ∙ command_found b)

pub command_is : (name : Text) (command : RecordCommand) → command_named name ≡ Some command → name ≡ command_name command
command_is name command = by (bytes_eq name (codes "replay")) (bytes_eq name (codes "image")) refl refl
  where
    by : (b i : Bool) → bytes_eq name (codes "replay") ≡ b → bytes_eq name (codes "image") ≡ i → (if b then Some Replay else (if i then Some Image else None)) ≡ Some command → name ≡ command_name command
    by true i e f is = (bytes_eq-Decides name (codes "replay")).0 e ∙ ap (λ o. command_name (unwrap_or o Replay)) is
    by false true e f is = (bytes_eq-Decides name (codes "image")).0 f ∙ ap (λ o. command_name (unwrap_or o Image)) is
    by false false e f is = absurd (none-some command is)

first_word : (name : Text) (rest words : List Text) → words ≡ name ∷ rest → slice_get words 0 ≡ Some name
first_word name rest words is = ap (λ l. slice_get l 0) is

-- words that ask for something of a record have a first one, that of a command
pub record_begins : (words : List Text) (r : RecordRequest) → AskRecordOf words r → slice_get words 0 ≡ Some (command_name r.command)
record_begins words r (settings, are) = first_word (command_name r.command) (flat_map words_of settings) words are.words_are

pub one_record : (words : List Text) (r q : RecordRequest) → AskRecordOf words r → AskRecordOf words q → r ≡ q
one_record words r q (xs, ask) (ys, also) =
    let a = clean xs words r ask in
    let b = clean ys words q also in
    let same : given (a_size drum_size) ys ≡ given (a_size drum_size) xs = sym (b.values (a_size drum_size)) ∙ a.values (a_size drum_size) in
    let named : command_name r.command ≡ command_name q.command = ap (λ o. unwrap_or o []) (sym (record_begins words r (xs, ask)) ∙ record_begins words q (ys, also)) in
    let drum = one_number LEAST_DRUM_PAGES MOST_DRUM_PAGES STANDARD_DRUM_PAGES (given (a_size drum_size) xs) r.drum q.drum ask.drum (subst (λ v. AsksForDrum v q.drum) same also.drum) in
    ap₂ (λ c d. record { command = c; drum = d }) (one_command r.command q.command named) drum

-- what is found of words that are right, where it asks for something or for nothing
asked : (command : RecordCommand) (rest : List Text) (found : Found) → IsFoundIn (command_name command ∷ rest) found → (r : RecordRequest) → AsksForRecord command found r → AskRecordOf (command_name command ∷ rest) r
asked command rest found is r asks =
    let settings = read_found (command_name command) rest found is in (
      settings.0,
      record {
        words_are = ap₂ (λ c l. command_name c ∷ l) (sym asks.command_is) settings.1;
        no_frames = sym (settings.2 (a_size frames_size)) ∙ asks.no_frames;
        no_seed = sym (settings.2 a_seed) ∙ asks.no_seed;
        drum = subst (λ v. AsksForDrum v r.drum) (settings.2 (a_size drum_size)) asks.drum;
      },
    )

not_asked : (command : RecordCommand) (rest : List Text) (found : Found) → rows_of found ≡ matches_of run_app (command_name command ∷ rest)
    → ((r : RecordRequest) → AsksForRecord command found r → ⊥) → (r : RecordRequest) → AskRecordOf (command_name command ∷ rest) r → ⊥
not_asked command rest found is none r (settings, are) =
    let words = command_name command ∷ rest in
    let same = clean_found settings words found (clean settings words r are) is in
    none r (record {
      command_is = sym (one_command command r.command (ap (λ l. unwrap_or (slice_get l 0) []) are.words_are));
      no_frames = sym (same (a_size frames_size)) ∙ are.no_frames;
      no_seed = sym (same a_seed) ∙ are.no_seed;
      drum = subst (λ v. AsksForDrum v r.drum) (same (a_size drum_size)) are.drum;
    })

answer_of : (command : RecordCommand) (rest : List Text) (found : Found) → IsFoundIn (command_name command ∷ rest) found → (a : Option RecordRequest) → MatchOption a ((r : RecordRequest) → AsksForRecord command found r → ⊥) (λ r. AsksForRecord command found r)
    → MatchOption a ((r : RecordRequest) → AskRecordOf (command_name command ∷ rest) r → ⊥) (AskRecordOf (command_name command ∷ rest))
answer_of command rest found is None none = not_asked command rest found is.rows none
answer_of command rest found is (Some r) h = asked command rest found is r h

pub record_answer : (words : List Text) (name : Text) (command : RecordCommand) → slice_get words 0 ≡ Some name → command_named name ≡ Some command → (found : Found) → IsFoundIn words found → (a : Option RecordRequest)
    → MatchOption a ((r : RecordRequest) → AsksForRecord command found r → ⊥) (λ r. AsksForRecord command found r)
    → MatchOption a ((r : RecordRequest) → AskRecordOf words r → ⊥) (AskRecordOf words)
record_answer words name command first named found is a h =
    let begins = first_is words name first in
    let whole : words ≡ command_name command ∷ begins.0 = begins.1 ∙ ap (λ n. n ∷ begins.0) (command_is name command named) in
    subst (λ ws. IsFoundIn ws found → MatchOption a ((r : RecordRequest) → AskRecordOf ws r → ⊥) (AskRecordOf ws)) (sym whole) (λ i. answer_of command begins.0 found i a h) is
