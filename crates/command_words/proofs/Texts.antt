-- The words of a command that reads a text.
use Rattle.std.proofs.Common.{◌≡◌, ◌∙◌, refl, sym, ap, subst, List, [], ◌∷◌, Option, Some, None, codes}
use Rattle.std.specs.Prelude.{MatchOption, flat_map, unwrap_or}
use Rattle.std.proofs.lemmas.Option.{none-some}
use Rattle.machine_names.specs.declared.names.Tty.{Tty}
use Rattle.script_texts.specs.Script.{IsDecimal, IsTty}
use Rattle.command_words.specs.RecordWords.{AreRecordBy, AskRecordOf, command_name}
use Rattle.command_words.specs.TextWords.{AskForTerminalOf, AskTextOf, first_of, text_named}
use Rattle.command_words.specs.Words.{AreBy, AskOf, AsksForEvents, Text, a_seed, given, words_of}
use Rattle.command_words.specs.Parser.{name_of}
use Rattle.command_words.specs.declared.record_command.RecordCommand.{RecordCommand}
use Rattle.command_words.specs.declared.record_command.RecordCommand.TheVariants.{Replay, Image}
use Rattle.command_words.specs.declared.request.EventSource.{EventSource}
use Rattle.command_words.specs.declared.request.RecordRequest.{RecordRequest}
use Rattle.command_words.specs.declared.request.Request.{Request}
use Rattle.command_words.specs.declared.request.TextRequest.{TextRequest}
use Rattle.command_words.specs.declared.request.TextRequest.TheVariants.{Record as OfRecord, Assemble as OfProgram}
use Rattle.command_words.specs.declared.text_command.TextCommand.{TextCommand}
use Rattle.command_words.specs.declared.text_command.TextCommand.TheVariants.{Record, Assemble}
use Rattle.command_words.specs.declared.verb.Verb.{Verb}
use Rattle.command_words.specs.declared.verb.Verb.TheVariants.{Run, Big}
use Rattle.command_words.proofs.Reading.{verb_of}
use Rattle.command_words.proofs.Records.{one_record}

-- the command of what is asked
abbrev pub command_of : TextRequest → TextCommand
command_of (OfRecord request) = Record request.command
command_of (OfProgram t) = Assemble

named : (command : RecordCommand) → text_named (command_name command) ≡ Some (Record command)
named Replay = refl
named Image = refl

-- words that ask for something of a text begin with the name of its command
pub text_begins : (words : List Text) (q : TextRequest) → AskTextOf words q → first_of words ≡ Some (command_of q)
text_begins words (OfRecord request) (settings, are) = ap first_of are.words_are ∙ named request.command
text_begins words (OfProgram t) (digits, are, number) = ap first_of are

-- and words that ask for a run with that of none
verb_text : (verb : Verb) → text_named (name_of verb) ≡ None
verb_text Run = refl
verb_text Big = refl

pub run_begins : (words : List Text) (r : Request) → AskOf words r → first_of words ≡ None
run_begins words r (name, settings, are) =
    let verb = verb_of name (given a_seed settings) r.events are.events in
    ap first_of are.words_are ∙ (ap text_named verb.1 ∙ verb_text verb.0)

pub not_both : (words : List Text) (r : Request) (q : TextRequest) → AskOf words r → AskTextOf words q → ⊥
not_both words r q run text = none-some (command_of q) (sym (run_begins words r run) ∙ text_begins words q text)

-- each of a terminal's numbers is that of one terminal
one_terminal : (words : List Text) (t u : Tty) → AskForTerminalOf words t → AskForTerminalOf words u → t ≡ u
one_terminal words t u (a, is_a, n) (b, is_b, m) =
    let same : a ≡ b = ap (λ ws. second ws) (sym is_a ∙ is_b) in
    let of_b : IsDecimal 2 b t.0 = subst (λ d. IsDecimal 2 d t.0) same n.0 in
    ap (λ k. record { 0 = k }) (sym of_b.3 ∙ m.0.3)
  where
    second : List Text → Text
    second [] = []
    second (x ∷ []) = []
    second (x ∷ y ∷ ws) = y

same_command : (words : List Text) (q p : TextRequest) → AskTextOf words q → AskTextOf words p → command_of q ≡ command_of p
same_command words q p ask also = ap (λ o. unwrap_or o Assemble) (sym (text_begins words q ask) ∙ text_begins words p also)

pub one_text : (words : List Text) (q p : TextRequest) → AskTextOf words q → AskTextOf words p → q ≡ p
one_text words (OfRecord r) (OfRecord s) ask also = ap OfRecord (one_record words r s ask also)
one_text words (OfProgram t) (OfProgram u) ask also = ap OfProgram (one_terminal words t u ask also)
one_text words (OfRecord r) (OfProgram u) ask also = absurd (cc (same_command words (OfRecord r) (OfProgram u) ask also))
one_text words (OfProgram t) (OfRecord s) ask also = absurd (cc (same_command words (OfProgram t) (OfRecord s) ask also))

-- the words ask for nothing, where each kind of request is refuted
none_asked : (words : List Text) → ((r : RecordRequest) → AskRecordOf words r → ⊥) → ((t : Tty) → AskForTerminalOf words t → ⊥) → (q : TextRequest) → AskTextOf words q → ⊥
none_asked words no_record no_program (OfRecord r) ask = no_record r ask
none_asked words no_record no_program (OfProgram t) ask = no_program t ask

-- what words ask that ask for nothing of a record
pub other_asked : (words : List Text) (a : Option TextRequest) → ((r : RecordRequest) → AskRecordOf words r → ⊥)
    → MatchOption a ((t : Tty) → AskForTerminalOf words t → ⊥) (AskTextOf words)
    → MatchOption a ((q : TextRequest) → AskTextOf words q → ⊥) (AskTextOf words)
other_asked words None no_record no_program = none_asked words no_record no_program
other_asked words (Some q) no_record ask = ask
