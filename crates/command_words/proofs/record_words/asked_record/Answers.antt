use Rattle.std.proofs.Common.{rules, ◌≡◌, sym, subst, map, string_bytes, Some}
use Rattle.std.specs.Prelude.{MatchOption}
use Rattle.clap.specs.Words.{found_of}
use Rattle.command_words.proofs.Reading.{first_text}
use Rattle.command_words.proofs.Records.{record_answer, record_right}
use Rattle.command_words.specs.Parser.{AreRight, IsFoundIn, command_named}
use Rattle.command_words.proofs.record_words.asked_record.Goals as goal

pub returns-in-Ok-Some : goal.returns-in-Ok-Some
returns-in-Ok-Some c =
    let words = map string_bytes c.args.words.now in
    let name = string_bytes c.in-Some.name.now in
    let first = first_text c.args.words.now c.in-Some.name.now (sym c.in-Some.ensures.value) in
    let command : command_named name ≡ Some c.in-Some-named.command = search rules in
    let found : IsFoundIn words (found_of c.in-Ok-Some.matches) = subst (λ o. MatchOption o (AreRight words → ⊥) (λ m. IsFoundIn words (found_of m))) c.in-Ok-Some.field-0-is c.in-Ok-Some.ensures in
    record_answer words name c.in-Some-named.command first command (found_of c.in-Ok-Some.matches) found c.record_request.result c.record_request.ensures

pub returns-in-Ok-None : goal.returns-in-Ok-None
returns-in-Ok-None c = λ r asks.
    let words = map string_bytes c.args.words.now in
    let wrong : AreRight words → ⊥ = subst (λ o. MatchOption o (AreRight words → ⊥) (λ m. IsFoundIn words (found_of m))) c.in-Ok-None.field-0-is c.in-Ok-None.ensures in
    wrong (record_right words r asks)
