use Rattle.std.proofs.Common.{rules, ◌≡◌, sym, subst, map, string_bytes, Some}
use Rattle.std.specs.Prelude.{MatchOption}
use Rattle.clap.specs.Words.{found_of}
use Rattle.command_words.proofs.Reading.{answer, first_text, run_right}
use Rattle.command_words.specs.Parser.{AreRight, IsFoundIn, verb_named}
use Rattle.command_words.proofs.words.asked_run.Goals as goal

pub returns-in-Ok-Some : goal.returns-in-Ok-Some
returns-in-Ok-Some c =
    let words = map string_bytes c.args.words.now in
    let name = string_bytes c.in-Some.name.now in
    let first = first_text c.args.words.now c.in-Some.name.now (sym c.in-Some.ensures.value) in
    let verb : verb_named name ≡ Some c.in-Some-named.verb = search rules in
    let found : IsFoundIn words (found_of c.in-Ok-Some.matches) = subst (λ o. MatchOption o (AreRight words → ⊥) (λ m. IsFoundIn words (found_of m))) c.in-Ok-Some.field-0-is c.in-Ok-Some.ensures in
    answer words name c.in-Some-named.verb first verb (found_of c.in-Ok-Some.matches) found c.request_of.result c.request_of.ensures

pub returns-in-Ok-None : goal.returns-in-Ok-None
returns-in-Ok-None c = λ r asks.
    let words = map string_bytes c.args.words.now in
    let wrong : AreRight words → ⊥ = subst (λ o. MatchOption o (AreRight words → ⊥) (λ m. IsFoundIn words (found_of m))) c.in-Ok-None.field-0-is c.in-Ok-None.ensures in
    wrong (run_right words r asks)
