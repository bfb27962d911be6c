use Rattle.std.proofs.Common.{map, string_bytes, subst}
use Rattle.std.specs.Prelude.{MatchOption}
use Rattle.command_words.specs.RecordWords.{AskRecord}
use Rattle.command_words.specs.declared.request.RecordRequest.{RecordRequest}
use Rattle.command_words.proofs.Texts.{other_asked}
use Rattle.command_words.proofs.text_words.asked_text.Goals as goal

pub returns-in-Ok-None : goal.returns-in-Ok-None
returns-in-Ok-None c =
    let words = c.args.words.now in
    let none : (r : RecordRequest) → AskRecord words r → ⊥ = subst (λ o. MatchOption o ((r : RecordRequest) → AskRecord words r → ⊥) (λ r. AskRecord words r)) c.in-Ok-None.field-0-is c.in-Ok-None.ensures in
    other_asked (map string_bytes words) c.asked_program.result none c.asked_program.ensures
