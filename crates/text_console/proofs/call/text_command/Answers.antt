use Rattle.std.proofs.Common.{◌∙◌, inl, map, string_bytes, subst, sym}
use Rattle.std.specs.Prelude.{MatchOption}
use Rattle.command_words.specs.TextWords.{AskText}
use Rattle.command_words.proofs.Texts.{one_text}
use Rattle.text_console.specs.Statuses.{AskForNoText}
use Rattle.text_console.proofs.Asking.{can_be_made}
use Rattle.text_console.proofs.Ending.{made_as, made_done}
use Rattle.text_console.proofs.call.text_command.Goals as goal

pub make-requires : goal.make-requires
make-requires g c =
    let words = c.args.words.now in
    let asks : AskText words c.in-Ok-Some.request = subst (λ o. MatchOption o (AskForNoText words) (λ q. AskText words q)) c.in-Ok-Some.field-0-is c.in-Ok-Some.ensures in
    can_be_made words c.in-Ok-Some.request asks

pub returns-in-Ok-Some-clause-ends : goal.returns-in-Ok-Some-clause-ends
returns-in-Ok-Some-clause-ends g c q asks =
    let words = c.args.words.now in
    let asked : AskText words c.in-Ok-Some.request = subst (λ o. MatchOption o (AskForNoText words) (λ q. AskText words q)) c.in-Ok-Some.field-0-is c.in-Ok-Some.ensures in
    let same = one_text (map string_bytes words) c.in-Ok-Some.request q asked asks in
    inl (record {
      how = c.make.result;
      status_is = sym c.status.ensures;
      made = made_as (g.S.Source.left c.args.text.now) (g.S.Source.left c.make.new.text) (g.T.Sink.taken c.args.out.now) (g.T.Sink.taken c.make.new.out) c.in-Ok-Some.request q c.make.result same c.make.ensures.made;
    })

pub returns-in-Ok-Some-clause-done : goal.returns-in-Ok-Some-clause-done
returns-in-Ok-Some-clause-done g c q asks done =
    let words = c.args.words.now in
    let asked : AskText words c.in-Ok-Some.request = subst (λ o. MatchOption o (AskForNoText words) (λ q. AskText words q)) c.in-Ok-Some.field-0-is c.in-Ok-Some.ensures in
    let same = one_text (map string_bytes words) c.in-Ok-Some.request q asked asks in
    let left = g.S.Source.left c.args.text.now in
    let left' = g.S.Source.left c.make.new.text in
    let taken = g.T.Sink.taken c.args.out.now in
    let taken' = g.T.Sink.taken c.make.new.out in
    made_done q left left' c.make.result taken taken' (sym c.status.ensures ∙ done) (made_as left left' taken taken' c.in-Ok-Some.request q c.make.result same c.make.ensures.made)
