use Rattle.std.proofs.Common.{◌≡◌, ◌∙◌, ap, ap₂, true, codes, subst, map, string_bytes}
use Rattle.std.proofs.lemmas.Result.{IfOk-weaker}
use Rattle.clap.specs.Words.{App, FailsBy, app_of, fault_of, is_simple, is_simple_and_free, matches_of, new_app, with_rule}
use Rattle.clap.specs.Simple.{app_of_fields, on_top}
use Rattle.command_words.specs.Parser.{run_app}
use Rattle.command_words.proofs.parser.matches.Goals as goal

abbrev disabled : App → App
disabled = on_top (λ s. record s { disable_help_flag = true })

pub returns-clause-matches : goal.returns-clause-matches
returns-clause-matches c =
    let start : app_of c.disable_help_flag.result ≡ disabled (new_app (codes "tenex")) = ap app_of_fields c.disable_help_flag.ensures ∙ ap disabled c.new.ensures.app in
    let frames = c.in_ok-arg.ensures.shape c.option.ensures.local ∙ ap₂ with_rule start c.option.ensures.rule in
    let both = c.in_ok-arg-2.ensures.shape c.option-2.ensures.local ∙ ap₂ with_rule frames c.option-2.ensures.rule in
    let app : app_of c.in_ok-arg-3.field-0 ≡ run_app = c.in_ok-arg-3.ensures.shape c.seed.ensures.local ∙ ap₂ with_rule both c.seed.ensures.rule in
    IfOk-weaker c.try_get_matches_from.result _ _ (λ m h. (h (ap is_simple app)).0 ∙ ap (λ a. matches_of a (map string_bytes c.args.words.now)) app) c.try_get_matches_from.ensures.matches

pub returns-clause-kinds : goal.returns-clause-kinds
returns-clause-kinds c =
    let start : app_of c.disable_help_flag.result ≡ disabled (new_app (codes "tenex")) = ap app_of_fields c.disable_help_flag.ensures ∙ ap disabled c.new.ensures.app in
    let frames = c.in_ok-arg.ensures.shape c.option.ensures.local ∙ ap₂ with_rule start c.option.ensures.rule in
    let both = c.in_ok-arg-2.ensures.shape c.option-2.ensures.local ∙ ap₂ with_rule frames c.option-2.ensures.rule in
    let app : app_of c.in_ok-arg-3.field-0 ≡ run_app = c.in_ok-arg-3.ensures.shape c.seed.ensures.local ∙ ap₂ with_rule both c.seed.ensures.rule in
    subst (λ a. FailsBy (fault_of a (map string_bytes c.args.words.now)) c.try_get_matches_from.result) app (c.try_get_matches_from.ensures.kinds (ap is_simple_and_free app))
