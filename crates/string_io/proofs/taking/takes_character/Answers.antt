use Rattle.std.proofs.Common.{◌≡◌, ℕ, refl, sym, ◌∙◌, ap, subst, arith}
use Rattle.std.specs.Prelude.{List}
use Rattle.plain_model.specs.declared.call.ByteChange.TheVariants.{Take}
use Rattle.plain_model.specs.Calls.{ends}
use Rattle.plain_model.specs.StringCalls.{takes_character, takes_next}
use Rattle.call_turns.specs.Turns.{FitsEnd}
use Rattle.ka10_unit.proofs.Adding.{sound_as}
use Rattle.file_bytes.specs.Asking.{asked_on}
use Rattle.file_bytes.specs.Planning.{CanTurn}
use Rattle.string_io.proofs.Planned.{once_plans, plans_by}
use Rattle.string_io.proofs.Taken.{none_stored, oldest_taken}
use Rattle.string_io.proofs.taking.takes_character.Goals as goal

pub returns-in-Some-clause-told : goal.returns-in-Some-clause-told
returns-in-Some-clause-told g c =
    let means = g.P.Pages.means in
    let who = c.args.who in
    let regs = c.args.regs.now in
    let tables = c.args.tables.now in
    let input : List ℕ = c.args.input.now.input in
    let word : c.wrapped.result ≡ c.in-Some.code = omega (arith, c.wrapped.ensures, c.from.ensures, c.in-Some.ensures.small) in
    plans_by means c.args.pages.now tables who (λ p. takes_next (asked_on who regs tables input p) (Take who.tty) c.wrapped.result) (λ p. takes_character (asked_on who regs tables input p) input) c.takes_next.result
    (λ p. ap (takes_next (asked_on who regs tables input p) (Take who.tty)) word ∙ oldest_taken (asked_on who regs tables input p) input c.in-Some.code c.in-Some.ensures.oldest) (c.takes_next.ensures.told tables input refl)

pub returns-in-None-clause-told : goal.returns-in-None-clause-told
returns-in-None-clause-told g c =
    let means = g.P.Pages.means in
    let who = c.args.who in
    let tables = c.args.tables.now in
    let input : List ℕ = c.args.input.now.input in
    once_plans means c.args.pages.now tables who (λ d fits. sound_as means c.args.pages.now _ (g.met.P.Pages.whole c.args.pages.now d fits) (g.met.P.Pages.agrees c.args.pages.now d fits)) c.at_once.result c.at_once.ensures.fork c.at_once.ensures.put c.at_once.ensures.none c.at_once.ensures.told
    (λ p. takes_character (asked_on who c.args.regs.now tables input p) input) (subst (FitsEnd (CanTurn tables who.tty)) (sym c.at_once.ensures.ending) tt)
    (λ p. ap ends c.at_once.ensures.ending ∙ none_stored (asked_on who c.args.regs.now tables input p) input c.in-None.ensures.oldest)
