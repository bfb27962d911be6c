use Rattle.std.proofs.Common.{ℕ, Ok, sym, ap, subst, arith, rules}
use Rattle.plain_model.specs.declared.call.End.TheVariants.{Trap}
use Rattle.plain_model.specs.declared.call.TheConstants.{SFPTR, SIZEF, RFPTR, PBIN}
use Rattle.plain_model.specs.Calls.{ends}
use Rattle.plain_units.specs.declared.channel.TheConstants.{ILLEGAL_INSTRUCTION}
use Rattle.plain_model.specs.ByteCalls.{byte_call}
use Rattle.file_bytes.specs.Asking.{asked_on}
use Rattle.file_bytes.specs.Planning.{IsPlan}
use Rattle.file_bytes.proofs.Plans.{can_turn, ends_at_once}
use Rattle.file_bytes.proofs.Tests.{no_call}
use Rattle.byte_io.proofs.turn.planned.Goals as goal

pub returns-in-23-clause-told : goal.returns-in-23-clause-told
returns-in-23-clause-told g c d f =
    let tables = c.args.tables.now in
    let t = c.args.who.tty in
    let p = g.P.Pages.means.plain c.args.pages.now d in
    let a = asked_on c.args.who c.args.regs.now tables c.args.input.now.input p in
    subst (λ (n : ℕ). IsPlan tables (g.P.Pages.means.scene c.args.pages.now) t p (byte_call n a) (Ok c.sfptr.result)) (sym c.in-23.is)
    (ends_at_once tables t p (byte_call SFPTR a) c.sfptr.result c.sfptr.ensures.fits (c.sfptr.ensures.turn a.input a.pages))

pub returns-in-30-clause-told : goal.returns-in-30-clause-told
returns-in-30-clause-told g c d f =
    let tables = c.args.tables.now in
    let t = c.args.who.tty in
    let p = g.P.Pages.means.plain c.args.pages.now d in
    let a = asked_on c.args.who c.args.regs.now tables c.args.input.now.input p in
    subst (λ (n : ℕ). IsPlan tables (g.P.Pages.means.scene c.args.pages.now) t p (byte_call n a) (Ok c.sizef.result)) (sym c.in-30.is)
    (ends_at_once tables t p (byte_call SIZEF a) c.sizef.result c.sizef.ensures.fits (c.sizef.ensures.turn d a.input f))

pub returns-in-35-clause-told : goal.returns-in-35-clause-told
returns-in-35-clause-told g c d f =
    let tables = c.args.tables.now in
    let t = c.args.who.tty in
    let p = g.P.Pages.means.plain c.args.pages.now d in
    let a = asked_on c.args.who c.args.regs.now tables c.args.input.now.input p in
    subst (λ (n : ℕ). IsPlan tables (g.P.Pages.means.scene c.args.pages.now) t p (byte_call n a) (Ok c.rfptr.result)) (sym c.in-35.is)
    (ends_at_once tables t p (byte_call RFPTR a) c.rfptr.result c.rfptr.ensures.fits (c.rfptr.ensures.turn a.input a.pages))

pub returns-in-41-clause-told : goal.returns-in-41-clause-told
returns-in-41-clause-told g c d f =
    let tables = c.args.tables.now in
    let t = c.args.who.tty in
    let p = g.P.Pages.means.plain c.args.pages.now d in
    let a = asked_on c.args.who c.args.regs.now tables c.args.input.now.input p in
    subst (λ (n : ℕ). IsPlan tables (g.P.Pages.means.scene c.args.pages.now) t p (byte_call n a) c.bout.result) (sym c.in-41.is) (c.bout.ensures.told a.input d f)

pub returns-in-59-clause-told : goal.returns-in-59-clause-told
returns-in-59-clause-told g c d f =
    let tables = c.args.tables.now in
    let t = c.args.who.tty in
    let p = g.P.Pages.means.plain c.args.pages.now d in
    let a = asked_on c.args.who c.args.regs.now tables c.args.input.now.input p in
    let e = c.next_character.result in
    subst (λ (n : ℕ). IsPlan tables (g.P.Pages.means.scene c.args.pages.now) t p (byte_call n a) (Ok e)) (sym c.in-59.is)
    (ends_at_once tables t p (byte_call PBIN a) e (c.next_character.ensures.fits tables) (ap ends (c.next_character.ensures.end tables a.pages)))

pub returns-in-59-clause-fits : goal.returns-in-59-clause-fits
returns-in-59-clause-fits g c =
    can_turn c.args.tables.now c.args.who.tty g.P.Pages.means c.args.pages.now c.next_character.result (c.next_character.ensures.fits c.args.tables.now)

pub returns-in_default-clause-told : goal.returns-in_default-clause-told
returns-in_default-clause-told g c d f =
    let tables = c.args.tables.now in
    let p = g.P.Pages.means.plain c.args.pages.now d in
    let a = asked_on c.args.who c.args.regs.now tables c.args.input.now.input p in
    ends_at_once tables c.args.who.tty p (byte_call c.args.number a) (Trap ILLEGAL_INSTRUCTION) (omega arith)
    (no_call c.args.number a (grind (arith, rules, c.in_default)) (grind (arith, rules, c.in_default)) (grind (arith, rules, c.in_default)) (grind (arith, rules, c.in_default)) (grind (arith, rules, c.in_default)) (grind (arith, rules, c.in_default)))
