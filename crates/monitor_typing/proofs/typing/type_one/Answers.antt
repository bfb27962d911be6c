use Rattle.std.proofs.Common.{sym, subst}
use Rattle.event_deeds.specs.Deeds.{deeds}
use Rattle.event_deeds.specs.declared.answer.Showing.{Showing}
use Rattle.event_deeds.specs.declared.deed.Deed.{Deed}
use Rattle.plain_model.specs.TypeEvents.{typed_at}
use Rattle.step_shown.specs.Echoes.{echo_items, told_items}
use Rattle.step_shown.specs.declared.echo.Echo.{Echo as Echoed}
use Rattle.monitor_typing.specs.Effects.{Has}
use Rattle.monitor_typing.specs.Reaching.{PartReaches}
use Rattle.monitor_typing.proofs.CharacterParts.{has_ended, has_once, shown_end, shown_once}
use Rattle.monitor_core.proofs.JobOthers.{job_on}
use Rattle.monitor_typing.proofs.typing.type_one.Goals as goal

pub returns-in-Some-clause-has : goal.returns-in-Some-clause-has
returns-in-Some-clause-has g c =
    let first = c.type_first-first.result in
    let e = c.type_first-first.ensures in
    has_ended c.args.system.now c.type_first-first.new.system c.end_command.new.system c.args.t c.args.c c.in-Some.next first c.end_command.result c.are_trees.ensures c.in-Some.is
    (shown_end c.args.t c.in-Some.next first.next first.showing c.in-Some.is e.echoed.shown) e.does
    (subst (λ (x : Deed). Has c.type_first-first.new.system c.end_command.new.system (λ s. deeds 33 s x) (told_items c.args.t c.end_command.result)) c.in-Some.next-is c.end_command.ensures.has)

pub returns-in-Echo-clause-has : goal.returns-in-Echo-clause-has
returns-in-Echo-clause-has g c =
    let m = c.args.system.now in
    let n = c.type_first-first.new.system in
    let first = c.type_first-first.result in
    let e = c.type_first-first.ensures in
    subst (λ (x : Echoed). Has m n (λ s. typed_at s c.args.t c.args.c) (echo_items c.args.t x)) (sym c.in-Echo.shown-is)
    (has_once m n c.args.t c.in-Echo.field-0 c.args.c c.in-Echo.shown first c.are_trees.ensures c.in-None.is c.in-Echo.is (shown_once c.args.t c.in-Echo.field-0 first.next first.showing c.in-Echo.shown c.in-None.is c.in-Echo.is e.echoed.shown) e.does)

pub returns-in-Some-clause-others : goal.returns-in-Some-clause-others
returns-in-Some-clause-others g c =
    let t = c.args.t in
    let old = c.args.system.now.tree.forks in
    let mid = c.type_first-first.new.system.tree.forks in
    let first = c.type_first-first.result in
    let e = c.type_first-first.ensures in
    let ends = shown_end t c.in-Some.next first.next first.showing c.in-Some.is e.echoed.shown in
    job_on t old mid c.end_command.new.system.tree.forks (subst (λ (x : Showing). PartReaches x old mid) ends e.others) c.end_command.ensures.others
