use Rattle.std.proofs.Common.{◌++◌, codes, Some, None, sym, ◌∙◌}
use Rattle.std.proofs.lemmas.Bool.Decides.{Decides-eqb}
use Rattle.std.proofs.lemmas.Slice.Eq.{slice_eq-Decides, strip_prefix_is}
use Rattle.script_lang.specs.Grammar.{IsOfMachine}
use Rattle.script_lang.proofs.Choices.{no_machine, read_behind}
use Rattle.script_lang.proofs.keywords.machine_event.Goals as goal

pub returns-in-Some : goal.returns-in-Some
returns-in-Some c =
    let rest = c.in-Some.rest in
    let keyed = strip_prefix_is Decides-eqb c.args.line.now (codes "RUN ") (Some rest) c.in-Some.ensures.cases in
    read_behind IsOfMachine c.args.line.now (codes "RUN " ++ rest.now) c.run.result keyed c.run.ensures

pub returns-in-Some-strip_prefix : goal.returns-in-Some-strip_prefix
returns-in-Some-strip_prefix c =
    let rest = c.in-Some-strip_prefix.rest in
    let keyed = strip_prefix_is Decides-eqb c.args.line.now (codes "EVICT ") (Some rest) c.in-Some-strip_prefix.ensures.cases in
    read_behind IsOfMachine c.args.line.now (codes "EVICT " ++ rest.now) c.evict.result keyed c.evict.ensures

pub returns-in-Some-strip_prefix-2 : goal.returns-in-Some-strip_prefix-2
returns-in-Some-strip_prefix-2 c =
    let rest = c.in-Some-strip_prefix-2.rest in
    let keyed = strip_prefix_is Decides-eqb c.args.line.now (codes "DRUM ") (Some rest) c.in-Some-strip_prefix-2.ensures.cases in
    read_behind IsOfMachine c.args.line.now (codes "DRUM " ++ rest.now) c.drum.result keyed c.drum.ensures

pub returns-in-Some-strip_prefix-3 : goal.returns-in-Some-strip_prefix-3
returns-in-Some-strip_prefix-3 c =
    let rest = c.in-Some-strip_prefix-3.rest in
    let keyed = strip_prefix_is Decides-eqb c.args.line.now (codes "AUTO ") (Some rest) c.in-Some-strip_prefix-3.ensures.cases in
    read_behind IsOfMachine c.args.line.now (codes "AUTO " ++ rest.now) c.auto.result keyed c.auto.ensures

pub returns-in-Some-strip_prefix-4 : goal.returns-in-Some-strip_prefix-4
returns-in-Some-strip_prefix-4 c =
    let rest = c.in-Some-strip_prefix-4.rest in
    let keyed = strip_prefix_is Decides-eqb c.args.line.now (codes "TRACE ") (Some rest) c.in-Some-strip_prefix-4.ensures.cases in
    read_behind IsOfMachine c.args.line.now (codes "TRACE " ++ rest.now) c.trace.result keyed c.trace.ensures

pub returns : goal.returns
returns c =
    no_machine c.args.line.now
    (strip_prefix_is Decides-eqb c.args.line.now (codes "RUN ") None c.in_default.ensures.cases)
    (λ is. let eq = slice_eq-Decides Decides-eqb c.args.line.now c.as_slice.result.now c.eq.result c.eq.ensures in cc (c.if-eq.false, eq.1 (is ∙ sym c.as_slice.ensures)))
    (strip_prefix_is Decides-eqb c.args.line.now (codes "EVICT ") None c.in_default-strip_prefix.ensures.cases)
    (strip_prefix_is Decides-eqb c.args.line.now (codes "DRUM ") None c.in_default-strip_prefix-2.ensures.cases)
    (strip_prefix_is Decides-eqb c.args.line.now (codes "AUTO ") None c.in_default-strip_prefix-3.ensures.cases)
    (strip_prefix_is Decides-eqb c.args.line.now (codes "TRACE ") None c.in_default-strip_prefix-4.ensures.cases)
