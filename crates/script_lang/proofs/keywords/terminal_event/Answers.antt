use Rattle.std.proofs.Common.{◌++◌, codes, Some, None}
use Rattle.std.proofs.lemmas.Bool.Decides.{Decides-eqb}
use Rattle.std.proofs.lemmas.Slice.Eq.{strip_prefix_is}
use Rattle.script_lang.specs.Grammar.{IsOfTerminal}
use Rattle.script_lang.proofs.Choices.{no_terminal, read_behind}
use Rattle.script_lang.proofs.keywords.terminal_event.Goals as goal

pub returns-in-Some : goal.returns-in-Some
returns-in-Some c =
    let rest = c.in-Some.rest in
    let keyed = strip_prefix_is Decides-eqb c.args.line.now (codes "POKE ") (Some rest) c.in-Some.ensures.cases in
    read_behind IsOfTerminal c.args.line.now (codes "POKE " ++ rest.now) c.poke.result keyed c.poke.ensures

pub returns-in-Some-strip_prefix : goal.returns-in-Some-strip_prefix
returns-in-Some-strip_prefix c =
    let rest = c.in-Some-strip_prefix.rest in
    let keyed = strip_prefix_is Decides-eqb c.args.line.now (codes "TYPE ") (Some rest) c.in-Some-strip_prefix.ensures.cases in
    read_behind IsOfTerminal c.args.line.now (codes "TYPE " ++ rest.now) c.type_in.result keyed c.type_in.ensures

pub returns-in-Some-strip_prefix-2 : goal.returns-in-Some-strip_prefix-2
returns-in-Some-strip_prefix-2 c =
    let rest = c.in-Some-strip_prefix-2.rest in
    let keyed = strip_prefix_is Decides-eqb c.args.line.now (codes "LOGIN ") (Some rest) c.in-Some-strip_prefix-2.ensures.cases in
    read_behind IsOfTerminal c.args.line.now (codes "LOGIN " ++ rest.now) c.login.result keyed c.login.ensures

pub returns-in-Some-strip_prefix-3 : goal.returns-in-Some-strip_prefix-3
returns-in-Some-strip_prefix-3 c =
    let rest = c.in-Some-strip_prefix-3.rest in
    let keyed = strip_prefix_is Decides-eqb c.args.line.now (codes "START ") (Some rest) c.in-Some-strip_prefix-3.ensures.cases in
    read_behind IsOfTerminal c.args.line.now (codes "START " ++ rest.now) c.start.result keyed c.start.ensures

pub returns-in-Some-strip_prefix-4 : goal.returns-in-Some-strip_prefix-4
returns-in-Some-strip_prefix-4 c =
    let rest = c.in-Some-strip_prefix-4.rest in
    let keyed = strip_prefix_is Decides-eqb c.args.line.now (codes "EXAMINE ") (Some rest) c.in-Some-strip_prefix-4.ensures.cases in
    read_behind IsOfTerminal c.args.line.now (codes "EXAMINE " ++ rest.now) c.examine.result keyed c.examine.ensures

pub returns-in-Some-strip_prefix-5 : goal.returns-in-Some-strip_prefix-5
returns-in-Some-strip_prefix-5 c =
    let rest = c.in-Some-strip_prefix-5.rest in
    let keyed = strip_prefix_is Decides-eqb c.args.line.now (codes "FORKS ") (Some rest) c.in-Some-strip_prefix-5.ensures.cases in
    read_behind IsOfTerminal c.args.line.now (codes "FORKS " ++ rest.now) c.forks.result keyed c.forks.ensures

pub returns : goal.returns
returns c =
    no_terminal c.args.line.now
    (strip_prefix_is Decides-eqb c.args.line.now (codes "POKE ") None c.in_default.ensures.cases)
    (strip_prefix_is Decides-eqb c.args.line.now (codes "TYPE ") None c.in_default-strip_prefix.ensures.cases)
    (strip_prefix_is Decides-eqb c.args.line.now (codes "LOGIN ") None c.in_default-strip_prefix-2.ensures.cases)
    (strip_prefix_is Decides-eqb c.args.line.now (codes "START ") None c.in_default-strip_prefix-3.ensures.cases)
    (strip_prefix_is Decides-eqb c.args.line.now (codes "EXAMINE ") None c.in_default-strip_prefix-4.ensures.cases)
    (strip_prefix_is Decides-eqb c.args.line.now (codes "FORKS ") None c.in_default-strip_prefix-5.ensures.cases)
