use Rattle.std.proofs.Common.{◌++◌, codes, Some, None}
use Rattle.std.proofs.lemmas.Bool.Decides.{Decides-eqb}
use Rattle.std.proofs.lemmas.Slice.Eq.{strip_prefix_is}
use Rattle.script_lang.specs.Grammar.{IsOfFile}
use Rattle.script_lang.proofs.Choices.{no_file, read_behind}
use Rattle.script_lang.proofs.keywords.file_event.Goals as goal

pub returns-in-Some : goal.returns-in-Some
returns-in-Some c =
    let rest = c.in-Some.rest in
    let keyed = strip_prefix_is Decides-eqb c.args.line.now (codes "FILE ") (Some rest) c.in-Some.ensures.cases in
    read_behind IsOfFile c.args.line.now (codes "FILE " ++ rest.now) c.file.result keyed c.file.ensures

pub returns-in-Some-strip_prefix : goal.returns-in-Some-strip_prefix
returns-in-Some-strip_prefix c =
    let rest = c.in-Some-strip_prefix.rest in
    let keyed = strip_prefix_is Decides-eqb c.args.line.now (codes "WORDS ") (Some rest) c.in-Some-strip_prefix.ensures.cases in
    read_behind IsOfFile c.args.line.now (codes "WORDS " ++ rest.now) c.words.result keyed c.words.ensures

pub returns-in-Some-strip_prefix-2 : goal.returns-in-Some-strip_prefix-2
returns-in-Some-strip_prefix-2 c =
    let rest = c.in-Some-strip_prefix-2.rest in
    let keyed = strip_prefix_is Decides-eqb c.args.line.now (codes "PAGE ") (Some rest) c.in-Some-strip_prefix-2.ensures.cases in
    read_behind IsOfFile c.args.line.now (codes "PAGE " ++ rest.now) c.show_page.result keyed c.show_page.ensures

pub returns : goal.returns
returns c =
    no_file c.args.line.now
    (strip_prefix_is Decides-eqb c.args.line.now (codes "FILE ") None c.in_default.ensures.cases)
    (strip_prefix_is Decides-eqb c.args.line.now (codes "WORDS ") None c.in_default-strip_prefix.ensures.cases)
    (strip_prefix_is Decides-eqb c.args.line.now (codes "PAGE ") None c.in_default-strip_prefix-2.ensures.cases)
