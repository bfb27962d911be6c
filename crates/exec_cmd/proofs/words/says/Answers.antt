use Rattle.std.proofs.Common.{◌∙◌, sym, arith}
use Rattle.std.specs.Char.{to_ascii_uppercase}
use Rattle.std.proofs.Math.ListN.{get_or-map}
use Rattle.std.proofs.lemmas.List.{ext_get_or, length-map}
use lib.Pointwise.{bytes_decides}
use Rattle.machine_names.specs.FileNames.{raised}
use Rattle.exec_cmd.proofs.Said.{differ}
use Rattle.exec_cmd.proofs.words.says.Goals as goal

pub returns-then-to_ascii_uppercase-verb : goal.returns-then-to_ascii_uppercase-verb
returns-then-to_ascii_uppercase-verb c =
    let word = c.args.word.now in
    let verb = c.args.verb.now in
    let here = c.to_ascii_uppercase.ensures.value ∙ sym (get_or-map to_ascii_uppercase word c.loop-i.i 0) in
    sym (differ (raised word) verb c.loop-i.i (λ same. c.if-to_ascii_uppercase-verb.true (here ∙ same)))

pub returns : goal.returns
returns c =
    let word = c.args.word.now in
    let verb = c.args.verb.now in
    sym ((bytes_decides (raised word) verb).1 (ext_get_or 0 (raised word) verb (length-map word to_ascii_uppercase ∙ omega arith)
    (λ k h. get_or-map to_ascii_uppercase word k 0 ∙ c.loop-i.invariant k (omega (arith, length-map word to_ascii_uppercase, h)))))
