use Rattle.std.proofs.Common.{sym, ◌∙◌, drop, codes}
use Rattle.asm_core.specs.Names.{jumps, on_condition, plain}
use Rattle.asm_core.proofs.Naming.{group_has, group_passed, last_group}
use Rattle.asm_core.proofs.names.jump.Goals as goal

pub returns-in-Some-in_group : goal.returns-in-Some-in_group
returns-in-Some-in_group c =
    let word = c.args.word.now in
    sym (group_passed (plain 0o104 (codes "JSYS ")) (drop 1 jumps) word c.in_default.ensures
    ∙ group_has (plain 0o250 (codes "EXCH BLT AOBJP AOBJN JRST JFCL XCT ")) (drop 2 jumps) word c.in-Some-in_group.op c.in-Some-in_group.ensures)

pub returns-in-Some-in_group-2 : goal.returns-in-Some-in_group-2
returns-in-Some-in_group-2 c =
    let word = c.args.word.now in
    sym (group_passed (plain 0o104 (codes "JSYS ")) (drop 1 jumps) word c.in_default.ensures
    ∙ (group_passed (plain 0o250 (codes "EXCH BLT AOBJP AOBJN JRST JFCL XCT ")) (drop 2 jumps) word c.in_default-in_group.ensures
    ∙ group_has (plain 0o260 (codes "PUSHJ PUSH POP POPJ JSR JSP JSA JRA ")) (drop 3 jumps) word c.in-Some-in_group-2.op c.in-Some-in_group-2.ensures))

pub returns : goal.returns
returns c =
    let word = c.args.word.now in
    last_group (on_condition 0o300 (codes "CAI CAM JUMP SKIP AOJ AOS SOJ SOS ")) word c.in_group-4.result c.in_group-4.ensures
    ∙ sym (group_passed (plain 0o104 (codes "JSYS ")) (drop 1 jumps) word c.in_default.ensures
    ∙ (group_passed (plain 0o250 (codes "EXCH BLT AOBJP AOBJN JRST JFCL XCT ")) (drop 2 jumps) word c.in_default-in_group.ensures
    ∙ group_passed (plain 0o260 (codes "PUSHJ PUSH POP POPJ JSR JSP JSA JRA ")) (drop 3 jumps) word c.in_default-in_group-2.ensures))
