use Rattle.asm_core.specs.Passes.{kept}
use Rattle.asm_core.proofs.Wording.{on_ok, puts_halves, puts_no_word, puts_nothing, puts_number, puts_text}
use Rattle.asm_core.proofs.words.place.Goals as goal

pub returns-in-Nothing-clause-done : goal.returns-in-Nothing-clause-done
returns-in-Nothing-clause-done c = puts_nothing (kept c.args.symbols.now) c.args.location c.args.program.now.items c.args.statement.now c.in-Nothing.is

pub returns-in-Loc-clause-done : goal.returns-in-Loc-clause-done
returns-in-Loc-clause-done c = puts_no_word (kept c.args.symbols.now) c.args.location c.args.program.now.items c.args.statement.now c.in-Loc.field-0 c.in-Loc.is

pub returns-in-Number-clause-done : goal.returns-in-Number-clause-done
returns-in-Number-clause-done c =
    on_ok c.push.result
    (puts_number (kept c.args.symbols.now) c.args.location c.args.program.now.items c.push.new.program.items c.args.statement.now c.in-Number.word c.in-Number.is) c.push.ensures.done

pub returns-in-Halves-clause-done : goal.returns-in-Halves-clause-done
returns-in-Halves-clause-done c =
    on_ok c.place_halves.result
    (puts_halves (kept c.args.symbols.now) c.args.location c.args.program.now.items c.place_halves.new.program.items c.args.statement.now c.in-Halves.left c.in-Halves.right c.in-Halves.is) c.place_halves.ensures.done

pub returns-in-Asciz-clause-done : goal.returns-in-Asciz-clause-done
returns-in-Asciz-clause-done c =
    on_ok c.place_text.result
    (puts_text (kept c.args.symbols.now) c.args.location c.args.program.now.items c.place_text.new.program.items c.args.statement.now c.in-Asciz.text c.as_slice.result.now c.in-Asciz.is c.as_slice.ensures)
    c.place_text.ensures.done
