use Rattle.script_driver.proofs.whole_run.close.Goals as goal

pub returns-in-Err-clause-err : goal.returns-in-Err-clause-err
returns-in-Err-clause-err g c = record { each = λ first is ss so. (c.give_up.ensures.cut_at_end c.args.last _).each first is ss (c.in-Err.ensures.err.each first is ss so) }
