use Rattle.std.proofs.Common.{◌<◌, arith}
use Rattle.ka10_unit.proofs.Stepping.{out_of_words, word_stops, word_calls, word_ends, word_goes}
use Rattle.ka10_unit.proofs.Lost.{stop_plan}
use Rattle.ka10_unit.proofs.plans.+follow.Goals as goal

pub returns-then-left-eq0-clause-told : goal.returns-then-left-eq0-clause-told
returns-then-left-eq0-clause-told g t c d f fits stands = rw c.stopped.ensures.plan (out_of_words _ _ c.args.regs.now _ c.args.left c.args.word c.args.is_local c.if-left-eq0.true stands)

pub returns-in-Err-clause-told : goal.returns-in-Err-clause-told
returns-in-Err-clause-told g t c d f fits stands =
    let more : 0 < c.args.left = omega arith in
    rw c.stopped-in-Err.ensures.plan (word_stops _ _ c.args.regs.now _ _ c.args.left c.args.word c.args.is_local more c.in-Err.stop (c.in-Err.ensures.told d f fits stands))

pub returns-in-Ok-Calls-clause-told : goal.returns-in-Ok-Calls-clause-told
returns-in-Ok-Calls-clause-told g t c d f fits stands =
    let more : 0 < c.args.left = omega arith in
    word_calls _ _ c.args.regs.now _ _ c.args.left c.args.word c.args.is_local more c.in-Ok-Calls.number (rw c.in-Ok-Calls.field-0-is at (c.in-Ok-Calls.ensures.told d f fits stands))

pub returns-in-Ok-Ends-clause-told : goal.returns-in-Ok-Ends-clause-told
returns-in-Ok-Ends-clause-told g t c d f fits stands =
    let more : 0 < c.args.left = omega arith in
    word_ends _ _ c.args.regs.now _ _ c.args.left c.args.word c.args.is_local more c.in-Ok-Ends.ending (rw c.in-Ok-Ends.field-0-is at (c.in-Ok-Ends.ensures.told d f fits stands))

pub returns-in-Ok-Goes-clause-told : goal.returns-in-Ok-Goes-clause-told
returns-in-Ok-Goes-clause-told g t c d f fits stands =
    let more : 0 < c.args.left = omega arith in
    let here = rw c.in-Ok-Goes.field-0-is at (c.in-Ok-Goes.ensures.told d f fits stands) in
    word_goes _ _ c.args.regs.now _ _ c.args.left c.args.word c.args.is_local more _ c.in-Ok-Goes.next _ here (c.follow.ensures.told d f fits here.stands)

pub returns-then-left-eq0-clause-needs : goal.returns-then-left-eq0-clause-needs
returns-then-left-eq0-clause-needs g t c = rw c.stopped.ensures.plan tt

pub returns-in-Err-clause-needs : goal.returns-in-Err-clause-needs
returns-in-Err-clause-needs g t c = rw c.stopped-in-Err.ensures.plan (stop_plan g.P.Pages.means.store c.args.pages.now c.in-Err.stop c.in-Err.ensures.needs.1)

pub returns-in-Err-clause-core : goal.returns-in-Err-clause-core
returns-in-Err-clause-core g t c = λ flat. c.stopped-in-Err.ensures.core (c.in-Err.ensures.needs.0 flat)
