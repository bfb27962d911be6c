use Rattle.std.proofs.Common.{◌+◌, refl, arith}
use Rattle.ka10_unit.specs.Gathers.{framed}
use Rattle.ka10_unit.proofs.Lost.{stop_more}
use Rattle.string_io.specs.Turning.{string_frames}
use Rattle.string_io.proofs.Depositing.{at_goes, at_read_stops, at_write_stops}
use Rattle.string_io.proofs.deposits.deposit_at.Goals as goal

pub returns-in-Err-clause-told : goal.returns-in-Err-clause-told
returns-in-Err-clause-told g c d fits stands =
    let p = framed g.P.Pages.means c.args.pages.now d in
    let n = c.args.next.now in
    at_read_stops c.args.taken.fork p n.change c.args.regs.now n.regs n.pointer n.byte c.args.e c.args.taken.gather c.ask.new.gather c.in-Err.stop (c.in-Err.ensures.told d fits stands.gathers)

pub returns-in-Err-ask-clause-told : goal.returns-in-Err-ask-clause-told
returns-in-Err-ask-clause-told g c d fits stands =
    let p = framed g.P.Pages.means c.args.pages.now d in
    let n = c.args.next.now in
    let read = c.in-Ok.ensures.told d fits stands.gathers in
    at_write_stops c.args.taken.fork p n.change c.args.regs.now n.regs n.pointer n.byte c.args.e c.args.taken.gather c.ask.new.gather c.ask-2.new.gather _ c.in-Err-ask.stop read (c.in-Err-ask.ensures.told d fits read.gathers)

pub returns-in-Ok-ask-clause-told : goal.returns-in-Ok-ask-clause-told
returns-in-Ok-ask-clause-told g c d fits stands =
    let p = framed g.P.Pages.means c.args.pages.now d in
    let n = c.args.next.now in
    let read = c.in-Ok.ensures.told d fits stands.gathers in
    let word = c.word_at-word.ensures.told d fits read.gathers (read.page _ refl) in
    at_goes c.args.taken.fork p n.change c.args.regs.now n.regs n.pointer n.byte c.args.e c.args.taken.gather c.ask.new.gather c.ask-2.new.gather _ _ c.word_at-word.result c.storing.result read (c.in-Ok-ask.ensures.told d fits read.gathers) word
    c.storing.ensures.fork c.storing.ensures.gather (rw c.deposit.ensures at c.storing.ensures.put) (rw c.deposit.ensures at c.storing.ensures.ending)

pub returns-in-Err-clause-needs : goal.returns-in-Err-clause-needs
returns-in-Err-clause-needs g c =
    let few = c.requires.few in
    (c.in-Err.ensures.core, stop_more g.P.Pages.means.store c.args.pages.now (c.args.taken.gather.homes + 1) string_frames c.in-Err.stop (omega (arith, few)) c.in-Err.ensures.needs)

pub returns-in-Err-ask-clause-needs : goal.returns-in-Err-ask-clause-needs
returns-in-Err-ask-clause-needs g c =
    let few = c.requires.few in
    (c.in-Err-ask.ensures.core, stop_more g.P.Pages.means.store c.args.pages.now (c.ask.new.gather.homes + 2) string_frames c.in-Err-ask.stop (omega (arith, few, c.in-Ok.ensures.made)) c.in-Err-ask.ensures.needs)
