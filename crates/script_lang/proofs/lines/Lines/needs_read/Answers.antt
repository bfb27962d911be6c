use Rattle.std.proofs.Common.{◌↔◌, IsTrue, length, refl, subst, sym}
use Rattle.std.proofs.Math.Dec.{leb}
use Rattle.script_texts.specs.Script.{HasNoFeed}
use Rattle.line_buffer.specs.Feeds.{IsFed}
use Rattle.script_lang.specs.Lines.{IsUndecided, given, pending}
use Rattle.script_lang.proofs.Undecided.{plain_decides, skips_line, skips_none, undecided_passes}
use Rattle.script_lang.proofs.lines.Lines.needs_read.Goals as goal

pub loop-count-init : goal.loop-count-init
loop-count-init c = skips_none _ c.args.self.now.reached.short

pub returns-then-not-passes_over-clause-answer : goal.returns-then-not-passes_over-clause-answer
returns-then-not-passes_over-clause-answer c =
    let l = c.loop-count.self in
    let fed = subst (λ b. IsFed b c.in-Some.count) c.bytes.ensures c.in-Some.ensures in
    ((λ none. cc none), (λ u. c.if-not-passes_over.ensures.1 (undecided_passes (given l) (pending l) c.in-Some.count fed u)))

pub loop-count-preserved : goal.loop-count-preserved
loop-count-preserved c =
    let l = c.loop-count.self in
    let fed = subst (λ b. IsFed b c.in-Some.count) c.bytes.ensures c.in-Some.ensures in
    skips_line _ l c.give.new.self c.in-Some.count fed c.loop-count.invariant (c.if-not-passes_over.ensures.0 refl) c.give.ensures.pending c.give.ensures.lines c.give.ensures.given c.give.ensures.advances c.give.ensures.stage

pub returns-clause-answer : goal.returns-clause-answer
returns-clause-answer c =
    let l = c.loop-count.self in
    let plain = subst HasNoFeed c.bytes.ensures c.in_default.ensures in
    subst (λ b. IsTrue (leb (length b) c.room.result) ↔ IsUndecided (given l) (pending l)) (sym c.bytes-2.ensures) (plain_decides (given l) c.room.result (pending l) plain c.room.ensures.whole)
