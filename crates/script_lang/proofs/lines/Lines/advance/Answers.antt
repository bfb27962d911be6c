use Rattle.std.proofs.Common.{◌≡◌, ◌+◌, [], ◌∷◌, arith, subst, sym, ◌∙◌, ap, refl}
use Rattle.script_texts.specs.Script.{turns_of}
use Rattle.line_buffer.specs.Feeds.{AllLeft}
use Rattle.script_lang.specs.Lines.{Breaks, GivesFront, IsUndecided, Takes, given, lines_given, pending, turns_given}
use Rattle.script_lang.specs.declared.lines.Line.TheVariants.{One}
use Rattle.script_lang.proofs.Judging.{breaks_behind, done_behind, gives_both, gives_nothing, passes_behind, reads_behind, takes_read, undecided_behind}
use Rattle.line_buffer.proofs.Reading.{reads_none, spends_behind}
use Rattle.script_lang.proofs.lines.Lines.advance.Goals as goal

pub loop-event-init : goal.loop-event-init
loop-event-init g c = record {
  later = omega arith;
  unfaulted = refl;
  stage = refl;
  reads = reads_none g.S.Source.left (IsUndecided (given c.args.self.now)) (GivesFront c.args.self.now c.args.self.now []) (pending c.args.self.now) c.args.s.now (gives_nothing c.args.self.now);
  further = omega arith;
  same = refl;
}

pub loop-event-preserved : goal.loop-event-preserved
loop-event-preserved g c =
    let i = c.loop-event.invariant in
    let a = c.in-Blank.ensures.passes refl in
    record {
      later = omega (arith, i.later, c.line.ensures.later);
      unfaulted = c.in-Blank.ensures.unfaulted (λ is. absurd cc) ∙ i.unfaulted;
      stage = c.line.ensures.stage ∙ i.stage;
      reads = reads_behind g.S.Source.left (GivesFront c.args.self.now c.line.new.self []) i.reads c.in-Blank.ensures.reads (λ xs gives. gives_both c.args.self.now c.loop-event.self c.line.new.self [] [] _ xs i.reads.is gives);
      further = omega (arith, i.further, a.further);
      same = omega (arith, a.more_turns, i.same);
    }

pub returns-in-One-clause-takes : goal.returns-in-One-clause-takes
returns-in-One-clause-takes g c e h =
    let same : c.in-One.event ≡ e = cc h in
    let i = c.loop-event.invariant in
    subst (λ x. Takes g.S.Source.left c.args.self.now c.line.new.self c.args.s.now c.line.new.s (x ∷ [])) same
    (takes_read g.S.Source.left (reads_behind g.S.Source.left (GivesFront c.args.self.now c.line.new.self (c.in-One.event ∷ [])) i.reads c.in-One.ensures.reads (λ xs gives. gives_both c.args.self.now c.loop-event.self c.line.new.self [] (c.in-One.event ∷ []) _ xs i.reads.is gives)))

pub returns-in-One-clause-advances : goal.returns-in-One-clause-advances
returns-in-One-clause-advances g c e h =
    let same : c.in-One.event ≡ e = cc h in
    let i = c.loop-event.invariant in
    let a = c.in-One.ensures.advances e (ap One same) in
    record { further = omega (arith, i.further, a.further); short = a.short; counted = a.counted; more_turns = a.more_turns ∙ ap (λ n. n + turns_of e) i.same; few = a.few }

pub returns-in-Bad-clause-bad : goal.returns-in-Bad-clause-bad
returns-in-Bad-clause-bad g c n h =
    let i = c.loop-event.invariant in
    let l = c.args.self.now in
    let number : c.line.new.self.reached.lines + 1 ≡ n = cc h in
    let same : lines_given c.loop-event.self + 1 ≡ n = ap (λ k. k + 1) (sym (c.in-Bad.ensures.unmoved refl)) ∙ number in
    subst (λ k. AllLeft g.S.Source.left (pending l) c.args.s.now (Breaks (given l) (turns_given l) (lines_given l) k)) same
    (breaks_behind g.S.Source.left l c.loop-event.self c.args.s.now c.loop-event.s (takes_read g.S.Source.left i.reads) (lines_given c.loop-event.self + 1) i.same (c.in-Bad.ensures.bad refl))

pub returns-in-Long-clause-long : goal.returns-in-Long-clause-long
returns-in-Long-clause-long g c h = passes_behind g.S.Source.left c.args.self.now c.loop-event.self c.args.s.now c.loop-event.s (takes_read g.S.Source.left c.loop-event.invariant.reads) (c.in-Long.ensures.long refl)

pub returns-in-End-clause-end : goal.returns-in-End-clause-end
returns-in-End-clause-end g c h = done_behind g.S.Source.left c.args.self.now c.loop-event.self c.args.s.now c.loop-event.s (takes_read g.S.Source.left c.loop-event.invariant.reads) (c.in-End.ensures.end refl)

pub returns-in-One-clause-reads : goal.returns-in-One-clause-reads
returns-in-One-clause-reads g c = reads_behind g.S.Source.left (λ xs. Unit {0}) c.loop-event.invariant.reads c.in-One.ensures.reads (λ xs is. tt)

pub returns-in-Bad-clause-reads : goal.returns-in-Bad-clause-reads
returns-in-Bad-clause-reads g c = reads_behind g.S.Source.left (λ xs. Unit {0}) c.loop-event.invariant.reads c.in-Bad.ensures.reads (λ xs is. tt)

pub returns-in-Long-clause-reads : goal.returns-in-Long-clause-reads
returns-in-Long-clause-reads g c = reads_behind g.S.Source.left (λ xs. Unit {0}) c.loop-event.invariant.reads c.in-Long.ensures.reads (λ xs is. tt)

pub returns-in-End-clause-reads : goal.returns-in-End-clause-reads
returns-in-End-clause-reads g c = reads_behind g.S.Source.left (λ xs. Unit {0}) c.loop-event.invariant.reads c.in-End.ensures.reads (λ xs is. tt)

pub returns-in-Fault-clause-reads : goal.returns-in-Fault-clause-reads
returns-in-Fault-clause-reads g c =
    let i = c.loop-event.invariant in
    reads_behind g.S.Source.left (IsUndecided (given c.args.self.now)) i.reads c.in-Fault.ensures.reads (λ xs is. undecided_behind c.args.self.now c.loop-event.self _ xs i.reads.is is)

pub returns-in-End-clause-spends : goal.returns-in-End-clause-spends
returns-in-End-clause-spends g c h = spends_behind g.S.Source.left c.loop-event.invariant.reads c.line.new.s (c.in-End.ensures.spends refl)
