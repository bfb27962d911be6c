use Rattle.std.proofs.Common.{◌≡◌, ◌+◌, ◌<◌, [], ◌++◌, arith, length, sym, ◌∙◌, ap, subst, refl}
use Rattle.std.proofs.lemmas.Bool.{eqb-true}
use Rattle.std.proofs.lemmas.Bool.Decides.{nat_tests}
use Rattle.std.proofs.lemmas.List.{nil_from_length}
use Rattle.script_texts.specs.Script.{IsBadRest, IsLongRest}
use Rattle.script_lang.specs.Lines.{Breaks, IsDone, IsReadBy, IsUndecided, Passes, given, lines_given, turns_given}
use Rattle.script_lang.proofs.Judging.{breaks_now, done_now, passes_now, read_by_final, read_by_line, stops_bad, stops_undecided}
use Rattle.line_buffer.proofs.Reading.{all_behind, all_read, all_spent, reads_then, reads_weaker}
use Rattle.script_lang.proofs.lines.Lines.line.Goals as goal

pub returns-in-Line-clause-reads : goal.returns-in-Line-clause-reads
returns-in-Line-clause-reads g c =
    let l = c.args.self.now in
    let judged = read_by_line l _ c.judge.new.self c.judge.result refl refl c.judge.ensures.gives c.judge.ensures.blank c.judge.ensures.here.1 in
    reads_weaker g.S.Source.left c.in-Line.ensures.reads (IsUndecided (given l)) (IsReadBy l c.judge.new.self c.judge.result) (λ xs stops. stops_undecided (given l) 0 c.room-room.result xs c.room-room.ensures.whole stops)
    (λ xs same. subst (IsReadBy l c.judge.new.self c.judge.result) (sym same) judged)

pub returns-in-Line-clause-advances : goal.returns-in-Line-clause-advances
returns-in-Line-clause-advances g c e h =
    let a = c.judge.ensures.advances e h in
    record { further = a.further; short = a.short; counted = a.counted; more_turns = a.more_turns; few = a.few }

pub returns-in-Line-clause-passes : goal.returns-in-Line-clause-passes
returns-in-Line-clause-passes g c h =
    let a = c.judge.ensures.passes h in
    record { further = a.further; short = a.short; counted = a.counted; more_turns = a.more_turns; few = a.few }

pub returns-in-Line-clause-bad : goal.returns-in-Line-clause-bad
returns-in-Line-clause-bad g c h =
    let l = c.args.self.now in
    all_read g.S.Source.left c.in-Line.ensures.reads (Breaks (given l) (turns_given l) (lines_given l) (lines_given l + 1))
    (λ xs told same. breaks_now (given l) (turns_given l) (lines_given l) (xs ++ told) (subst (λ b. IsBadRest (given l) (turns_given l) (b ++ told)) (sym same) (c.judge.ensures.bad h told)))

pub returns-in-Line-clause-long : goal.returns-in-Line-clause-long
returns-in-Line-clause-long g c h =
    let l = c.args.self.now in
    all_read g.S.Source.left c.in-Line.ensures.reads (Passes (given l)) (λ xs told same. passes_now (given l) (xs ++ told) (subst (λ b. IsLongRest (given l) (b ++ told)) (sym same) (c.judge.ensures.long h told)))

pub returns-then-is_empty-clause-reads : goal.returns-then-is_empty-clause-reads
returns-then-is_empty-clause-reads g c =
    let before = given c.args.self.now in
    reads_weaker g.S.Source.left c.in-Last.ensures.reads (IsUndecided before) (λ xs. Unit {0}) (λ xs stops. stops_undecided before 0 c.room-room.result xs c.room-room.ensures.whole stops) (λ xs same. tt)

pub returns-then-is_empty-clause-end : goal.returns-then-is_empty-clause-end
returns-then-is_empty-clause-end g c h =
    let l = c.args.self.now in
    let none = sym c.bytes.ensures ∙ nil_from_length c.bytes.result.now (eqb-true (length c.bytes.result.now) 0 (sym c.is_empty.ensures ∙ c.if-is_empty.true)) in
    all_spent g.S.Source.left c.in-Last.ensures.reads (IsDone (given l)) (c.in-Last.ensures.spends refl) (λ xs same. done_now (given l) xs (omega (arith, c.room-room.ensures.whole)) (same ∙ none))

pub returns-else-is_empty-clause-reads : goal.returns-else-is_empty-clause-reads
returns-else-is_empty-clause-reads g c =
    let before = given c.args.self.now in
    reads_weaker g.S.Source.left c.in-Last.ensures.reads (IsUndecided before) (λ xs. Unit {0}) (λ xs stops. stops_undecided before 0 c.room-room.result xs c.room-room.ensures.whole stops) (λ xs same. tt)

pub returns-else-is_empty-clause-bad : goal.returns-else-is_empty-clause-bad
returns-else-is_empty-clause-bad g c h =
    let l = c.args.self.now in
    let held = c.find.new.self in
    let some : 0 < length held = grind (arith, nat_tests, ap length c.bytes.ensures) in
    let stops = c.in-Last.ensures.last refl in
    let bad = stops_bad (given l) (turns_given l) 1 c.room-room.result held c.room-room.ensures.whole (omega arith) (record { plain = stops.plain; far = omega (arith, some); near = stops.near }) in
    all_spent g.S.Source.left c.in-Last.ensures.reads (Breaks (given l) (turns_given l) (lines_given l) (lines_given l + 1)) (c.in-Last.ensures.spends refl)
    (λ xs same. breaks_now (given l) (turns_given l) (lines_given l) xs (subst (IsBadRest (given l) (turns_given l)) (sym same) bad))

pub returns-in-Over-clause-reads : goal.returns-in-Over-clause-reads
returns-in-Over-clause-reads g c =
    let l = c.args.self.now in
    let found =
    reads_weaker g.S.Source.left c.in-Over.ensures.reads (IsUndecided (given l)) (λ xs. xs ≡ c.find.new.self) (λ xs stops. stops_undecided (given l) 0 c.room-room.result xs c.room-room.ensures.whole stops) (λ xs same. same) in
    reads_then g.S.Source.left found (IsReadBy l _ c.long_line.result) [] c.find.new.self c.long_line.ensures.reads found.is (λ xs needs. needs) (λ xs by. read_by_final l _ _ _ c.long_line.result xs refl c.long_line.ensures.here by)

pub returns-in-Over-clause-bad : goal.returns-in-Over-clause-bad
returns-in-Over-clause-bad g c h =
    let l = c.args.self.now in
    all_behind g.S.Source.left (IsBadRest (given l) (turns_given l)) (Breaks (given l) (turns_given l) (lines_given l) (lines_given l + 1)) c.in-Over.ensures.reads (breaks_now (given l) (turns_given l) (lines_given l)) (c.long_line.ensures.bad h)

pub returns-in-Over-clause-long : goal.returns-in-Over-clause-long
returns-in-Over-clause-long g c h =
    let l = c.args.self.now in
    all_behind g.S.Source.left (IsLongRest (given l)) (Passes (given l)) c.in-Over.ensures.reads (passes_now (given l)) (c.long_line.ensures.long h)

pub returns-in-Fault-clause-reads : goal.returns-in-Fault-clause-reads
returns-in-Fault-clause-reads g c =
    let before = given c.args.self.now in
    reads_weaker g.S.Source.left c.in-Fault.ensures.reads (IsUndecided before) (IsUndecided before) (λ xs stops. stops_undecided before 0 c.room-room.result xs c.room-room.ensures.whole stops)
    (λ xs same. subst (IsUndecided before) (sym same) (stops_undecided before 0 c.room-room.result c.find.new.self c.room-room.ensures.whole (c.in-Fault.ensures.fault refl)))
