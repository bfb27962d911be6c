use Rattle.std.proofs.Common.{◌⊎◌, inl, inr, ◌<◌, length, subst, sym, arith, refl}
use Rattle.script_texts.specs.Script.{IsBadRest, IsLongRest}
use Rattle.script_lang.specs.Lines.{IsUndecided, given, pending, turns_given}
use Rattle.script_lang.proofs.Judging.{ends_bad, goes_long, stops_bad, stops_undecided}
use Rattle.line_buffer.proofs.Reading.{all_read, all_spent, reads_weaker}
use Rattle.script_lang.proofs.lines.Lines.long_line.Goals as goal

pub returns-in-Feed-clause-reads : goal.returns-in-Feed-clause-reads
returns-in-Feed-clause-reads g c =
    let before = given c.args.self.now in
    reads_weaker g.S.Source.left c.in-Feed.ensures.reads (IsUndecided before) (λ xs. Unit {0}) (λ xs stops. stops_undecided before 0 c.room-room.result xs c.room-room.ensures.whole stops) (λ xs ends. tt)

pub returns-in-Feed-clause-bad : goal.returns-in-Feed-clause-bad
returns-in-Feed-clause-bad g c h =
    let l = c.args.self.now in
    let over : (256 < length (pending l)) ⊎ (c.room-room.result < length (pending l)) = subst (λ n. (256 < length (pending l)) ⊎ (n < length (pending l))) (sym c.room-room.ensures.value) c.requires.over in
    all_read g.S.Source.left c.in-Feed.ensures.reads (IsBadRest (given l) (turns_given l)) (λ xs told ends. ends_bad (given l) (turns_given l) (length (pending l)) c.room-room.result xs told c.room-room.ensures.whole over ends)

pub returns-in-Last-clause-reads : goal.returns-in-Last-clause-reads
returns-in-Last-clause-reads g c =
    let before = given c.args.self.now in
    reads_weaker g.S.Source.left c.in-Last.ensures.reads (IsUndecided before) (λ xs. Unit {0}) (λ xs stops. stops_undecided before 0 c.room-room.result xs c.room-room.ensures.whole stops) (λ xs ends. tt)

pub returns-in-Last-clause-bad : goal.returns-in-Last-clause-bad
returns-in-Last-clause-bad g c h =
    let l = c.args.self.now in
    let over : (256 < length (pending l)) ⊎ (c.room-room.result < length (pending l)) = subst (λ n. (256 < length (pending l)) ⊎ (n < length (pending l))) (sym c.room-room.ensures.value) c.requires.over in
    let some : 0 < length (pending l) = elim over [ inl h ↦ omega arith | inr h ↦ omega arith ] in
    all_spent g.S.Source.left c.in-Last.ensures.reads (IsBadRest (given l) (turns_given l)) (c.in-Last.ensures.spends refl) (λ xs stops. stops_bad (given l) (turns_given l) (length (pending l)) c.room-room.result xs c.room-room.ensures.whole some stops)

pub returns-in-Over-clause-reads : goal.returns-in-Over-clause-reads
returns-in-Over-clause-reads g c =
    let before = given c.args.self.now in
    reads_weaker g.S.Source.left c.in-Over.ensures.reads (IsUndecided before) (λ xs. Unit {0}) (λ xs stops. stops_undecided before 0 c.room-room.result xs c.room-room.ensures.whole stops) (λ xs ends. tt)

pub returns-in-Over-clause-long : goal.returns-in-Over-clause-long
returns-in-Over-clause-long g c h =
    let l = c.args.self.now in
    all_read g.S.Source.left c.in-Over.ensures.reads (IsLongRest (given l)) (λ xs told goes. goes_long (given l) c.room-room.result xs told c.room-room.ensures.whole goes)

pub returns-in-Fault-clause-reads : goal.returns-in-Fault-clause-reads
returns-in-Fault-clause-reads g c =
    let before = given c.args.self.now in
    reads_weaker g.S.Source.left c.in-Fault.ensures.reads (IsUndecided before) (IsUndecided before) (λ xs stops. stops_undecided before 0 c.room-room.result xs c.room-room.ensures.whole stops)
    (λ xs stops. stops_undecided before (length (pending c.args.self.now)) c.room-room.result xs c.room-room.ensures.whole stops)
