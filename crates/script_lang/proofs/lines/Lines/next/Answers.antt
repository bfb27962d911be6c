use Rattle.script_lang.specs.Lines.{IsReadFor, given, pending}
use Rattle.script_lang.proofs.Undecided.{unread}
use Rattle.script_lang.proofs.lines.Lines.next.Goals as goal

pub returns-then-not-matches-clause-unread : goal.returns-then-not-matches-clause-unread
returns-then-not-matches-clause-unread g c known =
    let l = c.args.self.now in
    unread g.S.Source.left (given l) (pending l) c.args.s.now c.advance-next.new.s (IsReadFor (given l) c.advance-next.result) c.advance-next.ensures.reads known

pub returns-else-not-matches-clause-unread : goal.returns-else-not-matches-clause-unread
returns-else-not-matches-clause-unread g c known =
    let l = c.args.self.now in
    unread g.S.Source.left (given l) (pending l) c.args.s.now c.advance-next.new.s (IsReadFor (given l) c.advance-next.result) c.advance-next.ensures.reads known
