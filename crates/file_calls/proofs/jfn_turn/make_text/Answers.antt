use Rattle.std.proofs.Common.{sym, arith}
use Rattle.ka10_unit.proofs.Carried.{grows_none, grows_within}
use Rattle.file_calls.proofs.Turns.{undone}
use Rattle.file_calls.proofs.jfn_turn.make_text.Goals as goal

pub returns-in_default : goal.returns-in_default
returns-in_default g c =
    let means = g.P.Pages.means in
    let p = c.args.pages.now in
    let owner = c.args.reader.now.fork.tty in
    record {
      told = λ d fits. (fits, λ stands. sym (undone c.args.ending.now _ _ c.in_default.not-Done));
      stays = undone c.args.ending.now p p c.in_default.not-Done;
      grows = grows_within means owner 0 128 p p (omega arith) (grows_none means owner p);
    }
