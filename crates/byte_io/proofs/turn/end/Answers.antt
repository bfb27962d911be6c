use Rattle.std.proofs.Common.{refl, sym, ap, subst, arith}
use Rattle.call_turns.specs.Answers.{FitsAnswer}
use Rattle.ka10_spots.proofs.Stored.{lost_none}
use Rattle.file_bytes.specs.Asking.{parts}
use Rattle.file_bytes.specs.Planning.{CanChange}
use Rattle.file_bytes.specs.Turning.{Stays}
use Rattle.file_bytes.proofs.JobParts.{all_same}
use Rattle.file_bytes.proofs.Parts.{behind_done, behind_other, end_fits, stays_so}
use Rattle.byte_io.proofs.turn.end.Goals as goal

pub returns-in-Done-clause-told : goal.returns-in-Done-clause-told
returns-in-Done-clause-told g c =
    let means = g.P.Pages.means in
    let tables = c.args.tables.now in
    let t = c.args.who.tty in
    record {
      fits = c.change.ensures.told.fits;
      left = λ d jobs f has. behind_done tables t jobs (means.plain c.args.pages.now d) _ c.args.ending c.in-Done.what c.in-Done.regs c.in-Done.out c.in-Done.post c.in-Done.is (c.change.ensures.told.left d jobs f has);
    }

pub returns-in_default : goal.returns-in_default
returns-in_default g c =
    let means = g.P.Pages.means in
    let s = c.args.pages.now in
    let tables = c.args.tables.now in
    let line = c.args.input.now in
    let t = c.args.who.tty in
    let e = c.args.ending in
    let answered = c.answer_of-in_default.ensures in
    record {
      answer = answered;
      told = record {
        fits = λ d f. f;
        left = λ d jobs f has. behind_other tables t jobs (means.plain s d) _ e c.in_default.not-Done (ap (λ js. parts js tables (means.plain s d)) (all_same jobs t tables tables line line has refl refl));
      };
      fits = subst FitsAnswer (sym answered) (end_fits (CanChange means s tables t) e c.requires.fits);
      stays = subst (Stays s s tables tables line line) (sym answered) (stays_so s tables line e c.in_default.not-Done);
      others = record { jfns = λ u ne. refl; dir = refl; codes = refl };
      loses = lost_none means s;
      made = record { lives = refl; forks = refl; most = refl; serial = omega arith; serials = λ u ne. refl };
    }
