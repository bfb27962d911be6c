use Rattle.std.proofs.Common.{inr, refl, ap}
use Rattle.ka10_spots.proofs.Stored.{lost_none}
use Rattle.file_bytes.specs.Asking.{parts}
use Rattle.file_bytes.proofs.JobParts.{all_same}
use Rattle.byte_io.proofs.turn.call.Goals as goal

pub returns-in-Err-clause-told : goal.returns-in-Err-clause-told
returns-in-Err-clause-told g c =
    let means = g.P.Pages.means in
    let s = c.args.pages.now in
    let tables = c.args.tables.now in
    let line = c.args.input.now in
    record {
      fits = λ d f. f;
      comes = λ d jobs f has. inr (record {
        need = c.in-Err.need;
        answered = refl;
        reason = c.in-Err.ensures.told d f;
        left = ap (λ js. parts js tables (means.plain s d)) (all_same jobs c.args.who.tty tables tables line line has refl refl);
      });
    }

pub returns-in-Err-clause-loses : goal.returns-in-Err-clause-loses
returns-in-Err-clause-loses g c = lost_none g.P.Pages.means c.args.pages.now
