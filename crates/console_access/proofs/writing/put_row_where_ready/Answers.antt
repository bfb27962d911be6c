use Rattle.std.proofs.Common.{refl, sym, ◌∙◌}
use Rattle.ka10_spots.proofs.Stored.{lost_none}
use Rattle.console_access.proofs.writing.put_row_where_ready.Goals as goal

pub returns-in_default : goal.returns-in_default
returns-in_default g c = record {
  told = λ d f. (f, λ opens. absurd (c.in_default.not-Ready (c.touch.ensures.answer ∙ opens (sym c.touch.ensures.answer ∙ c.touch.ensures.told d c.args.owner f c.requires.owner))));
  made = record { lives = refl; forks = refl; most = refl; serials = refl };
  loses = lost_none g.P.Pages.means c.args.pages.now;
}
