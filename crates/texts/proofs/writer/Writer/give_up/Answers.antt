use Rattle.texts.proofs.Standing.{kept_standing, kept_within, kept_at_end}
use Rattle.texts.proofs.writer.Writer.give_up.Goals as goal

pub returns-clause-stands : goal.returns-clause-stands
returns-clause-stands g c = kept_standing _ _ _ _ c.flush_both.ensures.keeps

pub returns-clause-cut : goal.returns-clause-cut
returns-clause-cut g c = kept_within _ _ _ _ c.flush_both.ensures.keeps

pub returns-clause-cut_at_end : goal.returns-clause-cut_at_end
returns-clause-cut_at_end g c last counts = kept_at_end _ _ _ _ c.flush_both.ensures.keeps last counts
