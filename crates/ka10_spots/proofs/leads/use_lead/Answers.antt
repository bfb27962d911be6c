use Rattle.ka10_spots.proofs.Used.{space_stays, uses_none, uses_on}
use Rattle.ka10_spots.proofs.leads.use_lead.Goals as goal

pub use_indirect-requires : goal.use_indirect-requires
use_indirect-requires g c = record { space = space_stays g.P.Pages.means c.args.space c.args.pages.now c.load-first.new.pages c.requires.handle c.load-first.ensures.only.put }

pub returns-in-Direct-clause-uses : goal.returns-in-Direct-clause-uses
returns-in-Direct-clause-uses g c = record { behind = c.use_spot.new.pages; fetch = c.use_spot.ensures.uses; rest = uses_none g.P.Pages.means c.use_spot.new.pages }

pub returns-in-Indirect-clause-only : goal.returns-in-Indirect-clause-only
returns-in-Indirect-clause-only g c = uses_on g.P.Pages.means c.args.pages.now c.load-first.new.pages c.use_indirect.new.pages c.load-first.ensures.only c.use_indirect.ensures.only

pub returns-in-Indirect-clause-uses : goal.returns-in-Indirect-clause-uses
returns-in-Indirect-clause-uses g c = record { behind = c.load-first.new.pages; fetch = c.load-first.ensures.uses; rest = c.use_indirect.ensures.only }
