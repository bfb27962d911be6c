use Rattle.std.proofs.Common.{◌≡◌}
use Rattle.ka10_spots.specs.Glide.{word_of}
use Rattle.ka10_spots.proofs.Used.{holds_before, space_stays, spot_still, uses_on}
use Rattle.ka10_spots.proofs.leads.load_led.Goals as goal

pub load-requires-clause-space : goal.load-requires-clause-space
load-requires-clause-space g c = space_stays g.P.Pages.means c.args.space c.args.pages.now c.use_lead.new.pages c.requires.fetched.handle c.use_lead.ensures.only.put

pub load-requires-clause-spot : goal.load-requires-clause-spot
load-requires-clause-spot g c = spot_still g.P.Pages.means c.args.space c.args.pages.now c.use_lead.new.pages c.use_lead.ensures.only c.args.at c.args.spot c.requires.spot

pub returns-clause-told : goal.returns-clause-told
returns-clause-told g c = holds_before g.P.Pages.means c.args.space c.args.pages.now c.use_lead.new.pages c.use_lead.ensures.only (λ f p. c.load.result ≡ word_of f p c.args.regs.now.ac c.args.at) c.load.ensures.told

pub returns-clause-only : goal.returns-clause-only
returns-clause-only g c = uses_on g.P.Pages.means c.args.pages.now c.use_lead.new.pages c.load.new.pages c.use_lead.ensures.only c.load.ensures.only

pub returns-clause-uses : goal.returns-clause-uses
returns-clause-uses g c = record { before = c.use_lead.new.pages; lead = c.use_lead.ensures.uses; operand = c.load.ensures.uses }
