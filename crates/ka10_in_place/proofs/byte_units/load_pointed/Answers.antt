use Rattle.std.proofs.Common.{◌≡◌}
use Rattle.ka10_spots.specs.Glide.{word_of}
use Rattle.ka10_spots.proofs.Used.{holds_before, space_stays, spot_still, uses_on}
use Rattle.ka10_in_place.proofs.byte_units.load_pointed.Goals as goal

pub load-requires-clause-space : goal.load-requires-clause-space
load-requires-clause-space g c = space_stays g.P.Pages.means c.args.space c.args.pages.now c.load_led.new.pages c.requires.fetched.handle c.load_led.ensures.only.put

pub load-requires-clause-spot : goal.load-requires-clause-spot
load-requires-clause-spot g c = spot_still g.P.Pages.means c.args.space c.args.pages.now c.load_led.new.pages c.load_led.ensures.only c.args.at c.args.spot c.requires.spot

pub returns-clause-told : goal.returns-clause-told
returns-clause-told g c = holds_before g.P.Pages.means c.args.space c.args.pages.now c.load_led.new.pages c.load_led.ensures.only (λ f p. c.load.result ≡ word_of f p c.args.regs.now.ac c.args.at) c.load.ensures.told

pub returns-clause-only : goal.returns-clause-only
returns-clause-only g c = uses_on g.P.Pages.means c.args.pages.now c.load_led.new.pages c.load.new.pages c.load_led.ensures.only c.load.ensures.only
