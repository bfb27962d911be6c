use Rattle.std.proofs.Common.{refl, arith}
use Rattle.monitor_core.proofs.Systems.{within_later}
use Rattle.record_player.proofs.Gone.{event_played}
use Rattle.record_player.proofs.stage.Stage.at_once.Goals as goal

pub apply-requires-clause-few : goal.apply-requires-clause-few
apply-requires-clause-few g c = within_later c.args.self.now.system c.args.self.now.done _ c.args.self.now.within (omega (arith, c.requires.few))

pub invariant_of-self : goal.invariant_of-self
invariant_of-self g c = record { flat = c.args.self.now.flat; within = c.in-Ok.ensures.did.within c.args.self.now.done c.args.self.now.within }

pub give_all-requires-clause-fits : goal.give_all-requires-clause-fits
give_all-requires-clause-fits g c = c.requires.fits

pub returns : goal.returns
returns g c = event_played g.T.Taker.fault_count g.T.Taker.onward g.T.Taker.stands g.T.Taker.cut c.args.self.now _ c.args.out.now c.give_all.new.out c.give_all.result c.args.e c.in-Ok.reply c.requires.fits c.in-Ok.ensures.did c.give_all.ensures refl

pub give_all-requires-clause-shown : goal.give_all-requires-clause-shown
give_all-requires-clause-shown g c = c.in-Ok.ensures.shown

pub unreachable-requires : goal.unreachable-requires
unreachable-requires g c = (let no = c.in-Err.ensures.core c.args.self.now.flat in absurd (cc no))
