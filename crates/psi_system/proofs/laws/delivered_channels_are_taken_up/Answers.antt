use Rattle.psi_system.proofs.TakenUp.{taken_up}
use Rattle.psi_system.proofs.laws.delivered_channels_are_taken_up.Goals as goal

pub returns : goal.returns
returns c f d fits room = taken_up f.body.psi d.found fits.found room
