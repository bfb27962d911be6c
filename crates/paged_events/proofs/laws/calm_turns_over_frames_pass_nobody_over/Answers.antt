use Rattle.paged_events.proofs.Passing.{short}
use Rattle.paged_events.proofs.laws.calm_turns_over_frames_pass_nobody_over.Goals as goal

pub returns : goal.returns
returns c = short
