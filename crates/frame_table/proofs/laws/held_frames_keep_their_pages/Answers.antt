use Rattle.frame_table.proofs.HeldFrames.{stays_through}
use Rattle.frame_table.proofs.laws.held_frames_keep_their_pages.Goals as goal

pub returns : goal.returns
returns c = stays_through
