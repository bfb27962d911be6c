use Rattle.std.proofs.Common.{[]}
use Rattle.drum_queue.proofs.Histories.{end_in_order}
use Rattle.drum_queue.proofs.laws.transfers_end_in_order.Goals as goal

pub returns : goal.returns
returns c = end_in_order []
