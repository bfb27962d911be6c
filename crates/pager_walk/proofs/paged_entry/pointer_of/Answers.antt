use Rattle.pager_walk.proofs.DecodedWords.{pointer_read}
use Rattle.pager_walk.proofs.paged_entry.pointer_of.Goals as goal

pub returns : goal.returns
returns c = pointer_read c.args.word c.decode.result c.decode.ensures.read c.decode.ensures.only
