use Rattle.line_buffer.proofs.Held.{fed_by_search}
use Rattle.line_buffer.proofs.buffer.line_end.Goals as goal

pub returns : goal.returns
returns c = fed_by_search c.args.bytes.now c.memchr.result c.memchr.ensures
