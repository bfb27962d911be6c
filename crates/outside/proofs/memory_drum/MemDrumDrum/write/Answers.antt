use Rattle.outside.proofs.Pages.{unspoiled}
use Rattle.outside.proofs.memory_drum.MemDrumDrum.write.Goals as goal

pub returns-then-next-clause-spoiled : goal.returns-then-next-clause-spoiled
returns-then-next-clause-spoiled c = unspoiled c.args.page c.args.self.now.held.sound c.requires.page
