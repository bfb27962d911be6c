use Rattle.page_residence.proofs.Leaving.{victim_found}
use Rattle.page_residence.proofs.residence.Residence.victim.Goals as goal

pub returns : goal.returns
returns c = victim_found c.args.self.now.frames c.victim.result c.victim.ensures
