use Rattle.page_residence.proofs.Finding.{frame_found}
use Rattle.page_residence.proofs.residence.Residence.frame_of.Goals as goal

pub returns : goal.returns
returns c = frame_found c.args.self.now.frames c.args.home c.frame_of.result c.args.self.now.resident.single c.frame_of.ensures
