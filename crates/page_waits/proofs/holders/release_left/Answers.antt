use Rattle.std.proofs.Common.{◌∙◌, ap}
use Rattle.page_waits.specs.Holders.{holder_at}
use Rattle.page_waits.proofs.holders.release_left.Goals as goal

pub release_seats-requires-clause-members : goal.release_seats-requires-clause-members
release_seats-requires-clause-members g c k f is = c.requires.members k f (ap (λ h. holder_at h k) c.in-Members.is ∙ is)
