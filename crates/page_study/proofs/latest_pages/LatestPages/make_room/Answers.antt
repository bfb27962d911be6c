use Rattle.page_study.specs.Seats.{uses_of}
use Rattle.page_study.proofs.Moved.{whole}
use Rattle.page_study.proofs.latest_pages.LatestPages.make_room.Goals as goal

pub returns-else-self-eq0-clause-cut : goal.returns-else-self-eq0-clause-cut
returns-else-self-eq0-clause-cut c = whole c.args.self.now.room (uses_of c.args.self.now)
