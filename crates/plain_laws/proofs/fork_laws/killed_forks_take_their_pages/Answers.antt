use Rattle.plain_laws.proofs.Killed.{killed_left}
use Rattle.plain_laws.proofs.fork_laws.killed_forks_take_their_pages.Goals as goal

pub returns : goal.returns
returns c = λ v f w. killed_left v f w
