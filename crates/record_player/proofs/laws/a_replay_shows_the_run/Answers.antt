use Rattle.record_player.proofs.RunsAgain.{ends_done, plays, shows}
use Rattle.record_player.proofs.laws.a_replay_shows_the_run.Goals as goal

pub returns-clause-plays : goal.returns-clause-plays
returns-clause-plays c = plays

pub returns-clause-ends : goal.returns-clause-ends
returns-clause-ends c = ends_done

pub returns-clause-shows : goal.returns-clause-shows
returns-clause-shows c = shows
