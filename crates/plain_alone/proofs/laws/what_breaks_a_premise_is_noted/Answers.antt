use Rattle.plain_alone.proofs.Noted.{full_is_noted, limit_is_noted, room_is_noted, sleep_is_noted, time_is_noted}
use Rattle.plain_alone.proofs.laws.what_breaks_a_premise_is_noted.Goals as goal

pub returns-clause-full : goal.returns-clause-full
returns-clause-full c = λ p at kind owner is. full_is_noted owner p at kind is

pub returns-clause-room : goal.returns-clause-room
returns-clause-room c = λ p at kind owner not_full. room_is_noted owner p at kind not_full

pub returns-clause-time : goal.returns-clause-time
returns-clause-time c = time_is_noted

pub returns-clause-sleep : goal.returns-clause-sleep
returns-clause-sleep c = sleep_is_noted

pub returns-clause-files : goal.returns-clause-files
returns-clause-files c = limit_is_noted
