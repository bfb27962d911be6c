use Rattle.record_player.proofs.replaying.played.Goals as goal

pub returns-in-Ok : goal.returns-in-Ok
returns-in-Ok g c = record {
  plays = c.in-Ok.ensures.played.plays;
  given = c.in-Ok.ensures.played.given;
  read_later = c.in-Ok.ensures.read_later;
  read_cause = c.in-Ok.ensures.read_cause;
  unfaulted = c.in-Ok.ensures.unfaulted;
  later = c.in-Ok.ensures.later;
  cause = c.in-Ok.ensures.write_cause;
  goes_on = c.in-Ok.ensures.onward;
}
