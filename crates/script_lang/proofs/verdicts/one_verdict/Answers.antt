use Rattle.script_lang.proofs.OnePlace.{script_once, stops_once, long_once, script_not_bad, script_not_long, bad_not_too_long}
use Rattle.script_lang.proofs.verdicts.one_verdict.Goals as goal

pub returns : goal.returns
returns c = record {
  script = script_once;
  stop = stops_once;
  long = long_once;
  script_not_stop = script_not_bad;
  script_not_long = script_not_long;
  stop_not_long = bad_not_too_long;
}
