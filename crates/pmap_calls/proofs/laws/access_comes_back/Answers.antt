use Rattle.pmap_calls.proofs.MapLaws.{comes_back}
use Rattle.pmap_calls.proofs.laws.access_comes_back.Goals as goal

pub returns : goal.returns
returns c = λ a. comes_back a
