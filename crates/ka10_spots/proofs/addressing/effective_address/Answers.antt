use Rattle.std.proofs.Common.{ap}
use Rattle.ka10_spots.proofs.IndirectWords.{directly}
use Rattle.ka10_spots.proofs.addressing.effective_address.Goals as goal

pub returns-in-Some-clause-told : goal.returns-in-Some-clause-told
returns-in-Some-clause-told g c d f before fits is few =
    let told = c.in-Some.ensures.told in
    directly f _ _ before _ c.args.word _ _ c.requires.some told.0 (ap (λ a. a.e) told.1) (ap (λ a. a.last) told.1)
