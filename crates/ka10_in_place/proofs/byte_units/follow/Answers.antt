use Rattle.std.proofs.Common.{arith}
use Rattle.ka10_in_place.proofs.byte_units.follow.Goals as goal

pub returns-in-Some-effective_address-clause-told : goal.returns-in-Some-effective_address-clause-told
returns-in-Some-effective_address-clause-told g c d f fits is = record {
  taken = record { ready = c.in-Some.ensures.told d f fits is; is = c.look-p.ensures.told d f fits is };
  last = c.in-Some-effective_address.address.last;
  address = λ before few. c.in-Some-effective_address.ensures.told d f before fits is (omega arith);
}
