use Rattle.word36.specs.Bytes.{position, size, deposited}
use Rattle.ka10_bytes.proofs.Placing.{right_of_place, left_of_place}
use Rattle.ka10_bytes.proofs.laws.other_bits_stay.Goals as goal

pub returns : goal.returns
unfolding deposited
returns c = record {
  to_the_right = λ i here h. right_of_place (position c.args.p) (size c.args.p) c.args.w c.args.byte i here h;
  to_the_left = λ i here h. left_of_place (position c.args.p) (size c.args.p) c.args.w c.args.byte i here h;
}
