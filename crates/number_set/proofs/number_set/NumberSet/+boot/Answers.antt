use Rattle.std.proofs.Common.{◌≡◌, ℕ, replicate, rules}
use Rattle.std.proofs.lemmas.List.{length-replicate}
use Rattle.std.specs.FinSet as set
use Rattle.number_set.proofs.Gaps.{no_numbers, none_full, room_made}
use Rattle.number_set.proofs.number_set.NumberSet.+boot.Goals as goal

pub returns-then-len-le1 : goal.returns-then-len-le1
returns-then-len-le1 t c =
    let zeros : c.in_ok-words.words.items ≡ replicate c.div_ceil.result 0 = search rules in
    rw zeros (no_numbers c.args.bound c.div_ceil.result)

pub invariant_of-result-in-Ok : goal.invariant_of-result-in-Ok
invariant_of-result-in-Ok t c =
    let zeros : c.in_ok-words.words.items ≡ replicate c.div_ceil.result 0 = search rules in
    let size = length-replicate {A = ℕ} c.div_ceil.result 0 in
    let full : c.in-Ok.full.value ≡ record { bound = c.div_ceil.result; members = set.empty } = search rules in
    rw (zeros, full) (rw size (room_made c.args.bound c.div_ceil.result c.ranges.bound.fits (search rules)), none_full c.div_ceil.result (search rules))

pub returns-in-Ok : goal.returns-in-Ok
returns-in-Ok t c =
    let zeros : c.in_ok-words.words.items ≡ replicate c.div_ceil.result 0 = search rules in
    rw zeros (no_numbers c.args.bound c.div_ceil.result)
