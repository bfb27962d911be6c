use Rattle.std.proofs.Common.{ℕ, ◌+◌, ◌%◌, ◌<◌, ◌^◌, List, length, drop, sym, ◌∙◌, ap, arith}
use Rattle.std.proofs.lemmas.List.{at_drop_more}
use Rattle.plain_model.specs.ForkCalls.{stored_low}
use Rattle.fork_calls.proofs.storing.stored_low.Goals as goal

pub loop-i-preserved : goal.loop-i-preserved
loop-i-preserved c =
    let i = c.loop-i.i in
    let next = (c.loop-i.next + 1) % 2 ^ 18 in
    let rest = drop (i + 1) c.args.words.now in
    let in_range : i < length c.args.words.now = omega arith in
    record {
      low = omega arith;
      so_far =
          ap (λ (ac : List ℕ). stored_low ac next rest) c.stored_one-ac.ensures
          ∙ sym (at_drop_more (λ (ws : List ℕ). stored_low c.loop-i.ac c.loop-i.next ws) c.args.words.now i c.index-words-i.result in_range)
          ∙ c.loop-i.invariant.so_far;
    }
