use Rattle.std.proofs.Common.{◌-◌, ◌≤◌, length, take, drop, arith, ◌∙◌, subst, length-take, length-drop}
use Rattle.std.proofs.lemmas.List.{take_rest}
use Rattle.outside.specs.Told.{Grows}
use Rattle.texts.proofs.Answered.{any_err}
use Rattle.texts.proofs.Writes.{grows_more, partly_at}
use Rattle.texts.proofs.put.put_bytes.Goals as goal

pub loop-at-preserved : goal.loop-at-preserved
loop-at-preserved g c =
    let bytes = c.args.bytes.now in
    let at = c.loop-at.at in
    let n = c.in_ok-at.field-0 in
    let fits : n ≤ length (drop at bytes) = omega (arith, c.in_ok-at.ensures.bound, length-take (length bytes - at) (drop at bytes), length-drop at bytes) in
    record {
      within = omega (arith, fits, length-drop at bytes);
      unfaulted = c.in_ok-at.ensures.unfaulted ∙ c.loop-at.invariant.unfaulted;
      grows = grows_more _ _ _ bytes at n c.loop-at.invariant.grows
          (subst (λ l. Grows (g.S.Sink.taken c.loop-at.sink) (g.S.Sink.taken c.write.new.self) (take n l)) (take_rest bytes at) c.in_ok-at.ensures.bytes);
    }

pub returns-in_err-at-clause-err : goal.returns-in_err-at-clause-err
returns-in_err-at-clause-err g c =
    any_err c.from_residual.result (partly_at _ _ _ c.args.bytes.now c.loop-at.at c.loop-at.invariant.grows c.in_err-at.ensures.err)
