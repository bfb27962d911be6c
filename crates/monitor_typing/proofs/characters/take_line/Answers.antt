use Rattle.std.proofs.Common.{refl, ◌∙◌}
use Rattle.monitor_calls.specs.Typings.{new_typing}
use Rattle.monitor_calls.proofs.Sounds.{stands}
use Rattle.monitor_typing.proofs.CommandDid.{has_taken}
use Rattle.monitor_typing.proofs.TypeDid.{low_typed}
use Rattle.monitor_typing.proofs.characters.take_line.Goals as goal

pub returns-clause-has : goal.returns-clause-has
returns-clause-has g c =
    let m = c.args.system.now in
    let j = c.args.job.now in
    let read = stands m.typed.items c.args.t.0 c.index_mut.result.now new_typing (low_typed m m c.args.t j c.requires.job) in
    has_taken m _ c.args.t j c.requires.job refl refl refl _ refl refl refl
    (λ i. record ((c.index_mut.ensures.value ∙ read) i) { line = record { items = c.clear.ensures i } })
