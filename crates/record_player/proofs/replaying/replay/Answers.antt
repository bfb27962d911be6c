use Rattle.std.proofs.Common.{◌≡◌, ◌⊎◌, ◌≤◌, inl, inr, refl, sym, ◌∙◌, arith, rules}
use Rattle.outside.specs.Faults.{Rose}
use Rattle.texts.proofs.Starts.{onward_start}
use Rattle.record_player.specs.declared.replay_end.ReplayEnd.TheVariants.{WriteFault}
use Rattle.record_player.specs.Replays.{Replayed}
use Rattle.record_player.proofs.Written.{fails_given_up, given_up, had_failed, handed_since, moved, rose_out, unwritten, written}
use Rattle.record_player.proofs.replaying.replay.Goals as goal

pub returns-in_default-clause-replayed : goal.returns-in_default-clause-replayed
returns-in_default-clause-replayed g c =
    let told = g.S.Source.left c.args.input.now in
    moved (λ o o'. Replayed c.args.pages told WriteFault (g.T.Sink.taken o) (g.T.Sink.taken o')) c.new-writer.ensures.out (search rules)
    (given_up g.T.Sink.taken _ c.new-writer.result c.played-end.new.out c.give_up.new.self c.new-writer.ensures.line c.new-writer.ensures.run c.args.pages told c.played-end.result (sym c.last_line.ensures ∙ c.in_default.is) c.played-end.ensures.plays c.played-end.ensures.given c.give_up.ensures.cut)

pub returns-in-Ok-clause-replayed : goal.returns-in-Ok-clause-replayed
returns-in-Ok-clause-replayed g c =
    let told = g.S.Source.left c.args.input.now in
    moved (λ o o'. Replayed c.args.pages told c.played-end.result (g.T.Sink.taken o) (g.T.Sink.taken o')) c.new-writer.ensures.out (search rules)
    (written g.T.Sink.taken _ c.new-writer.result c.played-end.new.out c.finish.new.self c.new-writer.ensures.line c.new-writer.ensures.run c.args.pages told c.played-end.result c.in-Some.last (sym c.last_line.ensures ∙ c.in-Some.is) c.played-end.ensures.plays c.played-end.ensures.given c.in-Ok.ensures.ok)

pub returns-in-Err-clause-replayed : goal.returns-in-Err-clause-replayed
returns-in-Err-clause-replayed g c =
    let told = g.S.Source.left c.args.input.now in
    moved (λ o o'. Replayed c.args.pages told WriteFault (g.T.Sink.taken o) (g.T.Sink.taken o')) c.new-writer.ensures.out (search rules)
    (unwritten g.T.Sink.taken _ c.new-writer.result c.played-end.new.out c.give_up-in-Err.new.self c.new-writer.ensures.line c.new-writer.ensures.run c.args.pages told c.played-end.result c.in-Some.last (sym c.last_line.ensures ∙ c.in-Some.is) c.played-end.ensures.plays c.played-end.ensures.given
    (fails_given_up g.T.Sink.taken _ c.in-Some.last c.played-end.new.out c.finish.new.self c.give_up-in-Err.new.self c.in-Err.ensures.err c.give_up-in-Err.ensures.cut_at_end))
