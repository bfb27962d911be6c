use Rattle.std.proofs.Common.{◌≡◌, ◌+◌, ◌-◌, [], ◌∙◌, true, sym, subst, arith, ap, refl, Some}
use Rattle.outside.specs.Told.{Grows}
use Rattle.script_texts.specs.Texts.{same_turn}
use Rattle.texts.specs.OpenRun.{step_text, step_run}
use Rattle.texts.specs.Turns.{step_of, open_run, run_count}
use Rattle.texts.proofs.Writes.{grows_none}
use Rattle.texts.proofs.Standing.{turns_given, turn_counted, joins_text, joins_run, joins_step}
use Rattle.texts.proofs.writer.Writer.equal_turns.Goals as goal

pub returns-then-is_same_turn-clause-ok : goal.returns-then-is_same_turn-clause-ok
returns-then-is_same_turn-clause-ok g c =
    let r = c.in-Some.run' in
    let same : same_turn (step_of r.turn) (step_of c.args.turn) ≡ true = sym c.is_same_turn.ensures ∙ c.if-is_same_turn.true in
    let text : step_text (open_run c.args.self.now.run) (step_of c.args.turn) ≡ [] = ap (λ o. step_text (open_run o) (step_of c.args.turn)) c.in-Some.is ∙ joins_text r.turn c.args.turn r.count same in
    let run : step_run (open_run c.args.self.now.run) (step_of c.args.turn) ≡ Some (step_of c.args.turn, r.count + 1) = ap (λ o. step_run (open_run o) (step_of c.args.turn)) c.in-Some.is ∙ joins_run r.turn c.args.turn r.count same in
    let counted : run_count c.args.self.now.run ≡ r.count = ap run_count c.in-Some.is in
    turns_given _ _ _ _ (step_of c.args.turn) c.args.n (r.count + 1) c.requires.some (turn_counted c.args.turn) (subst (Grows (g.R.Sink.taken c.args.self.now.rec.now) (g.R.Sink.taken c.args.self.now.rec.now)) (sym text) (grows_none (g.R.Sink.taken c.args.self.now.rec.now))) run
    (λ small. ap (λ k. Some (step_of r.turn, k)) (omega (arith, c.saturating_add.ensures, small, counted, c.requires.some)) ∙ ap (λ x. Some (x, r.count + 1 + (c.args.n - 1))) (joins_step r.turn c.args.turn same))
    (omega (arith, c.saturating_add.ensures, counted)) refl refl c.count_turns.ensures
