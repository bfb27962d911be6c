use Rattle.std.proofs.Common.{ℕ, None, refl, sym, ◌∙◌, ap, subst, inl}
use Rattle.std.specs.Prelude.{Err}
use Rattle.plain_model.specs.declared.call.End.TheVariants.{Done}
use Rattle.plain_model.specs.declared.call.ForkChange.TheVariants.{Become}
use Rattle.machine_names.specs.declared.names.Kind.TheVariants.{Read}
use Rattle.plain_model.specs.Calls.{ends}
use Rattle.plain_units.specs.declared.registers.Regs.{Regs}
use Rattle.plain_model.specs.ForkCalls.{address_named}
use Rattle.call_turns.specs.Answers.{AnswerNeeds, IsDone, answer_of}
use Rattle.ka10_unit.specs.Gathers.{framed}
use Rattle.ka10_unit.specs.Taking.{read_frames}
use Rattle.job_forks.specs.Asking.{asked}
use Rattle.fork_calls.specs.Blocks.{GoesOn, TookBlock}
use Rattle.fork_calls.specs.Steps.{set_end, whole}
use Rattle.job_forks.specs.Holding.{parts}
use Rattle.fork_calls.specs.declared.step.FirstStep.TheVariants.{Sets}
use Rattle.job_forks.proofs.Branch.{plans_none}
use Rattle.job_forks.proofs.CallLeaving.{below_others, grown_leaves, places_leave}
use Rattle.fork_calls.proofs.Needed.{done_needs, stop_needs}
use Rattle.fork_calls.proofs.TurnBlocks.{block_goes, block_stops, turn_stops}
use Rattle.fork_calls.proofs.storing.set_accumulators.Goals as goal

pub returns-in-Err-clause-told : goal.returns-in-Err-clause-told
returns-in-Err-clause-told g c d fits =
    let means = g.P.Pages.means in
    let who = c.args.who in
    let regs = c.args.regs.now in
    let tree = c.args.tree.now in
    let t = c.in-Err.ensures.told d fits in
    let a = asked who regs tree in
    let p = framed means c.args.pages.now d in
    let q = means.plain c.block.new.pages d in
    let took = subst (λ (n : ℕ). TookBlock who regs n Read p q (Err c.in-Err.stop)) c.address_named.ensures.address t.1 in (
      t.0,
      turn_stops tree p (parts tree q) c.stopped.result (whole a (Sets c.args.fork)) c.in-Err.stop (block_stops who regs (address_named regs) Read p q tree.forks (λ words. ends (set_end a c.args.fork words)) c.in-Err.stop took)
          (ap (λ s. parts tree (means.plain s d)) c.in-Err.ensures.stopped) c.stopped.ensures.answer,
    )

pub returns-in-Ok-clause-told : goal.returns-in-Ok-clause-told
returns-in-Ok-clause-told g c d fits =
    let means = g.P.Pages.means in
    let t = c.in-Ok.ensures.told d fits in
    let at = c.address_named.ensures.address in
    let a = asked c.args.who c.args.regs.now c.args.tree.now in
    let p = means.plain c.args.pages.now d in
    let q = means.plain c.block.new.pages d in
    let words = c.in-Ok.words in
    let on = subst (λ (n : ℕ). GoesOn c.args.who c.args.regs.now n Read p q words) at t.1 in (
      t.0,
      inl (block_goes (parts c.args.tree.now p) (parts c.set_body.new.tree q) c.returned.result c.args.who c.args.regs.now (address_named c.args.regs.now) Read q words on (λ ws. set_end a c.args.fork ws) _ _ refl
          (c.set_body.ensures.told q)
          (c.returned.ensures.answer (Become c.args.fork.name (record c.args.fork.body { regs = record c.args.fork.body.regs { ac = words } })) ∙ ap (λ (r : Regs). answer_of (Done (Become c.args.fork.name (record c.args.fork.body { regs = record c.args.fork.body.regs { ac = words } })) r None None)) c.behind.ensures.behind)),
    )

pub returns-in-Err-clause-leaves : goal.returns-in-Err-clause-leaves
returns-in-Err-clause-leaves g c = grown_leaves g.P.Pages.means c.args.who c.args.tree.now 128 c.args.pages.now c.block.new.pages c.in-Err.ensures.grows c.requires.holds

pub returns-in-Ok-clause-leaves : goal.returns-in-Ok-clause-leaves
returns-in-Ok-clause-leaves g c =
    places_leave g.P.Pages.means c.args.who c.args.tree.now 128 c.args.pages.now c.block.new.pages c.in-Ok.ensures.grows c.requires.holds
    c.set_body.new.tree c.are_trees.ensures.slotted c.set_body.ensures.trees.slotted c.set_body.ensures.same c.set_body.ensures.kept
    (below_others c.args.tree.now c.are_trees.ensures c.args.who c.args.fork.name c.requires.below c.set_body.new.tree.forks c.set_body.ensures.others)

pub returns-in-Err-clause-needs : goal.returns-in-Err-clause-needs
returns-in-Err-clause-needs g c =
    let store = g.P.Pages.means.store in
    let s = c.block.new.pages in
    subst (AnswerNeeds store read_frames s) (sym c.stopped.ensures.answer) (stop_needs store read_frames s c.in-Err.stop c.in-Err.ensures.needs)

pub returns-in-Ok-clause-needs : goal.returns-in-Ok-clause-needs
returns-in-Ok-clause-needs g c = done_needs g.P.Pages.means.store read_frames c.block.new.pages c.returned.result c.returned.ensures.core

pub returns-in-Err-clause-unmade : goal.returns-in-Err-clause-unmade
returns-in-Err-clause-unmade g c n is =
    plans_none g.P.Pages.means c.args.pages.now c.block.new.pages c.args.who.tty c.in-Err.ensures.stopped

pub returns-in-Ok-clause-unmade : goal.returns-in-Ok-clause-unmade
returns-in-Ok-clause-unmade g c n is = absurd (subst IsDone is c.returned.ensures.core)
