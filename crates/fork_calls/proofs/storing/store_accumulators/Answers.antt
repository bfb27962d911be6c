use Rattle.std.proofs.Common.{◌≡◌, ℕ, List, None, refl, sym, ◌∙◌, ap, subst, inl}
use Rattle.std.specs.Prelude.{Err}
use Rattle.plain_model.specs.declared.call.End.TheVariants.{Done}
use Rattle.plain_model.specs.declared.call.ForkChange.{ForkChange}
use Rattle.plain_model.specs.declared.call.ForkChange.TheVariants.{Store}
use Rattle.machine_names.specs.declared.names.Kind.TheVariants.{Write}
use Rattle.plain_model.specs.Calls.{behind_call, ends}
use Rattle.plain_units.specs.declared.registers.Regs.{Regs}
use Rattle.plain_model.specs.ForkCalls.{address_named, stored_low}
use Rattle.plain_units.specs.Blocks.{stored_from}
use Rattle.call_turns.specs.Answers.{AnswerNeeds, IsDone, answer_of}
use Rattle.ka10_unit.proofs.Carried.{grows_more, grows_stored}
use Rattle.ka10_unit.specs.Gathers.{framed}
use Rattle.ka10_unit.specs.Taking.{most_frames}
use Rattle.job_forks.specs.Asking.{asked}
use Rattle.fork_calls.specs.Blocks.{GoesOn, TookBlock}
use Rattle.fork_calls.specs.Steps.{store_end, whole}
use Rattle.job_forks.specs.Holding.{parts}
use Rattle.fork_calls.specs.declared.step.FirstStep.TheVariants.{Stores}
use Rattle.job_forks.proofs.Branch.{plans_none}
use Rattle.job_forks.proofs.CallLeaving.{grown_leaves}
use Rattle.fork_calls.proofs.Needed.{done_needs, stop_needs}
use Rattle.fork_calls.proofs.TurnBlocks.{block_goes, block_stops, turn_stops, words_stored}
use Rattle.fork_calls.proofs.storing.store_accumulators.Goals as goal

pub returns-in-Err-clause-told : goal.returns-in-Err-clause-told
returns-in-Err-clause-told g c d fits =
    let means = g.P.Pages.means in
    let who = c.args.who in
    let regs = c.args.regs.now in
    let tree = c.args.tree.now in
    let t = c.in-Err.ensures.told d fits in
    let a = asked who regs tree in
    let p = framed means c.args.pages.now d in
    let q = means.plain c.block.new.pages d in
    let took = subst (λ (n : ℕ). TookBlock who regs n Write p q (Err c.in-Err.stop)) c.address_named-at.ensures.address t.1 in (
      t.0,
      turn_stops tree p (parts tree q) c.stopped.result (whole a (Stores c.args.fork)) c.in-Err.stop (block_stops who regs (address_named regs) Write p q tree.forks (λ old. ends (store_end a c.args.fork)) c.in-Err.stop took)
          (ap (λ s. parts tree (means.plain s d)) c.in-Err.ensures.stopped) c.stopped.ensures.answer,
    )

pub returns-in-Ok-clause-told : goal.returns-in-Ok-clause-told
returns-in-Ok-clause-told g c d fits =
    let means = g.P.Pages.means in
    let t = c.in-Ok.ensures.told d fits in
    let at = c.address_named-at.ensures.address in
    let a = asked c.args.who c.args.regs.now c.args.tree.now in
    let p = means.plain c.args.pages.now d in
    let q = means.plain c.block.new.pages d in
    let words = c.in-Ok.field-0 in
    let stored = c.args.fork.body.regs.ac in
    let on = subst (λ (n : ℕ). GoesOn c.args.who c.args.regs.now n Write p q words) at t.1 in
    let put : means.plain c.store_block.new.pages d ≡ stored_from q c.args.who (address_named c.args.regs.now) stored =
    c.store_block.ensures.told d t.0 (c.in-Ok.ensures.opens d words fits refl refl) ∙ ap (λ (n : ℕ). stored_from q c.args.who n stored) at in
    let change : ForkChange = Store c.args.who (address_named c.args.regs.now) stored in
    let low : c.stored_low-told.result ≡ stored_low c.args.regs.now.ac (address_named c.args.regs.now) stored = c.stored_low-told.ensures ∙ ap (λ (n : ℕ). stored_low c.args.regs.now.ac n stored) at in (
      c.store_block.ensures.fits d t.0,
      inl (block_goes (parts c.args.tree.now p) (parts c.args.tree.now (means.plain c.store_block.new.pages d)) c.returned.result c.args.who c.args.regs.now (address_named c.args.regs.now) Write q words on (λ old. store_end a c.args.fork) change _ refl
          (words_stored c.args.tree.now q (means.plain c.store_block.new.pages d) c.args.who (address_named c.args.regs.now) stored put p)
          (c.returned.ensures.answer change ∙ ap (λ (r : Regs). answer_of (Done change r None None)) (c.behind.ensures.behind ∙ ap (λ (ac : List ℕ). behind_call (record c.args.regs.now { ac = ac })) low))),
    )

pub returns-in-Err-clause-leaves : goal.returns-in-Err-clause-leaves
returns-in-Err-clause-leaves g c = grown_leaves g.P.Pages.means c.args.who c.args.tree.now 128 c.args.pages.now c.block.new.pages c.in-Err.ensures.grows c.requires.holds

pub returns-in-Ok-clause-leaves : goal.returns-in-Ok-clause-leaves
returns-in-Ok-clause-leaves g c =
    let means = g.P.Pages.means in
    let who = c.args.who in
    let old = c.args.pages.now in
    let mid = c.block.new.pages in
    let new = c.store_block.new.pages in
    grown_leaves means who c.args.tree.now 128 old new (grows_more means who.tty 128 0 old mid new c.in-Ok.ensures.grows (grows_stored means who.tty mid new c.store_block.ensures.stays c.store_block.ensures.loses)) c.requires.holds

pub returns-in-Err-clause-needs : goal.returns-in-Err-clause-needs
returns-in-Err-clause-needs g c =
    let store = g.P.Pages.means.store in
    let s = c.block.new.pages in
    subst (AnswerNeeds store most_frames s) (sym c.stopped.ensures.answer) (stop_needs store most_frames s c.in-Err.stop c.in-Err.ensures.needs)

pub returns-in-Ok-clause-needs : goal.returns-in-Ok-clause-needs
returns-in-Ok-clause-needs g c = done_needs g.P.Pages.means.store most_frames c.store_block.new.pages c.returned.result c.returned.ensures.core

pub returns-in-Err-clause-unmade : goal.returns-in-Err-clause-unmade
returns-in-Err-clause-unmade g c n is =
    plans_none g.P.Pages.means c.args.pages.now c.block.new.pages c.args.who.tty c.in-Err.ensures.stopped

pub returns-in-Ok-clause-unmade : goal.returns-in-Ok-clause-unmade
returns-in-Ok-clause-unmade g c n is = absurd (subst IsDone is c.returned.ensures.core)
