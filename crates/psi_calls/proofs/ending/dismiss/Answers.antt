use Rattle.std.proofs.Common.{◌≡◌, None, refl, sym, ◌∙◌, ap, subst}
use Rattle.std.specs.FinMap as map
use Rattle.machine_names.specs.declared.names.ForkName.{ForkName}
use Rattle.plain_units.specs.declared.registers.Regs.{Regs}
use Rattle.plain_model.specs.declared.fork.Body.{Body}
use Rattle.plain_model.specs.InterruptCalls.{without_level}
use Rattle.plain_model.specs.Forks.{OthersStay}
use Rattle.plain_model.proofs.OtherJobs.{named_others}
use Rattle.plain_model.specs.Trees.{PlainTree, with_body, with_changed_of}
use Rattle.ka10_unit.specs.Carrying.{Grows}
use Rattle.call_turns.specs.declared.answer.Answer.TheVariants.{After}
use Rattle.job_forks.specs.Asking.{asked}
use Rattle.job_forks.specs.Limits.{IsBodyOf}
use Rattle.job_forks.proofs.Bodies.{body_keeps}
use Rattle.job_forks.proofs.CallLeaving.{grown_leaves, none_grown, places_leave}
use Rattle.job_forks.proofs.Places.{Keep}
use Rattle.psi_calls.proofs.Ended.{stops_turned, went_turned}
use Rattle.psi_calls.proofs.ending.dismiss.Goals as goal

pub returns-in-Err-clause-told : goal.returns-in-Err-clause-told
returns-in-Err-clause-told g c line =
    let least = c.args.least.now in
    stops_turned (asked c.args.who c.args.regs.now c.args.tree.now) least.fork least.table least.level g.P.Pages.means c.args.pages.now c.args.tree.now line c.word_stored.new.reader c.in-Err.stop c.in-Err.ensures.told c.stopped.result c.stopped.ensures.answer

pub returns-in-Err-clause-leaves : goal.returns-in-Err-clause-leaves
returns-in-Err-clause-leaves g c =
    let means = g.P.Pages.means in
    let s = c.args.pages.now in
    grown_leaves means c.args.who c.args.tree.now 128 s s (none_grown means c.args.who.tty s) c.requires.holds

pub returns-in-Ok-clause-told : goal.returns-in-Ok-clause-told
returns-in-Ok-clause-told g c line =
    let means = g.P.Pages.means in
    let who = c.args.who in
    let tree = c.args.tree.now in
    let least = c.args.least.now in
    let changed : c.set_body.new.self ≡ with_changed_of tree least.fork.name (with_body (without_level least.fork.body least.level)) =
    c.set_body.ensures ∙ ap (λ (n : ForkName). with_changed_of tree n (with_body c.without_level-body.result)) (sym c.requires.own) ∙ ap (λ (b : Body). with_changed_of tree least.fork.name (with_body b)) c.without_level-body.ensures.psi in
    went_turned (asked who c.args.regs.now tree) least.fork least.table least.level means c.args.pages.now tree line c.make.new.pages c.set_body.new.self c.word_stored.new.reader c.in-Ok.word c.in-Ok.ensures.told c.make.ensures.fits
    (λ d fits. c.make.ensures.told d who fits ((c.in-Ok.ensures.told d fits).stands c.in-Ok.word refl)) changed (After c.restored.result None None) (ap (λ (r : Regs). After r None None) c.restored.ensures.restored)

pub returns-in-Ok-clause-leaves : goal.returns-in-Ok-clause-leaves
returns-in-Ok-clause-leaves g c =
    let means = g.P.Pages.means in
    let who = c.args.who in
    let tree = c.args.tree.now in
    let least = c.args.least.now in
    let grown = subst (λ (f : ForkName). Grows means f.tty 128 c.args.pages.now c.make.new.pages) c.in-Ok.ensures.fork c.make.ensures.grows in
    let body : IsBodyOf tree.forks who c.without_level-body.result = record {
      fork = least.fork;
      lives = ap (map.get tree.forks) (sym c.requires.own) ∙ c.requires.fork;
      units = ap (λ (b : Body). b.units) c.without_level-body.ensures.psi;
      within = c.without_level-body.ensures.within;
    } in
    let keep = body_keeps tree c.are_trees.ensures.slotted.own who c.without_level-body.result body in
    let here : Keep tree.forks c.set_body.new.self.forks = subst (λ (t : PlainTree). Keep tree.forks t.forks) (sym c.set_body.ensures) keep in
    let others = subst (λ (t : PlainTree). OthersStay who.tty tree.forks t.forks) (sym c.set_body.ensures) (named_others tree c.are_trees.ensures.slotted.own who (with_body c.without_level-body.result)) in
    places_leave means who tree 128 c.args.pages.now c.make.new.pages grown c.requires.holds c.set_body.new.self c.are_trees.ensures.slotted c.are_trees-in-Ok.ensures.slotted here.same here.come others
