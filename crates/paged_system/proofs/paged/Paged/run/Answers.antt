use Rattle.std.proofs.Common.{◌≡◌, ◌-◌, ◌∙◌, true, Some, refl, sym, ap, subst}
use Rattle.std.specs.FinMap as map
use Rattle.event_deeds.specs.Deeds.{unit_of}
use Rattle.fork_lists.specs.Ties.{AreTied}
use Rattle.job_sched.proofs.Waits.{size_ran}
use Rattle.job_sched.specs.Schedules.{size}
use Rattle.job_sched.specs.Ties.{WaitsLess}
use Rattle.machine_names.specs.Bounds.{IsForkName}
use Rattle.machine_names.specs.declared.names.ForkName.{ForkName}
use Rattle.paged_system.proofs.ListsTied.{fewer_row}
use Rattle.monitor_core.specs.Systems.{DidAll, Waits}
use Rattle.page_contracts.specs.Pages.{MayLose}
use Rattle.plain_model.specs.Moves.{moves}
use Rattle.plain_model.specs.Trees.{PlainTree}
use Rattle.script_texts.specs.declared.event.Step.TheVariants.{Unit as AUnit}
use Rattle.step_shown.specs.Reaching.{Reaches}
use Rattle.turn_forms.specs.Turns.{KeepSlots, moved}
use Rattle.monitor_calls.specs.Limits.{unit_frames}
use Rattle.monitor_calls.specs.Reasons.{UnitNeeds}
use Rattle.page_waits.specs.Seats.{has}
use Rattle.paged_system.specs.Paging.{parts_of, wants_of}
use Rattle.paged_system.proofs.DeedDone.{task_waits}
use Rattle.paged_system.proofs.Keeping.{either_way, many_stay}
use Rattle.paged_system.proofs.paged.Paged.run.Goals as goal

pub count_but_last-requires-clause-row : goal.count_but_last-requires-clause-row
count_but_last-requires-clause-row g c = fewer_row c.args.lists.now.sched c.args.most c.in-Ok.done.count c.requires.row c.in-Ok.ensures.few

pub invariant_of-self : goal.invariant_of-self
invariant_of-self g c =
    let old = c.args.self.now in
    let new = c.run_fork.new.self in
    record {
      trees = ∣ c.run_fork.ensures.trees ∣₁;
      many = many_stay old new (either_way (λ done. MayLose g.P.Pages.means old.system.pages new.pages) (Waits unit_frames old.system new) c.run_fork.result c.run_fork.ensures.loses c.run_fork.ensures.waits (λ x did. did.frames) (λ need waits. waits.planned.frames));
    }

pub follow_reach-requires : goal.follow_reach-requires
follow_reach-requires g c =
    let tree = c.args.self.now.system.tree in
    record {
      ended = record {
        old = tree;
        trees = c.runner-runner.ensures.runner.trees;
        tied = c.count_but_last.ensures.tied tree.forks c.requires.tied;
        runner = c.runner-runner.ensures.runner;
        reaches = subst (λ (x : PlainTree). Reaches c.in-Ok.done.reach c.runner-runner.result.fork tree x) (sym c.forks.ensures.forks) c.in-Ok.ensures.reach;
      };
    }

pub returns-in-Ok-clause-did : goal.returns-in-Ok-clause-did
returns-in-Ok-clause-did g c =
    let old = c.args.self.now.system in
    let new = c.run_fork.new.self in
    let runner = c.runner-runner.ensures.runner in
    let did = subst (λ (f : ForkName). DidAll old new (AUnit f) c.in-Ok.done.count c.in-Ok.done.reply) c.runner-runner.ensures.name c.in-Ok.ensures.did in
    record {
      each = λ d fits. (did.fits d fits, did.legal d fits, did.state d fits, did.items d fits, c.in-Ok.ensures.shown d (did.fits d fits));
      runs = did.runs;
      named = subst IsForkName (runner.named ∙ c.runner-runner.ensures.name) (runner.trees.slotted.named runner.fork runner.there.0);
      shown = did.shown;
      limit = did.most;
      within = did.within;
      loses = c.in-Ok.ensures.loses;
    }

pub returns-in-Ok-clause-moved : goal.returns-in-Ok-clause-moved
returns-in-Ok-clause-moved g c =
    let tree = c.args.self.now.system.tree in
    let new = c.run_fork.new.self.tree in
    let runner = c.runner-runner.ensures.runner in
    let same = c.forks.ensures.forks in
    let went = c.follow_reach.ensures.moved tree runner.trees (c.count_but_last.ensures.tied tree.forks c.requires.tied) runner
    (subst (λ (x : PlainTree). Reaches c.in-Ok.done.reach c.runner-runner.result.fork tree x) (sym same) c.in-Ok.ensures.reach)
    (subst (λ (x : PlainTree). KeepSlots tree.forks x.forks) (sym same) c.in-Ok.ensures.slots) in
    went ∙ (λ i. moved (moves tree.forks (same i).forks) (c.count_but_last.ensures.ran i))

pub returns-in-Ok-clause-tied : goal.returns-in-Ok-clause-tied
returns-in-Ok-clause-tied g c = subst (λ (x : PlainTree). AreTied x.forks c.follow_reach.new.lists) c.forks.ensures.forks c.follow_reach.ensures.tied

pub returns-in-Ok-clause-waits : goal.returns-in-Ok-clause-waits
returns-in-Ok-clause-waits g c = subst (λ ws. WaitsLess ws c.follow_reach.new.lists.sched.waiting) c.count_but_last.ensures.waits c.follow_reach.ensures.waits

pub returns-in-Ok-clause-set : goal.returns-in-Ok-clause-set
returns-in-Ok-clause-set g c = c.follow_reach.ensures.set ∙ ap size c.count_but_last.ensures.ran ∙ size_ran (c.in-Ok.done.count - 1) c.args.lists.now.sched

pub returns-in-Err-clause-needs : goal.returns-in-Err-clause-needs
returns-in-Err-clause-needs g c =
    let old = c.args.self.now in
    let m = old.system in
    let means = g.P.Pages.means in
    let runner = c.runner-runner.ensures.runner in
    let who = c.args.who in
    let named : runner.fork.name ≡ who = runner.named ∙ c.runner-runner.ensures.name in
    let there : map.get m.tree.forks who ≡ Some runner.fork = ap (map.get m.tree.forks) (sym named) ∙ runner.there.0 in
    task_waits old _ c.in-Err.need unit_frames c.in-Err.ensures.waits (g.met.P.Pages.housed m.pages) (g.met.P.Pages.housed c.run_fork.new.self.pages) (λ flat. (let wrong = c.in-Err.ensures.core flat in cc wrong)) (unit_of who) refl
    (λ d home fits is.
    subst (λ n. has home.0 (wants_of m d (unit_of n)) ≡ true) named
    (c.what_is_needed_is_wanted.ensures.units m.files (means.scene m.pages) (parts_of m d) runner.fork (means.map_home m.pages) (means.page_home m.pages) home (c.homes_are_of_pages.ensures.homed m.pages)
    (λ f h at. sym (m.sound.holds.living f) ∙ c.homes_are_of_pages.ensures.living m.pages f h at) refl runner.there.0
    (subst (λ n. UnitNeeds m.files (means.scene m.pages) (parts_of m d) runner.fork n) is (c.in-Err.ensures.reason runner.fork (ap (map.get m.tree.forks) (sym runner.named) ∙ runner.there.0) d fits.pages))))
