use Rattle.std.proofs.Common.{◌≡◌, Some, ℕ, ◌≤◌, cond, length, IsSome, is_some, refl, sym, ◌∙◌, ap, subst, arith}
use Rattle.plain_model.specs.declared.fork.Fork.{Fork}
use Rattle.monitor_calls.specs.ForkUnit.{UnitReason}
use Rattle.monitor_calls.specs.Limits.{CanUnit}
use Rattle.monitor_core.specs.Needing.{tables_of}
use Rattle.step_shown.specs.Runners.{told_at}
use Rattle.step_shown.specs.Shown.{is_stop, seen_of}
use Rattle.monitor_core.proofs.Running.{place_of, runner, runner_lives, runner_only, runner_runs, runner_there}
use Rattle.step_shown.specs.Reaching.{Reaches}
use Rattle.step_shown.specs.declared.reach.Reach.TheVariants.{Job}
use Rattle.step_shown.specs.Replies.{line_before}
use Rattle.monitor_calls.proofs.ReachDid.{reaches_others, told_reaches}
use Rattle.monitor_core.proofs.UnitDid.{did_units, has_job, left_keeps, unheld_left, units_sound, waits_sound, waits_still, waits_unheld}
use Rattle.monitor_core.proofs.KeptSlots.{kept_slots}
use Rattle.monitor_core.proofs.system.System.run_fork.Goals as goal

single : (room count : ℕ) → count ≤ room → room ≡ 1 → count ≤ 1
single room count few one = omega (arith, few, one)

pub units_with_call-ran-requires-clause-clock : goal.units_with_call-ran-requires-clause-clock
units_with_call-ran-requires-clause-clock g c = omega (arith, c.requires.few.ticks)

pub units_with_call-ran-requires-clause-there : goal.units_with_call-ran-requires-clause-there
units_with_call-ran-requires-clause-there g c = subst IsSome (sym (runner_there c.args.self.now.tree c.args.who c.requires.can)) refl

pub units_with_call-ran-requires-clause-can : goal.units_with_call-ran-requires-clause-can
units_with_call-ran-requires-clause-can g c f found =
    let tree = c.args.self.now.tree in
    let is = runner_only tree c.args.who c.requires.can f found in
    let fits = c.args.self.now.sound.each_fork (runner tree c.args.who c.requires.can) (runner_lives tree c.args.who c.requires.can) in
    (ap (λ (k : Fork). k.name) (sym is), subst (λ (k : Fork). CanUnit k.body) is (record { runs = (runner_runs tree c.args.who c.requires.can).0; fits = fits }))

pub units_with_call-ran-requires-clause-few : goal.units_with_call-ran-requires-clause-few
units_with_call-ran-requires-clause-few g c f found =
    let tree = c.args.self.now.tree in
    let is = ap (λ (k : Fork). k.body.units) (runner_only tree c.args.who c.requires.can f found) in
    omega (arith, is, c.requires.few.units (runner tree c.args.who c.requires.can) (runner_lives tree c.args.who c.requires.can))

pub units_with_call-ran-requires-clause-serves : goal.units_with_call-ran-requires-clause-serves
units_with_call-ran-requires-clause-serves g c =
    let m = c.args.self.now in
    let f = runner m.tree c.args.who c.requires.can in
    let lives = runner_lives m.tree c.args.who c.requires.can in
    record { lives = m.sound.holds.living f.name ∙ ap is_some lives; terminal = (c.requires.can.trees.slotted.named f lives).0 }

pub units_with_call-ran-requires-clause-job : goal.units_with_call-ran-requires-clause-job
units_with_call-ran-requires-clause-job g c = has_job c.args.self.now (runner c.args.self.now.tree c.args.who c.requires.can) c.requires.can.trees (runner_lives c.args.self.now.tree c.args.who c.requires.can)

pub invariant_of-self : goal.invariant_of-self
invariant_of-self g c =
    let m = c.args.self.now in
    let who = c.args.who in
    let r = c.requires.can in
    let f = runner m.tree who r in
    let waits = c.in-Err.ensures.waits (place_of r.fork) r.fork.body (runner_there m.tree who r) in
    record { typing_room = ap length waits.told.typed ∙ m.typing_room; unheld = waits_unheld m f r.trees (runner_lives m.tree who r) c.units_with_call-ran.new.pages c.units_with_call-ran.new.tree c.units_with_call-ran.new.files c.units_with_call-ran.new.typed.items c.in-Err.need waits c.are_trees.ensures; sound = waits_sound m f r.trees (runner_lives m.tree who r) c.units_with_call-ran.new.pages c.units_with_call-ran.new.tree c.units_with_call-ran.new.files c.units_with_call-ran.new.typed.items c.in-Err.need waits c.are_trees.ensures }

pub returns-in-Err-clause-waits : goal.returns-in-Err-clause-waits
returns-in-Err-clause-waits g c =
    let m = c.args.self.now in
    let who = c.args.who in
    let r = c.requires.can in
    let f = runner m.tree who r in
    let waits = c.in-Err.ensures.waits (place_of r.fork) r.fork.body (runner_there m.tree who r) in
    waits_still m f r.trees (runner_lives m.tree who r) c.units_with_call-ran.new.pages c.units_with_call-ran.new.tree c.units_with_call-ran.new.files c.units_with_call-ran.new.typed.items c.in-Err.need waits c.are_trees.ensures _ refl refl refl refl refl refl

pub invariant_of-self-in-Ok : goal.invariant_of-self-in-Ok
invariant_of-self-in-Ok g c =
    let m = c.args.self.now in
    let who = c.args.who in
    let r = c.requires.can in
    let f = runner m.tree who r in
    let units = c.in-Ok.units in
    let ran = c.in-Ok.ensures.ran (place_of r.fork) r.fork.body (runner_there m.tree who r) in
    let left = c.units_with_call-ran.new.tree in
    let told : c.tell_where.new.tree ≡ told_at left who.fork (is_stop units.shown) = c.tell_where.ensures ∙ ap (told_at left who.fork) c.is_stop-stops.ensures in
    record { unheld = unheld_left m f r.trees (runner_lives m.tree who r) c.units_with_call-ran.new.files ran.unheld c.seen-shown.result c.seen-shown.ensures.jobs; sound = units_sound m f r.trees (runner_lives m.tree who r) c.units_with_call-ran.new.pages left c.tell_where.new.tree units.count ran.leaves c.are_trees.ensures (left_keeps m f r.trees (runner_lives m.tree who r) c.units_with_call-ran.new.pages left c.tell_where.new.tree c.units_with_call-ran.new.files c.units_with_call-ran.new.typed.items units ran c.are_trees.ensures told) c.are_trees-in-Ok.ensures c.seen-shown.new.jobs.items c.seen-shown.result c.seen-shown.ensures.jobs; typing_room = ran.typing_room }

pub returns-in-Ok-clause-did : goal.returns-in-Ok-clause-did
returns-in-Ok-clause-did g c =
    let m = c.args.self.now in
    let who = c.args.who in
    let r = c.requires.can in
    let f = runner m.tree who r in
    let units = c.in-Ok.units in
    let ran = c.in-Ok.ensures.ran (place_of r.fork) r.fork.body (runner_there m.tree who r) in
    let seen : c.seen-shown.result ≡ seen_of r.fork.slot units.shown = c.seen-shown.ensures.shown ∙ ap (λ n. seen_of n units.shown) (sym r.there.2) in
    let left = c.units_with_call-ran.new.tree in
    let told : c.tell_where.new.tree ≡ told_at left who.fork (is_stop units.shown) = c.tell_where.ensures ∙ ap (told_at left who.fork) c.is_stop-stops.ensures in
    let can = runner_runs m.tree who r in
    did_units m f r.trees (runner_lives m.tree who r) c.units_with_call-ran.new.pages left c.tell_where.new.tree c.units_with_call-ran.new.files c.units_with_call-ran.new.typed.items units ran c.are_trees.ensures told _ refl refl refl refl c.seen-shown.result can.0 can.1 seen c.seen-shown.ensures.jobs refl c.in-Ok.ensures.some c.line_before-line.result (c.line_before-line.ensures ∙ ap (line_before m.panel.trace) (runner_there m.tree who r)) (λ some. single c.row_room.result units.count c.in-Ok.ensures.few (c.row_room.ensures.one some))

pub returns-in-Err-clause-others : goal.returns-in-Err-clause-others
returns-in-Err-clause-others g c = c.units_with_call-ran.ensures.others

pub returns-in-Ok-clause-reach : goal.returns-in-Ok-clause-reach
returns-in-Ok-clause-reach g c =
    let units = c.in-Ok.units in
    let reaches = told_reaches units.reach c.is_stop-stops.result c.args.who.fork c.args.self.now.tree c.units_with_call-ran.new.tree c.tell_where.new.tree c.requires.can.trees.slotted.own c.are_trees.ensures.slotted.own c.in-Ok.ensures.reach c.tell_where.ensures in
    subst (λ x. Reaches x c.args.who.fork c.args.self.now.tree c.tell_where.new.tree) (sym c.reach_told.ensures) reaches

pub returns-in-Ok-clause-others : goal.returns-in-Ok-clause-others
returns-in-Ok-clause-others g c =
    let units = c.in-Ok.units in
    let stops = c.is_stop-stops.result in
    let own = c.requires.can.trees.slotted.own in
    reaches_others (cond stops Job units.reach) c.args.who.fork c.args.self.now.tree c.tell_where.new.tree own
    (told_reaches units.reach stops c.args.who.fork c.args.self.now.tree c.units_with_call-ran.new.tree c.tell_where.new.tree own c.are_trees.ensures.slotted.own c.in-Ok.ensures.reach c.tell_where.ensures)

pub returns-in-Ok-clause-slots : goal.returns-in-Ok-clause-slots
returns-in-Ok-clause-slots g c =
    let m = c.args.self.now in
    let who = c.args.who in
    let r = c.requires.can in
    let f = runner m.tree who r in
    let units = c.in-Ok.units in
    let ran = c.in-Ok.ensures.ran (place_of r.fork) r.fork.body (runner_there m.tree who r) in
    let left = c.units_with_call-ran.new.tree in
    let told : c.tell_where.new.tree ≡ told_at left who.fork (is_stop units.shown) = c.tell_where.ensures ∙ ap (told_at left who.fork) c.is_stop-stops.ensures in
    kept_slots m.tree r.trees units.count left.forks c.tell_where.new.tree.forks c.are_trees.ensures.slotted.own ran.leaves.kept
    (left_keeps m f r.trees (runner_lives m.tree who r) c.units_with_call-ran.new.pages left c.tell_where.new.tree c.units_with_call-ran.new.files c.units_with_call-ran.new.typed.items units ran c.are_trees.ensures told)

pub returns-in-Ok-clause-loses : goal.returns-in-Ok-clause-loses
returns-in-Ok-clause-loses g c =
    let m = c.args.self.now in
    let r = c.requires.can in
    (c.in-Ok.ensures.ran (place_of r.fork) r.fork.body (runner_there m.tree c.args.who r)).loses

pub returns-in-Err-clause-reason : goal.returns-in-Err-clause-reason
returns-in-Err-clause-reason g c f there =
    let m = c.args.self.now in
    let r = c.requires.can in
    let waits = c.in-Err.ensures.waits (place_of r.fork) r.fork.body (runner_there m.tree c.args.who r) in
    let both : Some (runner m.tree c.args.who r) ≡ Some f = sym (runner_lives m.tree c.args.who r) ∙ there in
    let same : runner m.tree c.args.who r ≡ f = cc both in
    subst (λ (k : Fork). UnitReason g.P.Pages.means m.pages (tables_of m) k c.in-Err.need) same waits.reason
