use Rattle.std.proofs.Common.{◌≡◌, Some, set, refl, sym, ◌∙◌, ap, subst, arith}
use Rattle.std.specs.Prelude.{IsSome}
use Rattle.plain_model.specs.declared.fork.TerminalMode.TheVariants.{Program}
use Rattle.plain_model.specs.Commands.{restarted}
use Rattle.plain_model.specs.Trees.{PlainTree}
use Rattle.monitor_calls.specs.declared.job.Job.{Job}
use Rattle.step_shown.specs.declared.reply.Reply.TheVariants.{One}
use Rattle.std.specs.FinMap as map
use Rattle.page_contracts.proofs.Losing.{needed_more}
use Rattle.fork_tree.proofs.Slots.{held_lives, some_of}
use Rattle.console_access.specs.Needing.{IsWordAway}
use Rattle.machine_names.specs.declared.names.ForkName.{ForkName}
use Rattle.monitor_core.specs.Systems.{event_frames}
use Rattle.monitor_core.specs.JobEvents.{FitsJobEvent}
use Rattle.console_access.specs.Looking.{item_of}
use Rattle.monitor_calls.specs.Sound.{AreSound}
use Rattle.monitor_calls.proofs.Sounds.{entry_read, job_read, same_tops_set, sound_change}
use Rattle.file_tables.specs.Tables.{open_of}
use Rattle.monitor_calls.specs.Jobs.{AreUnheld, job_at}
use Rattle.monitor_core.proofs.Systems.{unheld_still, holds_fork, holds_top, sound_poked, restarted_body, top_fork_of}
use Rattle.monitor_core.proofs.JobDid.{did_no_job, did_poke, did_start, did_examine, did_forks, poke_reply, put_back}
use Rattle.monitor_core.proofs.NeedsFirst.{event_waits, look_needs, poke_needs, put_at_once}
use Rattle.monitor_core.proofs.JobOthers.{top_changed, top_poked}
use Rattle.console_access.specs.Writing.{with_accumulator}
use Rattle.monitor_core.proofs.system.System.at_job.Goals as goal

pub returns-in_default-clause-did : goal.returns-in_default-clause-did
returns-in_default-clause-did g c =
    did_no_job c.args.self.now _ refl refl refl (put_back c.args.self.now.jobs.items c.args.t.0 c.index_mut.result.now c.index_mut.result.now c.index_mut.ensures.value refl) refl refl c.args.t c.args.e c.requires.terminal
    (entry_read c.args.self.now.jobs.items c.args.t.0 c.index_mut.result.now c.args.self.now.sound.job_room c.requires.terminal c.index_mut.ensures.value ∙ c.in_default.is)

pub poke-requires-clause-fork : goal.poke-requires-clause-fork
poke-requires-clause-fork g c = holds_top c.args.self.now c.are_trees.ensures c.args.t.0 c.in-Some.job (job_read c.args.self.now.jobs.items c.args.t.0 _ c.in-Some.job c.args.self.now.sound.job_room c.requires.terminal c.index_mut.ensures.value c.in-Some.is)

pub poke-requires-clause-accumulators : goal.poke-requires-clause-accumulators
poke-requires-clause-accumulators g c f e = (c.args.self.now.sound.each_fork f (held_lives c.args.self.now.tree.forks c.are_trees.ensures.slotted c.in-Some.job.top f e)).accumulators

pub invariant_of-self-in-Poke : goal.invariant_of-self-in-Poke
invariant_of-self-in-Poke g c = record {
  sound = sound_poked c.args.self.now c.are_trees.ensures c.poke.new.pages c.poke.new.tree _ c.in-Some.job.top c.in-Poke.address c.in-Poke.word c.poke.ensures.made.lives c.poke.ensures.made.forks (put_back c.args.self.now.jobs.items c.args.t.0 c.index_mut.result.now (Some c.in-Some.job) c.index_mut.ensures.value c.in-Some.is)
      (λ low. (c.poke.ensures.low low).1) (λ high. (c.poke.ensures.high high).0);
  unheld = subst (AreUnheld (open_of c.args.self.now.files)) (sym (put_back c.args.self.now.jobs.items c.args.t.0 c.index_mut.result.now (Some c.in-Some.job) c.index_mut.ensures.value c.in-Some.is)) c.args.self.now.unheld;
  typing_room = c.args.self.now.typing_room;
}

pub start-requires-clause-lives : goal.start-requires-clause-lives
start-requires-clause-lives g c =
    let k = top_fork_of c.args.self.now c.args.t.0 c.in-Some.job (job_read c.args.self.now.jobs.items c.args.t.0 _ c.in-Some.job c.args.self.now.sound.job_room c.requires.terminal c.index_mut.ensures.value c.in-Some.is) in subst IsSome (sym k.1) refl

pub invariant_of-self-in-Start : goal.invariant_of-self-in-Start
invariant_of-self-in-Start g c =
    let at = (job_read c.args.self.now.jobs.items c.args.t.0 _ c.in-Some.job c.args.self.now.sound.job_room c.requires.terminal c.index_mut.ensures.value c.in-Some.is) in
    let low = c.args.self.now.sound.job_room in
    let k : Job = record c.in-Some.job { mode = Program } in
    let jobs = set c.args.self.now.jobs.items c.args.t.0 (Some k) in
    let job = c.args.self.now.sound.each_job c.args.t.0 c.in-Some.job at in
    record {
      sound = subst (λ (x : PlainTree). AreSound g.P.Pages.means c.args.self.now.pages x jobs) (sym c.start.ensures)
          (sound_change g.P.Pages.means c.args.self.now.pages c.args.self.now.pages c.args.self.now.tree c.args.self.now.jobs.items jobs c.args.self.now.sound refl refl
          (same_tops_set c.args.self.now.jobs.items c.args.t.0 c.in-Some.job k (omega (arith, low, job.low)) at refl)
          c.are_trees.ensures c.in-Some.job.top (restarted c.in-Start.address) (λ f. refl) (λ f. refl) (λ f. refl) (λ f b. restarted_body f c.in-Start.address (subst FitsJobEvent c.in-Start.is c.requires.fits) b));
      unheld = unheld_still (open_of c.args.self.now.files) c.args.self.now.jobs.items jobs c.args.self.now.unheld (same_tops_set c.args.self.now.jobs.items c.args.t.0 c.in-Some.job k (omega (arith, low, job.low)) at refl);
      typing_room = c.args.self.now.typing_room;
    }

pub returns-in-Start-clause-did : goal.returns-in-Start-clause-did
returns-in-Start-clause-did g c =
    did_start c.args.self.now _ c.are_trees.ensures c.args.t c.args.e c.in-Some.job (job_read c.args.self.now.jobs.items c.args.t.0 _ c.in-Some.job c.args.self.now.sound.job_room c.requires.terminal c.index_mut.ensures.value c.in-Some.is) refl refl refl _ c.in-Start.address refl c.in-Start.is refl refl refl refl c.start.ensures refl

pub examined-requires-clause-each : goal.examined-requires-clause-each
examined-requires-clause-each g c f e =
    let lives = held_lives c.args.self.now.tree.forks c.are_trees.ensures.slotted _ f e in
    (holds_fork c.args.self.now c.are_trees.ensures f lives, (c.args.self.now.sound.each_fork f lives).accumulators)

pub returns-in-Forks-clause-did : goal.returns-in-Forks-clause-did
returns-in-Forks-clause-did g c =
    did_forks c.args.self.now _ refl refl refl (put_back c.args.self.now.jobs.items c.args.t.0 c.index_mut.result.now (Some c.in-Some.job) c.index_mut.ensures.value c.in-Some.is) refl refl c.args.t c.args.e c.in-Some.job (job_read c.args.self.now.jobs.items c.args.t.0 _ c.in-Some.job c.args.self.now.sound.job_room c.requires.terminal c.index_mut.ensures.value c.in-Some.is) c.in-Forks.is c.requires.terminal

pub returns-in-Start-clause-others : goal.returns-in-Start-clause-others
returns-in-Start-clause-others g c = top_changed c.args.self.now c.args.t c.in-Some.job (job_read c.args.self.now.jobs.items c.args.t.0 _ c.in-Some.job c.args.self.now.sound.job_room c.requires.terminal c.index_mut.ensures.value c.in-Some.is) c.are_trees.ensures (restarted c.in-Start.address) (λ k. refl) c.start.new.tree c.start.ensures

pub returns-in-Ok-Ok-clause-did : goal.returns-in-Ok-Ok-clause-did
returns-in-Ok-Ok-clause-did g c =
    did_poke c.args.self.now _ c.are_trees.ensures c.args.t c.args.e c.in-Some.job (job_read c.args.self.now.jobs.items c.args.t.0 _ c.in-Some.job c.args.self.now.sound.job_room c.requires.terminal c.index_mut.ensures.value c.in-Some.is) refl refl refl (put_back c.args.self.now.jobs.items c.args.t.0 c.index_mut.result.now (Some c.in-Some.job) c.index_mut.ensures.value c.in-Some.is) c.in-Poke.address c.in-Poke.word c.in-Ok-Ok.field-0 _ c.in-Poke.is
    (ap poke_reply c.in-Ok-Ok.field-0-is) c.in-Ok-Ok.ensures.fits (λ low. let done = c.in-Ok-Ok.ensures.low low in (put_at_once _ done.0, done.1, done.2)) c.in-Ok-Ok.ensures.high c.in-Ok-Ok.ensures.made c.in-Ok-Ok.ensures.loses

pub returns-in-Ok-Err-clause-did : goal.returns-in-Ok-Err-clause-did
returns-in-Ok-Err-clause-did g c =
    did_poke c.args.self.now _ c.are_trees.ensures c.args.t c.args.e c.in-Some.job (job_read c.args.self.now.jobs.items c.args.t.0 _ c.in-Some.job c.args.self.now.sound.job_room c.requires.terminal c.index_mut.ensures.value c.in-Some.is) refl refl refl (put_back c.args.self.now.jobs.items c.args.t.0 c.index_mut.result.now (Some c.in-Some.job) c.index_mut.ensures.value c.in-Some.is) c.in-Poke.address c.in-Poke.word c.in-Ok-Err.field-0 _ c.in-Poke.is
    (ap poke_reply c.in-Ok-Err.field-0-is) c.in-Ok-Err.ensures.fits (λ low. let done = c.in-Ok-Err.ensures.low low in (put_at_once _ done.0, done.1, done.2)) c.in-Ok-Err.ensures.high c.in-Ok-Err.ensures.made c.in-Ok-Err.ensures.loses

pub returns-in-Err-clause-waits : goal.returns-in-Err-clause-waits
returns-in-Err-clause-waits g c =
    let lacks = c.in-Err.ensures.waits in
    event_waits c.args.self.now _ refl lacks.stays (c.in-Err.ensures.high c.in-Err.ensures.reason.high).0 (put_back c.args.self.now.jobs.items c.args.t.0 c.index_mut.result.now (Some c.in-Some.job) c.index_mut.ensures.value c.in-Some.is) refl refl c.in-Err.need
    (needed_more g.P.Pages.means.store 2 event_frames c.poke.new.pages c.in-Err.need (omega arith) lacks.needed)

pub returns-in-Err-clause-reason : goal.returns-in-Err-clause-reason
returns-in-Err-clause-reason g c =
    poke_needs _ c.args.t c.args.e c.in-Poke.address c.in-Poke.word c.in-Err.need c.in-Poke.is
    (record { job = c.in-Some.job; at = ap (λ jobs. job_at jobs c.args.t.0) (put_back c.args.self.now.jobs.items c.args.t.0 c.index_mut.result.now (Some c.in-Some.job) c.index_mut.ensures.value c.in-Some.is) ∙ (job_read c.args.self.now.jobs.items c.args.t.0 _ c.in-Some.job c.args.self.now.sound.job_room c.requires.terminal c.index_mut.ensures.value c.in-Some.is); away = c.in-Err.ensures.reason })

pub returns-in-Ok-Ok-examined-clause-did : goal.returns-in-Ok-Ok-examined-clause-did
returns-in-Ok-Ok-examined-clause-did g c =
    did_examine c.args.self.now _ refl refl refl (put_back c.args.self.now.jobs.items c.args.t.0 c.index_mut.result.now (Some c.in-Some.job) c.index_mut.ensures.value c.in-Some.is) refl refl c.args.t c.args.e c.in-Some.job (job_read c.args.self.now.jobs.items c.args.t.0 _ c.in-Some.job c.args.self.now.sound.job_room c.requires.terminal c.index_mut.ensures.value c.in-Some.is) c.in-Examine.serial c.in-Examine.address c.in-Ok-Ok-examined.field-0 _ c.in-Examine.is
    (ap (λ r. One (item_of r)) c.in-Ok-Ok-examined.field-0-is) (c.in-Ok-Ok-examined.ensures.fits c.requires.terminal (subst FitsJobEvent c.in-Examine.is c.requires.fits).0) c.in-Ok-Ok-examined.ensures.told

pub returns-in-Ok-Err-examined-clause-did : goal.returns-in-Ok-Err-examined-clause-did
returns-in-Ok-Err-examined-clause-did g c =
    did_examine c.args.self.now _ refl refl refl (put_back c.args.self.now.jobs.items c.args.t.0 c.index_mut.result.now (Some c.in-Some.job) c.index_mut.ensures.value c.in-Some.is) refl refl c.args.t c.args.e c.in-Some.job (job_read c.args.self.now.jobs.items c.args.t.0 _ c.in-Some.job c.args.self.now.sound.job_room c.requires.terminal c.index_mut.ensures.value c.in-Some.is) c.in-Examine.serial c.in-Examine.address c.in-Ok-Err-examined.field-0 _ c.in-Examine.is
    (ap (λ r. One (item_of r)) c.in-Ok-Err-examined.field-0-is) (c.in-Ok-Err-examined.ensures.fits c.requires.terminal (subst FitsJobEvent c.in-Examine.is c.requires.fits).0) c.in-Ok-Err-examined.ensures.told

pub returns-in-Err-examined-clause-waits : goal.returns-in-Err-examined-clause-waits
returns-in-Err-examined-clause-waits g c =
    event_waits c.args.self.now _ refl refl refl (put_back c.args.self.now.jobs.items c.args.t.0 c.index_mut.result.now (Some c.in-Some.job) c.index_mut.ensures.value c.in-Some.is) refl refl c.in-Err-examined.need
    (needed_more g.P.Pages.means.store 1 event_frames c.args.self.now.pages c.in-Err-examined.need (omega arith) c.in-Err-examined.ensures.needs)

pub returns-in-Err-examined-clause-reason : goal.returns-in-Err-examined-clause-reason
returns-in-Err-examined-clause-reason g c =
    let m = c.args.self.now in
    let name : ForkName = record { tty = c.args.t; serial = c.in-Examine.serial } in
    let found = some_of (map.get m.tree.forks name) c.in-Err-examined.ensures.there in
    let own : found.0.name ≡ name = c.are_trees.ensures.slotted.own name found.0 found.1 in
    look_needs _ c.args.t c.args.e c.in-Examine.serial c.in-Examine.address c.in-Err-examined.need c.in-Examine.is
    (subst (λ n. IsWordAway g.P.Pages.means m.pages n c.in-Examine.address c.in-Err-examined.need) own (c.in-Err-examined.ensures.reason found.0 found.1))

pub returns-in-Ok-Ok-clause-others : goal.returns-in-Ok-Ok-clause-others
returns-in-Ok-Ok-clause-others g c =
    top_poked c.args.self.now c.args.t c.in-Some.job (job_read c.args.self.now.jobs.items c.args.t.0 _ c.in-Some.job c.args.self.now.sound.job_room c.requires.terminal c.index_mut.ensures.value c.in-Some.is) c.are_trees.ensures c.in-Poke.address (with_accumulator c.in-Poke.address c.in-Poke.word) (λ k. refl) c.poke.new.tree (λ low. (c.poke.ensures.low low).1) (λ high. (c.poke.ensures.high high).0)

pub returns-in-Ok-Err-clause-others : goal.returns-in-Ok-Err-clause-others
returns-in-Ok-Err-clause-others g c =
    top_poked c.args.self.now c.args.t c.in-Some.job (job_read c.args.self.now.jobs.items c.args.t.0 _ c.in-Some.job c.args.self.now.sound.job_room c.requires.terminal c.index_mut.ensures.value c.in-Some.is) c.are_trees.ensures c.in-Poke.address (with_accumulator c.in-Poke.address c.in-Poke.word) (λ k. refl) c.poke.new.tree (λ low. (c.poke.ensures.low low).1) (λ high. (c.poke.ensures.high high).0)

pub returns-in-Err-clause-others : goal.returns-in-Err-clause-others
returns-in-Err-clause-others g c =
    top_poked c.args.self.now c.args.t c.in-Some.job (job_read c.args.self.now.jobs.items c.args.t.0 _ c.in-Some.job c.args.self.now.sound.job_room c.requires.terminal c.index_mut.ensures.value c.in-Some.is) c.are_trees.ensures c.in-Poke.address (with_accumulator c.in-Poke.address c.in-Poke.word) (λ k. refl) c.poke.new.tree (λ low. (c.poke.ensures.low low).1) (λ high. (c.poke.ensures.high high).0)
