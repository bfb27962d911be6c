use Rattle.std.proofs.Common.{arith, sym, ◌∙◌, ap, subst}
use Rattle.ka10_deeds.specs.Done.{channel_of}
use Rattle.plain_units.specs.Units.{unit_on}
use Rattle.ka10_unit.specs.Gathers.{framed}
use Rattle.ka10_unit.specs.Planning.{unit_over}
use Rattle.ka10_unit.specs.Taking.{most_frames}
use Rattle.page_contracts.proofs.Losing.{needed_more}
use Rattle.monitor_calls.specs.Limits.{unit_frames}
use Rattle.monitor_calls.specs.ForkUnit.{Kept, behind, fork_of, left_so}
use Rattle.monitor_calls.proofs.Keeping.{ended_keeps, posted_keeps, none_keeps}
use Rattle.monitor_calls.proofs.UnitRan.{done_behind, trap_behind}
use Rattle.monitor_calls.proofs.row.one_unit.Goals as goal

pub returns-in-Done : goal.returns-in-Done
returns-in-Done g c at =
    let f = fork_of c.args.fork at c.args.body.now in
    let regs = c.slow_unit.new.regs in
    let slow = c.in-Done.ensures in
    let ended = c.ended.ensures in
    let left = ended.fork f in
    record {
      told = λ d fits.
          let told = slow.told d fits in
          let p = g.P.Pages.means.plain c.args.pages.now d in
          let q = g.P.Pages.means.plain c.slow_unit.new.pages d in
          (told.0, λ key rest. done_behind key rest f p q regs (channel_of c.in-Done.post) told.1 ∙ (λ i. left_so rest (sym left i) q (sym ended.shown i)));
      stops = λ d fits. tt;
      keeps = subst (λ h. Kept f h 1) (sym left) (ended_keeps f regs slow.pc (slow.accumulators ∙ c.requires.can.fits.accumulators) c.in-Done.post);
      made = record { lives = slow.grows.lives; forks = slow.grows.forks; most = slow.grows.most; own = omega (arith, slow.grows.serial); others = slow.grows.serials };
      fits = ended.fits;
      undone = λ none. absurd (cc none);
      loses = slow.grows.loses;
      needs = tt;
      core = λ flat. tt;
    }

pub returns-in-Trap : goal.returns-in-Trap
returns-in-Trap g c at =
    let f = fork_of c.args.fork at c.args.body.now in
    let regs = c.slow_unit.new.regs in
    let slow = c.in-Trap.ensures in
    let posted = c.posted.ensures in
    let left = posted.fork f in
    record {
      told = λ d fits.
          let told = slow.told d fits in
          let p = g.P.Pages.means.plain c.args.pages.now d in
          let q = g.P.Pages.means.plain c.slow_unit.new.pages d in
          (told.0, λ key rest. trap_behind key rest f p q regs c.in-Trap.channel told.1 (ap (λ x. g.P.Pages.means.plain x d) slow.stopped.1) slow.stopped.0 ∙ (λ i. left_so rest (sym left i) q (sym posted.shown i)));
      stops = λ d fits. tt;
      keeps = subst (λ h. Kept f h 1) (sym left) (posted_keeps f regs slow.pc (slow.accumulators ∙ c.requires.can.fits.accumulators) c.in-Trap.channel);
      made = record { lives = slow.grows.lives; forks = slow.grows.forks; most = slow.grows.most; own = omega (arith, slow.grows.serial); others = slow.grows.serials };
      fits = posted.fits;
      undone = λ none. absurd (cc none);
      loses = slow.grows.loses;
      needs = tt;
      core = λ flat. tt;
    }

pub returns-in-Call : goal.returns-in-Call
returns-in-Call g c at =
    let f = fork_of c.args.fork at c.args.body.now in
    let regs = c.slow_unit.new.regs in
    let slow = c.in-Call.ensures in
    record {
      told = λ d fits.
          let told = slow.told d fits in
          let p = g.P.Pages.means.plain c.args.pages.now d in
          let pages = ap (λ x. g.P.Pages.means.plain x d) slow.stopped.1 in
          (told.0, ((λ i. fork_of c.args.fork at (record c.args.body.now { regs = sym slow.stopped.0 i })), sym pages, λ key rest. ap (behind key rest (record f { body = record f.body { regs = regs } }) (g.P.Pages.means.plain c.slow_unit.new.pages d)) ((λ i. unit_on c.args.fork (pages i) (slow.stopped.0 i)) ∙ told.1)));
      stops = λ d fits. (λ i. unit_on c.args.fork (g.P.Pages.means.plain (slow.stopped.1 i) d) (slow.stopped.0 i)) ∙ (slow.told d fits).1;
      keeps = none_keeps f regs slow.pc (slow.accumulators ∙ c.requires.can.fits.accumulators);
      made = record {
        lives = slow.grows.lives;
        forks = slow.grows.forks;
        most = slow.grows.most;
        own = omega (arith, ap (λ x. g.P.Pages.means.serial x c.args.fork.tty) slow.stopped.1);
        others = slow.grows.serials;
      };
      fits = tt;
      undone = λ none. ((λ i. fork_of c.args.fork at (record c.args.body.now { regs = slow.stopped.0 i })), slow.stopped.1);
      loses = slow.grows.loses;
      needs = tt;
      core = λ flat. tt;
    }

pub returns-in-Need : goal.returns-in-Need
returns-in-Need g c at =
    let f = fork_of c.args.fork at c.args.body.now in
    let slow = c.in-Need.ensures in
    record {
      told = λ d fits. ((slow.told d fits).0, ((λ i. fork_of c.args.fork at (record c.args.body.now { regs = sym slow.stopped.0 i })), sym (ap (λ x. g.P.Pages.means.plain x d) slow.stopped.1)));
      stops = λ d fits. (λ i. unit_over c.args.fork (framed g.P.Pages.means (slow.stopped.1 i) d) (slow.stopped.0 i)) ∙ slow.over d fits;
      keeps = none_keeps f c.slow_unit.new.regs slow.pc (slow.accumulators ∙ c.requires.can.fits.accumulators);
      made = record {
        lives = slow.grows.lives;
        forks = slow.grows.forks;
        most = slow.grows.most;
        own = omega (arith, ap (λ x. g.P.Pages.means.serial x c.args.fork.tty) slow.stopped.1);
        others = slow.grows.serials;
      };
      undone = λ none. ((λ i. fork_of c.args.fork at (record c.args.body.now { regs = slow.stopped.0 i })), slow.stopped.1);
      loses = slow.grows.loses;
      fits = tt;
      needs = needed_more g.P.Pages.means.store most_frames unit_frames c.slow_unit.new.pages c.in-Need.need (omega arith) slow.needs;
      core = slow.core;
    }
