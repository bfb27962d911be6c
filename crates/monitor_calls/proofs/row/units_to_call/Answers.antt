use Rattle.std.proofs.Common.{◌≡◌, ◌+◌, Bool, true, false, cond, None, Some, refl, sym, ◌∙◌, ap, subst, arith}
use Rattle.plain_model.specs.Forks.{counted}
use Rattle.plain_model.specs.Calls.{posted_if}
use Rattle.plain_units.specs.declared.channel.TheConstants.{OVERFLOW, PUSHDOWN_OVERFLOW}
use Rattle.ka10_in_place.specs.Bursts.{AreCounted, Came}
use Rattle.ka10_unit.specs.Gathers.{framed}
use Rattle.ka10_spots.proofs.Stored.{lost_on}
use Rattle.ka10_deeds.specs.declared.done.Post.TheVariants.{Overflow, Pushdown}
use Rattle.step_shown.specs.Shown.{nothing}
use Rattle.plain_model.specs.Inspections.{is_interrupted}
use Rattle.monitor_calls.specs.ForkUnit.{Kept, Ran, RanUnits, behind_instruction, behind_interrupted, behind_unit, fork_of, left_so, ran_on, units_over}
use Rattle.monitor_calls.proofs.Keeping.{ended_keeps, more_keeps, ran_none, row_keeps}
use Rattle.monitor_calls.proofs.UnitRan.{post_behind, row_ran}
use Rattle.monitor_calls.proofs.Silent.{instruction_alone}
use Rattle.monitor_calls.proofs.UnitRows.{first_row, more_row, one_as}
use Rattle.monitor_calls.proofs.WhyNeeded.{stops_none, stops_so}
use Rattle.monitor_calls.proofs.row.units_to_call.Goals as goal

-- a fork that isn't interrupted, by the test
alone_of : {b t : Bool} → t ≡ b → t ≡ false → b ≡ false
alone_of is no_one = sym is ∙ no_one

pub returns-in-Most-clause-ran : goal.returns-in-Most-clause-ran
returns-in-Most-clause-ran g c at =
    let f = fork_of c.args.fork at c.args.body.now in
    let burst = c.burst-burst.ensures in
    let n = c.burst-burst.result.units in
    let regs = c.burst-burst.new.regs in
    let counted = subst (λ e. AreCounted e n c.args.most) c.in-Most.is burst.count in
    record {
      told = λ d fits.
          let p = g.P.Pages.means.plain c.args.pages.now d in
          let q = g.P.Pages.means.plain c.burst-burst.new.pages d in
          let came = subst (λ e. Came e n f.name p f.body.regs q regs) c.in-Most.is (burst.told d f.name fits c.space-space.ensures) in (
            burst.fits d fits,
            λ key rest. subst (λ k. RanUnits key rest f p n (left_so rest (ran_on f k regs) q nothing)) (sym c.from.ensures)
                (row_ran key rest f p n (record { pages = q; regs = regs; post = None }) (alone_of c.is_interrupted.ensures c.if-is_interrupted.false) (omega (arith, counted, c.requires.some)) came),
          );
      stops = λ d fits. stops_none (framed g.P.Pages.means c.burst-burst.new.pages d) (fork_of c.args.fork at _) nothing;
      keeps = subst (λ k. Kept f (ran_on f k regs) n) (sym c.from.ensures) (row_keeps f n regs burst.pc (burst.accumulators ∙ c.requires.can.fits.accumulators));
      made = record { lives = burst.stays.lives; forks = burst.stays.forks; most = burst.stays.most; own = omega (arith, ap (λ s. s f.name.tty) burst.stays.serials); others = λ t ne. ap (λ s. s t) burst.stays.serials };
      undone = λ none. absurd (omega (arith, none, counted, c.requires.some));
      loses = burst.loses;
      fits = (tt, tt);
      needs = tt;
      core = λ flat. tt;
    }

pub returns-in-Overflow-clause-ran : goal.returns-in-Overflow-clause-ran
returns-in-Overflow-clause-ran g c at =
    let f = fork_of c.args.fork at c.args.body.now in
    let burst = c.burst-burst.ensures in
    let n = c.burst-burst.result.units in
    let regs = c.burst-burst.new.regs in
    let ended = c.ended.ensures in
    let row = row_keeps f n regs burst.pc (burst.accumulators ∙ c.requires.can.fits.accumulators) in
    let fork = ap (λ k. counted (posted_if (ran_on f k regs) (Some OVERFLOW))) (sym c.from.ensures) ∙ sym (ended.fork f) in
    record {
      told = λ d fits.
          let p = g.P.Pages.means.plain c.args.pages.now d in
          let q = g.P.Pages.means.plain c.burst-burst.new.pages d in
          let came = subst (λ e. Came e n f.name p f.body.regs q regs) c.in-Overflow.is (burst.told d f.name fits c.space-space.ensures) in (
            burst.fits d fits,
            λ key rest. subst (RanUnits key rest f p (n + 1)) (λ i. left_so rest (fork i) q (sym ended.shown i))
                (post_behind key rest f p n (alone_of c.is_interrupted.ensures c.if-is_interrupted.false) (record { pages = q; regs = regs; post = Some OVERFLOW }) came),
          );
      stops = λ d fits. stops_none (framed g.P.Pages.means c.burst-burst.new.pages d) (fork_of c.args.fork at _) _;
      keeps = more_keeps f (ran_on f n regs) _ n 1 row (subst (λ h. Kept (ran_on f n regs) h 1) fork (ended_keeps (ran_on f n regs) regs burst.pc row.accumulators Overflow));
      made = record { lives = burst.stays.lives; forks = burst.stays.forks; most = burst.stays.most; own = omega (arith, ap (λ s. s f.name.tty) burst.stays.serials); others = λ t ne. ap (λ s. s t) burst.stays.serials };
      undone = λ none. absurd (omega (arith, none));
      loses = burst.loses;
      fits = ended.fits;
      needs = tt;
      core = λ flat. tt;
    }

pub returns-in-Pushdown-clause-ran : goal.returns-in-Pushdown-clause-ran
returns-in-Pushdown-clause-ran g c at =
    let f = fork_of c.args.fork at c.args.body.now in
    let burst = c.burst-burst.ensures in
    let n = c.burst-burst.result.units in
    let regs = c.burst-burst.new.regs in
    let ended = c.ended-in-Pushdown.ensures in
    let row = row_keeps f n regs burst.pc (burst.accumulators ∙ c.requires.can.fits.accumulators) in
    let fork = ap (λ k. counted (posted_if (ran_on f k regs) (Some PUSHDOWN_OVERFLOW))) (sym c.from.ensures) ∙ sym (ended.fork f) in
    record {
      told = λ d fits.
          let p = g.P.Pages.means.plain c.args.pages.now d in
          let q = g.P.Pages.means.plain c.burst-burst.new.pages d in
          let came = subst (λ e. Came e n f.name p f.body.regs q regs) c.in-Pushdown.is (burst.told d f.name fits c.space-space.ensures) in (
            burst.fits d fits,
            λ key rest. subst (RanUnits key rest f p (n + 1)) (λ i. left_so rest (fork i) q (sym ended.shown i))
                (post_behind key rest f p n (alone_of c.is_interrupted.ensures c.if-is_interrupted.false) (record { pages = q; regs = regs; post = Some PUSHDOWN_OVERFLOW }) came),
          );
      stops = λ d fits. stops_none (framed g.P.Pages.means c.burst-burst.new.pages d) (fork_of c.args.fork at _) _;
      keeps = more_keeps f (ran_on f n regs) _ n 1 row (subst (λ h. Kept (ran_on f n regs) h 1) fork (ended_keeps (ran_on f n regs) regs burst.pc row.accumulators Pushdown));
      made = record { lives = burst.stays.lives; forks = burst.stays.forks; most = burst.stays.most; own = omega (arith, ap (λ s. s f.name.tty) burst.stays.serials); others = λ t ne. ap (λ s. s t) burst.stays.serials };
      undone = λ none. absurd (omega (arith, none));
      loses = burst.loses;
      fits = ended.fits;
      needs = tt;
      core = λ flat. tt;
    }

pub returns-in-Slow-clause-ran : goal.returns-in-Slow-clause-ran
returns-in-Slow-clause-ran g c at =
    let f = fork_of c.args.fork at c.args.body.now in
    let burst = c.burst-burst.ensures in
    let n = c.burst-burst.result.units in
    let regs = c.burst-burst.new.regs in
    let one = c.one_unit-last.ensures at in
    let row = row_keeps f n regs burst.pc (burst.accumulators ∙ c.requires.can.fits.accumulators) in
    let counts = c.from.ensures in
    let last = c.one_unit-last.result in
    let h = fork_of c.args.fork at c.one_unit-last.new.body in
    let alone = alone_of c.is_interrupted.ensures c.if-is_interrupted.false in
    let count = c.row_of-in-Slow.ensures.count in
    let ran : Ran g.P.Pages.means c.args.pages.now c.one_unit-last.new.pages f h (record { count = c.row_of-in-Slow.result.count; last = last }) = record {
      told = λ d fits.
          let p = g.P.Pages.means.plain c.args.pages.now d in
          let q = g.P.Pages.means.plain c.burst-burst.new.pages d in
          let came = subst (λ e. Came e n f.name p f.body.regs q regs) c.in-Slow.is (burst.told d f.name fits c.space-space.ensures) in
          let left = one.told d (burst.fits d fits) in
          let r = g.P.Pages.means.plain c.one_unit-last.new.pages d in
          let whole = one_as behind_instruction behind_unit (ran_on f c.from.result regs) h q r last (λ key rest. instruction_alone key rest (ran_on f c.from.result regs) q alone) left.1 in
          (left.0, more_row f p n (record { pages = q; regs = regs; post = None }) h r came refl (λ some. alone) c.from.result c.row_of-in-Slow.result.count last counts count whole);
      stops = λ d fits.
          let r = c.one_unit-last.new.pages in
          stops_so false behind_instruction (ran_on f c.from.result regs) h (g.P.Pages.means.plain c.burst-burst.new.pages d) (g.P.Pages.means.plain r d) last alone (one.told d (burst.fits d fits)).1 (framed g.P.Pages.means r d) (one.stops d (burst.fits d fits));
      keeps = subst (Kept f h) (sym count) (more_keeps f (ran_on f n regs) h n (units_over last) row (subst (λ k. Kept (ran_on f k regs) h (units_over last)) counts one.keeps));
      made = record {
        lives = one.made.lives ∙ burst.stays.lives;
        forks = one.made.forks ∙ burst.stays.forks;
        most = one.made.most ∙ burst.stays.most;
        own = omega (arith, one.made.own, ap (λ s. s f.name.tty) burst.stays.serials);
        others = λ t ne. one.made.others t ne ∙ ap (λ s. s t) burst.stays.serials;
      };
      undone = λ none.
          let first = one.undone (omega (arith, none, count)) in
          let before = burst.undone c.in-Slow.is (omega (arith, none, count)) in
          (first.0 ∙ ran_none f c.from.result regs (omega (arith, none, count, counts)) before.0, first.1 ∙ before.1);
      loses = lost_on g.P.Pages.means c.args.pages.now c.burst-burst.new.pages c.one_unit-last.new.pages burst.loses one.loses;
      fits = one.fits;
      needs = one.needs;
      core = one.core;
    } in
    subst (λ l. Ran g.P.Pages.means c.args.pages.now c.one_unit-last.new.pages f h (record { count = c.row_of-in-Slow.result.count; last = l })) (sym c.row_of-in-Slow.ensures.last) ran

-- one whose channels are looked at first
pub returns-then-is_interrupted-clause-ran : goal.returns-then-is_interrupted-clause-ran
returns-then-is_interrupted-clause-ran g c at =
    let f = fork_of c.args.fork at c.args.body.now in
    let one = c.interrupted-last.ensures at in
    let last = c.interrupted-last.result in
    let h = fork_of c.args.fork at c.interrupted-last.new.body in
    let some : is_interrupted f.body.psi ≡ true = sym c.is_interrupted.ensures ∙ c.if-is_interrupted.true in
    let count : c.row_of.result.count ≡ units_over last = omega (arith, c.row_of.ensures.count) in
    let ran : Ran g.P.Pages.means c.args.pages.now c.interrupted-last.new.pages f h (record { count = c.row_of.result.count; last = last }) = record {
      told = λ d fits.
          let p = g.P.Pages.means.plain c.args.pages.now d in
          let r = g.P.Pages.means.plain c.interrupted-last.new.pages d in
          let left = one.told d fits in
          let whole = one_as behind_interrupted behind_unit f h p r last (λ key rest. ap (λ b. cond b (behind_interrupted key rest f p) (behind_instruction key rest f p)) some) left.1 in
          (left.0, first_row f p h r one.keeps.name c.row_of.result.count last count whole);
      stops = λ d fits.
          let r = c.interrupted-last.new.pages in
          stops_so true behind_interrupted f h (g.P.Pages.means.plain c.args.pages.now d) (g.P.Pages.means.plain r d) last some (one.told d fits).1 (framed g.P.Pages.means r d) (one.stops d fits);
      keeps = subst (Kept f h) (sym count) one.keeps;
      made = one.made;
      undone = λ none. one.undone (sym count ∙ none);
      loses = one.loses;
      fits = one.fits;
      needs = one.needs;
      core = one.core;
    } in
    subst (λ l. Ran g.P.Pages.means c.args.pages.now c.interrupted-last.new.pages f h (record { count = c.row_of.result.count; last = l })) (sym c.row_of.ensures.last) ran
