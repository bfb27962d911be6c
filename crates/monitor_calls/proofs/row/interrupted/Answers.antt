use Rattle.std.proofs.Common.{◌≡◌, ◌⊎◌, ℕ, ◌<◌, inl, inr, Err, None, false, refl, sym, ◌∙◌, ap, subst, arith}
use Rattle.ka10_unit.specs.declared.taken.Stop.{Stop}
use Rattle.ka10_unit.specs.declared.taken.Stop.TheVariants as stop
use Rattle.ka10_unit.specs.Gathers.{framed}
use Rattle.ka10_spots.proofs.Stored.{lost_none}
use Rattle.plain_model.specs.Forks.{counted}
use Rattle.plain_model.specs.Inspections.{inspected as inspected_on, stored_word}
use Rattle.psi_system.specs.Inspecting.{CameOut, Delivers, ended}
use Rattle.psi_system.specs.Judgements.{FitsInspected}
use Rattle.plain_units.specs.declared.channel.TheConstants.{DENIED_READ, DENIED_WRITE, DRUM_FULL}
use Rattle.text_pointers.specs.Reading.{IsByReference, StopsFor, text_frames}
use Rattle.step_shown.specs.declared.shown.Stop.TheVariants.{Forced}
use Rattle.step_shown.specs.Shown.{nothing, stands}
use Rattle.monitor_calls.specs.ForkUnit.{Kept, RanOne, behind_decided, behind_instruction, behind_interrupted, fork_of, left_so}
use Rattle.page_contracts.proofs.Losing.{needed_more}
use Rattle.monitor_calls.specs.Limits.{unit_frames}
use Rattle.monitor_calls.specs.Reasons.{InspectionStops}
use Rattle.monitor_calls.proofs.Keeping.{delivered_keeps, forced_keeps, none_keeps}
use Rattle.monitor_calls.proofs.UnitRows.{one_as}
use Rattle.monitor_calls.proofs.WhyNeeded.{goes_on_stops}
use Rattle.monitor_calls.proofs.row.interrupted.Goals as goal

-- a reading traps with one of the channels
by_reference : (why : Stop) (channel : ℕ) → why ≡ stop.Trap channel → IsByReference why → channel < 36
by_reference why channel is by = which (subst IsByReference is by)
  where
    which : (channel ≡ DENIED_READ) ⊎ (channel ≡ DENIED_WRITE) ⊎ (channel ≡ DRUM_FULL) → channel < 36
    which (inl read) = omega (arith, read)
    which (inr (inl write)) = omega (arith, write)
    which (inr (inr full)) = omega (arith, full)

pub overflow_add-body : goal.overflow_add-body
overflow_add-body g c = (let same = ap (λ k. k.body.units) (c.deliver.ensures.fork (fork_of c.args.fork (record { slot = 0; superior = None; frozen = false }) c.args.body.now)) in omega (arith, same, c.requires.few))

pub returns-in-Trap : goal.returns-in-Trap
returns-in-Trap g c at =
    let means = g.P.Pages.means in
    let p = c.args.pages.now in
    let f = fork_of c.args.fork at c.args.body.now in
    let channel = c.in-Trap.channel in
    let forced = c.forced.ensures in
    let left = forced.fork f in
    let low = by_reference c.in-Err.why channel c.in-Trap.is c.in-Err.ensures.channel in
    subst (λ last. RanOne behind_interrupted InspectionStops means p p f (fork_of c.args.fork at c.forced.new.body) last) (sym forced.last) (record {
      told = λ d fits. (
        fits,
        λ key rest.
            let came = (c.inspect.ensures.told d fits).came f (record { name = refl; body = refl }) in
            ap (behind_decided key rest f (means.plain p d) (inspected_on f (means.plain p d)).pages) (subst (λ why. CameOut (framed means p d) c.inspect.new.reader (inspected_on f (means.plain p d)) (Err why)) c.in-Trap.is (subst (CameOut (framed means p d) c.inspect.new.reader (inspected_on f (means.plain p d))) c.in-Err.is came)) ∙ (λ i. left_so rest (sym left i) (means.plain p d) (stands (Forced channel))),
      );
      stops = λ d fits. tt;
      keeps = subst (λ h. Kept f h 1) (sym left) (forced_keeps f channel low c.requires.can.fits.pc c.requires.can.fits.accumulators);
      made = record { lives = refl; forks = refl; most = refl; own = omega arith; others = λ t ne. refl };
      fits = (tt, low);
      undone = λ none. absurd (cc none);
      loses = lost_none means p;
      needs = tt;
      core = λ flat. tt;
    })

pub returns-in-Need : goal.returns-in-Need
returns-in-Need g c at =
    let means = g.P.Pages.means in
    let p = c.args.pages.now in
    let f = fork_of c.args.fork at c.args.body.now in
    let needs = subst (StopsFor means p) c.in-Need.is c.in-Err.ensures.needs in
    record {
      told = λ d fits. (fits, (refl, refl));
      stops = λ d fits. inl ((c.inspect.ensures.told d fits).is f (record { name = refl; body = refl }) ∙ ap (ended (framed means p d) c.inspect.new.reader) (c.in-Err.is ∙ ap Err c.in-Need.is));
      keeps = none_keeps f c.args.body.now.regs c.requires.can.fits.pc c.requires.can.fits.accumulators;
      made = record { lives = refl; forks = refl; most = refl; own = omega arith; others = λ t ne. refl };
      undone = λ none. (refl, refl);
      loses = lost_none means p;
      fits = tt;
      needs = needed_more means.store text_frames unit_frames p c.in-Need.need (omega arith) needs.1;
      core = needs.0;
    }

pub returns-in-Nothing : goal.returns-in-Nothing
returns-in-Nothing g c at =
    let means = g.P.Pages.means in
    let p = c.args.pages.now in
    let f = fork_of c.args.fork at c.args.body.now in
    let one = c.one_unit.ensures at in
    record {
      told = λ d fits.
          let left = one.told d fits in
          let came = (c.inspect.ensures.told d fits).came f (record { name = refl; body = refl }) in
          let what = (subst (CameOut (framed means p d) c.inspect.new.reader (inspected_on f (means.plain p d))) c.in-Ok.is came).0 ∙ c.in-Nothing.is in
          (left.0, one_as behind_instruction behind_interrupted f (fork_of c.args.fork at c.one_unit.new.body) (means.plain p d) (means.plain c.one_unit.new.pages d) c.one_unit.result (λ key rest. ap (behind_decided key rest f (means.plain p d) (inspected_on f (means.plain p d)).pages) what) left.1);
      stops = λ d fits.
          let came = (c.inspect.ensures.told d fits).came f (record { name = refl; body = refl }) in
          let what = (subst (CameOut (framed means p d) c.inspect.new.reader (inspected_on f (means.plain p d))) c.in-Ok.is came).0 ∙ c.in-Nothing.is in
          goes_on_stops f (fork_of c.args.fork at c.one_unit.new.body) (means.plain p d) (means.plain c.one_unit.new.pages d) c.one_unit.result (one.told d fits).1 what (means.scene c.one_unit.new.pages) (one.stops d fits);
      keeps = one.keeps;
      made = one.made;
      undone = one.undone;
      loses = one.loses;
      fits = one.fits;
      needs = one.needs;
      core = one.core;
    }

pub returns-in-Forces : goal.returns-in-Forces
returns-in-Forces g c at =
    let means = g.P.Pages.means in
    let p = c.args.pages.now in
    let f = fork_of c.args.fork at c.args.body.now in
    let channel = c.in-Forces.channel in
    let forced = c.forced-in-Forces.ensures in
    let left = forced.fork f in
    let low = subst FitsInspected c.in-Forces.is c.in-Ok.ensures.fits in
    subst (λ last. RanOne behind_interrupted InspectionStops means p p f (fork_of c.args.fork at c.forced-in-Forces.new.body) last) (sym forced.last) (record {
      told = λ d fits. (
        fits,
        λ key rest.
            let came = (c.inspect.ensures.told d fits).came f (record { name = refl; body = refl }) in
            let what = (subst (CameOut (framed means p d) c.inspect.new.reader (inspected_on f (means.plain p d))) c.in-Ok.is came).0 ∙ c.in-Forces.is in
            ap (behind_decided key rest f (means.plain p d) (inspected_on f (means.plain p d)).pages) what ∙ (λ i. left_so rest (sym left i) (means.plain p d) (stands (Forced channel))),
      );
      stops = λ d fits. tt;
      keeps = subst (λ h. Kept f h 1) (sym left) (forced_keeps f channel low c.requires.can.fits.pc c.requires.can.fits.accumulators);
      made = record { lives = refl; forks = refl; most = refl; own = omega arith; others = λ t ne. refl };
      fits = (tt, low);
      undone = λ none. absurd (cc none);
      loses = lost_none means p;
      needs = tt;
      core = λ flat. tt;
    })

pub returns-in-Delivers : goal.returns-in-Delivers
returns-in-Delivers g c at =
    let means = g.P.Pages.means in
    let p = c.args.pages.now in
    let f = fork_of c.args.fork at c.args.body.now in
    let delivery = c.in-Delivers.delivery in
    let deliver = c.deliver.ensures in
    let left = ap counted (deliver.fork f) in
    let fit = subst FitsInspected c.in-Delivers.is c.in-Ok.ensures.fits in
    record {
      told = λ d fits. (
        deliver.fits d fits,
        λ key rest.
            let inspects = c.inspect.ensures.told d fits in
            let came = subst (CameOut (framed means p d) c.inspect.new.reader (inspected_on f (means.plain p d))) c.in-Ok.is (inspects.came f (record { name = refl; body = refl })) in
            let stands_so = inspects.stands c.in-Ok.what c.in-Ok.is in
            let opens = subst (Delivers c.args.fork (framed means p d) c.inspect.new.reader) c.in-Delivers.is (inspects.opens c.in-Ok.what c.in-Ok.is) in
            let pages = deliver.told d f fits (record { name = refl; body = refl }) stands_so opens in
            ap (behind_decided key rest f (means.plain p d) (inspected_on f (means.plain p d)).pages) (came.0 ∙ c.in-Delivers.is)
            ∙ (λ i. left_so rest (sym left i) ((ap (λ q. stored_word q f delivery) came.1 ∙ sym pages) i) nothing),
      );
      stops = λ d fits. tt;
      keeps = subst (λ h. Kept f h 1) (sym left) (delivered_keeps f delivery fit.found.to c.requires.can.fits.accumulators);
      made = record { lives = deliver.grows.lives; forks = deliver.grows.forks; most = deliver.grows.most; own = omega (arith, deliver.grows.serial); others = deliver.grows.serials };
      fits = (tt, tt);
      undone = λ none. absurd (cc none);
      loses = deliver.grows.loses;
      needs = tt;
      core = λ flat. tt;
    }
