use Rattle.std.proofs.Common.{◌≡◌, ◌∙◌, ap, sym, subst, refl, arith, Option, Some}
use Rattle.std.specs.Ordering.{nat_cmp}
use Rattle.machine_names.specs.declared.names.ForkName.{ForkName}
use Rattle.plain_units.specs.Steps.{put_into}
use Rattle.ka10_unit.specs.Carrying.{Grows}
use Rattle.ka10_unit.specs.Gathers.{framed}
use Rattle.ka10_unit.specs.Taking.{CanPut, pages_so_far, so_far}
use Rattle.plain_pages.specs.PlainPages.{NumberedPages}
use Rattle.ka10_deeds.specs.Done.{channel_of}
use Rattle.ka10_spots.specs.Once.{After, once, went_through}
use Rattle.ka10_unit.proofs.Carried.{grows_none, grows_within, own_stands}
use Rattle.ka10_unit.proofs.slow.planned_unit.Goals as goal

pub returns-in-Need : goal.returns-in-Need
returns-in-Need g c = record {
  told = λ d fits. (fits, tt);
  over = λ d fits. (c.in-Need.ensures.told d fits).is;
  stopped = (refl, refl);
  core = c.in-Need.ensures.core;
  needs = c.in-Need.ensures.needs;
  grows = grows_within g.P.Pages.means c.args.fork.tty 0 128 _ _ (omega arith) (grows_none g.P.Pages.means c.args.fork.tty _);
  pc = c.requires.pc;
  number = tt;
  accumulators = refl;
}

pub returns-in-Trap : goal.returns-in-Trap
returns-in-Trap g c = record {
  told = λ d fits. (fits, (c.in-Trap.ensures.told d fits).plain);
  over = λ d fits. (c.in-Trap.ensures.told d fits).is;
  stopped = (refl, refl);
  core = λ flat. tt;
  needs = tt;
  grows = grows_within g.P.Pages.means c.args.fork.tty 0 128 _ _ (omega arith) (grows_none g.P.Pages.means c.args.fork.tty _);
  pc = c.requires.pc;
  number = tt;
  accumulators = refl;
}

pub returns-in-Call : goal.returns-in-Call
returns-in-Call g c = record {
  told = λ d fits. (fits, (c.in-Call.ensures.told d fits).plain);
  over = λ d fits. (c.in-Call.ensures.told d fits).is;
  stopped = (refl, refl);
  core = λ flat. tt;
  needs = tt;
  grows = grows_within g.P.Pages.means c.args.fork.tty 0 128 _ _ (omega arith) (grows_none g.P.Pages.means c.args.fork.tty _);
  pc = c.requires.pc;
  number = c.in-Call.ensures.bounds;
  accumulators = refl;
}

pub carry-requires-clause-serves : goal.carry-requires-clause-serves
carry-requires-clause-serves g c = rw c.in-Do.ensures.fork c.requires.serves

pub carry-requires-clause-serial : goal.carry-requires-clause-serial
carry-requires-clause-serial g c = rw c.in-Do.ensures.fork c.requires.serial

pub returns-in-Do : goal.returns-in-Do
unfolding once
returns-in-Do g c =
    let f = c.args.fork in
    let t = c.plan.new.taken in
    let regs = c.in-Do.ending.regs in
    let post = channel_of c.in-Do.ending.post in
    let after : NumberedPages → Option (After nat_cmp) = λ q. Some (record { pages = q; regs = regs; post = post }) in
    record {
      told = λ d fits.
          let p = framed g.P.Pages.means c.args.pages.now d in
          let planned = c.in-Do.ensures.told d fits in
          let put : CanPut t.fork (so_far p t) c.in-Do.ending.put = subst (λ (x : ForkName). CanPut x (so_far p t) c.in-Do.ending.put) (sym c.in-Do.ensures.fork) planned.put in
          let carried = c.carry.ensures.told d fits (own_stands f p t planned.stands) put in
          let is = subst (λ (x : ForkName). g.P.Pages.means.plain c.carry.new.pages d ≡ put_into x (put_into x (pages_so_far p t) t.kept) c.in-Do.ending.put) c.in-Do.ensures.fork carried in
          (c.carry.ensures.fits d fits, ap (went_through f) planned.plain ∙ ap after (sym is));
      over = λ d fits. (_, _, (c.in-Do.ensures.told d fits).is);
      stopped = tt;
      core = λ flat. tt;
      needs = tt;
      grows = subst (λ (x : ForkName). Grows g.P.Pages.means x.tty 128 c.args.pages.now c.carry.new.pages) c.in-Do.ensures.fork c.carry.ensures.grows;
      pc = c.in-Do.ensures.bounds.pc;
      number = tt;
      accumulators = c.in-Do.ensures.bounds.accumulators ∙ sym c.have_accumulators.ensures;
    }
