use Rattle.std.proofs.Common.{◌+◌, ◌*◌, get_or, ◌∙◌, ap, arith}
use Rattle.machine_names.specs.declared.names.Kind.TheVariants.{Read}
use Rattle.page_gather.specs.declared.reference.PageReference.{PageReference}
use Rattle.page_gather.specs.Gathering.{AreSound}
use Rattle.page_gather.proofs.Settling.{next_left, next_can, none_made, all_made, grows_more, grows_none, still_framed}
use Rattle.page_gather.proofs.making.make_all.Goals as goal

-- what is read behind the end of a list
abbrev none : PageReference
none = record { slot = record { fork = record { tty = record { 0 = 0 }; serial = 0 }; page = 0 }; kind = Read }

pub make_one-requires-clause-place : goal.make_one-requires-clause-place
make_one-requires-clause-place g c =
    let r = c.requires.places c.loop-r.r-index none c.loop-r-test.true in
    (ap (λ lives. lives (get_or c.args.references.now c.loop-r.r-index none).slot.fork) c.loop-r.invariant.grows.lives ∙ r.0, r.1)

pub loop-r-init : goal.loop-r-init
loop-r-init g c = record {
  grows = grows_none g.P.Pages.means c.args.owner 0 c.args.pages.now;
  fits = λ d fits. fits;
  told = λ d fits went. none_made _ _ _ _ _ went;
}

pub loop-r-preserved : goal.loop-r-preserved
loop-r-preserved g c = record {
  grows = grows_more g.P.Pages.means c.args.owner (2 * c.loop-r.r-index) 2 (2 * (c.loop-r.r-index + 1)) c.args.pages.now c.loop-r.pages c.make_one.new.pages (omega arith) c.loop-r.invariant.grows c.make_one.ensures.grows;
  fits = λ d fits. c.make_one.ensures.fits d (c.loop-r.invariant.fits d fits);
  told = λ d fits went.
      let now = c.loop-r.invariant.fits d fits in
      let h = c.loop-r.invariant.told d fits went in
      let a = g.met.P.Pages.agrees c.args.pages.now d fits in
      let b = g.met.P.Pages.agrees c.loop-r.pages d now in
      let sound : AreSound (g.P.Pages.means.plain c.loop-r.pages d) (g.P.Pages.means.scene c.loop-r.pages) = record { whole = g.met.P.Pages.whole c.loop-r.pages d now; room = b.room; away = b.absent_pages } in
      let framed = still_framed g.P.Pages.means c.args.owner (2 * c.loop-r.r-index) c.args.pages.now c.loop-r.pages _ _ a b c.loop-r.invariant.grows in
      let can = next_can _ _ _ _ c.args.owner c.args.references.now c.loop-r.r-index h _ c.loop-r-test.true (g.P.Pages.means.scene c.loop-r.pages) sound c.loop-r.invariant.grows.maps_away c.loop-r.invariant.grows.pages_away framed in
      next_left _ _ _ _ c.args.owner c.args.references.now c.loop-r.r-index h _ c.loop-r-test.true _ (c.make_one.ensures.told d _ now can);
}

pub returns-clause-told : goal.returns-clause-told
returns-clause-told g c d fits went = all_made _ _ _ _ c.args.owner c.args.references.now c.loop-r.r-index (c.loop-r.invariant.told d fits went) c.loop-r-test.false
