use Rattle.std.proofs.Common.{◌≡◌, ◌+◌, refl, ◌∙◌, arith}
use Rattle.plain_pages.specs.Room.{live}
use Rattle.page_gather.specs.Gathering.{AreSound}
use Rattle.page_gather.proofs.Settling.{not_stuck, ready_settled, copy_settled, zero_can, zero_once}
use Rattle.page_gather.proofs.Settling.{grows_more, grows_none}
use Rattle.page_gather.specs.Making.{Grows}
use Rattle.page_gather.proofs.making.make_one.Goals as goal

pub returns-in-Ready-clause-told : goal.returns-in-Ready-clause-told
returns-in-Ready-clause-told g c d left fits k = (c.settle.ensures.told d fits).1 ∙ ready_settled _ _ c.args.owner c.requires.owner c.args.r left k (c.in-Ready.ensures.told d c.args.owner fits c.requires.owner)

pub returns-in-Copy-clause-told : goal.returns-in-Copy-clause-told
returns-in-Copy-clause-told g c d left fits k = (c.settle-in-Copy.ensures.told d fits).1 ∙ copy_settled _ _ c.args.owner c.requires.owner c.args.r left k c.in-Copy.sole (c.in-Copy.ensures.told d c.args.owner fits c.requires.owner)

pub returns-in-Zero-clause-told : goal.returns-in-Zero-clause-told
returns-in-Zero-clause-told g c d left fits k =
    let st = c.settle-in-Zero.ensures.told d fits in
    let before = g.met.P.Pages.agrees c.args.pages.now d fits in
    let a = g.met.P.Pages.agrees c.settle-in-Zero.new.self d st.0 in
    let scene = c.settle-in-Zero.ensures.scene in
    let zero = c.in-Zero.ensures.told d c.args.owner fits c.requires.owner in
    let sound : AreSound (g.P.Pages.means.plain c.settle-in-Zero.new.self d) (g.P.Pages.means.scene c.settle-in-Zero.new.self) = record { whole = g.met.P.Pages.whole c.settle-in-Zero.new.self d st.0; room = a.room; away = a.absent_pages } in
    let framed : live (g.P.Pages.means.plain c.settle-in-Zero.new.self d) + (g.P.Pages.means.scene c.settle-in-Zero.new.self).free_frames ≡ live (g.P.Pages.means.plain c.args.pages.now d) + (g.P.Pages.means.scene c.args.pages.now).free_frames =
    omega (arith, before.number, a.number, c.settle-in-Zero.ensures.count, scene.frames) in
    c.make_rest.ensures.told d left st.0
    (zero_can _ _ c.args.owner c.requires.owner c.args.r left k zero (g.P.Pages.means.scene c.settle-in-Zero.new.self) (g.P.Pages.means.plain c.settle-in-Zero.new.self d) st.1 sound scene.maps scene.pages framed)
    (zero_once _ _ c.args.owner c.requires.owner c.args.r left k zero (g.P.Pages.means.scene c.settle-in-Zero.new.self) (g.P.Pages.means.plain c.settle-in-Zero.new.self d) st.1)

pub returns-in-Absent-clause-told : goal.returns-in-Absent-clause-told
returns-in-Absent-clause-told g c d left fits k = not_stuck _ _ c.args.owner c.requires.owner c.args.r left k _ (c.in-Absent.ensures.told d c.args.owner fits c.requires.owner) refl

pub returns-in-NeedFrame-clause-told : goal.returns-in-NeedFrame-clause-told
returns-in-NeedFrame-clause-told g c d left fits k = not_stuck _ _ c.args.owner c.requires.owner c.args.r left k _ (c.in-NeedFrame.ensures.told d c.args.owner fits c.requires.owner) refl

pub returns-in-Denied-clause-told : goal.returns-in-Denied-clause-told
returns-in-Denied-clause-told g c d left fits k = not_stuck _ _ c.args.owner c.requires.owner c.args.r left k _ (c.in-Denied.ensures.told d c.args.owner fits c.requires.owner) refl

pub returns-in-Full-clause-told : goal.returns-in-Full-clause-told
returns-in-Full-clause-told g c d left fits k = not_stuck _ _ c.args.owner c.requires.owner c.args.r left k _ (c.in-Full.ensures.told d c.args.owner fits c.requires.owner) refl

pub returns-in-Absent-clause-grows : goal.returns-in-Absent-clause-grows
returns-in-Absent-clause-grows g c = grows_none g.P.Pages.means c.args.owner 2 c.args.pages.now

pub returns-in-NeedFrame-clause-grows : goal.returns-in-NeedFrame-clause-grows
returns-in-NeedFrame-clause-grows g c = grows_none g.P.Pages.means c.args.owner 2 c.args.pages.now

pub returns-in-Denied-clause-grows : goal.returns-in-Denied-clause-grows
returns-in-Denied-clause-grows g c = grows_none g.P.Pages.means c.args.owner 2 c.args.pages.now

pub returns-in-Full-clause-grows : goal.returns-in-Full-clause-grows
returns-in-Full-clause-grows g c = grows_none g.P.Pages.means c.args.owner 2 c.args.pages.now

pub returns-in-Zero-clause-grows : goal.returns-in-Zero-clause-grows
returns-in-Zero-clause-grows g c =
    let s = c.settle-in-Zero.ensures in
    let first : Grows g.P.Pages.means c.args.owner 1 c.args.pages.now c.settle-in-Zero.new.self = record {
      lives = s.lives;
      forks = s.forks;
      filed = s.filed;
      most = s.most;
      serial = s.serial;
      serials = s.serials;
      maps_away = s.scene.maps;
      pages_away = s.scene.pages;
      framed = omega (arith, s.count, s.scene.frames);
      loses = s.loses;
    } in
    grows_more g.P.Pages.means c.args.owner 1 1 2 c.args.pages.now c.settle-in-Zero.new.self c.make_rest.new.pages refl first c.make_rest.ensures.grows
