use Rattle.std.proofs.Common.{◌≡◌, ◌+◌, refl, sym, arith}
use Rattle.plain_pages.specs.Room.{live}
use Rattle.page_gather.specs.Gathering.{AreSound}
use Rattle.page_gather.specs.Making.{Grows}
use Rattle.page_gather.proofs.Settling.{grows_more, zero_can, zero_first, zero_once}
use Rattle.console_access.proofs.Judging.{write_at}
use Rattle.console_access.proofs.readying.make.Goals as goal

pub returns-in-Zero-clause-grows : goal.returns-in-Zero-clause-grows
returns-in-Zero-clause-grows g c =
    let s = c.settle.ensures in
    let first : Grows g.P.Pages.means c.args.owner 1 c.args.pages.now c.settle.new.self = record {
      lives = s.lives;
      forks = s.forks;
      filed = s.filed;
      most = s.most;
      serial = s.serial;
      serials = s.serials;
      maps_away = s.scene.maps;
      pages_away = s.scene.pages;
      framed = omega (arith, s.count, s.scene.frames);
      loses = s.loses;
    } in
    grows_more g.P.Pages.means c.args.owner 1 1 2 c.args.pages.now c.settle.new.self c.make_copy.new.pages refl first c.make_copy.ensures.grows

pub returns-in-Zero-clause-told : goal.returns-in-Zero-clause-told
returns-in-Zero-clause-told g c d left fits k =
    let means = g.P.Pages.means in
    let mid = c.settle.new.self in
    let st = c.settle.ensures.told d fits in
    let before = g.met.P.Pages.agrees c.args.pages.now d fits in
    let a = g.met.P.Pages.agrees mid d st.0 in
    let scene = c.settle.ensures.scene in
    let zero = c.in-Zero.ensures.told d c.args.owner fits c.requires.owner in
    let sound : AreSound (means.plain mid d) (means.scene mid) = record { whole = g.met.P.Pages.whole mid d st.0; room = a.room; away = a.absent_pages } in
    let framed : live (means.plain mid d) + (means.scene mid).free_frames ≡ live (means.plain c.args.pages.now d) + (means.scene c.args.pages.now).free_frames = omega (arith, before.number, a.number, c.settle.ensures.count, scene.frames) in
    let can = zero_can _ _ c.args.owner c.requires.owner (write_at c.args.slot) left k zero (means.scene mid) (means.plain mid d) st.1 sound scene.maps scene.pages framed in
    c.make_copy.ensures.told d left st.0 can
    (λ again. zero_once _ _ c.args.owner c.requires.owner (write_at c.args.slot) left k zero (means.scene mid) (means.plain mid d) st.1 _ _ (zero_first _ _ c.args.owner c.requires.owner (write_at c.args.slot) left can (sym again)).1)
