use Rattle.std.proofs.Common.{◌≡◌, ◌∙◌, ap, subst}
use Rattle.plain_pages.specs.PlainPages.{NumberedPages}
use Rattle.plain_units.specs.Steps.{put_into}
use Rattle.ka10_unit.specs.Carrying.{Grows, StaysAway}
use Rattle.ka10_unit.specs.Gathers.{Framed, framed}
use Rattle.ka10_unit.specs.Taking.{so_far}
use Rattle.ka10_unit.proofs.Carried.{away_on, away_same, grows_more, grows_stored, put_framed, put_still}
use Rattle.machine_names.specs.declared.names.Tty.{Tty}
use Rattle.page_gather.specs.Making.{Grows as Made}
use Rattle.ka10_unit.proofs.carry.carry.Goals as goal

pub returns-clause-told : goal.returns-clause-told
returns-clause-told g c d fits stands can =
    let means = g.P.Pages.means in
    let f = c.args.taken.now.fork in
    let kept = c.args.taken.now.kept in
    let q : Framed = so_far (framed means c.args.pages.now d) c.args.taken.now in
    let made : means.plain c.make.new.pages d ≡ q.pages = c.make.ensures.told d fits stands.gathers in
    let fits_made = c.make.ensures.fits d fits in
    let away : StaysAway (means.scene c.args.pages.now) (means.scene c.make.new.pages) = record { maps = c.make.ensures.grows.maps_away; pages = c.make.ensures.grows.pages_away } in
    let first = put_framed f q (framed means c.make.new.pages d) made away kept stands.kept in
    let one : means.plain c.store.new.pages d ≡ put_into f q.pages kept = c.store.ensures.told d fits_made first ∙ ap (λ (x : NumberedPages). put_into f x kept) made in
    let still : StaysAway (means.scene c.args.pages.now) (means.scene c.store.new.pages) = away_on _ _ _ away (away_same _ _ c.store.ensures.stays.scene) in
    let last = put_framed f (record q { pages = put_into f q.pages kept }) (framed means c.store.new.pages d) one still c.args.put (put_still f q kept c.args.put can) in
    c.store-2.ensures.told d (c.store.ensures.fits d fits_made) last ∙ ap (λ (x : NumberedPages). put_into f x c.args.put) one

pub returns-clause-away : goal.returns-clause-away
returns-clause-away g c =
    let made = c.make.ensures.grows in
    away_on _ _ _ (record { maps = made.maps_away; pages = made.pages_away }) (away_on _ _ _ (away_same _ _ c.store.ensures.stays.scene) (away_same _ _ c.store-2.ensures.stays.scene))

pub returns-clause-grows : goal.returns-clause-grows
returns-clause-grows g c =
    let means = g.P.Pages.means in
    let owner = c.args.taken.now.fork.tty in
    let made = subst (λ (o : Tty). Made means o 128 c.args.pages.now c.make.new.pages) c.args.taken.now.own.owner c.make.ensures.grows in
    let first : Grows means c.args.taken.now.fork.tty 128 c.args.pages.now c.make.new.pages = record { lives = made.lives; forks = made.forks; most = made.most; serial = made.serial; serials = made.serials; loses = made.loses } in
    let second = grows_more means owner 128 0 c.args.pages.now c.make.new.pages c.store.new.pages first (grows_stored means owner c.make.new.pages c.store.new.pages c.store.ensures.stays c.store.ensures.loses) in
    grows_more means owner 128 0 c.args.pages.now c.store.new.pages c.store-2.new.pages second (grows_stored means owner c.store.new.pages c.store-2.new.pages c.store-2.ensures.stays c.store-2.ensures.loses)
