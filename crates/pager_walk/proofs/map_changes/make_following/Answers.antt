use Rattle.std.proofs.Common.{◌≡◌, ◌∙◌, refl, sym, ap, subst}
use Rattle.std.specs.Prelude.{slice_set}
use Rattle.std.proofs.lemmas.List.{get_or-set_same}
use Rattle.page_contracts.specs.Stores.{free, here, place, with_word_in, IsMade}
use Rattle.pager_walk.specs.NewPages.{following_word, following_words}
use Rattle.pager_walk.proofs.Followed.{following_none, following_more, made_again}
use Rattle.pager_walk.proofs.map_changes.make_following.Goals as goal

pub loop-page-init : goal.loop-page-init
loop-page-init g c = subst (λ words. IsMade g.S.Store.means c.make-home.result.0 (here words) c.args.store.now c.make-home.new.self) (sym (following_none c.args.serial)) c.make-home.ensures.made

pub loop-page-preserved : goal.loop-page-preserved
loop-page-preserved g c =
    let means = g.S.Store.means in
    let home = c.make-home.result.0 in
    let page = c.loop-page.page in
    let words = following_words c.args.serial page in
    let m = c.loop-page.invariant in
    let old = means.homes c.args.store.now in
    let mid = means.homes c.loop-page.store in
    let at : place mid home ≡ here words = ap (λ ps. place ps home) m.homes ∙ get_or-set_same old home (here words) free m.below in
    let put : means.homes c.put.new.self ≡ slice_set mid home (here (slice_set words page (following_word c.args.serial page))) =
    c.put.ensures.homes ∙ λ i. slice_set mid home (with_word_in (at i) page (c.encode-word.ensures i)) in
    subst (λ ws. IsMade means home (here ws) c.args.store.now c.put.new.self) (sym (following_more c.args.serial page))
    (made_again means home c.args.store.now c.loop-page.store c.put.new.self (here words) (here (slice_set words page (following_word c.args.serial page))) (g.met.S.Store.sound c.args.store.now) m c.put.ensures.used put refl)
