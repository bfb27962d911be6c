use Rattle.std.proofs.Common.{◌≡◌, true, ◌<◌, List, length, map, refl, sym, ◌∙◌, ap, subst, arith, rules}
use Rattle.std.proofs.lemmas.List.{length-map}
use Rattle.page_contracts.specs.Stores.{HomePlace, free, away, here, is_here, is_taken, place}
use Rattle.pager_walk.specs.PagedMaps.{tables_of, with_name, maps_over, AreRooted, FitsMaps}
use Rattle.pager_walk.proofs.NamedPages.{rooted_named, fits_named, maps_named}
use Rattle.pager_walk.proofs.map_changes.copy_page.Goals as goal

-- a page that is in a frame stands at a taken home
here_taken : (p : HomePlace) → is_here p ≡ true → is_taken p ≡ true
here_taken free e = absurd (cc e)
here_taken away e = absurd (cc e)
here_taken (here words) e = refl

pub index_mut-requires : goal.index_mut-requires
index_mut-requires g c =
    let places = g.S.Store.means.homes c.args.store.now in
    let inside : c.copy-home.result.0 < length c.args.tables.now.names.items = omega (arith, c.copy-home.ensures.made.below, c.requires.rooted.few, length-map places is_taken) in search rules

pub returns : goal.returns
returns g c =
    let t = tables_of c.args.tables.now in
    let places = g.S.Store.means.homes c.args.store.now in
    let pages = (g.met.S.Store.sound c.args.store.now).pages in
    let r = c.requires in
    let m = c.copy-home.ensures.made in
    let home = c.copy-home.result in
    let after = with_name t home c.args.name in
    let page = place places c.args.from.0 in
    let is_page = here_taken page r.from in
    record {
      made = m;
      tables = refl;
      rooted = subst (λ (ps : List HomePlace). AreRooted after (map is_taken ps)) (sym m.homes) (rooted_named t places r.rooted home c.args.name page is_page m.below m.was_free);
      fits = λ d fits. subst (λ (ps : List HomePlace). FitsMaps after ps d) (sym m.homes) (fits_named t places r.rooted home c.args.name page is_page m.below m.was_free pages d fits);
      told = λ d fits. ap (λ (ps : List HomePlace). maps_over after ps d) m.homes ∙ maps_named t places r.rooted home c.args.name page is_page m.below m.was_free pages d fits;
    }
