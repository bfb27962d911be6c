use Rattle.std.proofs.Common.{◌≡◌, ◌∙◌, List, refl, sym, ap, subst}
use Rattle.std.specs.Prelude.{slice_set}
use Rattle.machine_names.specs.declared.names.Kind.TheVariants.{Write}
use Rattle.page_homes.specs.declared.homes.Home.{Home}
use Rattle.page_contracts.specs.Pages.{spot_of}
use Rattle.page_contracts.specs.Stores.{HomePlace, IsUsed, away_at, place, with_word_in}
use Rattle.plain_pages.specs.References.{stored}
use Rattle.pager_walk.proofs.Looking.{ArePages}
use Rattle.paged_tables.specs.declared.page_home.PageHome.TheVariants.{At}
use Rattle.paged_tables.specs.PagedTables.{AreKept, FitsPages, beside_of, plain_over}
use Rattle.paged_tables.proofs.Moved.{put_kept, put_told}
use Rattle.paged_tables.proofs.ReadyHomes.{ready_at, words_here}
use Rattle.slot_paged.proofs.slot_paged.SlotPaged.put.Goals as goal

pub invariant_of-self : goal.invariant_of-self
invariant_of-self g c =
    let s = c.args.self.now in
    let b = beside_of s.tables in
    let places = g.S.Store.means.homes s.store in
    let pages = (g.met.S.Store.sound s.store).pages in
    let h = c.in-At.home in
    let is = sym c.in-At.ensures.answer in
    let r = ready_at b places (g.S.Store.means.spare s.store) c.args.at Write c.requires.ready in
    let same : r.home ≡ h = (let z : At r.home ≡ At h = sym r.is ∙ is in cc z) in
    let x = words_here places h.0 (c.in-At.ensures.taken h refl) (ap (λ (k : Home). away_at places k.0) (sym same) ∙ r.near) in
    record { kept = subst (λ (ps : List HomePlace). AreKept b ps) (sym c.put.ensures.homes) (put_kept b places s.kept pages c.args.at c.requires.place h is x.0 x.1 c.args.offset c.args.word) }

pub returns : goal.returns
returns g c =
    let s = c.args.self.now in
    let b = beside_of s.tables in
    let places = g.S.Store.means.homes s.store in
    let pages = (g.met.S.Store.sound s.store).pages in
    let h = c.in-At.home in
    let is = sym c.in-At.ensures.answer in
    let r = ready_at b places (g.S.Store.means.spare s.store) c.args.at Write c.requires.ready in
    let same : r.home ≡ h = (let z : At r.home ≡ At h = sym r.is ∙ is in cc z) in
    let x = words_here places h.0 (c.in-At.ensures.taken h refl) (ap (λ (k : Home). away_at places k.0) (sym same) ∙ r.near) in
    let pages' = subst (λ (ps : List HomePlace). ArePages ps) c.put.ensures.homes (g.met.S.Store.sound c.put.new.self).pages in
    record {
      told = λ d fits. subst (λ (ps : List HomePlace). FitsPages b ps d × (plain_over b ps d ≡ stored (plain_over b places d) (spot_of c.args.at) c.args.offset c.args.word)) (sym c.put.ensures.homes)
          (put_told b places s.kept pages c.args.at c.requires.place h is x.0 x.1 c.args.offset c.args.word d fits pages');
      used = λ k e. (let own : h ≡ k = (let z : At h ≡ At k = sym is ∙ e in cc z) in subst (λ (y : Home). IsUsed g.S.Store.means y.0 s.store c.put.new.self) own c.put.ensures.used);
      homes = λ k e. (let own : h ≡ k = (let z : At h ≡ At k = sym is ∙ e in cc z) in subst (λ (y : Home). g.S.Store.means.homes c.put.new.self ≡ slice_set places y.0 (with_word_in (place places y.0) c.args.offset c.args.word)) own c.put.ensures.homes);
      tables = refl;
    }
