use Rattle.std.proofs.Common.{◌≡◌, ◌∙◌, Some, inl, inr, refl, ap, sym}
use Rattle.std.specs.Option.{unwrap_or}
use Rattle.std.specs.Prelude.{slice_index}
use Rattle.machine_names.specs.declared.names.Kind.TheVariants.{Read, Execute}
use Rattle.page_homes.specs.declared.homes.Home.{Home}
use Rattle.page_contracts.specs.Stores.{away_at, place, word_in}
use Rattle.paged_tables.specs.declared.page_home.PageHome.TheVariants.{At}
use Rattle.paged_tables.specs.PagedTables.{beside_of}
use Rattle.paged_tables.specs.PageHomes.{homed_over}
use Rattle.paged_tables.proofs.Homed.{place_stands, place_tells, word_told}
use Rattle.paged_tables.proofs.ReadyHomes.{ReadyAt, ready_at, words_here}
use Rattle.slot_paged.proofs.slot_paged.SlotPaged.word.Goals as goal

pub returns : goal.returns
returns g c =
    let s = c.args.self.now in
    let b = beside_of s.tables in
    let places = g.S.Store.means.homes s.store in
    let pages = (g.met.S.Store.sound s.store).pages in
    let frames = g.S.Store.means.spare s.store in
    let is = sym c.in-At.ensures.answer in
    let r : ReadyAt places (homed_over b places c.args.at) = elim c.requires.ready [ inl ready ↦ ready_at b places frames c.args.at Read ready | inr ready ↦ ready_at b places frames c.args.at Execute ready ] in
    let same : r.home ≡ c.in-At.home = (let z : At r.home ≡ At c.in-At.home = sym r.is ∙ is in cc z) in
    let x = words_here places c.in-At.home.0 (c.in-At.ensures.taken c.in-At.home refl) (ap (λ (h : Home). away_at places h.0) (sym same) ∙ r.near) in
    let there : word_in (place places c.in-At.home.0) c.args.offset ≡ Some (slice_index x.0 c.args.offset) = ap (λ p. word_in p c.args.offset) x.1 in
    let read = c.unwrap_or.ensures ∙ ap (λ o. unwrap_or o 0) (c.word.ensures ∙ there) in
    record {
      answer = λ h stands. (let one : h ≡ c.in-At.home = (let z : At h ≡ At c.in-At.home = sym stands ∙ is in cc z) in ap (λ (j : Home). word_in (place places j.0) c.args.offset) one ∙ there ∙ ap Some (sym read));
      told = λ d fits. read
          ∙ sym (word_told b places s.kept pages d fits c.args.at c.requires.place (place_stands b places s.kept c.args.at c.requires.place) (place_tells b places s.kept pages d fits c.args.at c.requires.place) c.in-At.home is c.args.offset x.0 x.1);
    }
