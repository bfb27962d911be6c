use Rattle.std.proofs.Common.{◌∙◌, ℕ, ap, subst}
use Rattle.std.specs.Prelude.{slice_set}
use Rattle.machine_names.specs.declared.names.Kind.TheVariants.{Write}
use Rattle.page_contracts.proofs.Losing.{loses_used}
use Rattle.page_contracts.specs.Stores.{IsUsed, place, with_word_in}
use Rattle.flat_pages.proofs.HandedOn.{used_within}
use Rattle.paged_tables.specs.KnownPages.{known_over}
use Rattle.paged_tables.specs.PagedTables.{beside_of}
use Rattle.paged_tables.proofs.Homed.{homed_taken, place_stands}
use Rattle.paged_tables.proofs.Moved.{put_apart}
use Rattle.paged_tables.proofs.PutInto.{put_stays}
use Rattle.paged_tables.proofs.ReadyHomes.{ready_at, words_here}
use Rattle.paged_tables.proofs.StillWalked.{knowns_same, put_roots}
use Rattle.known_slots.proofs.PlacesUsed.{home_at}
use Rattle.known_slots.proofs.pages.KnownSlotsPages.put.Goals as goal

pub invariant_of-self : goal.invariant_of-self
invariant_of-self g c =
    let s = c.args.self.now in
    let b = beside_of s.pages.tables in
    let places = g.S.Store.means.homes s.pages.store in
    let pages = (g.met.S.Store.sound s.pages.store).pages in
    let at = c.args.at in
    let r = ready_at b places (g.S.Store.means.spare s.pages.store) at Write c.requires.ready in
    let x = words_here places r.home.0 (homed_taken b places s.pages.kept at r.home (place_stands b places s.pages.kept at c.requires.place) r.is) r.near in
    let apart = put_apart b places s.pages.kept pages at c.requires.place r.home r.is x.0 x.1 c.args.offset c.args.word in
    let same = (λ i. known_over (beside_of (c.put.ensures.tables i)) (c.put.ensures.homes r.home r.is i))
    ∙ knowns_same b places (slice_set places r.home.0 (with_word_in (place places r.home.0) c.args.offset c.args.word)) (put_roots b.tables places r.home.0 x.0 x.1 c.args.offset c.args.word apart) in
    record { known = λ space page k below is. (λ i. same i (record { 0 = space }) page) ∙ s.known space page k below is }

pub returns-clause-loses : goal.returns-clause-loses
returns-clause-loses g c =
    let s = c.args.self.now in
    let r = ready_at (beside_of s.pages.tables) (g.S.Store.means.homes s.pages.store) (g.S.Store.means.spare s.pages.store) c.args.at Write c.requires.ready in
    loses_used g.S.Store.means s.pages.store c.put.new.self.store r.home.0 (c.put.ensures.used r.home r.is)

pub returns-clause-uses : goal.returns-clause-uses
returns-clause-uses g c home stands =
    let s = c.args.self.now in
    let h = home_at g.S.Store.means (λ p. p.pages.store) (λ p. beside_of p.pages.tables) s s.pages.kept (g.met.S.Store.sound s.pages.store) c.args.at home c.requires.place stands in
    used_within g.S.Store.means (λ p. p.pages.store) home s _ (subst (λ (k : ℕ). IsUsed g.S.Store.means k s.pages.store c.put.new.self.store) h.2 (c.put.ensures.used h.0 h.1))

pub returns-clause-stays : goal.returns-clause-stays
returns-clause-stays g c =
    let s = c.args.self.now in
    let b = beside_of s.pages.tables in
    let places = g.S.Store.means.homes s.pages.store in
    let pages = (g.met.S.Store.sound s.pages.store).pages in
    let at = c.args.at in
    let r = ready_at b places (g.S.Store.means.spare s.pages.store) at Write c.requires.ready in
    let x = words_here places r.home.0 (homed_taken b places s.pages.kept at r.home (place_stands b places s.pages.kept at c.requires.place) r.is) r.near in
    let used = c.put.ensures.used r.home r.is in
    put_stays g.S.Store.means (λ p. p.pages.store) (λ p. beside_of p.pages.tables) s _ (ap beside_of c.put.ensures.tables) r.home.0 (put_apart b places s.pages.kept pages at c.requires.place r.home r.is x.0 x.1 c.args.offset c.args.word)
    x.0 x.1 c.args.offset c.args.word (c.put.ensures.homes r.home r.is) used.framed.spare used.framed.found
