use Rattle.std.proofs.Common.{◌<◌, ◌/◌, List, refl, sym, subst, arith}
use Rattle.page_contracts.proofs.Losing.{loses_used}
use Rattle.page_contracts.specs.Stores.{HomePlace}
use Rattle.flat_pages.proofs.HandedOn.{used_within}
use Rattle.paged_tables.specs.PagedTables.{AreKept, beside_of}
use Rattle.paged_tables.proofs.AskedOfStore.{only_uses}
use Rattle.paged_tables.proofs.Placed.{placed}
use Rattle.slot_paged.proofs.slot_paged.SlotPaged.used.Goals as goal

pub use_found-requires : goal.use_found-requires
use_found-requires g c =
    let s = c.args.self.now in
    let below : c.args.address / 512 < 512 = omega (arith, c.requires.address) in
    let x = placed (beside_of s.tables) (g.S.Store.means.homes s.store) s.kept c.requires.space.fork c.args.space c.requires.space.is (c.args.address / 512) below (g.S.Store.means.found s.store) (g.met.S.Store.sound s.store).finds c.args.found c.requires.place in
    record { home = x.home.0; is = x.spots }

pub invariant_of-self : goal.invariant_of-self
invariant_of-self g c =
    let s = c.args.self.now in
    record { kept = subst (λ (ps : List HomePlace). AreKept (beside_of s.tables) ps) (sym c.use_found.ensures.homes) s.kept }

pub returns-clause-only : goal.returns-clause-only
returns-clause-only g c =
    let s = c.args.self.now in
    let below : c.args.address / 512 < 512 = omega (arith, c.requires.address) in
    let x = placed (beside_of s.tables) (g.S.Store.means.homes s.store) s.kept c.requires.space.fork c.args.space c.requires.space.is (c.args.address / 512) below (g.S.Store.means.found s.store) (g.met.S.Store.sound s.store).finds c.args.found c.requires.place in
    let used = c.use_found.ensures.used x.home.0 x.spots in
    only_uses g.S.Store.means (λ p. p.store) (λ p. beside_of p.tables) s _ refl c.use_found.ensures.homes used.framed.spare used.framed.found (loses_used g.S.Store.means s.store c.use_found.new.self x.home.0 used)

pub returns-clause-uses : goal.returns-clause-uses
returns-clause-uses g c home is = used_within g.S.Store.means (λ p. p.store) home c.args.self.now _ (c.use_found.ensures.used home is)
