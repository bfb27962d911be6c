use Rattle.std.proofs.Common.{ap}
use Rattle.flat_tables.specs.TableSteps.{tables_of}
use Rattle.flat_pages.proofs.FoundPages.{has_page, only_used}
use Rattle.flat_pages.proofs.HandedOn.{used_within}
use Rattle.flat_pages.proofs.flat_slots.FlatSlotsPages.used.Goals as goal

pub use_found-requires : goal.use_found-requires
use_found-requires g c = has_page g.S.Store.means (λ p. p.store) (λ p. p.tables) c.args.self.now c.args.self.now.agree (g.met.S.Store.sound c.args.self.now.store) c.args.space c.args.address c.args.found c.requires.place c.requires.space

pub returns-clause-only : goal.returns-clause-only
returns-clause-only g c = only_used g.S.Store.means (λ p. p.store) (λ p. p.tables) c.args.self.now c.args.self.now.agree (g.met.S.Store.sound c.args.self.now.store) c.args.space c.args.address c.args.found c.requires.place c.requires.space _ (ap (λ places. tables_of places c.args.self.now.tables) c.use_found.ensures.homes) c.use_found.ensures.used

pub returns-clause-uses : goal.returns-clause-uses
returns-clause-uses g c home is = used_within g.S.Store.means (λ p. p.store) home c.args.self.now _ (c.use_found.ensures.used home is)
