use Rattle.std.proofs.Common.{ap}
use Rattle.flat_tables.specs.TableSteps.{tables_of}
use Rattle.flat_pages.proofs.FoundPages.{has_page, only_used, word_told}
use Rattle.flat_pages.proofs.HandedOn.{used_within}
use Rattle.flat_pages.proofs.flat_slots.FlatSlotsPages.load.Goals as goal

pub load-requires-clause-found : goal.load-requires-clause-found
load-requires-clause-found g c = has_page g.S.Store.means (λ p. p.store) (λ p. p.tables) c.args.self.now c.args.self.now.agree (g.met.S.Store.sound c.args.self.now.store) c.args.space c.args.address c.args.found c.requires.place c.requires.space

pub returns-clause-told : goal.returns-clause-told
returns-clause-told g c d f fits is = word_told g.S.Store.means (λ p. p.store) (λ p. p.tables) c.args.self.now c.args.self.now.agree (g.met.S.Store.sound c.args.self.now.store) c.args.space c.args.address c.args.found c.requires.place d f fits is c.load.result c.load.ensures.word

pub returns-clause-only : goal.returns-clause-only
returns-clause-only g c = only_used g.S.Store.means (λ p. p.store) (λ p. p.tables) c.args.self.now c.args.self.now.agree (g.met.S.Store.sound c.args.self.now.store) c.args.space c.args.address c.args.found c.requires.place c.requires.space _ (ap (λ places. tables_of places c.args.self.now.tables) c.load.ensures.homes) c.load.ensures.used

pub returns-clause-uses : goal.returns-clause-uses
returns-clause-uses g c home is = used_within g.S.Store.means (λ p. p.store) home c.args.self.now _ (c.load.ensures.used home is)
