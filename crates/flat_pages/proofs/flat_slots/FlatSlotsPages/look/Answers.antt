use Rattle.flat_pages.proofs.FoundPages.{has_page, word_told}
use Rattle.flat_pages.proofs.flat_slots.FlatSlotsPages.look.Goals as goal

pub look-requires-clause-found : goal.look-requires-clause-found
look-requires-clause-found g c = has_page g.S.Store.means (λ p. p.store) (λ p. p.tables) c.args.self.now c.args.self.now.agree (g.met.S.Store.sound c.args.self.now.store) c.args.space c.args.address c.args.found c.requires.place c.requires.space

pub returns : goal.returns
returns g c = record { told = λ d f fits is. word_told g.S.Store.means (λ p. p.store) (λ p. p.tables) c.args.self.now c.args.self.now.agree (g.met.S.Store.sound c.args.self.now.store) c.args.space c.args.address c.args.found c.requires.place d f fits is c.look.result c.look.ensures }
