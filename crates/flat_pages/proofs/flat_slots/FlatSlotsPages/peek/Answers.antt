use Rattle.std.proofs.Common.{◌≡◌, ◌∙◌, Some, true, false, sym, ap}
use Rattle.page_contracts.specs.Stores.{place, is_here}
use Rattle.page_contracts.specs.declared.answers.Peeked.TheVariants.{Is}
use Rattle.flat_tables.specs.TableSteps.{tables_of}
use Rattle.flat_pages.proofs.Settling.{sized_of}
use Rattle.flat_pages.proofs.Meeting.{reached, unreached, word_here, word_away, reached_taken, peek_here, peek_away, peek_none}
use Rattle.flat_pages.proofs.Using.{of_file_page}
use Rattle.flat_pages.proofs.flat_slots.FlatSlotsPages.peek.Goals as goal

pub word-requires-clause-taken : goal.word-requires-clause-taken
word-requires-clause-taken g c =
    let s = c.args.self.now in
    let t = tables_of (g.S.Store.means.homes s.store) s.tables in
    reached_taken t s.agree c.args.at c.in-Some.home (reached t s.agree c.args.at c.in-Some.home c.requires.place c.in-Some.ensures)

pub returns-in-Some-word-clause-told : goal.returns-in-Some-word-clause-told
returns-in-Some-word-clause-told g c d fits =
    let s = c.args.self.now in
    let t = tables_of (g.S.Store.means.homes s.store) s.tables in
    let r = reached t s.agree c.args.at c.in-Some.home c.requires.place c.in-Some.ensures in
    let x = word_here (place t.places c.in-Some.home.0) c.args.offset c.in-Some-word.word (sym c.in-Some-word.ensures) in
    ap Is x.2 ∙ sym (peek_here t s.agree c.args.at c.in-Some.home r d (sized_of t.places d fits (g.met.S.Store.sound s.store).pages) (g.S.Store.means.spare s.store) c.args.offset x.0 x.1)

pub returns-in-None-word-clause-told : goal.returns-in-None-word-clause-told
returns-in-None-word-clause-told g c d fits =
    let s = c.args.self.now in
    let t = tables_of (g.S.Store.means.homes s.store) s.tables in
    let r = reached t s.agree c.args.at c.in-Some.home c.requires.place c.in-Some.ensures in
    let gone = word_away (place t.places c.in-Some.home.0) c.args.offset (sym c.in-None-word.ensures) (reached_taken t s.agree c.args.at c.in-Some.home r) in
    sym (peek_away t s.agree c.args.at c.in-Some.home r d (g.S.Store.means.spare s.store) c.args.offset gone)

pub returns-in-None-word-clause-core : goal.returns-in-None-word-clause-core
returns-in-None-word-clause-core g c flat =
    let s = c.args.self.now in
    let t = tables_of (g.S.Store.means.homes s.store) s.tables in
    let r = reached t s.agree c.args.at c.in-Some.home c.requires.place c.in-Some.ensures in
    let taken = reached_taken t s.agree c.args.at c.in-Some.home r in
    let gone = word_away (place t.places c.in-Some.home.0) c.args.offset (sym c.in-None-word.ensures) taken in
    absurd (let z : true ≡ false = sym taken ∙ (g.met.S.Store.sound s.store).core flat c.in-Some.home.0 ∙ ap is_here gone in cc z)

pub returns-in-None-clause-told : goal.returns-in-None-clause-told
returns-in-None-clause-told g c d fits =
    let s = c.args.self.now in
    let t = tables_of (g.S.Store.means.homes s.store) s.tables in
    sym (peek_none t c.args.at (unreached t s.agree c.args.at c.requires.place c.in-None.ensures) d (g.S.Store.means.spare s.store) c.args.offset)

pub returns-in-None-word-clause-needs : goal.returns-in-None-word-clause-needs
returns-in-None-word-clause-needs g c =
    let s = c.args.self.now in
    let t = tables_of (g.S.Store.means.homes s.store) s.tables in
    let r = reached t s.agree c.args.at c.in-Some.home c.requires.place c.in-Some.ensures in
    word_away (place t.places c.in-Some.home.0) c.args.offset (sym c.in-None-word.ensures) (reached_taken t s.agree c.args.at c.in-Some.home r)

pub returns-in-None-word-clause-away : goal.returns-in-None-word-clause-away
returns-in-None-word-clause-away g c home is =
    let s = c.args.self.now in
    let store = g.S.Store.means in
    let same : c.in-Some.home ≡ home = cc is in
    of_file_page store (λ p. p.store) (λ p. tables_of (store.homes p.store) p.tables) s s.agree c.args.at home (sym c.in-Some.ensures ∙ ap Some same)
