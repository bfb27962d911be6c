use Rattle.std.proofs.Common.{◌≡◌, ◌∙◌, ℕ, List, sym, ap, inl, inr}
use Rattle.std.specs.Option.{unwrap_or}
use Rattle.page_contracts.specs.Stores.{place, here, word_in}
use Rattle.machine_names.specs.declared.names.Kind.TheVariants.{Read, Execute}
use Rattle.flat_tables.specs.TableSteps.{tables_of}
use Rattle.flat_pages.proofs.Settling.{sized_of}
use Rattle.flat_pages.proofs.Meeting.{reached, reached_taken, reached_word, ready_words}
use Rattle.flat_pages.proofs.flat_slots.FlatSlotsPages.word.Goals as goal

pub word-requires-clause-taken : goal.word-requires-clause-taken
word-requires-clause-taken g c =
    let s = c.args.self.now in
    let t = tables_of (g.S.Store.means.homes s.store) s.tables in
    reached_taken t s.agree c.args.at c.in-Some.home (reached t s.agree c.args.at c.in-Some.home c.requires.place c.in-Some.ensures)

pub returns-in-Some : goal.returns-in-Some
returns-in-Some g c =
    let s = c.args.self.now in
    let t = tables_of (g.S.Store.means.homes s.store) s.tables in
    let frames = g.S.Store.means.spare s.store in
    let r = reached t s.agree c.args.at c.in-Some.home c.requires.place c.in-Some.ensures in
    let x : (words : List ℕ) × (place t.places c.in-Some.home.0 ≡ here words) = elim c.requires.ready [ inl ready ↦ ready_words t s.agree c.args.at c.in-Some.home r frames Read ready | inr ready ↦ ready_words t s.agree c.args.at c.in-Some.home r frames Execute ready ] in
    record {
      told = λ d fits. c.unwrap_or.ensures ∙ ap (λ o. unwrap_or o 0) (c.word.ensures ∙ ap (λ p. word_in p c.args.offset) x.1)
          ∙ sym (reached_word t s.agree c.args.at c.in-Some.home r d (sized_of t.places d fits (g.met.S.Store.sound s.store).pages) x.0 c.args.offset x.1);
    }
