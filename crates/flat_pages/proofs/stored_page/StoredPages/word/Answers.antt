use Rattle.std.proofs.Common.{◌≡◌, ◌<◌, ◌∙◌, ℕ, List, length, ap, sym, arith, rules}
use Rattle.std.specs.Prelude.{slice_index}
use Rattle.std.proofs.lemmas.List.{get_or_read, get_or_default}
use Rattle.machine_names.specs.PageWords.{zero_words}
use Rattle.flat_pages.specs.StoredPages.{stored_at}
use Rattle.flat_pages.specs.StoredLists.{pages_of}
use Rattle.flat_pages.proofs.StoredRows.{rows_length, words_row}
use Rattle.flat_pages.proofs.stored_page.StoredPages.word.Goals as goal

pub index-requires : goal.index-requires
index-requires c =
    let s = c.args.self.now in
    let below : c.args.home < length s.words.items = omega (arith, c.requires.home, rows_length s.words.items s.taken.items s.even) in
    search rules

pub returns : goal.returns
returns c =
    let s = c.args.self.now in
    let below : c.args.home < length s.words.items = omega (arith, c.requires.home, rows_length s.words.items s.taken.items s.even) in
    let is : c.index.result.now ≡ (stored_at (pages_of s) c.args.home).words = get_or_read _ _ _ below c.index.ensures zero_words ∙ sym (words_row s.words.items s.taken.items s.even c.args.home) in
    let inside : c.args.at < length c.index.result.now = omega (arith, ap (λ (page : List ℕ). length page) is, c.requires.page, c.requires.at) in
    get_or_default c.index.result.now c.args.at c.index-index-at.result 0 inside ∙ ap (λ (page : List ℕ). slice_index page c.args.at) is
