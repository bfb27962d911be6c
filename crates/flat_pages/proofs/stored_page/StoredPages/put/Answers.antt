use Rattle.std.proofs.Common.{◌≡◌, ◌<◌, ◌∙◌, ℕ, List, length, ap, sym, arith, rules}
use Rattle.std.specs.Prelude.{slice_set}
use Rattle.std.proofs.lemmas.List.{get_or_read}
use Rattle.machine_names.specs.PageWords.{zero_words}
use Rattle.flat_pages.specs.StoredPages.{stored_at}
use Rattle.flat_pages.specs.StoredLists.{pages_of}
use Rattle.flat_pages.proofs.StoredRows.{rows_length, words_row, words_put}
use Rattle.flat_pages.proofs.stored_page.StoredPages.put.Goals as goal

pub index_mut-page-requires : goal.index_mut-page-requires
index_mut-page-requires c =
    let s = c.args.self.now in
    let below : c.args.home < length s.words.items = omega (arith, c.requires.home, rows_length s.words.items s.taken.items s.even) in
    search rules

pub returns : goal.returns
returns c =
    let s = c.args.self.now in
    let below : c.args.home < length s.words.items = omega (arith, c.requires.home, rows_length s.words.items s.taken.items s.even) in
    let is : c.index_mut-page.result.now ≡ (stored_at (pages_of s) c.args.home).words = get_or_read _ _ _ below c.index_mut-page.ensures.value zero_words ∙ sym (words_row s.words.items s.taken.items s.even c.args.home) in
    words_put s.words.items s.taken.items c.args.home (slice_set c.index_mut-page.result.now c.args.at c.args.word)
    ∙ ap (λ (page : List ℕ). slice_set (pages_of s) c.args.home (record (stored_at (pages_of s) c.args.home) { words = slice_set page c.args.at c.args.word })) is
