use Rattle.std.proofs.Common.{◌<◌, ◌∙◌, length, sym, arith, rules}
use Rattle.std.proofs.lemmas.List.{get_or_read}
use Rattle.machine_names.specs.PageWords.{zero_words}
use Rattle.flat_pages.proofs.StoredRows.{rows_length, words_row}
use Rattle.flat_pages.proofs.stored_page.StoredPages.page.Goals as goal

pub index-requires : goal.index-requires
index-requires c =
    let s = c.args.self.now in
    let below : c.args.home.0 < length s.words.items = omega (arith, c.requires, rows_length s.words.items s.taken.items s.even) in
    search rules

pub returns : goal.returns
returns c =
    let s = c.args.self.now in
    let below : c.args.home.0 < length s.words.items = omega (arith, c.requires, rows_length s.words.items s.taken.items s.even) in
    get_or_read _ _ _ below c.index.ensures zero_words ∙ sym (words_row s.words.items s.taken.items s.even c.args.home.0)
