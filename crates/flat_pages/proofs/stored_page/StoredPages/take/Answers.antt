use Rattle.std.proofs.Common.{◌<◌, true, length, arith, rules}
use Rattle.flat_pages.proofs.StoredRows.{rows_length, both_put}
use Rattle.flat_pages.proofs.stored_page.StoredPages.take.Goals as goal

pub index_mut-requires : goal.index_mut-requires
index_mut-requires c =
    let s = c.args.self.now in
    let below : c.args.home.0 < length s.words.items = omega (arith, c.requires, rows_length s.words.items s.taken.items s.even) in
    search rules

pub index_mut-requires-2 : goal.index_mut-requires-2
index_mut-requires-2 c =
    let s = c.args.self.now in
    let below : c.args.home.0 < length s.taken.items = omega (arith, c.requires, rows_length s.words.items s.taken.items s.even, s.even) in
    search rules

pub returns : goal.returns
returns c = both_put c.args.self.now.words.items c.args.self.now.taken.items c.args.home.0 c.args.words true
