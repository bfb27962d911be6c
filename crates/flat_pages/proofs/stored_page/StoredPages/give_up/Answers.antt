use Rattle.std.proofs.Common.{◌<◌, false, length, arith, rules}
use Rattle.flat_pages.proofs.StoredRows.{rows_length, taken_put}
use Rattle.flat_pages.proofs.stored_page.StoredPages.give_up.Goals as goal

pub index_mut-requires : goal.index_mut-requires
index_mut-requires c =
    let s = c.args.self.now in
    let below : c.args.home.0 < length s.taken.items = omega (arith, c.requires, rows_length s.words.items s.taken.items s.even, s.even) in
    search rules

pub returns : goal.returns
returns c = taken_put c.args.self.now.words.items c.args.self.now.taken.items c.args.home.0 false
