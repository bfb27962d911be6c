use Rattle.flat_pages.proofs.StoredRows.{rows_free}
use Rattle.flat_pages.proofs.stored_page.StoredPages.free.Goals as goal

pub returns : goal.returns
returns c = rw (c.in_ok-words.ensures, c.in_ok-taken.ensures) (rows_free c.args.number)
