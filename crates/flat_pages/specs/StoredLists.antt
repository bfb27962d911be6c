-- The pages that a store in memory keeps, home by home.
use Rattle.std.specs.Prelude.{List}
use Rattle.flat_pages.specs.declared.stored_page.StoredPages.{StoredPages}
use Rattle.flat_pages.specs.StoredPages.{StoredPage, pages_from}

abbrev pub pages_of : StoredPages → List StoredPage
pages_of p = pages_from p.words.items p.taken.items
