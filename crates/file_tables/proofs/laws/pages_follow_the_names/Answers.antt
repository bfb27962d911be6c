use Rattle.std.proofs.Common.{◌≡◌, ◌∙◌, sym, ap}
use Rattle.std.specs.Prelude.{is_some}
use Rattle.std.specs.FinMap as map
use Rattle.plain_files.specs.NamedFiles.{name_of, pages_named}
use Rattle.file_tables.proofs.Names.{absent_by_name, named, one_value}
use Rattle.file_tables.proofs.Pages.{page_at, page_gone, page_none, page_put}
use Rattle.file_tables.proofs.laws.pages_follow_the_names.Goals as goal

pub returns-clause-found : goal.returns-clause-found
returns-clause-found c = λ m pages f name n a filed is.
    let file : name_of m f ≡ name = one_value (map.get m f) (name_of m f) name (named m f (ap is_some is)) is in
    ap (λ x. map.get (pages_named m pages) (record { file = x; page = n })) (sym file) ∙ page_at m a pages filed (record { file = f; page = n }) (ap is_some is)

pub returns-clause-none : goal.returns-clause-none
returns-clause-none c = λ m pages name n a filed none.
    page_none m a pages filed (record { file = name; page = n }) (absent_by_name m a (λ k. k) name none)

pub returns-clause-put : goal.returns-clause-put
returns-clause-put c = λ m pages at k a filed there. page_put m a pages filed at there k

pub returns-clause-gone : goal.returns-clause-gone
returns-clause-gone c = λ m pages at a filed there. page_gone m a pages filed at there
