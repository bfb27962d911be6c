use Rattle.std.proofs.Common.{◌≡◌, ◌<◌, ◌≤◌, ◌∙◌, false, length, sym, rules}
use Rattle.std.specs.Prelude.{nat_lt}
use Rattle.std.proofs.lemmas.List.{get_or_read, get_or_past}
use Rattle.flat_pages.proofs.StoredRows.{taken_row}
use Rattle.flat_pages.proofs.stored_page.StoredPages.is_taken.Goals as goal

pub returns-then-home-len : goal.returns-then-home-len
returns-then-home-len c =
    let s = c.args.self.now in
    let below : c.args.home.0 < length s.taken.items = search rules in
    get_or_read _ _ _ below c.index.ensures false ∙ sym (taken_row s.words.items s.taken.items s.even c.args.home.0)

pub returns-else-home-len : goal.returns-else-home-len
returns-else-home-len c =
    let s = c.args.self.now in
    let past : length s.taken.items ≤ c.args.home.0 = search rules in
    let none : nat_lt c.args.home.0 c.len.result ≡ false = search rules in
    none ∙ sym (taken_row s.words.items s.taken.items s.even c.args.home.0 ∙ get_or_past s.taken.items c.args.home.0 false past)
