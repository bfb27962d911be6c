use Rattle.std.proofs.Common.{◌≡◌, replicate}
use Rattle.machine_names.specs.PageWords.{zero_words}
use Rattle.flat_pages.proofs.stored_page.zero_pages.Given as goal

abbrev pub invariant-loop-page : goal.invariant-loop-page
invariant-loop-page l = l.pages.items ≡ replicate l._page zero_words
