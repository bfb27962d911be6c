use Rattle.std.proofs.Common.{rules}
use Rattle.machine_names.specs.PageWords.{zero_words}
use Rattle.frame_table.proofs.pages.zero_page.Goals as goal

pub returns : goal.returns
unfolding zero_words
returns c = search rules
