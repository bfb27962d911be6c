use Rattle.std.proofs.Common.{cond, None, ◌∙◌, ap}
use Rattle.std.specs.Cmp.{nat_cmp_total}
use Rattle.std.specs.FinMap.{nat_cmp-IsAntisymmetric}
use Rattle.std.specs.FinMap as map
use Rattle.plain_pages.specs.FilePages.{with_file, without_file}
use Rattle.plain_pages.proofs.FilesKept.{filed_still, filed_whole, live_filed, without_still, without_whole, live_without}
use Rattle.std.specs.Prelude.{nat_lt}
use Rattle.plain_pages.proofs.Kept.{changed_whole, live_changed, changed_kept, fork_whole, live_fork, fork_still, named_some, unnamed_gone}
use Rattle.plain_pages.specs.Room.{uses}
use Rattle.plain_pages.specs.NewEntries.{changed}
use Rattle.plain_pages.specs.References.{without_fork}
use Rattle.plain_laws.proofs.laws.pages_go_with_their_last_name.Goals as goal

pub returns-clause-entry : goal.returns-clause-entry
returns-clause-entry c = λ p s new w is_new. (changed_whole p w s new is_new, live_changed p w s new is_new)

pub returns-clause-entry_words : goal.returns-clause-entry_words
returns-clause-entry_words c = λ p s new n w is_new named. changed_kept p w s new is_new n (named_some (uses (changed p s new) n) named)

pub returns-clause-fork : goal.returns-clause-fork
returns-clause-fork c = λ p f m w there. (fork_whole p w f m there, live_fork p w f m there)

pub returns-clause-fork_words : goal.returns-clause-fork_words
returns-clause-fork_words c = λ p f m n w there named. fork_still p w f m there n (named_some (uses (without_fork p f) n) named)

pub returns-clause-gone : goal.returns-clause-gone
returns-clause-gone c = λ p n w none. unnamed_gone p w n (ap (nat_lt 0) none)

pub returns-clause-file : goal.returns-clause-file
returns-clause-file c = λ p f new w there. (filed_whole nat_cmp_total nat_cmp-IsAntisymmetric p f new w there, live_filed nat_cmp_total nat_cmp-IsAntisymmetric p f new w there)

pub returns-clause-file_words : goal.returns-clause-file_words
returns-clause-file_words c = λ p f new n w named. (filed_still nat_cmp_total nat_cmp-IsAntisymmetric p f new w).objects n ∙ ap (λ b. cond b (map.get p.objects n) None) (named_some (uses (with_file p f new) n) named)

pub returns-clause-dropped : goal.returns-clause-dropped
returns-clause-dropped c = λ p file w. (without_whole nat_cmp_total nat_cmp-IsAntisymmetric p file w, live_without nat_cmp_total nat_cmp-IsAntisymmetric p file w)

pub returns-clause-dropped_words : goal.returns-clause-dropped_words
returns-clause-dropped_words c = λ p file n w named. (without_still nat_cmp_total nat_cmp-IsAntisymmetric p file w).objects n ∙ ap (λ b. cond b (map.get p.objects n) None) (named_some (uses (without_file p file) n) named)
