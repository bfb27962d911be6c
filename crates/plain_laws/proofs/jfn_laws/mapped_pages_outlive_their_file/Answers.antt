use Rattle.std.proofs.Common.{None, ap, cond, not, refl, ◌∙◌}
use Rattle.std.specs.Prelude.{nat_lt}
use Rattle.std.specs.Cmp.{nat_cmp_total}
use Rattle.std.specs.FinMap as map
use Rattle.std.specs.FinMap.{nat_cmp-IsAntisymmetric}
use Rattle.plain_pages.specs.Room.{uses}
use Rattle.plain_pages.specs.FilePages.{without_file}
use Rattle.plain_pages.proofs.FilesKept.{live_without, without_maps, without_still, without_whole}
use Rattle.plain_pages.proofs.Kept.{named_some, unnamed_gone}
use Rattle.plain_model.proofs.Keyed.{left_page}
use Rattle.machine_names.proofs.Keys.{parts, ties}
use Rattle.plain_laws.proofs.jfn_laws.mapped_pages_outlive_their_file.Goals as goal

pub returns-clause-none : goal.returns-clause-none
returns-clause-none c = λ p file page.
    left_page nat_cmp_total nat_cmp-IsAntisymmetric p file (record { file = file; page = page })
    ∙ ap (λ b. cond (not b) (map.get p.files (record { file = file; page = page })) None) (ties nat_cmp_total nat_cmp-IsAntisymmetric file file refl)

pub returns-clause-others : goal.returns-clause-others
returns-clause-others c = λ p file f other.
    left_page nat_cmp_total nat_cmp-IsAntisymmetric p file f ∙ ap (λ b. cond (not b) (map.get p.files f) None) (parts nat_cmp_total nat_cmp-IsAntisymmetric f.file file other)

pub returns-clause-maps : goal.returns-clause-maps
returns-clause-maps c = λ p file. without_maps nat_cmp_total nat_cmp-IsAntisymmetric p file

pub returns-clause-words : goal.returns-clause-words
returns-clause-words c = λ p file n w named.
    let still = without_still nat_cmp_total nat_cmp-IsAntisymmetric p file w in
    still.objects n ∙ ap (λ b. cond b (map.get p.objects n) None) (named_some (uses (without_file p file) n) named)

pub returns-clause-gone : goal.returns-clause-gone
returns-clause-gone c = λ p file n w none. unnamed_gone (without_file p file) (without_whole nat_cmp_total nat_cmp-IsAntisymmetric p file w) n (ap (nat_lt 0) none)

pub returns-clause-whole : goal.returns-clause-whole
returns-clause-whole c = λ p file w. (without_whole nat_cmp_total nat_cmp-IsAntisymmetric p file w, live_without nat_cmp_total nat_cmp-IsAntisymmetric p file w)
