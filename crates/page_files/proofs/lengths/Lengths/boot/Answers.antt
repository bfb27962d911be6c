use Rattle.std.proofs.Common.{◌∙◌, ap, sym, subst, lit≤, All}
use Rattle.machine_names.specs.declared.names.TheConstants.{MOST_FILES}
use Rattle.plain_files.specs.declared.bounds.TheConstants.{LARGEST_BYTE}
use Rattle.page_files.specs.declared.lengths.FileLength.{FileLength}
use Rattle.page_files.specs.Sizes.{plain_files}
use Rattle.plain_files.specs.Sizes.{FitsFile}
use Rattle.page_files.proofs.Entries.{alike, alike_fit}
use Rattle.page_files.proofs.lengths.Lengths.boot.Goals as goal

abbrev empty_file : FileLength
empty_file = record { length = 0; size = LARGEST_BYTE }

pub invariant_of-result : goal.invariant_of-result
invariant_of-result c =
    let all = c.in_ok-vec.ensures.items_if_clones_equal (λ y e. e) in
    (c.in_ok-vec.ensures.len, subst (λ fs. All FitsFile (plain_files fs)) (sym all) (alike_fit MOST_FILES empty_file ((lit≤ tt, lit≤ tt), lit≤ tt)))

pub returns : goal.returns
returns c = ap plain_files (c.in_ok-vec.ensures.items_if_clones_equal (λ y e. e)) ∙ alike MOST_FILES empty_file
