use Rattle.std.proofs.Common.{◌≡◌, ◌+◌, ◌≤◌, ◌∙◌, sym, ap, ℕ, Option, None, Some}
use Rattle.std.specs.Option.{MatchOption}
use Rattle.number_map.specs.Numbers.{AreTaken, IsLeastFree}
use Rattle.plain_files.specs.declared.bounds.TheConstants.{MOST_JFNS}
use Rattle.plain_files.specs.Directory.{Files}
use Rattle.plain_files.specs.JobFiles.{Held}
use Rattle.plain_files.specs.NamedFiles.{open_named}
use Rattle.plain_files.specs.OpenFiles.{free_jfn}
use Rattle.file_tables.proofs.FirstFree.{all_taken, least_free}
use Rattle.file_tables.proofs.Opened.{least_open, open_job, taken_open}
use Rattle.file_tables.proofs.tables.FileTables.free_jfn.Goals as goal

first : (m : Files) (held : Held) (o : Option ℕ) → MatchOption o (AreTaken held 1 (1 + MOST_JFNS)) (λ n. (n ≤ MOST_JFNS) × IsLeastFree held 1 n)
    → o ≡ free_jfn (open_named m held)
first m held None taken = sym (all_taken (open_named m held) (taken_open m held 1 (1 + MOST_JFNS) taken))
first m held (Some n) least = sym (least_free (open_named m held) n least.0 (least_open m held 1 n least.1))

pub returns : goal.returns
returns c =
    first c.args.self.now.dir c.of.result.now c.first_free.result c.first_free.ensures
    ∙ ap free_jfn (ap (open_named c.args.self.now.dir) c.of.ensures ∙ sym (open_job c.args.self.now.dir c.args.self.now.jobs c.args.t.0))
