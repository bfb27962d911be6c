use Rattle.std.proofs.Common.{◌+◌, arith}
use Rattle.number_map.proofs.Full.{IsWithin, len_most}
use Rattle.machine_names.specs.declared.names.TheConstants.{MOST_FILES}
use Rattle.plain_files.specs.Directory.{AreFiles, Files}
use Rattle.file_dir.proofs.dir.Dir.count.Goals as goal

in_bounds : (m : Files) → AreFiles m → IsWithin m 0 (0 + MOST_FILES)
in_bounds m a = (λ k low. absurd (omega arith), λ k high. a.below k (omega arith))

pub returns-clause-most : goal.returns-clause-most
returns-clause-most c =
    let m = c.self.inside.names in
    omega (arith, c.len.ensures, c.self.invariant.1.size, len_most m 0 MOST_FILES (in_bounds m c.self.invariant.0))
