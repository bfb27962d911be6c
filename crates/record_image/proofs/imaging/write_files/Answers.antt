use Rattle.std.proofs.Common.{rules}
use Rattle.outside.specs.Told.{Grows}
use Rattle.monitor_core.specs.Systems.{state_of}
use Rattle.file_image.specs.Files.{files_of}
use Rattle.file_image.specs.Images.{image}
use Rattle.record_image.proofs.Fronts.{whole_is_front}
use Rattle.record_image.proofs.imaging.write_files.Goals as goal

pub returns-clause-front : goal.returns-clause-front
returns-clause-front g c d fits =
    let written : Grows (g.T.Sink.taken c.args.out.now) (g.T.Sink.taken c.write_image.new.out) (image (files_of (state_of c.args.system.now d))) = search (rules, fits) in
    whole_is_front c.flush.result _ (g.T.Sink.taken c.write_image.new.out) _ _ written c.flush.ensures.stays
