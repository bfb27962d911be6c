use Rattle.record_image.proofs.Fronts.{imaged}
use Rattle.record_image.proofs.imaging.image.Goals as goal

pub returns-in-Ok-clause-imaged : goal.returns-in-Ok-clause-imaged
returns-in-Ok-clause-imaged g c =
    let played = c.in-Ok.ensures.played in
    imaged c.args.pages (g.S.Source.left c.args.input.now) c.in-Ok.system played.plays played.left c.write_files.result c.end_behind.result (g.T.Sink.taken c.args.out.now) (g.T.Sink.taken c.write_files.new.out) c.write_files.ensures.whole c.write_files.ensures.front c.end_behind.ensures.ok c.end_behind.ensures.err
