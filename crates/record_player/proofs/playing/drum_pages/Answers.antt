use Rattle.std.proofs.Common.{ap}
use Rattle.script_texts.specs.RecordLines.{version}
use Rattle.record_reader.specs.Reader.{line_given}
use Rattle.record_player.proofs.playing.drum_pages.Goals as goal

pub returns-in-Size-clause-few : goal.returns-in-Size-clause-few
returns-in-Size-clause-few c = (c.requires.fits (version c.in-Size.pages) (ap line_given c.in-Size.is)).1
