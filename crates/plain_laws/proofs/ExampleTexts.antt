-- The texts of the example, computed.
use Rattle.std.proofs.Common.{◌≡◌, [], refl}
use Rattle.std.specs.Prelude.{codes}
use Rattle.std.specs.Fmt.{digits}
use Rattle.word36.specs.Octal.{octal_padded}
use Rattle.script_texts.specs.Texts.{transcript, record_text}
use Rattle.plain_laws.specs.Example.{example_items, example_steps, example_transcript, example_record}

pub example_shown : transcript example_items ≡ example_transcript
unfolding digits octal_padded
example_shown = refl

pub example_recorded : record_text example_steps 0 0 ≡ example_record
unfolding digits octal_padded
example_recorded = refl

pub empty_recorded : record_text [] 0 0 ≡ codes "E 0 0\n"
unfolding digits
empty_recorded = refl
