use Rattle.pmap_calls.proofs.MapLaws.{reads_source, others_stay, is_unmapped}
use Rattle.pmap_calls.proofs.laws.mapped_pages_read_their_source.Goals as goal

pub returns-clause-read : goal.returns-clause-read
returns-clause-read c = λ key p s t a k w there same h. reads_source key p w s there t a k same h

pub returns-clause-others : goal.returns-clause-others
returns-clause-others c = λ key p s t u a w there ne. others_stay key p w s there t u a ne

pub returns-clause-unmapped : goal.returns-clause-unmapped
returns-clause-unmapped c = λ key p s w there. is_unmapped key p w s there
