use Rattle.std.proofs.Common.{◌≡◌, ◌∙◌, sym, subst, []}
use Rattle.std.specs.Prelude.{take}
use Rattle.plain_model.specs.Unit.{Effect}
use Rattle.plain_model.proofs.Equations.{outer_words}
use Rattle.plain_laws.specs.FileLaws.{WritesRow}
use Rattle.plain_laws.proofs.WordsWritten.{row_within}
use Rattle.plain_laws.proofs.RowsPut.{no_such_file, no_room_for_it, written}
use Rattle.plain_laws.proofs.file_laws.words_are_put.Goals as goal

pub returns-clause-no_file : goal.returns-clause-no_file
returns-clause-no_file c = λ s name page offset row absent. outer_words s name page offset row ∙ no_such_file s name page offset (take row.count row.words) absent

pub returns-clause-full : goal.returns-clause-full
returns-clause-full c = λ s name page offset row w there none least. outer_words s name page offset row ∙ no_room_for_it s w.machine name page offset (take row.count row.words) there none least

pub returns-clause-put : goal.returns-clause-put
returns-clause-put c = λ s name page offset row w fits there room.
    subst (λ (e : Effect). (e.items ≡ []) × WritesRow s e.state name page offset (take row.count row.words)) (sym (outer_words s name page offset row))
    (written s w.machine name page offset (take row.count row.words) there (row_within offset row fits) room)
