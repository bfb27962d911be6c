use Rattle.std.proofs.Common.{◌≡◌, ◌≢◌, ◌⊎◌, ℕ, ◌+◌, ◌<◌, List, length, true, sym, ◌∙◌, ap, subst, arith}
use Rattle.std.specs.Prelude.{is_some, slice_index, take}
use Rattle.std.specs.List.{Contains}
use Rattle.std.specs.FinMap as map
use Rattle.std.proofs.lemmas.List.{get_or-take, length-take-le}
use Rattle.script_texts.specs.declared.event.Item.TheVariants.{PageWord}
use Rattle.script_texts.specs.declared.event.Event.TheVariants.{Page}
use Rattle.script_texts.specs.declared.event.WordRow.{WordRow}
use Rattle.script_texts.specs.Limits.{FitsRow}
use Rattle.plain_pages.specs.Room.{live}
use Rattle.plain_model.specs.State.{PlainState}
use Rattle.plain_model.specs.Events.{outer}
use Rattle.plain_model.specs.FileEvents.{write_words}
use Rattle.plain_laws.specs.FileLaws.{HasPage}
use Rattle.plain_laws.specs.Whole.{IsWholeMachine}
use Rattle.plain_model.specs.Unit.{Effect}
use Rattle.plain_model.proofs.Equations.{outer_page, outer_words}
use Rattle.plain_laws.proofs.Shown.{no_such_file, no_such_page, shown_stays, is_shown, was_shown}
use Rattle.plain_laws.proofs.RowsPut.{written, page_there}
use Rattle.plain_laws.proofs.WordsWritten.{row_within}
use Rattle.plain_laws.proofs.file_laws.pages_are_shown.Goals as goal

pub returns-clause-stays : goal.returns-clause-stays
returns-clause-stays c = λ s name page. ap (λ (e : Effect). e.state) (outer_page s name page) ∙ shown_stays s name page

pub returns-clause-no_file : goal.returns-clause-no_file
returns-clause-no_file c = λ s name page absent. outer_page s name page ∙ no_such_file s name page absent

pub returns-clause-no_page : goal.returns-clause-no_page
returns-clause-no_page c = λ s name page there none. outer_page s name page ∙ no_such_page s name page there none

pub returns-clause-shown : goal.returns-clause-shown
returns-clause-shown c = λ s name page offset word w has.
    let there = page_there s w.machine name page has in (
      λ shown. was_shown s name page there has offset word (subst (λ (e : Effect). Contains e.items (PageWord offset word)) (outer_page s name page) shown),
      λ stands. subst (λ (e : Effect). Contains e.items (PageWord offset word)) (sym (outer_page s name page)) (is_shown s name page there has offset word stands.0 stands.1),
    )

-- what is put is shown
put_shown : (s : PlainState) → IsWholeMachine s → (name : List ℕ) (page offset : ℕ) (row : WordRow) (i : ℕ) → FitsRow offset row → map.contains_key s.files name ≡ true → HasPage s name page ⊎ (live s.pages < s.pages.limit)
    → i < row.count → slice_index row.words i ≢ 0 → Contains (outer (write_words s name page offset (take row.count row.words)).state (Page name page)).items (PageWord (offset + i) (slice_index row.words i))
put_shown s w name page offset row i fits there room below some =
    let words = take row.count row.words in
    let t = (write_words s name page offset words).state in
    let r = (written s w name page offset words there (row_within offset row fits) room).1 in
    let within : i < length words = omega (arith, below, length-take-le row.count row.words (omega (arith, fits.most, fits.room))) in
    let stands = r.row.put i within ∙ get_or-take row.count row.words i 0 below in
    subst (λ (e : Effect). Contains e.items (PageWord (offset + i) (slice_index row.words i))) (sym (outer_page t name page)) (is_shown t name page (ap is_some r.named) r.row.there (offset + i) (slice_index row.words i) stands some)

pub returns-clause-written : goal.returns-clause-written
returns-clause-written c = λ s name page offset row i w fits there room below some.
    subst (λ (e : Effect). Contains (outer e.state (Page name page)).items (PageWord (offset + i) (slice_index row.words i))) (sym (outer_words s name page offset row)) (put_shown s w.machine name page offset row i fits there room below some)
