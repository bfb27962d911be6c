use Rattle.std.proofs.Common.{◌≡◌, ℕ, ◌+◌, List, Some, refl, sym, ◌∙◌, ap}
use Rattle.machine_names.specs.Orders.{file_page}
use Rattle.plain_files.specs.OpenFiles.{OpenFiles, open_at}
use Rattle.plain_files.specs.Bytes.{offset_of_byte, page_of_byte}
use Rattle.plain_model.specs.ByteCalls.{with_position}
use Rattle.file_tables.specs.Tables.{jfns_at}
use Rattle.file_tables.proofs.Known.{held_known}
use Rattle.file_bytes.specs.Changing.{deposited_in}
use Rattle.file_bytes.proofs.JobParts.{now_moved}
use Rattle.file_bytes.proofs.Parts.{puts_left}
use Rattle.file_bytes.proofs.changing.put.Goals as goal

pub reach-requires-clause-usable : goal.reach-requires-clause-usable
reach-requires-clause-usable g c =
    let held = c.in-Some.ensures.sound in
    (held_known c.args.tables.now c.args.n (Some c.in-Some.jfn) held, held.fits)

pub returns-clause-told : goal.returns-clause-told
returns-clause-told g c line =
    let means = g.P.Pages.means in
    let tables = c.args.tables.now in
    let mid = c.reach.new.tables in
    let t = c.args.t in
    let n = c.args.n in
    let byte = c.args.byte in
    let jfn = c.in-Some.jfn in
    let known = held_known tables n (Some jfn) c.in-Some.ensures.sound in
    let jfns : jfns_at c.seek.new.self t.0 ≡ with_position n (jfn.at + 1) (jfns_at tables t.0) =
    now_moved mid c.seek.new.self t c.requires.terminal n (jfn.at + 1) c.seek.ensures.moved
    ∙ ap (λ (opens : List OpenFiles). with_position n (jfn.at + 1) (open_at opens t.0)) c.reach.ensures.jfns.named in
    record {
      fits = λ d f. (c.put_byte.ensures.told d f).0;
      left = λ d jobs f has. (
          let p = means.plain c.args.pages.now d in
          let pages =
          (c.put_byte.ensures.told d f).1
          ∙ ap (λ (k : ℕ). deposited_in p t (file_page jfn.file.0 k) c.place.result.1 c.place.result.2 byte) c.place.ensures.page
          ∙ ap (λ (k : ℕ). deposited_in p t (file_page jfn.file.0 (page_of_byte jfn.size jfn.at)) k c.place.result.2 byte) c.place.ensures.offset
          ∙ ap (λ (k : ℕ). deposited_in p t (file_page jfn.file.0 (page_of_byte jfn.size jfn.at)) (offset_of_byte jfn.size jfn.at) k byte) c.place.ensures.pointer in
          puts_left tables c.seek.new.self line line t jobs has n byte jfn (sym c.in-Some.ensures.number) known.number p (means.plain c.put_byte.new.pages d) pages
          (c.seek.ensures.files.files ∙ c.reach.ensures.files) jfns refl);
    }
