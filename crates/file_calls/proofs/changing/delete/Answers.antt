use Rattle.std.proofs.Common.{◌≡◌, sym, ◌∙◌, ap, refl}
use Rattle.std.specs.FinMap as map
use Rattle.plain_files.specs.NamedFiles.{name_of, open_file}
use Rattle.plain_pages.specs.FilePages.{without_file}
use Rattle.file_tables.specs.Tables.{files_of}
use Rattle.file_tables.specs.Keys.{key_of}
use Rattle.file_calls.proofs.Changed.{deletes, key_is}
use Rattle.file_calls.proofs.changing.delete.Goals as goal

pub returns-clause-told : goal.returns-clause-told
returns-clause-told g c =
    let means = g.P.Pages.means in
    let old = c.args.tables.now in
    let mid = c.release.new.self in
    let new = c.delete.new.self in
    let f = c.in-Some.jfn.file.0 in
    let j = open_file old.dir c.in-Some.jfn in
    let key : key_of old j.file ≡ f = key_is old f c.in-Some.ensures.sound.there in
    let files : files_of new ≡ map.remove (files_of old) j.file =
    c.delete.ensures.files ∙ ap (λ m. map.remove m (name_of mid.dir f)) c.release.ensures.files.files ∙ ap (λ m. map.remove (files_of old) (name_of m f)) c.release.ensures.files.numbers in
    record {
      fits = λ d fits. (c.drop_file.ensures.told d fits).0;
      left = λ d jobs fits held.
          let p = means.plain c.args.pages.now d in
          deletes old new c.args.t c.requires.held.0 _ (c.delete.ensures.jfns.named ∙ c.release.ensures.released) jobs (key_of old) held c.args.n j (sym c.in-Some.ensures.held)
          p (means.plain c.drop_file.new.self d) ((c.drop_file.ensures.told d fits).1 ∙ ap (without_file p) (sym key)) files refl;
    }
