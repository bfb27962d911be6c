use Rattle.std.proofs.Common.{◌≡◌, subst}
use Rattle.std.specs.Option.{IsSomeAnd}
use Rattle.machine_names.specs.declared.names.TheConstants.{FILE_PAGES}
use Rattle.plain_files.specs.Sizes.{FitsFile, PlainFile}
use Rattle.file_image.specs.Reading.{pages_text}
use Rattle.file_image.proofs.Growing.{any_err, grows_same, grows_then, map_err, map_ok, partly_longer, partly_same, partly_then}
use Rattle.file_image.proofs.Texts.{file_written}
use Rattle.file_image.proofs.file.write_file.Goals as goal

pub returns-in_err-write_head-clause-err : goal.returns-in_err-write_head-clause-err
returns-in_err-write_head-clause-err g c d kept told is =
    let p = g.P.Pages.means.plain c.args.pages.now d in
    let size_is = (subst (λ o. IsSomeAnd o (λ (file : PlainFile). (c.head_of.result.size ≡ file.size) × FitsFile file)) is c.head_of.ensures.size).0 in
    let length_is = (subst (λ o. IsSomeAnd o (λ (file : PlainFile). (c.head_of.result.length ≡ file.length) × FitsFile file)) is c.head_of.ensures.length).0 in
    let whole = file_written c.args.files.now p told.filed c.args.file.0 c.requires.there kept c.head_of.result.name c.head_of.result.size c.head_of.result.length c.head_of.result.pages
    c.head_of.ensures.name size_is length_is (c.head_of.ensures.pages d told.fits) in
    any_err c.from_residual.result (partly_same _ _ _ _ whole (partly_longer _ _ _ (pages_text p c.args.file.0 FILE_PAGES) c.in_err-write_head.ensures.err))

pub returns-clause-ok : goal.returns-clause-ok
returns-clause-ok g c d kept told is =
    let p = g.P.Pages.means.plain c.args.pages.now d in
    let size_is = (subst (λ o. IsSomeAnd o (λ (file : PlainFile). (c.head_of.result.size ≡ file.size) × FitsFile file)) is c.head_of.ensures.size).0 in
    let length_is = (subst (λ o. IsSomeAnd o (λ (file : PlainFile). (c.head_of.result.length ≡ file.length) × FitsFile file)) is c.head_of.ensures.length).0 in
    let whole = file_written c.args.files.now p told.filed c.args.file.0 c.requires.there kept c.head_of.result.name c.head_of.result.size c.head_of.result.length c.head_of.result.pages
    c.head_of.ensures.name size_is length_is (c.head_of.ensures.pages d told.fits) in
    map_ok c.write_pages.result (λ grows. grows_same _ _ _ _ whole (grows_then _ _ _ _ _ c.in_ok-write_head.ensures.ok grows)) (c.write_pages.ensures.ok d told.fits)

pub returns-clause-err : goal.returns-clause-err
returns-clause-err g c d kept told is =
    let p = g.P.Pages.means.plain c.args.pages.now d in
    let size_is = (subst (λ o. IsSomeAnd o (λ (file : PlainFile). (c.head_of.result.size ≡ file.size) × FitsFile file)) is c.head_of.ensures.size).0 in
    let length_is = (subst (λ o. IsSomeAnd o (λ (file : PlainFile). (c.head_of.result.length ≡ file.length) × FitsFile file)) is c.head_of.ensures.length).0 in
    let whole = file_written c.args.files.now p told.filed c.args.file.0 c.requires.there kept c.head_of.result.name c.head_of.result.size c.head_of.result.length c.head_of.result.pages
    c.head_of.ensures.name size_is length_is (c.head_of.ensures.pages d told.fits) in
    map_err c.write_pages.result (λ partly. partly_same _ _ _ _ whole (partly_then _ _ _ _ _ c.in_ok-write_head.ensures.ok partly)) (c.write_pages.ensures.err d told.fits)
