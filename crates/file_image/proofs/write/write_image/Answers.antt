use Rattle.std.proofs.Common.{◌++◌, Some, sym, ap, ◌∙◌}
use Rattle.std.specs.List.{flat_map}
use Rattle.std.specs.FinMap as map
use Rattle.plain_files.specs.NamedFiles.{name_of}
use Rattle.file_tables.specs.InOrder.{files_after, name_given}
use Rattle.file_tables.specs.Tables.{file_of, files_of}
use Rattle.file_image.specs.Images.{image}
use Rattle.file_image.specs.Parts.{header, part_bytes}
use Rattle.file_image.specs.Reading.{file_text, files_told, named}
use Rattle.file_image.proofs.Growing.{any_err, grows_same, grows_then, partly_longer, partly_same, partly_then}
use Rattle.file_image.proofs.Texts.{all_pass, behind_next, found_file, header_pieces, image_is, with_next}
use Rattle.file_image.proofs.write.write_image.Goals as goal

pub returns-in_err-put_all-clause-front : goal.returns-in_err-put_all-clause-front
returns-in_err-put_all-clause-front g c d told =
    let files = c.args.files.now in
    let p = named files (g.P.Pages.means.plain c.args.pages.now d) in
    let begins = header_pieces c.to_be_bytes.result c.count-count.result (map.len (files_of files)) c.to_be_bytes.ensures c.count-count.ensures.number in
    any_err c.from_residual.result
    (partly_same _ _ _ _ (sym (image_is p (files_of files)))
    (partly_longer _ _ (part_bytes (header (map.len (files_of files)))) (flat_map (file_text p) (map.entries (files_of files))) (partly_same _ _ _ _ begins c.in_err-put_all.ensures.err)))

pub loop-file-init : goal.loop-file-init
loop-file-init g c =
    let files = c.args.files.now in
    let first = part_bytes (header (map.len (files_of files))) in
    let begins = header_pieces c.to_be_bytes.result c.count-count.result (map.len (files_of files)) c.to_be_bytes.ensures c.count-count.ensures.number in
    record {
      there = tt;
      unfaulted = c.in_ok-put_all.ensures.unfaulted;
      written = λ d told. let p = named files (g.P.Pages.means.plain c.args.pages.now d) in
          (first, grows_same _ _ _ _ begins c.in_ok-put_all.ensures.ok, image_is p (files_of files) ∙ ap (λ es. first ++ flat_map (file_text p) es) (sym (all_pass (map.entries (files_of files)))));
    }

pub returns-in_err-write_file-clause-front : goal.returns-in_err-write_file-clause-front
returns-in_err-write_file-clause-front g c d told =
    let files = c.args.files.now in
    let p = named files (g.P.Pages.means.plain c.args.pages.now d) in
    let f = c.in-Some.file.0 in
    let kept = found_file (file_of files f) c.in-Some.ensures.next in
    let so_far = c.loop-file.invariant.written d told in
    let rest = files_after files (Some (name_of files.dir f)) in
    any_err c.from_residual-in_err-write_file.result
    (partly_same _ _ _ _ (sym (with_next p (image (files_told g.P.Pages.means files c.args.pages.now d)) so_far.0 (files_after files (name_given files c.loop-file.last)) rest (name_of files.dir f, kept.0) so_far.2 kept.2))
    (partly_then _ _ _ so_far.0 _ so_far.1 (partly_longer _ _ _ (flat_map (file_text p) rest) (c.in_err-write_file.ensures.err d kept.0 told kept.1))))

pub loop-file-preserved : goal.loop-file-preserved
loop-file-preserved g c =
    let files = c.args.files.now in
    let f = c.in-Some.file.0 in
    let kept = found_file (file_of files f) c.in-Some.ensures.next in
    let rest = files_after files (Some (name_of files.dir f)) in
    record {
      there = c.in-Some.ensures.there;
      unfaulted = c.in_ok-write_file.ensures.unfaulted ∙ c.loop-file.invariant.unfaulted;
      written = λ d told. let p = named files (g.P.Pages.means.plain c.args.pages.now d) in
          let so_far = c.loop-file.invariant.written d told in (
            so_far.0 ++ file_text p (name_of files.dir f, kept.0),
            grows_then _ _ _ _ _ so_far.1 (c.in_ok-write_file.ensures.ok d kept.0 told kept.1),
            behind_next p (image (files_told g.P.Pages.means files c.args.pages.now d)) so_far.0 (files_after files (name_given files c.loop-file.last)) rest (name_of files.dir f, kept.0) so_far.2 kept.2,
          );
    }
