use Rattle.file_image.proofs.Growing.{grows_same, map_err, map_ok, partly_same}
use Rattle.file_image.proofs.Texts.{head_pieces}
use Rattle.file_image.proofs.file.write_head.Goals as goal

pub returns-clause-ok : goal.returns-clause-ok
returns-clause-ok g c =
    map_ok c.put_all.result (grows_same _ _ _ _ (head_pieces c.as_slice-name.result.now c.args.file.now.name c.to_be_bytes.result c.to_be_bytes-2.result c.args.file.now.size c.args.file.now.length c.args.file.now.pages
    c.as_slice-name.ensures c.to_be_bytes.ensures c.to_be_bytes-2.ensures)) c.put_all.ensures.ok

pub returns-clause-err : goal.returns-clause-err
returns-clause-err g c =
    map_err c.put_all.result (partly_same _ _ _ _ (head_pieces c.as_slice-name.result.now c.args.file.now.name c.to_be_bytes.result c.to_be_bytes-2.result c.args.file.now.size c.args.file.now.length c.args.file.now.pages
    c.as_slice-name.ensures c.to_be_bytes.ensures c.to_be_bytes-2.ensures)) c.put_all.ensures.err
