use Rattle.page_files.proofs.Numbering.{put_others, gone_others}
use Rattle.page_files.proofs.laws.others_keep_their_pages.Goals as goal

pub returns-clause-put : goal.returns-clause-put
returns-clause-put c = λ pages at k. put_others pages at k

pub returns-clause-gone : goal.returns-clause-gone
returns-clause-gone c = λ pages at. gone_others pages at
