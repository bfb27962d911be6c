use Rattle.paged_tables.specs.MadePages.{with_shares}
use Rattle.paged_tables.specs.PagedTables.{beside_of}
use Rattle.paged_tables.proofs.Joining.{share_there}
use Rattle.paged_tables.proofs.paged_tables.PagedTables.join.Goals as goal

pub join-requires : goal.join-requires
join-requires c = share_there (beside_of c.args.self.now) (beside_of c.share_page-share.new.self) c.args.home c.share_page-share.result c.share_page-share.ensures c.requires.there

pub returns : goal.returns
returns c = record {
  share = c.share_page-share.result;
  mid = beside_of c.share_page-share.new.self;
  first = c.share_page-share.ensures;
  beside = λ i. with_shares (beside_of c.share_page-share.new.self) (c.join.ensures i);
}
