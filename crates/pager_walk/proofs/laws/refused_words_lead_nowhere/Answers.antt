use Rattle.share_table.specs.Shares.{page_at}
use Rattle.pager_walk.proofs.WalkLaws.{refused_word, root_refused, share_refused}
use Rattle.pager_walk.proofs.laws.refused_words_lead_nowhere.Goals as goal

pub returns : goal.returns
returns c = record {
  word = refused_word;
  home = root_refused;
  share = λ t taken k f a s p rooted own is root. share_refused t taken k f a (page_at t.shares s.0) p rooted own is root;
}
