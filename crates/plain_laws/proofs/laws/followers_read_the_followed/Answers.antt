use Rattle.plain_pages.proofs.Reading.{follower_words}
use Rattle.plain_laws.proofs.laws.followers_read_the_followed.Goals as goal

pub returns : goal.returns
returns c = λ p s serial page a k h is. follower_words p s serial page a k h is
