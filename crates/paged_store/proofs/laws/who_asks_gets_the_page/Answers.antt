use Rattle.paged_store.proofs.Lasting.{asked_gets}
use Rattle.paged_store.proofs.laws.who_asks_gets_the_page.Goals as goal

pub returns : goal.returns
returns c = asked_gets
