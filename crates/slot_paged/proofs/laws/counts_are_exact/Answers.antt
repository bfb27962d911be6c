use Rattle.paged_tables.proofs.CountLaws.{alone_exact, gone_exact, names_exact, share_exact}
use Rattle.slot_paged.proofs.laws.counts_are_exact.Goals as goal

pub returns : goal.returns
returns c = record { names = names_exact; shares = share_exact; alone = alone_exact; gone = gone_exact }
