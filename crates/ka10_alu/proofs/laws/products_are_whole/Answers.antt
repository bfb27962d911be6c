use Rattle.ka10_alu.proofs.Products.{short_product, long_product}
use Rattle.ka10_alu.proofs.laws.products_are_whole.Goals as goal

pub returns-clause-short : goal.returns-clause-short
returns-clause-short c a m _ _ = short_product a m

pub returns-clause-long : goal.returns-clause-long
returns-clause-long c = long_product
