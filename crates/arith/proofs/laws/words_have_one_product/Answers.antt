use Rattle.arith.proofs.WordLemmas.{one_product}
use Rattle.arith.proofs.laws.words_have_one_product.Goals as goal

pub returns : goal.returns
returns c = one_product
