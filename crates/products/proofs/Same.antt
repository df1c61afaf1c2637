-- A sample has one product before and after.
use Rattle.std.proofs.Common.{◌≡◌, ℕ, ℤ, Some, None, Option}
use Rattle.arith.proofs.WordLemmas.{one_product}
use Rattle.products.specs.declared.report.ProductReport.{ProductReport}
use Rattle.products.specs.Trials.{ProductsOf}

pub same_product : (o : Option ℕ) (x : ℤ) (p : ProductReport) → ProductsOf o x p → p.after ≡ p.before
same_product None x p e = absurd e
same_product (Some c) x p e = one_product c x p.after p.before e.1 e.0
