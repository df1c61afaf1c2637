use Rattle.std.proofs.Common.{rules, w64, to_z, of_z}
use Rattle.blocks.specs.Blocks.{constant_at}
use Rattle.products.specs.Trials.{ProductsOf}
use Rattle.products.proofs.Same.{same_product}
use Rattle.products.proofs.trial.Trial.products.Goals as goal

pub returns-clause-same : goal.returns-clause-same
returns-clause-same c =
    let t = c.args.self.now in
    let told : ProductsOf (constant_at t.before t.code) c.args.sample (record { before = to_z w64 (of_z w64 c.unwrap.result.value); after = to_z w64 (of_z w64 c.unwrap-2.result.value) }) = search rules in
    same_product (constant_at t.before t.code) c.args.sample _ told
