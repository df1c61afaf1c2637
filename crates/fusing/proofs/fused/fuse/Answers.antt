use Rattle.std.proofs.Common.{rules, Ok}
use Rattle.prices.specs.Tables.{tables}
use Rattle.pricing.specs.Prices.{block_price}
use Rattle.fusing.proofs.Books.{there, follows_book}
use Rattle.fusing.proofs.fused.fuse.Goals as goal

pub returns-clause-answer : goal.returns-clause-answer
returns-clause-answer g c = search rules

pub returns-clause-constant : goal.returns-clause-constant
returns-clause-constant g c =
    let cost = block_price (tables (g.L.PriceList.adders c.args.list.now) (g.L.PriceList.muxes c.args.list.now)) in
    there cost c.args.chain.now c.args.code c.args.block.now c.price.result c.in_ok-block.field-0 (returns-clause-answer g c).1

pub returns-clause-book : goal.returns-clause-book
returns-clause-book g c =
    let cost = block_price (tables (g.L.PriceList.adders c.args.list.now) (g.L.PriceList.muxes c.args.list.now)) in
    follows_book cost c.args.chain.now c.args.code c.args.block.now (Ok c.price.result) c.in_ok-block.field-0 (returns-clause-answer g c)
