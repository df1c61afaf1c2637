use Rattle.prices.specs.Tables.{Lawful, tables}
use Rattle.pricing.proofs.Comparing.{no_more, saves, calls_never_cheapen}
use Rattle.pricing.proofs.saving.retire.Goals as goal

pub overflow_sub-result : goal.overflow_sub-result
overflow_sub-result g c =
    let list = c.args.list.now in
    let law : Lawful (tables (g.L.PriceList.adders list) (g.L.PriceList.muxes list)) = record { adders = g.met.L.PriceList.adders_lawful list; muxes = g.met.L.PriceList.muxes_lawful list } in
    no_more _ law c.args.block.now c.retire.new.self c.args.code c.price-before.result c.price.result c.in_ok-retire.ensures.answer.1 c.price-before.ensures.price c.price.ensures.price

pub returns-clause-answer : goal.returns-clause-answer
returns-clause-answer g c =
    let list = c.args.list.now in
    let law : Lawful (tables (g.L.PriceList.adders list) (g.L.PriceList.muxes list)) = record { adders = g.met.L.PriceList.adders_lawful list; muxes = g.met.L.PriceList.muxes_lawful list } in
    (c.in_ok-retire.ensures.answer.0, saves _ law c.args.block.now c.retire.new.self c.args.code c.price-before.result c.price.result c.in_ok-retire.ensures.answer.1 c.price-before.ensures.price c.price.ensures.price)

pub returns-clause-never_dearer : goal.returns-clause-never_dearer
returns-clause-never_dearer g c = calls_never_cheapen.retired c.args.code c.args.block.now c.retire.new.self _ c.retire.ensures.answer
