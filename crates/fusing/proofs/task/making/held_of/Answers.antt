use Rattle.std.proofs.Common.{rules, ◌+◌}
use Rattle.prices.specs.Tables.{tables}
use Rattle.rises.specs.Rises.{adder_of}
use Rattle.fusing.proofs.Filling.{got_more}
use Rattle.fusing.proofs.task.making.held_of.Goals as goal

pub loop-place-preserved : goal.loop-place-preserved
loop-place-preserved g c =
    got_more (λ k. adder_of (tables (g.L.PriceList.adders c.args.list.now) (g.L.PriceList.muxes c.args.list.now)) c.args.block.now (k + 1)) c.loop-place.held c.loop-place.place c.of.result (search rules) c.of.ensures c.loop-place.invariant
