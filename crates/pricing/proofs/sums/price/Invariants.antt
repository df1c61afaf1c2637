use Rattle.std.proofs.Common.{◌≡◌, ◌*◌, ◌≤◌}
use Rattle.prices.specs.Tables.{tables}
use Rattle.pricing.specs.Prices.{adder_with_ports, total}
use Rattle.pricing.proofs.sums.price.Given as goal

abbrev pub invariant-loop-place : goal.invariant-loop-place
invariant-loop-place g l = (l.sum ≡ total (adder_with_ports (tables (g.L.PriceList.adders l.list) (g.L.PriceList.muxes l.list)) l.block) l.place) × (l.sum ≤ 3000000 * l.place)
