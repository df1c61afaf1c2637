use Rattle.std.proofs.Common.{◌≡◌, ℕ, ◌+◌, ◌<◌, Some}
use Rattle.std.specs.Prelude.{slice_get}
use Rattle.prices.specs.Tables.{tables}
use Rattle.rises.specs.Rises.{adder_of}
use Rattle.fusing.proofs.task.making.held_of.Given as goal

abbrev pub invariant-loop-place : goal.invariant-loop-place
invariant-loop-place g l = (k : ℕ) → k < l.place → slice_get l.held k ≡ Some (adder_of (tables (g.L.PriceList.adders l.list) (g.L.PriceList.muxes l.list)) l.block (k + 1))
